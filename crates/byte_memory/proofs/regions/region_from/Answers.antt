use Rattle.std.proofs.Common.{◌≡◌, ◌+◌, ◌-◌, arith, false}
use Rattle.std.proofs.lemmas.Bool.Decides.{nat_tests}
use Rattle.std.proofs.lemmas.Option.{slice_get-get_or}
use Rattle.byte_memory.specs.declared.memory.Region.{Region}
use Rattle.byte_memory.specs.Regions.{starts}
use Rattle.byte_memory.proofs.Ascending.{find-empty, find-last, find-fails}
use Rattle.byte_memory.proofs.Reached.{starts-address}
use Rattle.byte_memory.proofs.regions.region_from.Goals as goal

pub returns-then-count-eq0 : goal.returns-then-count-eq0
returns-then-count-eq0 c = find-empty (λ (r : Region). r.start) (λ r. r.size) c.args.regions.now c.args.at (starts c.args.at) (starts-address _ _ c.requires.sizes) (rw c.if-count-eq0.true at c.count_up_to-count.ensures.count)

pub returns-then-region-at : goal.returns-then-region-at
returns-then-region-at c =
    let here = slice_get-get_or c.args.regions.now (c.count_up_to-count.result - 1) (record { start = 0; size = 0; is_open = false }) (omega (arith, c.if-count-eq0.false, c.count_up_to-count.ensures.bound)) in
    (here, find-last (λ (r : Region). r.start) (λ r. r.size) c.args.regions.now c.args.at (starts c.args.at) _ _ c.requires.ascending (starts-address _ _ c.requires.sizes) here (grind (arith, nat_tests)))

pub returns-else-region-at : goal.returns-else-region-at
returns-else-region-at c =
    let more : c.count_up_to-count.result - 1 + 1 ≡ c.count_up_to-count.result = omega (arith, c.if-count-eq0.false) in
    find-fails (λ (r : Region). r.start) (λ r. r.size) c.args.regions.now c.args.at (starts c.args.at) (c.count_up_to-count.result - 1) _ c.requires.ascending (starts-address _ _ c.requires.sizes)
    (rw more c.count_up_to-count.ensures.count)
    (slice_get-get_or c.args.regions.now (c.count_up_to-count.result - 1) (record { start = 0; size = 0; is_open = false }) (omega (arith, c.if-count-eq0.false, c.count_up_to-count.ensures.bound))) (grind (arith, nat_tests))
