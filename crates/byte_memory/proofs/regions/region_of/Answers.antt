use Rattle.std.proofs.Common.{◌≡◌, ◌+◌, ◌-◌, ◌∙◌, sym, arith}
use Rattle.std.proofs.lemmas.Option.{slice_get-get_or}
use Rattle.byte_memory.specs.declared.memory.Region.{Region}
use Rattle.byte_memory.specs.Regions.{holds_bytes}
use Rattle.byte_memory.proofs.Ascending.{find-empty, find-last, find-fails}
use Rattle.byte_memory.proofs.Reached.{holds-address}
use Rattle.byte_memory.proofs.regions.region_of.Goals as goal

pub returns-then-count-eq0 : goal.returns-then-count-eq0
returns-then-count-eq0 c = (find-empty (λ (r : Region). r.start) (λ r. r.size) c.args.regions.now c.args.at (holds_bytes c.args.at c.args.n) (holds-address _ _ _ c.requires.some) (rw c.if-count-eq0.true at c.count_up_to-count.ensures.count))

pub returns-then-is_within : goal.returns-then-is_within
returns-then-is_within c =
    (find-last (λ (r : Region). r.start) (λ r. r.size) c.args.regions.now c.args.at (holds_bytes c.args.at c.args.n) _ _ c.requires.ascending (holds-address _ _ _ c.requires.some)
    (slice_get-get_or c.args.regions.now (c.count_up_to-count.result - 1) _ (omega (arith, c.if-count-eq0.false, c.count_up_to-count.ensures.bound))) (sym c.is_within.ensures ∙ c.if-is_within.true))

pub returns-else-is_within : goal.returns-else-is_within
returns-else-is_within c =
    let more : c.count_up_to-count.result - 1 + 1 ≡ c.count_up_to-count.result = omega (arith, c.if-count-eq0.false) in
    (find-fails (λ (r : Region). r.start) (λ r. r.size) c.args.regions.now c.args.at (holds_bytes c.args.at c.args.n) (c.count_up_to-count.result - 1) _ c.requires.ascending (holds-address _ _ _ c.requires.some)
    (rw more c.count_up_to-count.ensures.count)
    (slice_get-get_or c.args.regions.now (c.count_up_to-count.result - 1) _ (omega (arith, c.if-count-eq0.false, c.count_up_to-count.ensures.bound))) (sym c.is_within.ensures ∙ c.if-is_within.false))
