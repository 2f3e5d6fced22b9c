use Rattle.std.proofs.Common.{◌≡◌, ◌+◌, ◌-◌, ◌∙◌, sym, arith}
use Rattle.std.proofs.lemmas.Option.{slice_get-get_or}
use Rattle.byte_machine.specs.declared.heap.Opened.{Opened}
use Rattle.byte_machine.specs.Heap.{has_address}
use Rattle.byte_memory.proofs.Ascending.{find-empty, find-last, find-fails}
use Rattle.byte_machine.proofs.Objects.{has_address-within}
use Rattle.byte_machine.proofs.heap.find_object.Goals as goal

pub returns-then-count-eq0 : goal.returns-then-count-eq0
returns-then-count-eq0 c = sym (find-empty (λ (r : Opened). r.start) (λ r. r.size) c.args.objects.now c.args.at (has_address c.args.at) (has_address-within _ _) (rw c.if-count-eq0.true at c.count_up_to-count.ensures.count))

pub returns-then-is_within : goal.returns-then-is_within
returns-then-is_within c =
    sym (find-last (λ (r : Opened). r.start) (λ r. r.size) c.args.objects.now c.args.at (has_address c.args.at) _ _ c.requires (has_address-within _ _)
    (slice_get-get_or c.args.objects.now (c.count_up_to-count.result - 1) _ (omega (arith, c.if-count-eq0.false, c.count_up_to-count.ensures.bound))) (sym c.is_within.ensures ∙ c.if-is_within.true))

pub returns-else-is_within : goal.returns-else-is_within
returns-else-is_within c =
    let more : c.count_up_to-count.result - 1 + 1 ≡ c.count_up_to-count.result = omega (arith, c.if-count-eq0.false) in
    sym (find-fails (λ (r : Opened). r.start) (λ r. r.size) c.args.objects.now c.args.at (has_address c.args.at) (c.count_up_to-count.result - 1) _ c.requires (has_address-within _ _)
    (rw more c.count_up_to-count.ensures.count)
    (slice_get-get_or c.args.objects.now (c.count_up_to-count.result - 1) _ (omega (arith, c.if-count-eq0.false, c.count_up_to-count.ensures.bound))) (sym c.is_within.ensures ∙ c.if-is_within.false))
