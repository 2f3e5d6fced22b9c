use Rattle.std.proofs.Common.{◌∙◌, sym, true, false, [], ◌∷◌}
use Rattle.path_model.specs.Values.{value_of_operand}
use Rattle.path_model.specs.Uses.{Reads, Overflows}
use Rattle.path_refusals.proofs.Refused.{stops, goes_on, joined}
use Rattle.path_refusals.proofs.Reading.{reads_over, over_is}
use Rattle.path_refusals.proofs.operands.calculation.Goals as goal

pub returns-in-Some : goal.returns-in-Some
returns-in-Some c = λ h s stands.
    let a = value_of_operand s c.args.x.now in let b = value_of_operand s c.args.y.now in
    stops h s.objects (Reads a ∷ Reads b ∷ []) (Overflows c.args.op c.args.t a b ∷ []) c.in-Some.rule (reads_over h s.objects a b c.args.op c.args.t)
    (sym c.in-Some.is ∙ joined h s.objects (Reads a ∷ []) (Reads b ∷ []) c.reads.result c.reads-2.result c.least.result c.least.ensures (c.reads.ensures h s.objects a stands.heap_stands (c.value-a.ensures h c.args.heap.now s stands)) (c.reads-2.ensures h s.objects b stands.heap_stands (c.value-b.ensures h c.args.heap.now s stands)))

pub returns-then-overflows : goal.returns-then-overflows
returns-then-overflows c = λ h s stands.
    let a = value_of_operand s c.args.x.now in let b = value_of_operand s c.args.y.now in
    goes_on h s.objects (Reads a ∷ Reads b ∷ []) (Overflows c.args.op c.args.t a b ∷ []) _
    (sym c.in-None.is ∙ joined h s.objects (Reads a ∷ []) (Reads b ∷ []) c.reads.result c.reads-2.result c.least.result c.least.ensures (c.reads.ensures h s.objects a stands.heap_stands (c.value-a.ensures h c.args.heap.now s stands)) (c.reads-2.ensures h s.objects b stands.heap_stands (c.value-b.ensures h c.args.heap.now s stands)))
    (sym (over_is h s.objects c.args.op c.args.t a b true (sym (c.overflows.ensures h s.objects.classes a b (c.value-a.ensures h c.args.heap.now s stands) (c.value-b.ensures h c.args.heap.now s stands)) ∙ c.if-overflows.true)))

pub returns-else-overflows : goal.returns-else-overflows
returns-else-overflows c = λ h s stands.
    let a = value_of_operand s c.args.x.now in let b = value_of_operand s c.args.y.now in
    goes_on h s.objects (Reads a ∷ Reads b ∷ []) (Overflows c.args.op c.args.t a b ∷ []) _
    (sym c.in-None.is ∙ joined h s.objects (Reads a ∷ []) (Reads b ∷ []) c.reads.result c.reads-2.result c.least.result c.least.ensures (c.reads.ensures h s.objects a stands.heap_stands (c.value-a.ensures h c.args.heap.now s stands)) (c.reads-2.ensures h s.objects b stands.heap_stands (c.value-b.ensures h c.args.heap.now s stands)))
    (sym (over_is h s.objects c.args.op c.args.t a b false (sym (c.overflows.ensures h s.objects.classes a b (c.value-a.ensures h c.args.heap.now s stands) (c.value-b.ensures h c.args.heap.now s stands)) ∙ c.if-overflows.false)))
