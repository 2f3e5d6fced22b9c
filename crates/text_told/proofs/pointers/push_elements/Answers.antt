use Rattle.std.proofs.Common.{◌∙◌, ℕ, ◌+◌, ◌*◌, List, ◌++◌, map, ap}
use Rattle.text_told.specs.declared.pointers.TablePointer.{TablePointer}
use Rattle.text_told.specs.Pointers.{moved_pointer}
use Rattle.text_told.proofs.Steps.{range_more}
use Rattle.text_told.proofs.pointers.push_elements.Goals as goal

pub loop-i-preserved : goal.loop-i-preserved
loop-i-preserved c =
    let f : ℕ → List TablePointer = λ i. map (moved_pointer (c.args.x.place + i * c.args.size)) c.args.inside.now in
    c.in_ok-push_moved.ensures ∙ (ap (λ (list : List TablePointer). list ++ f c.loop-i.i) c.loop-i.invariant ∙ range_more f c.args.list.now.items c.loop-i.i)
