use Rattle.std.proofs.Common.{ap, sym, ◌∙◌}
use Rattle.std.specs.Prelude.{◌||◌}
use Rattle.std.specs.List.{list_any}
use Rattle.cxx_hierarchy.specs.declared.records.ClassId.{ClassId}
use Rattle.cxx_hierarchy.specs.declared.records.Base.{Base}
use Rattle.cxx_hierarchy.specs.Classes.{bases_in}
use Rattle.abi_vtt.specs.invariants.Marks.{marked}
use Rattle.abi_vtt.proofs.MarkLemmas.{marks_more}
use Rattle.abi_vtt.proofs.marks.virtual_marks.Goals as goal

pub loop-n-preserved : goal.loop-n-preserved
loop-n-preserved c = marks_more c.args.h.now c.keeps.ensures c.loop-n.n c.loop-n.marks.items c.push.new.self.items c.as_slice.result.now c.has_marked-mark.result (c.as_slice.ensures ∙ sym (ap bases_in c.class.ensures))
    (c.has_marked-mark.ensures ∙ ap (λ ms. list_any (λ (base : Base ClassId). base.is_virtual || marked ms base.class) c.as_slice.result.now) c.deref.ensures.value) c.in_ok-push.ensures.items c.loop-n.invariant
