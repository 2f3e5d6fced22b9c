use Rattle.std.proofs.Common.{◌∙◌, ℕ, Option, List, ap, sym}
use Rattle.std.specs.Prelude.{nat_eq, position}
use Rattle.cxx_hierarchy.specs.declared.records.ClassId.{ClassId}
use Rattle.cxx_subobject.specs.declared.Subobject.{Subobject}
use Rattle.abi_sound.specs.declared.class_layout.ClassLayout.{ClassLayout}
use Rattle.abi_sound.specs.Places.{nth_holder, holder_in}
use Rattle.abi_judge.proofs.draft.Draft.holder.Goals as goal

pub returns : goal.returns
returns c =
    let row = c.row-row.result.now in
    let v = c.args.v in
    c.holder_of_number.ensures
    ∙ (ap (λ (l : List (Option Subobject)). nth_holder l c.number_of_virtual-number.result) c.as_slice-2.ensures
    ∙ (ap (λ (n : Option ℕ). nth_holder row.holders n) (c.number_of_virtual-number.ensures ∙ ap (λ (l : List ClassId). position (λ (w : ClassId). nat_eq w.0 v.0) l) c.as_slice.ensures)
    ∙ sym (ap (λ (o : Option ClassLayout). holder_in o v) c.row-row.ensures)))
