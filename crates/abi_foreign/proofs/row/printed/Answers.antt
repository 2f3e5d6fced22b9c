use Rattle.std.proofs.Common.{◌∙◌, ℕ, List, ap}
use Rattle.std.specs.Prelude.{position}
use Rattle.cxx_subobject.specs.declared.Subobject.{Subobject}
use Rattle.cxx_subobject.specs.Subobjects.{same_subobject}
use Rattle.abi_sound.specs.Places.{nth_place}
use Rattle.abi_print.specs.LayoutTexts.{proper}
use Rattle.abi_foreign.proofs.row.printed.Goals as goal

pub returns : goal.returns
returns c =
    c.place_of_number.ensures ∙ ap (λ (places : List ℕ). nth_place places c.number_of-number.result) c.as_slice-2.ensures
    ∙ ap (nth_place c.args.said.now.places) (c.number_of-number.ensures ∙ ap (position (λ (t : Subobject). same_subobject t c.args.s.now)) (c.proper_of.ensures ∙ ap proper c.as_slice.ensures))
