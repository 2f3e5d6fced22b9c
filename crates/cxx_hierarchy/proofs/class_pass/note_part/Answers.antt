-- A name that a part has goes last among the names taken.
use Rattle.std.proofs.Common.{◌≡◌, ◌++◌, ◌∷◌, [], List, ap, sym, ◌∙◌, subst, append-nil}
use Rattle.std.specs.Prelude.{Some, None}
use Rattle.std.specs.Option.{option_copied}
use Rattle.cxx_hierarchy.specs.ClassPass.{names_taken, part_name}
use Rattle.cxx_hierarchy.specs.NameTables.{Text, HoldsNames}
use Rattle.cxx_hierarchy.proofs.Parts.{taken_push}
use Rattle.cxx_hierarchy.proofs.class_pass.note_part.Goals as goal

pub returns-in_ok-note : goal.returns-in_ok-note
returns-in_ok-note c = λ parts held.
    let e : part_name c.args.definition.now c.args.part.now ≡ Some c.in-Some.name.now = sym c.name_of.ensures ∙ ap option_copied c.in-Some.is in
    let names : c.as_slice.result.now ≡ c.in-Some.name.now = c.as_slice.ensures in
    let h : HoldsNames c.note.new.self (names_taken c.args.definition.now parts ++ c.as_slice.result.now ∷ []) = c.in_ok-note.ensures.holds (names_taken c.args.definition.now parts) held in
    subst (λ (ns : List Text). HoldsNames c.note.new.self ns)
    (ap (λ (n : Text). names_taken c.args.definition.now parts ++ n ∷ []) names ∙ sym (taken_push c.args.definition.now parts c.args.part.now (Some c.in-Some.name.now) e)) h

pub returns-in_default : goal.returns-in_default
returns-in_default c = λ parts held.
    let e : part_name c.args.definition.now c.args.part.now ≡ None = sym c.in_default.ensures in
    subst (λ (ns : List Text). HoldsNames c.args.taken.now ns)
    (sym (taken_push c.args.definition.now parts c.args.part.now None e ∙ append-nil (names_taken c.args.definition.now parts))) held
