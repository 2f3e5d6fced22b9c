-- The class of a name stands among the first where its number is below their count.
use Rattle.std.proofs.Common.{◌≡◌, ℕ, ap, sym, ◌∙◌, zero-add}
use Rattle.std.specs.Prelude.{is_some, Option, Some, None, List, nat_lt}
use Rattle.std.specs.Str.{bytes_eq}
use Rattle.cxx_hierarchy.specs.ClassPass.{names_of}
use Rattle.cxx_hierarchy.specs.NameTables.{Text, Numbers, number_in, is_in, place_in}
use Rattle.cxx_hierarchy.specs.declared.names.NameTable.{NameTable}
use Rattle.cxx_hierarchy.proofs.Places.{place_among, place_nowhere, take_map}
use Rattle.cxx_hierarchy.proofs.class_pass.is_complete.Goals as goal

located : (table : NameTable) (names : List Text) (name query : Text) (o : Option ℕ) → Numbers table names → query ≡ name → number_in table query ≡ o → place_in names name ≡ o
located table names name query o numbers same found = sym (numbers.places name) ∙ ap (number_in table) (sym same) ∙ found

pub returns-in-Some : goal.returns-in-Some
returns-in-Some c =
    let at : place_in (names_of c.args.scope.now.records.now) c.args.class.now ≡ Some c.in-Some.number = located c.args.scope.now.table.now (names_of c.args.scope.now.records.now) c.args.class.now c.as_slice.result.now (Some c.in-Some.number) c.requires c.as_slice.ensures (sym c.find.ensures ∙ c.in-Some.is) in
    ap (nat_lt c.in-Some.number) (sym (zero-add c.args.scope.now.earlier))
    ∙ place_among (bytes_eq c.args.class.now) 0 (names_of c.args.scope.now.records.now) c.in-Some.number c.args.scope.now.earlier at
    ∙ ap (λ (names : List Text). is_in names c.args.class.now) (sym (take_map _ c.args.scope.now.earlier c.args.scope.now.records.now))

pub returns-in-None : goal.returns-in-None
returns-in-None c =
    let at : place_in (names_of c.args.scope.now.records.now) c.args.class.now ≡ None = located c.args.scope.now.table.now (names_of c.args.scope.now.records.now) c.args.class.now c.as_slice.result.now None c.requires c.as_slice.ensures (sym c.find.ensures ∙ c.in-None.is) in
    ap is_some (sym (place_nowhere (bytes_eq c.args.class.now) 0 (names_of c.args.scope.now.records.now) c.args.scope.now.earlier at))
    ∙ ap (λ (names : List Text). is_in names c.args.class.now) (sym (take_map _ c.args.scope.now.earlier c.args.scope.now.records.now))
