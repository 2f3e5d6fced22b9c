use Rattle.std.proofs.Common.{◌≡◌, ℕ, ◌∙◌, ap, sym, subst, List}
use Rattle.std.specs.Prelude.{Option}
use Rattle.std.proofs.lemmas.Result.{IfOk-weaker}
use Rattle.cxx_hierarchy.specs.declared.records.ClassId.{ClassId}
use Rattle.cxx_subobject.specs.declared.Subobject.{Subobject}
use Rattle.cxx_subobject.specs.Subobjects.{Leads, tail_of}
use Rattle.path_numbers.specs.Numbers.{path_number}
use Rattle.path_tables.specs.Parts.{IsNumbered, number_where_found, derived_in}
use Rattle.path_tables.specs.Kept.{IsDownAnswer}
use Rattle.path_tables.proofs.Downs.{derived_nowhere}
use Rattle.path_tables.proofs.asked.Answers.derived.Goals as goal

pub returns-in-Some-clause-is : goal.returns-in-Some-clause-is
returns-in-Some-clause-is c =
    let path : c.below_first.result.now ≡ tail_of c.args.i.now.path = c.below_first.ensures ∙ ap tail_of c.as_slice.ensures in
    let leads : Leads c.args.world.now.h.now c.args.target (tail_of c.args.i.now.path) = subst (λ (p : List ClassId). Leads c.args.world.now.h.now c.args.target p) path c.in-Some.ensures.0 in
    let number : path_number c.args.world.now.h.now c.args.target (tail_of c.args.i.now.path) ≡ c.in-Some.offset = ap (λ (p : List ClassId). path_number c.args.world.now.h.now c.args.target p) (sym path) ∙ sym c.in-Some.ensures.1 in
    IfOk-weaker c.down.result (IsDownAnswer c.args.world.now.h.now (record { class = c.args.c.0; source = c.args.source; target = c.args.target.0; offset = c.in-Some.offset })) (λ (answer : Option ℕ). (y : Subobject) → IsNumbered c.args.world.now.h.now c.args.c c.args.source y → answer ≡ number_where_found c.args.world.now.h.now c.args.c (derived_in c.args.world.now.h.now c.args.c c.args.target c.args.i.now y)) (λ answer right y ny. right y c.args.i.now ny c.in-Whole.is leads number) c.down.ensures.is

pub returns-in-None-clause-is : goal.returns-in-None-clause-is
returns-in-None-clause-is c =
    let path : c.below_first.result.now ≡ tail_of c.args.i.now.path = c.below_first.ensures ∙ ap tail_of c.as_slice.ensures in
    λ y ny. derived_nowhere c.args.world.now.h.now c.args.c c.args.target c.args.i.now y c.in-Whole.is (λ leads. c.in-None.ensures (subst (λ (p : List ClassId). Leads c.args.world.now.h.now c.args.target p) (sym path) leads)) ny.valid
