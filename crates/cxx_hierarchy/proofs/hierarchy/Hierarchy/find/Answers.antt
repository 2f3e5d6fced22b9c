-- The table has each class name with the number of its class.
use Rattle.std.proofs.Common.{◌≡◌, ◌<◌, ◌≤◌, arith, sym, ◌∙◌, length, subst}
use Rattle.std.specs.Prelude.{Some, slice_get, Contains}
use Rattle.std.proofs.lemmas.Option.{slice_get_within}
use Rattle.std.proofs.lemmas.List.{length-map}
use Rattle.cxx_hierarchy.specs.Classes.{Class, Classes, class_names}
use Rattle.cxx_hierarchy.proofs.Builds.{place_missing}
use Rattle.cxx_hierarchy.proofs.Listed.{place_listed}
use Rattle.cxx_hierarchy.proofs.hierarchy.Hierarchy.find.Goals as goal

located : (c : goal.In-Some) → slice_get (class_names c.args.self.now) c.in-Some.number ≡ Some c.args.name.now
located c =
    subst (λ (h : Classes). slice_get (class_names h) c.in-Some.number ≡ Some c.args.name.now) c.self.view_is
    (place_listed _ c.args.name.now c.in-Some.number (sym (c.self.invariant.1.places c.args.name.now) ∙ sym c.find.ensures ∙ c.in-Some.is))

pub overflow_cast-result : goal.overflow_cast-result
overflow_cast-result c =
    let within : c.in-Some.number < length (class_names c.args.self.now) = slice_get_within _ c.in-Some.number c.args.name.now (located c) in
    let size : length (class_names c.args.self.now) ≡ length c.args.self.now = length-map c.args.self.now (λ (x : Class). x.name) in
    let few : length c.args.self.now ≤ 1024 = subst (λ (h : Classes). length h ≤ 1024) c.self.view_is c.self.invariant.0.few in
    omega arith

pub returns-in-Some : goal.returns-in-Some
returns-in-Some c = located c

pub returns-in-None : goal.returns-in-None
returns-in-None c =
    subst (λ (h : Classes). Contains (class_names h) c.args.name.now → ⊥) c.self.view_is
    (place_missing _ c.args.name.now (sym (c.self.invariant.1.places c.args.name.now) ∙ sym c.find.ensures ∙ c.in-None.is))
