-- What a whole source resolves to is typed.
use Rattle.std.proofs.Common.{◌≡◌, ◌≢◌, ℕ, Option, Some, Ok, List, [], take, drop, take-append-drop, map, sym, ◌∙◌, ap, subst, slice_get}
use Rattle.foundation.proofs.Places.{place_of, contains_at}
use Rattle.foundation.proofs.Members.{Has, has_at, index_of, has_map, from_map, once_by_place}
use Rattle.cxx_hierarchy.specs.declared.records.ClassId.{ClassId}
use Rattle.cxx_hierarchy.specs.Classes.{Classes}
use Rattle.cxx_hierarchy.specs.Hierarchies.{IsHierarchy}
use Rattle.cxx_hierarchy.proofs.Listed.{get_map}
use Rattle.cxx_syntax.specs.declared.source_text.Body.{Body}
use Rattle.cxx_syntax.specs.declared.source_text.BodyOwner.{BodyOwner}
use Rattle.cxx_syntax.specs.declared.source_text.BodyOwner.TheVariants as own
use Rattle.cxx_syntax.specs.declared.source_text.SourceText.{SourceText}
use Rattle.cxx_syntax.specs.Owners.{InitsFit}
use Rattle.cxx_program.specs.declared.program.Owner.{Owner}
use Rattle.cxx_program.specs.declared.program.Owner.TheVariants as owner
use Rattle.cxx_program.specs.declared.program.TypedBody.{TypedBody}
use Rattle.cxx_program.specs.declared.program.TypedProgram.{TypedProgram}
use Rattle.cxx_program.specs.Typed.{IsTypedProgram}
use Rattle.cxx_expression.specs.declared.scene.Entry.{Entry}
use Rattle.cxx_resolve.specs.Stops.{◌>>>◌}
use Rattle.cxx_resolve.specs.Turns.{given_in_turn}
use Rattle.cxx_resolve.specs.Globals.{global_of}
use Rattle.cxx_resolve.specs.Programs.{owner_of, body_of, main_of, program, program_of}
use Rattle.cxx_typing.specs.Pieces.{StatementsAreTyped}
use Rattle.cxx_typing.specs.Sources.{IsSourceOf}
use Rattle.cxx_typing.proofs.Drafts.{then_ok}
use Rattle.cxx_typing.proofs.Turns.{turn_join, AreEach, each_from, each_to, turn_given}
use Rattle.cxx_typing.proofs.Blocks.{HasTypedStatements}
use Rattle.cxx_typing.proofs.Globals.{AreGlobals, types_of, globals_typed, global_known}
use Rattle.cxx_typing.proofs.Bodies.{IsTypedOf, typed_owner, body_typed, main_typed}
use Rattle.cxx_typing.proofs.Owners.{AreOwners, owners_of_bodies, inits_fit}

-- what a source resolves to, by its parts
pub record IsMadeOf (h : Classes) (source : SourceText) (result : TypedProgram) : Type 0 where
  pub globals : List Entry
  pub bodies : List TypedBody
  pub main : Option TypedBody
  pub globals_made : given_in_turn (global_of h) [] source.globals ≡ Ok globals
  pub bodies_made : given_in_turn (body_of h globals) [] source.bodies ≡ Ok bodies
  pub main_made : main_of h globals source.main ≡ Ok main
  pub same : program globals main bodies ≡ result

pub made_of : (h : Classes) (source : SourceText) (result : TypedProgram) → program_of h source ≡ Ok result → IsMadeOf h source result
unfolding program_of
made_of h source result w =
    let n = source.main_place in
    let g = then_ok (given_in_turn (global_of h) [] source.globals)
    (λ (globals : List Entry). given_in_turn (body_of h globals) [] (take n source.bodies) >>> λ before. main_of h globals source.main >>> λ main. given_in_turn (body_of h globals) before (drop n source.bodies) >>> λ bodies. Ok (program globals main bodies)) result w in
    let b = then_ok (given_in_turn (body_of h g.0) [] (take n source.bodies))
    (λ (before : List TypedBody). main_of h g.0 source.main >>> λ main. given_in_turn (body_of h g.0) before (drop n source.bodies) >>> λ bodies. Ok (program g.0 main bodies)) result g.2 in
    let m = then_ok (main_of h g.0 source.main)
    (λ (main : Option TypedBody). given_in_turn (body_of h g.0) b.0 (drop n source.bodies) >>> λ bodies. Ok (program g.0 main bodies)) result b.2 in
    let r = then_ok (given_in_turn (body_of h g.0) b.0 (drop n source.bodies)) (λ (bodies : List TypedBody). Ok (program g.0 m.0 bodies)) result m.2 in
    let last = r.2 in
    record {
      globals = g.0;
      bodies = r.0;
      main = m.0;
      globals_made = g.1;
      bodies_made = subst (λ (list : List Body). given_in_turn (body_of h g.0) [] list ≡ Ok r.0) (take-append-drop n source.bodies) (turn_join (body_of h g.0) (take n source.bodies) (drop n source.bodies) [] b.0 r.0 b.1 r.1);
      main_made = m.1;
      same = cc;
    }

-- no body in a class is main's
apart_from_main : (c : ClassId) (o : BodyOwner) → owner_of c o ≢ owner.Main
apart_from_main c (own.Function n) e = absurd (cc)
apart_from_main c own.Constructor e = absurd (cc)
apart_from_main c own.Destructor e = absurd (cc)

parts_typed : (h : Classes) → HasTypedStatements h → (source : SourceText) (globals : List Entry) (bodies : List TypedBody) (main : Option TypedBody) → AreGlobals h globals → AreOwners h (map (typed_owner h) source.bodies) →
    ((b : Body) → Has source.bodies b → InitsFit b.owner b.inits) → AreEach (λ b y. body_of h globals [] b ≡ Ok y) source.bodies bodies → main_of h globals source.main ≡ Ok main → IsTypedProgram h (program globals main bodies)
parts_typed h q source globals bodies main are owners fit each made = record {
  globals = global_known h globals are;
  bodies = λ body has. let p = place_of bodies body has in let x = found p.0 body p.1 in x.2.typed;
  no_main = λ body has same. let p = place_of bodies body has in let x = found p.0 body p.1 in apart_from_main _ x.0.owner (sym x.2.owner ∙ same);
  once = λ i j x y at_i at_j same.
      let a = found i x at_i in
      let b = found j y at_j in
      once_by_place (map (typed_owner h) source.bodies) owners.once i j (typed_owner h a.0) (get_map (typed_owner h) source.bodies i a.0 a.1)
      (get_map (typed_owner h) source.bodies j b.0 b.1 ∙ ap (λ (o : Owner). Some o) (sym b.2.owner ∙ sym same ∙ a.2.owner));
  complete = λ o apart has.
      let x = from_map (typed_owner h) source.bodies o (owners.all o apart has) in
      let p = index_of source.bodies x.0 x.1 in
      let y = each_to (λ b z. body_of h globals [] b ≡ Ok z) source.bodies bodies each p.0 x.0 p.1 in
      let f = found p.0 y.0 y.1 in
      (y.0, contains_at bodies p.0 y.0 y.1, typed_of x.0 x.1 y.0 y.2 ∙ x.2);
  main = λ body is. let x = main_typed h q globals are source.main main made body is in (x.owner, x.typed);
}
  where
    of_body : (b : Body) → Has source.bodies b → (y : TypedBody) → body_of h globals [] b ≡ Ok y → IsTypedOf h (types_of globals) (typed_owner h b) y
    of_body b has y w = body_typed h q globals are [] b y (owners.has (typed_owner h b) (has_map (typed_owner h) source.bodies b has)) (fit b has) w

    typed_of : (b : Body) → Has source.bodies b → (y : TypedBody) → body_of h globals [] b ≡ Ok y → y.owner ≡ typed_owner h b
    typed_of b has y w = (of_body b has y w).owner

    found : (i : ℕ) (y : TypedBody) → slice_get bodies i ≡ Some y → (b : Body) × (slice_get source.bodies i ≡ Some b) × IsTypedOf h (types_of globals) (typed_owner h b) y
    found i y at =
        let x = each_from (λ b z. body_of h globals [] b ≡ Ok z) source.bodies bodies each i y at in
        (x.0, x.1, of_body x.0 (has_at source.bodies i x.0 x.1) y x.2)

source_owners : (h : Classes) (source : SourceText) → IsSourceOf h source → AreOwners h (map (typed_owner h) source.bodies)
source_owners h source is =
    subst (λ (x : Classes). AreOwners x (map (typed_owner x) source.bodies)) (sym is.classes)
    (owners_of_bodies source.records source.bodies (subst IsHierarchy is.classes is.keeps) is.bodies)

pub programs_are_typed : StatementsAreTyped → (h : Classes) (source : SourceText) (result : TypedProgram) → IsSourceOf h source → program_of h source ≡ Ok result → IsTypedProgram h result
programs_are_typed laws h source result is w =
    let q : HasTypedStatements h = record { keeps = is.keeps; pure = is.pure; laws = laws } in
    let made = made_of h source result w in
    let given = turn_given (body_of h made.globals []) source.bodies [] made.bodies made.bodies_made in
    subst (IsTypedProgram h) made.same
    (parts_typed h q source made.globals made.bodies made.main (globals_typed h source.globals made.globals made.globals_made) (source_owners h source is) (inits_fit source.records source.bodies is.bodies)
    (subst (AreEach (λ b y. body_of h made.globals [] b ≡ Ok y) source.bodies) (sym given.behind) given.each) made.main_made)
