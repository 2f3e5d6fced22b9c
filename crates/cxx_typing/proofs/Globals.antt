-- The globals of a program have their numbers and known types.
use Rattle.std.proofs.Common.{◌≡◌, ℕ, nat_le, ⊎_elim, Some, Ok, List, [], ◌∷◌, ◌++◌, map, length, refl, sym, ◌∙◌, ap, subst, subst₂, Contains, slice_get}
use Rattle.std.specs.List.{list_any}
use Rattle.std.specs.Str.{bytes_eq}
use Rattle.foundation.proofs.Places.{get_pushed, place_of}
use Rattle.foundation.proofs.Members.{has_from_contains, from_map, index_of}
use Rattle.cxx_hierarchy.specs.declared.records.ClassId.{ClassId}
use Rattle.cxx_hierarchy.specs.declared.records.ValueType.{ValueType}
use Rattle.cxx_hierarchy.specs.declared.stop.Stop.TheVariants.{Refused, Limit}
use Rattle.cxx_hierarchy.specs.declared.stop.LimitNo.TheVariants.{L3}
use Rattle.cxx_hierarchy.specs.declared.stop.Rule.TheVariants.{DuplicateMember}
use Rattle.cxx_hierarchy.specs.Classes.{Classes}
use Rattle.cxx_hierarchy.proofs.Listed.{get_map}
use Rattle.cxx_syntax.specs.declared.source_text.Global.{Global}
use Rattle.cxx_program.specs.Typed.{Types, IsKnown}
use Rattle.cxx_expression.specs.declared.scene.Entry.{Entry}
use Rattle.cxx_expression.specs.Values.{type_of}
use Rattle.cxx_resolve.specs.Turns.{given_in_turn}
use Rattle.cxx_resolve.specs.Settled.{settle}
use Rattle.cxx_resolve.specs.Globals.{most_globals, global_entry, typed_global, global_of}
use Rattle.cxx_typing.proofs.Steps.{settled_clean}
use Rattle.cxx_typing.proofs.Statements.{type_typed}
use Rattle.cxx_typing.proofs.Drafts.{then_ok}
use Rattle.cxx_typing.proofs.Blocks.{past}
use Rattle.cxx_typing.proofs.Turns.{turn_kept}

-- the global has this number, and a known type
pub record IsNumbered (h : Classes) (n : ℕ) (x : Entry) : Type 0 where
  pub number : x.number ≡ n
  pub known : IsKnown h x.ty

pub record AreGlobals (h : Classes) (entries : List Entry) : Type 0 where
  pub each : (i : ℕ) (x : Entry) → slice_get entries i ≡ Some x → IsNumbered h i x

global_typed : (h : Classes) (before : List Entry) (g : Global) (x : Entry) → typed_global h before g ≡ Ok x → IsNumbered h (length before) x
global_typed h before g x w =
    let r = then_ok (settle (type_of h g.ty g.ty_at)) (λ (ty : ValueType ClassId). Ok (global_entry before g ty)) x w in
    let last = r.2 in
    let same : global_entry before g r.0 ≡ x = cc in
    subst (IsNumbered h (length before)) same (record { number = refl; known = type_typed h g.ty g.ty_at r.0 (settled_clean (type_of h g.ty g.ty_at) r.0 r.1).typed })

global_numbered : (h : Classes) (before : List Entry) (g : Global) (x : Entry) → global_of h before g ≡ Ok x → IsNumbered h (length before) x
unfolding global_of
global_numbered h before g x w =
    global_typed h before g x
    (past (list_any (λ (e : Entry). bytes_eq e.name g.name) before) (Refused DuplicateMember g.at) (typed_global h before g) x
    (past (nat_le most_globals (length before)) (Limit L3) _ x w))

one_global : (h : Classes) (done : List Entry) (g : Global) (y : Entry) → AreGlobals h done → global_of h done g ≡ Ok y → AreGlobals h (done ++ y ∷ [])
one_global h done g y are w = record {
  each = λ i x is. ⊎_elim
      (λ a. are.each i x a)
      (λ b. subst₂ (λ (j : ℕ) (z : Entry). IsNumbered h j z) (sym b.0) (sym b.1) (global_numbered h done g y w))
      (get_pushed done y i x is);
}

pub globals_typed : (h : Classes) (list : List Global) (globals : List Entry) → given_in_turn (global_of h) [] list ≡ Ok globals → AreGlobals h globals
globals_typed h list globals w = turn_kept (global_of h) (AreGlobals h) (one_global h) list [] globals (record { each = λ i x is. absurd (cc) }) w

abbrev pub types_of : List Entry → Types
types_of entries = map (λ (g : Entry). g.ty) entries

pub global_type : (h : Classes) (globals : List Entry) → AreGlobals h globals → (x : Entry) → Contains globals x → slice_get (types_of globals) x.number ≡ Some x.ty
global_type h globals are x has =
    let p = place_of globals x has in
    ap (slice_get (types_of globals)) (are.each p.0 x p.1).number ∙ get_map (λ (g : Entry). g.ty) globals p.0 x p.1

pub global_known : (h : Classes) (globals : List Entry) → AreGlobals h globals → (t : ValueType ClassId) → Contains (types_of globals) t → IsKnown h t
global_known h globals are t has =
    let r = from_map (λ (g : Entry). g.ty) globals t (has_from_contains (types_of globals) t has) in
    let p = index_of globals r.0 r.1 in
    subst (IsKnown h) r.2 (are.each p.0 r.0 p.1).known
