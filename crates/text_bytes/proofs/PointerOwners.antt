-- The virtual pointers of an object lie in dynamic subobjects of complete objects inside it.
use Rattle.std.proofs.Common.{◌≡◌, ◌∙◌, ℕ, zero, suc, ◌+◌, ◌*◌, ◌<◌, Bool, true, false, ⊎_elim, Some, List, [], ◌∷◌, refl, ap, subst, sym, arith, map, Option, None}
use Rattle.std.specs.Prelude.{◌&&◌}
use Rattle.std.specs.List.{flat_map, range_with_len, slice_get}
use Rattle.foundation.proofs.Members.{Has, from_flat_map, from_map, has_cases}
use Rattle.foundation.proofs.Chosen.{has_filter}
use Rattle.cxx_hierarchy.specs.declared.records.ClassId.{ClassId}
use Rattle.cxx_hierarchy.specs.Classes.{Classes, members_of}
use Rattle.cxx_hierarchy.specs.Hierarchies.{IsHierarchy}
use Rattle.cxx_subobject.specs.declared.Subobject.{Subobject}
use Rattle.cxx_subobject.specs.Subobjects.{IsSubobject, class_of}
use Rattle.cxx_subobject.specs.Locations.{IsOwner, Step}
use Rattle.cxx_subobject.proofs.PathLemmas.{class_there}
use Rattle.abi_primary.specs.Kinds.{IsDynamic}
use Rattle.abi_sound.specs.Places.{Places}
use Rattle.abi_sound.specs.Locations.{base_place_in, element_place, class_at_steps, owner_place, stride_in}
use Rattle.abi_sound.proofs.PlaceLemmas.{owner_class_is}
use Rattle.abi_slots.specs.Views.{by_part, heads, is_dynamic_class, is_first, is_head, whole_view, is_dynamic}
use Rattle.abi_slots.proofs.Heads.{test_dynamic}
use Rattle.text_told.specs.declared.pointers.MemberObjects.{MemberObjects}
use Rattle.text_told.specs.declared.pointers.TablePointer.{TablePointer}
use Rattle.text_told.specs.Pointers.{member_objects, moved_pointer, own_pointers, table_pointer_at, pointers_in, pointers_of, pointers_within}
use Rattle.text_told.proofs.Objects.{AreMembers, are_members, head_valid, range_has}

-- a pointer lies in a dynamic subobject of the complete object to which steps lead in an object of class c
pub record IsPointerOf (h : Classes) (l : Places) (c : ClassId) (p : TablePointer) : Type 0 where
  pub owner : List Step
  pub owned : IsOwner h c owner p.object
  pub sub : Subobject
  pub valid : IsSubobject h p.object sub
  pub class : ClassId
  pub of_class : class_of sub ≡ Some class
  pub dynamic : IsDynamic h class
  pub in_object : p.in_object ≡ l.place p.object sub
  pub at : p.place ≡ owner_place h l c owner + l.place p.object sub

first_is : (a b : Bool) → (a && b) ≡ true → a ≡ true
first_is true b both = refl
first_is false b both = absurd (cc)

module _ (h : Classes) (keeps : IsHierarchy h) (l : Places) (c : ClassId) where
  -- so do those in the complete object to which steps lead, by the pointers of its class
  abbrev AreOwned : (ClassId → List TablePointer) → Type 0
  AreOwned inside = (d : ClassId) (owner : List Step) → IsOwner h c owner d → (p : TablePointer) → Has (inside d) p → IsPointerOf h l c (moved_pointer (owner_place h l c owner) p)

  head_dynamic : (d e : ClassId) (s : Subobject) → Has (heads h l (whole_view d)) s → class_of s ≡ Some e → IsDynamic h e
  head_dynamic d e s has class =
      let is : is_head h l (whole_view d) s ≡ true = (has_filter (is_head h l (whole_view d)) (by_part h d) s has).1 in
      let says : is_dynamic_class h (class_of s) ≡ true = first_is (is_dynamic_class h (class_of s)) (is_first h l (whole_view d) s) is in
      test_dynamic h keeps e (sym (ap (is_dynamic_class h) class) ∙ says)

  own_owned : (d : ClassId) (owner : List Step) → IsOwner h c owner d → (p : TablePointer) → Has (own_pointers h l d) p → IsPointerOf h l c (moved_pointer (owner_place h l c owner) p)
  own_owned d owner owned p has =
      let f = from_map (table_pointer_at l d) (heads h l (whole_view d)) p has in
      let valid = head_valid h l d f.0 f.1 in
      let e = class_there h d f.0 valid in
      subst (λ (q : TablePointer). IsPointerOf h l c (moved_pointer (owner_place h l c owner) q)) f.2 (record {
        owner = owner;
        owned = owned;
        sub = f.0;
        valid = valid;
        class = e.0;
        of_class = e.1;
        dynamic = head_dynamic d e.0 f.0 f.1 e.1;
        in_object = refl;
        at = refl;
      })

  -- the step into an element of a member that is an object
  module _ (d : ClassId) (owner : List Step) (owned : IsOwner h c owner d) (x : MemberObjects) (of : AreMembers h l d x) (i : ℕ) (lt : i < x.count) where
    abbrev into : Step
    into = record { base = of.sub; member = of.member; index = i }

    inner_owned : IsOwner h c (into ∷ owner) x.class
    inner_owned = (d, of.owner, owned, of.valid, of.class, of.element i lt)

    inner_place : owner_place h l c (into ∷ owner) ≡ owner_place h l c owner + (x.place + i * l.size x.class)
    inner_place =
        let base : base_place_in l (class_at_steps h c owner) of.sub ≡ l.place d of.sub = ap (λ o. base_place_in l o of.sub) (owner_class_is h c d owner owned) in
        let element : element_place h l (class_of of.sub) of.member i ≡ l.member of.owner of.member + i * l.size x.class = ap (λ o. element_place h l o of.member i) of.class ∙ ap (λ k. l.member of.owner of.member + i * k) of.stride in
        let at : x.place ≡ l.place d of.sub + l.member of.owner of.member = of.at in
        omega arith

  more_owned : (inside : ClassId → List TablePointer) → AreOwned inside → (d : ClassId) (owner : List Step) → IsOwner h c owner d → (p : TablePointer) → Has (flat_map (pointers_in l inside) (member_objects h l d)) p → IsPointerOf h l c (moved_pointer (owner_place h l c owner) p)
  more_owned inside rule d owner owned p has =
      let f = from_flat_map (pointers_in l inside) (member_objects h l d) p has in
      let x = f.0 in
      let g = from_flat_map (λ i. map (moved_pointer (x.place + i * l.size x.class)) (inside x.class)) (range_with_len 0 x.count) p f.2 in
      let i = g.0 in
      let by : ℕ = x.place + i * l.size x.class in
      let r = from_map (moved_pointer by) (inside x.class) p g.2 in
      let q = r.0 in
      let of = are_members h l d x f.1 in
      let lt : i < 0 + x.count = range_has 0 x.count i g.1 in
      let near : i < x.count = omega arith in
      let there = rule x.class (into d owner owned x of i near ∷ owner) (inner_owned d owner owned x of i near) q r.1 in
      let sums : owner_place h l c (into d owner owned x of i near ∷ owner) + q.place ≡ owner_place h l c owner + (by + q.place) = let e = inner_place d owner owned x of i near in omega arith in
      let make : ℕ → TablePointer = λ place. record { place = place; class = q.class; in_object = q.in_object; object = q.object } in
      subst (λ (t : TablePointer). IsPointerOf h l c (moved_pointer (owner_place h l c owner) t)) r.2 (subst (λ (place : ℕ). IsPointerOf h l c (make place)) sums there)

  owned_within : (n : ℕ) → AreOwned (pointers_within h l n)
  owned_within zero d owner owned p has = absurd has
  owned_within (suc n) d owner owned p has = ⊎_elim (own_owned d owner owned p) (more_owned (pointers_within h l n) (owned_within n) d owner owned p)
      (has_cases (own_pointers h l d) (flat_map (pointers_in l (pointers_within h l n)) (member_objects h l d)) p has)

-- the pointers of an object
pub pointers_owned : (h : Classes) → IsHierarchy h → (l : Places) (c : ClassId) (p : TablePointer) → Has (pointers_of h l c) p → IsPointerOf h l c p
pointers_owned h keeps l c p has =
    let there = owned_within h keeps l c (c.0 + 1) c [] refl p has in
    let make : ℕ → TablePointer = λ place. record { place = place; class = p.class; in_object = p.in_object; object = p.object } in
    let same : 0 + p.place ≡ p.place = omega arith in
    subst (λ (place : ℕ). IsPointerOf h l c (make place)) same there
