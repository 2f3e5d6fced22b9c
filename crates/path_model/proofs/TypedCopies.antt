-- A copy leads from a typed state to a typed one: the leaves of two parts of one class go along with each other.
use Rattle.std.proofs.Common.{◌≡◌, ℕ, zero, suc, ◌+◌, arith, ⊎_elim, Option, Some, None, List, [], ◌∷◌, map, length, refl, ap, subst, sym, ◌∙◌}
use Rattle.std.specs.Prelude.{slice_get, find, zip}
use Rattle.std.specs.List.{AllZip}
use Rattle.foundation.proofs.Members.{Has}
use Rattle.foundation.proofs.Zips.{zip_flat_map}
use Rattle.foundation.proofs.Chosen.{find_passes}
use Rattle.cxx_hierarchy.specs.declared.records.ClassId.{ClassId}
use Rattle.cxx_hierarchy.specs.declared.records.Member.{Member}
use Rattle.cxx_hierarchy.specs.declared.records.ValueType.{ValueType}
use Rattle.cxx_hierarchy.specs.declared.records.FieldType.{FieldType}
use Rattle.cxx_hierarchy.specs.declared.records.FieldType.TheVariants.{Value as ValueField, Object}
use Rattle.cxx_hierarchy.specs.Declarations.{elements_of}
use Rattle.cxx_hierarchy.specs.Classes.{Classes, members_of}
use Rattle.cxx_subobject.specs.Subobjects.{class_of}
use Rattle.cxx_subobject.specs.Preorder.{preorder}
use Rattle.cxx_subobject.specs.Locations.{ObjectPart, IsElement}
use Rattle.cxx_subobject.proofs.InsideLemmas.{join_class}
use Rattle.cxx_subobject.proofs.PathLemmas.{class_there}
use Rattle.cxx_subobject.proofs.TreeLemmas.{has_preorder}
use Rattle.cxx_program.specs.declared.program.TypedProgram.{TypedProgram}
use Rattle.cxx_program.specs.Typed.{width_within}
use Rattle.path_plan.specs.Places.{element}
use Rattle.path_plan.specs.Plans.{upto}
use Rattle.path_plan.proofs.Members.{has_count}
use Rattle.path_model.specs.Values.{Value, Pointer, Leaf, inner_part}
use Rattle.path_model.specs.Places.{leaf, typed_leaves, member_leaves, own_leaves, leaves_within, leaves_of}
use Rattle.path_model.specs.States.{ProgramState, with_objects}
use Rattle.path_model.specs.Effects.{same_leaf, value_behind, copied, copied_at}
use Rattle.path_model.specs.TypedStates.{IsPartMade, IsValue, IsInBitField, IsLeafMade, width_of_leaf}
use Rattle.path_model.proofs.TypedValues.{inner_made}
use Rattle.path_model.proofs.TypedPlaces.{element_made}
use Rattle.path_model.proofs.TypedFrames.{IsSound, IsSoundNext}
use Rattle.path_model.proofs.TypedEvents.{leaf_is}
use Rattle.path_model.proofs.TypedUses.{NamesPart}

-- the second leaf is one of a part that was made, and stands there as the first one stands in its part
pub record GoesAlong (h : Classes) (cs : List ClassId) (l m : Leaf) : Type 0 where
  pub member : l.member ≡ m.member
  pub index : l.index ≡ m.index
  pub class : ClassId
  pub of_class : class_of l.part.at ≡ Some class
  pub made : IsPartMade h cs m.part class

along_made : (h : Classes) (cs : List ClassId) (l m : Leaf) (t : ValueType ClassId) → GoesAlong h cs l m → IsLeafMade h cs l t → IsLeafMade h cs m t
along_made h cs l m t a b =
    let class : b.class ≡ a.class = let f : Some b.class ≡ Some a.class = sym b.part.of_class ∙ a.of_class in cc in
    let at = subst (λ (c : ClassId). IsElement h c l.member l.index (ValueField t)) class b.element in
    record { class = a.class; part = a.made; element = subst (λ i. IsElement h a.class m.member i (ValueField t)) a.index (subst (λ n. IsElement h a.class n l.index (ValueField t)) a.member at) }

along_width : (h : Classes) (cs : List ClassId) (l m : Leaf) → GoesAlong h cs l m → width_of_leaf h l ≡ width_of_leaf h m
along_width h cs l m a = ap (λ o. width_within h o l.member) (a.of_class ∙ sym a.made.of_class) ∙ ap (width_within h (class_of m.part.at)) a.member

-- lists that go along

zip_map : {X A B : Type 0} (R : A → B → Type 0) (f : X → A) (g : X → B) (xs : List X) → ((x : X) → R (f x) (g x)) → AllZip R (map f xs) (map g xs)
zip_map R f g [] a = tt
zip_map R f g (x ∷ xs) a = (a x, zip_map R f g xs a)

zip_pair : {A B : Type 0} (R : A → B → Type 0) (as_ : List A) (bs : List B) (pair : A × B) → AllZip R as_ bs → Has (zip as_ bs) pair → R pair.0 pair.1
zip_pair R [] [] pair a has = absurd has
zip_pair R [] (y ∷ bs) pair a has = absurd a
zip_pair R (x ∷ as_) [] pair a has = absurd a
zip_pair {A} {B} R (x ∷ as_) (y ∷ bs) pair a has = ⊎_elim (λ e. subst (λ (p : A × B). R p.0 p.1) e a.0) (λ more. zip_pair R as_ bs pair a.1 more) has

-- the leaves of two parts of one class

module _ (h : Classes) (cs : List ClassId) where
  -- what goes along inside member objects
  abbrev Inside : (ClassId → ObjectPart → List Leaf) → Type 0
  Inside f = (c : ClassId) (p q : ObjectPart) → class_of p.at ≡ Some c → IsPartMade h cs q c → AllZip (GoesAlong h cs) (f c p) (f c q)

  typed_along : (f : ClassId → ObjectPart → List Leaf) → Inside f → (b : ClassId) (p q : ObjectPart) → class_of p.at ≡ Some b → IsPartMade h cs q b → (m : ℕ) (member : Member ClassId) → slice_get (members_of h b) m ≡ Some member
      → (ty : FieldType ClassId) → member.ty ≡ ty → AllZip (GoesAlong h cs) (typed_leaves f p m (upto (elements_of member.count)) ty) (typed_leaves f q m (upto (elements_of member.count)) ty)
  typed_along f inside b p q class made m member at (ValueField t) is = zip_map (GoesAlong h cs) (leaf p m) (leaf q m) (upto (elements_of member.count)) (λ i. record { member = refl; index = refl; class = b; of_class = class; made = made })
  typed_along f inside b p q class made m member at (Object d) is = zip_flat_map (GoesAlong h cs) (λ i. f d (element p m i d)) (λ i. f d (element q m i d)) (upto (elements_of member.count))
      (λ i has. inside d (element p m i d) (element q m i d) refl (element_made h cs q b d m i made
      (record { member = member; there = at; type_is = is; within = let r = has_count 0 (elements_of member.count) i has in omega (arith, r.1) })))

  member_along : (f : ClassId → ObjectPart → List Leaf) → Inside f → (b : ClassId) (p q : ObjectPart) → class_of p.at ≡ Some b → IsPartMade h cs q b → (m : ℕ) (o : Option (Member ClassId)) → slice_get (members_of h b) m ≡ o
      → AllZip (GoesAlong h cs) (member_leaves f p m o) (member_leaves f q m o)
  member_along f inside b p q class made m None at = tt
  member_along f inside b p q class made m (Some member) at = typed_along f inside b p q class made m member at member.ty refl

  own_along : (f : ClassId → ObjectPart → List Leaf) → Inside f → (b : ClassId) (p q : ObjectPart) → class_of p.at ≡ Some b → IsPartMade h cs q b → AllZip (GoesAlong h cs) (own_leaves h f (Some b) p) (own_leaves h f (Some b) q)
  own_along f inside b p q class made = zip_flat_map (GoesAlong h cs) (λ m. member_leaves f p m (slice_get (members_of h b) m)) (λ m. member_leaves f q m (slice_get (members_of h b) m)) (upto (length (members_of h b)))
      (λ m has. member_along f inside b p q class made m (slice_get (members_of h b) m) refl)

  within_along : (n : ℕ) → Inside (leaves_within h n)
  within_along zero c p q class made = tt
  within_along (suc n) c p q class made = zip_flat_map (GoesAlong h cs) (λ i. own_leaves h (leaves_within h n) (class_of i) (inner_part p i)) (λ i. own_leaves h (leaves_within h n) (class_of i) (inner_part q i)) (preorder h c)
      (λ i has.
      let valid = has_preorder h c i has in
      let d = class_there h c i valid in
      subst (λ o. AllZip (GoesAlong h cs) (own_leaves h (leaves_within h n) o (inner_part p i)) (own_leaves h (leaves_within h n) o (inner_part q i))) (sym d.1)
      (own_along (leaves_within h n) (within_along n) d.0 (inner_part p i) (inner_part q i) (join_class h c p.at i class valid ∙ d.1) (inner_made h cs q c d.0 i made valid d.1)))

  pub leaves_along : (c : ClassId) (p q : ObjectPart) → class_of p.at ≡ Some c → IsPartMade h cs q c → AllZip (GoesAlong h cs) (leaves_of h c p) (leaves_of h c q)
  leaves_along c p q class made = within_along (c.0 + 1) c p q class made

  -- a leaf takes the old value of the one that goes along with it; what holds of the value of the one holds of that of the other
  behind_keeps : (Q : Leaf → Value → ValueType ClassId → Type 0) → ((l m : Leaf) (v : Value) (t : ValueType ClassId) → GoesAlong h cs l m → Q m v t → Q l v t) → (values : Leaf → Value) → ((m : Leaf) (t : ValueType ClassId) → IsLeafMade h cs m t → Q m (values m) t)
      → (as_ bs : List Leaf) → AllZip (GoesAlong h cs) as_ bs → (l : Leaf) (t : ValueType ClassId) → IsLeafMade h cs l t → (o : Option (Leaf × Leaf)) → find (λ (pair : Leaf × Leaf). same_leaf pair.0 l) (zip as_ bs) ≡ o → Q l (value_behind values l o) t
  behind_keeps Q over values old as_ bs along l t made None e = old l t made
  behind_keeps Q over values old as_ bs along l t made (Some pair) e =
      let p = find_passes (λ (x : Leaf × Leaf). same_leaf x.0 l) (zip as_ bs) pair e in
      let same = leaf_is pair.0 l p.1 in
      let first : IsLeafMade h cs pair.0 t = subst (λ (x : Leaf). IsLeafMade h cs x t) (sym same) made in
      let goes = zip_pair (GoesAlong h cs) as_ bs pair along p.0 in
      subst (λ (x : Leaf). Q x (values pair.1) t) same (over pair.0 pair.1 (values pair.1) t goes (old pair.1 t (along_made h cs pair.0 pair.1 t goes first)))

-- a copy of one part into another of its class
pub copied_sound : (h : Classes) (program : TypedProgram) (s : ProgramState) (c : ClassId) (v w : Value) → NamesPart h s.objects v c → NamesPart h s.objects w c → IsSound h program s → IsSoundNext h program (copied_at h s c v w)
copied_sound h program s c v w a b k =
    let cs = s.objects.classes in
    let to = a.part in
    let from = b.part in
    let along = leaves_along h cs c to from a.made.of_class b.made in
    let r : IsSound h program (with_objects s (copied h c to from s.objects)) = record {
      typed = record {
        globals = k.typed.globals;
        leaves = λ l t made.
            behind_keeps h cs (λ x v u. IsValue h cs v u) (λ x y v u goes is. is) s.objects.leaf k.typed.leaves (leaves_of h c to) (leaves_of h c from) along l t made (find (λ (pair : Leaf × Leaf). same_leaf pair.0 l) (zip (leaves_of h c to) (leaves_of h c from))) refl;
        held = λ l t made.
            behind_keeps h cs (λ x v u. IsInBitField (width_of_leaf h x) v u) (λ x y v u goes is. subst (λ o. IsInBitField o v u) (sym (along_width h cs x y goes)) is) s.objects.leaf k.typed.held (leaves_of h c to) (leaves_of h c from) along l t made
            (find (λ (pair : Leaf × Leaf). same_leaf pair.0 l) (zip (leaves_of h c to) (leaves_of h c from))) refl;
        frames = k.typed.frames;
        running = k.typed.running;
      };
      runs = k.runs;
    } in
    subst (λ (x : Value). IsSoundNext h program (copied_at h s c x w)) (sym a.is) (subst (λ (y : Value). IsSoundNext h program (copied_at h s c (Pointer to) y)) (sym b.is) r)
