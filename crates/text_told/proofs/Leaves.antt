-- The leaves of a part that was made are those of parts that were made.
use Rattle.std.proofs.Common.{◌≡◌, ℕ, zero, suc, ◌+◌, arith, Option, Some, None, List, length, refl, subst}
use Rattle.std.specs.Prelude.{Contains, slice_get}
use Rattle.foundation.proofs.Members.{Has, from_flat_map, from_map, has_from_contains}
use Rattle.cxx_hierarchy.specs.declared.records.ClassId.{ClassId}
use Rattle.cxx_hierarchy.specs.declared.records.Member.{Member}
use Rattle.cxx_hierarchy.specs.declared.records.ValueType.{ValueType}
use Rattle.cxx_hierarchy.specs.declared.records.FieldType.{FieldType}
use Rattle.cxx_hierarchy.specs.declared.records.FieldType.TheVariants.{Value as ValueField, Object}
use Rattle.cxx_hierarchy.specs.Classes.{Classes, members_of}
use Rattle.cxx_hierarchy.specs.Declarations.{elements_of}
use Rattle.cxx_subobject.specs.Subobjects.{class_of}
use Rattle.cxx_subobject.specs.Preorder.{preorder}
use Rattle.cxx_subobject.specs.Locations.{ObjectPart}
use Rattle.cxx_subobject.proofs.PathLemmas.{class_there}
use Rattle.cxx_subobject.proofs.TreeLemmas.{has_preorder}
use Rattle.path_plan.specs.Places.{element}
use Rattle.path_plan.specs.Plans.{upto}
use Rattle.path_plan.proofs.Members.{has_count}
use Rattle.path_model.specs.Values.{Leaf, inner_part}
use Rattle.path_model.specs.Places.{leaf, leaves_of, leaves_within, member_leaves, own_leaves, typed_leaves}
use Rattle.path_model.specs.TypedStates.{IsLeafMade, IsPartMade}
use Rattle.path_model.proofs.TypedPlaces.{element_made}
use Rattle.path_model.proofs.TypedValues.{inner_made}

-- a leaf with its type
abbrev pub IsTypedLeaf : Classes → List ClassId → Leaf → Type 0
IsTypedLeaf h cs l = (t : ValueType ClassId) × IsLeafMade h cs l t

module _ (h : Classes) (cs : List ClassId) where
  -- the leaves in parts that were made
  abbrev AreMade : (ClassId → ObjectPart → List Leaf) → Type 0
  AreMade f = (c : ClassId) (p : ObjectPart) (l : Leaf) → IsPartMade h cs p c → Has (f c p) l → IsTypedLeaf h cs l

  typed_made : (f : ClassId → ObjectPart → List Leaf) → AreMade f → (b : ClassId) (p : ObjectPart) → IsPartMade h cs p b → (m : ℕ) (member : Member ClassId) → slice_get (members_of h b) m ≡ Some member → (type : FieldType ClassId) → member.ty ≡ type
      → (l : Leaf) → Has (typed_leaves f p m (upto (elements_of member.count)) type) l → IsTypedLeaf h cs l
  typed_made f rule b p made m member there (ValueField t) is l has =
      let g = from_map (leaf p m) (upto (elements_of member.count)) l has in
      let lt = (has_count 0 (elements_of member.count) g.0 g.1).1 in
      (t, subst (λ (x : Leaf). IsLeafMade h cs x t) g.2 (record { class = b; part = made; element = record { member = member; there = there; type_is = is; within = omega (arith, lt) } }))
  typed_made f rule b p made m member there (Object d) is l has =
      let g = from_flat_map (λ i. f d (element p m i d)) (upto (elements_of member.count)) l has in
      let lt = (has_count 0 (elements_of member.count) g.0 g.1).1 in
      rule d (element p m g.0 d) l (element_made h cs p b d m g.0 made (record { member = member; there = there; type_is = is; within = omega (arith, lt) })) g.2

  member_made : (f : ClassId → ObjectPart → List Leaf) → AreMade f → (b : ClassId) (p : ObjectPart) → IsPartMade h cs p b → (m : ℕ) (o : Option (Member ClassId)) → slice_get (members_of h b) m ≡ o
      → (l : Leaf) → Has (member_leaves f p m o) l → IsTypedLeaf h cs l
  member_made f rule b p made m None there l has = absurd has
  member_made f rule b p made m (Some member) there l has = typed_made f rule b p made m member there member.ty refl l has

  own_made : (f : ClassId → ObjectPart → List Leaf) → AreMade f → (b : ClassId) (p : ObjectPart) → IsPartMade h cs p b → (l : Leaf) → Has (own_leaves h f (Some b) p) l → IsTypedLeaf h cs l
  own_made f rule b p made l has =
      let g = from_flat_map (λ m. member_leaves f p m (slice_get (members_of h b) m)) (upto (length (members_of h b))) l has in
      member_made f rule b p made g.0 (slice_get (members_of h b) g.0) refl l g.2

  within_made : (n : ℕ) → AreMade (leaves_within h n)
  within_made zero c p l made has = absurd has
  within_made (suc n) c p l made has =
      let g = from_flat_map (λ i. own_leaves h (leaves_within h n) (class_of i) (inner_part p i)) (preorder h c) l has in
      let i = g.0 in
      let valid = has_preorder h c i g.1 in
      let d = class_there h c i valid in
      own_made (leaves_within h n) (within_made n) d.0 (inner_part p i) (inner_made h cs p c d.0 i made valid d.1) l (subst (λ (o : Option ClassId). Has (own_leaves h (leaves_within h n) o (inner_part p i)) l) d.1 g.2)

  pub leaf_made : (c : ClassId) (p : ObjectPart) (l : Leaf) → IsPartMade h cs p c → Contains (leaves_of h c p) l → IsTypedLeaf h cs l
  leaf_made c p l made has = within_made (c.0 + 1) c p l made (has_from_contains (leaves_of h c p) l has)
