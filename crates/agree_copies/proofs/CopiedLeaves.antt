-- The ops of a copy go along with the leaves of both parts: each op copies one leaf to the same leaf of the other part.
use Rattle.std.proofs.Common.{◌≡◌, ℕ, zero, suc, ◌+◌, arith, false, Option, Some, None, List, length, refl, ap, subst, sym, ◌∙◌}
use Rattle.std.specs.Prelude.{slice_get}
use Rattle.cxx_hierarchy.specs.declared.records.ClassId.{ClassId}
use Rattle.cxx_hierarchy.specs.declared.records.Member.{Member}
use Rattle.cxx_hierarchy.specs.declared.records.ValueType.{ValueType}
use Rattle.cxx_hierarchy.specs.declared.records.FieldType.{FieldType}
use Rattle.cxx_hierarchy.specs.declared.records.FieldType.TheVariants.{Value as ValueField, Object}
use Rattle.cxx_hierarchy.specs.Declarations.{elements_of}
use Rattle.cxx_hierarchy.specs.Classes.{members_of}
use Rattle.cxx_subobject.specs.declared.Subobject.{Subobject}
use Rattle.cxx_subobject.specs.Subobjects.{IsSubobject, class_of}
use Rattle.cxx_subobject.specs.Preorder.{preorder}
use Rattle.cxx_subobject.specs.Locations.{ObjectPart, IsElement}
use Rattle.cxx_subobject.proofs.PathLemmas.{class_there}
use Rattle.cxx_subobject.proofs.TreeLemmas.{has_preorder}
use Rattle.path_plan.specs.Places.{element}
use Rattle.path_plan.specs.Plans.{upto}
use Rattle.path_plan.proofs.Members.{has_count}
use Rattle.path_model.specs.Values.{Leaf, Objects, inner_part}
use Rattle.path_model.specs.Places.{leaf, typed_leaves, member_leaves, own_leaves, leaves_within}
use Rattle.path_model.specs.TypedStates.{IsPartMade}
use Rattle.byte_code.specs.declared.op.Op.{Op}
use Rattle.code_ops.specs.Leaves.{leaf_width, copy_op}
use Rattle.abi_sound.specs.Locations.{element_place}
use Rattle.abi_sound.proofs.PlaceLemmas.{element_place_is}
use Rattle.agree_parts.specs.Heaps.{Heap}
use Rattle.agree_parts.specs.Addresses.{address, leaf_address}
use Rattle.agree_parts.proofs.Made.{inner_is_made, element_is_made}
use Rattle.agree_parts.proofs.Sums.{from_whole, to_element}
use Rattle.code_statements.specs.declared.distances.Sides.{Sides}
use Rattle.code_statements.specs.CopyOps.{typed_copies, member_copies, own_copies, object_copies}
use Rattle.byte_memory.specs.declared.memory.Region.{Region}
use Rattle.agree_relation.specs.Words.{heap_of}
use Rattle.agree_relation.specs.Worlds.{World, world_classes, places_in}
use Rattle.agree_copies.proofs.Threes.{AllThree, three_flat_map, three_map}
use Rattle.agree_copies.proofs.SameParts.{IsLike, near, far, like_object, like_back}
use Rattle.agree_copies.proofs.LeafCopies.{IsCopy}

-- the op copies leaf b to leaf a, where the registers have these addresses
pub record DoesCopy (w : World) (s : Objects) (g : Heap) (c : ClassId) (to from : ObjectPart) (sides : Sides) (target source : ℕ) (op : Op) (a b : Leaf) : Type 0 where
  pub type : ValueType ClassId
  pub copy : IsCopy w s c to from a b type
  pub class : ClassId
  pub made_to : IsPartMade (world_classes w) s.classes a.part class
  pub made_from : IsPartMade (world_classes w) s.classes b.part class
  pub element_to : IsElement (world_classes w) class a.member a.index (ValueField type)
  pub element_from : IsElement (world_classes w) class b.member b.index (ValueField type)
  pub member : b.member ≡ a.member
  pub offset : ℕ
  pub op_is : op ≡ copy_op (leaf_width w.setup class a.member) sides.to sides.from offset
  pub to_is : leaf_address (world_classes w) (places_in w) g a ≡ target + offset
  pub from_is : leaf_address (world_classes w) (places_in w) g b ≡ source + offset

module _ (w : World) (s : Objects) (regions : List Region) (c : ClassId) (to from : ObjectPart) (open_to : s.is_closed to.object ≡ false) (open_from : s.is_closed from.object ≡ false) (sides : Sides) (target source : ℕ) where
  abbrev g : Heap
  g = heap_of s.classes regions

  abbrev Copied : Op → Leaf → Leaf → Type 0
  Copied = DoesCopy w s g c to from sides target source

  -- the same part of both, of class b, so many bytes behind the addresses
  record IsSide (b : ClassId) (p q : ObjectPart) (offset : ℕ) : Type 0 where
    like : IsLike (world_classes w) c to from p q
    made_p : IsPartMade (world_classes w) s.classes p b
    made_q : IsPartMade (world_classes w) s.classes q b
    at_p : address (world_classes w) (places_in w) g p ≡ target + offset
    at_q : address (world_classes w) (places_in w) g q ≡ source + offset

  -- so many bytes behind a part stands an element of its class's member
  abbrev behind : ClassId → ℕ → ℕ → ℕ → ℕ
  behind b offset m i = offset + element_place (world_classes w) (places_in w) (Some b) m i

  leaf_there : (b : ClassId) (p q : ObjectPart) (offset m i : ℕ) (t : ValueType ClassId) → IsSide b p q offset → IsElement (world_classes w) b m i (ValueField t) → Copied (copy_op (leaf_width w.setup b m) sides.to sides.from (behind b offset m i)) (leaf p m i) (leaf q m i)
  leaf_there b p q offset m i t side e = record {
    type = t;
    copy = record {
      like = record { part = side.like; member = refl; index = refl };
      made_a = record { class = b; part = side.made_p; element = e };
      made_b = record { class = b; part = side.made_q; element = e };
      open_a = ap s.is_closed (like_object (world_classes w) c to from p q side.like) ∙ open_to;
      open_b = ap s.is_closed (like_object (world_classes w) c from to q p (like_back (world_classes w) c to from p q side.like)) ∙ open_from;
    };
    class = b;
    made_to = side.made_p;
    made_from = side.made_q;
    element_to = e;
    element_from = e;
    member = refl;
    offset = behind b offset m i;
    op_is = refl;
    to_is = leaf_behind p target side.made_p side.at_p;
    from_is = leaf_behind q source side.made_q side.at_q;
  }
    where
      leaf_behind : (p : ObjectPart) (target : ℕ) → IsPartMade (world_classes w) s.classes p b → address (world_classes w) (places_in w) (heap_of s.classes regions) p ≡ target + offset
          → leaf_address (world_classes w) (places_in w) (heap_of s.classes regions) (leaf p m i) ≡ target + (offset + element_place (world_classes w) (places_in w) (Some b) m i)
      leaf_behind p target made there =
          let class = ap (λ (o : Option ClassId). element_place (world_classes w) (places_in w) o m i) made.of_class in
          omega (arith, class, there)

  -- and an element that is an object
  element_behind : (b d : ClassId) (p : ObjectPart) (offset m i target : ℕ) → IsPartMade (world_classes w) s.classes p b → address (world_classes w) (places_in w) g p ≡ target + offset → IsElement (world_classes w) b m i (Object d)
      → address (world_classes w) (places_in w) g (element p m i d) ≡ target + behind b offset m i
  element_behind b d p offset m i target made there e =
      let first = to_element (world_classes w) w.setup.rows g p b d m i made e in
      let distance = element_place_is (world_classes w) (places_in w) (Some b) b m i (Object d) refl e in
      omega (arith, first, distance, there)

  -- what goes along inside member objects
  abbrev Inside : (ClassId → ℕ → List Op) → (ClassId → ObjectPart → List Leaf) → Type 0
  Inside ops leaves = (b d : ClassId) (p q : ObjectPart) (offset m i : ℕ) → IsSide b p q offset → IsElement (world_classes w) b m i (Object d) → AllThree Copied (ops d (behind b offset m i)) (leaves d (element p m i d)) (leaves d (element q m i d))

  typed_three : (ops : ClassId → ℕ → List Op) (leaves : ClassId → ObjectPart → List Leaf) → Inside ops leaves → (b : ClassId) (p q : ObjectPart) (offset m : ℕ) → IsSide b p q offset → (member : Member ClassId) → slice_get (members_of (world_classes w) b) m ≡ Some member
      → (ty : FieldType ClassId) → member.ty ≡ ty
      → AllThree Copied (typed_copies ops sides (leaf_width w.setup b m) (behind b offset m) (upto (elements_of member.count)) ty) (typed_leaves leaves p m (upto (elements_of member.count)) ty) (typed_leaves leaves q m (upto (elements_of member.count)) ty)
  typed_three ops leaves inside b p q offset m side member there (ValueField t) is =
      three_map Copied (λ i. copy_op (leaf_width w.setup b m) sides.to sides.from (behind b offset m i)) (leaf p m) (leaf q m) (upto (elements_of member.count))
      (λ i has. leaf_there b p q offset m i t side (record { member = member; there = there; type_is = is; within = let r = has_count 0 (elements_of member.count) i has in omega (arith, r.1) }))
  typed_three ops leaves inside b p q offset m side member there (Object d) is =
      three_flat_map Copied (λ i. ops d (behind b offset m i)) (λ i. leaves d (element p m i d)) (λ i. leaves d (element q m i d)) (upto (elements_of member.count))
      (λ i has. inside b d p q offset m i side (record { member = member; there = there; type_is = is; within = let r = has_count 0 (elements_of member.count) i has in omega (arith, r.1) }))

  member_three : (ops : ClassId → ℕ → List Op) (leaves : ClassId → ObjectPart → List Leaf) → Inside ops leaves → (b : ClassId) (p q : ObjectPart) (offset m : ℕ) → IsSide b p q offset → (o : Option (Member ClassId)) → slice_get (members_of (world_classes w) b) m ≡ o
      → AllThree Copied (member_copies ops sides (leaf_width w.setup b m) (behind b offset m) o) (member_leaves leaves p m o) (member_leaves leaves q m o)
  member_three ops leaves inside b p q offset m side None there = tt
  member_three ops leaves inside b p q offset m side (Some member) there = typed_three ops leaves inside b p q offset m side member there member.ty refl

  own_three : (ops : ClassId → ℕ → List Op) (leaves : ClassId → ObjectPart → List Leaf) → Inside ops leaves → (b : ClassId) (p q : ObjectPart) (offset : ℕ) → IsSide b p q offset
      → AllThree Copied (own_copies w.setup ops sides (Some b) offset) (own_leaves (world_classes w) leaves (Some b) p) (own_leaves (world_classes w) leaves (Some b) q)
  own_three ops leaves inside b p q offset side =
      let members = members_of (world_classes w) b in
      three_flat_map Copied (λ m. member_copies ops sides (leaf_width w.setup b m) (behind b offset m) (slice_get members m)) (λ m. member_leaves leaves p m (slice_get members m)) (λ m. member_leaves leaves q m (slice_get members m)) (upto (length members))
      (λ m has. member_three ops leaves inside b p q offset m side (slice_get members m) refl)

  -- all of a member object
  object_three : (n : ℕ) → Inside (object_copies w.setup sides n) (leaves_within (world_classes w) n)
  object_three zero b d p q offset m i side e = tt
  object_three (suc n) b d p q offset m i side e =
      let h = world_classes w in
      let first = element p m i d in
      let second = element q m i d in
      let made_first = element_is_made h g p b d m i side.made_p e in
      let made_second = element_is_made h g q b d m i side.made_q e in
      let by = behind b offset m i in
      let at_first = element_behind b d p offset m i target side.made_p side.at_p e in
      let at_second = element_behind b d q offset m i source side.made_q side.at_q e in
      three_flat_map Copied (λ j. own_copies w.setup (object_copies w.setup sides n) sides (class_of j) (by + (places_in w).place d j)) (λ j. own_leaves h (leaves_within h n) (class_of j) (inner_part first j)) (λ j. own_leaves h (leaves_within h n) (class_of j) (inner_part second j)) (preorder h d)
      (λ j has.
      let valid = has_preorder h d j has in
      let k = class_there h d j valid in
      let far_first = from_whole h w.setup.rows g first d j made_first valid refl in
      let far_second = from_whole h w.setup.rows g second d j made_second valid refl in
      subst (λ (o : Option ClassId). AllThree Copied (own_copies w.setup (object_copies w.setup sides n) sides o (by + (places_in w).place d j)) (own_leaves h (leaves_within h n) o (inner_part first j)) (own_leaves h (leaves_within h n) o (inner_part second j))) (sym k.1)
      (own_three (object_copies w.setup sides n) (leaves_within h n) (object_three n) k.0 (inner_part first j) (inner_part second j) (by + (places_in w).place d j)
      (record {
        like = far p q b d m i j side.like side.made_p.of_class side.made_q.of_class e valid;
        made_p = inner_is_made h g first d k.0 j made_first valid k.1;
        made_q = inner_is_made h g second d k.0 j made_second valid k.1;
        at_p = omega (arith, far_first, at_first);
        at_q = omega (arith, far_second, at_second);
      })))

-- the leaves of a subobject's own members, where the registers have its address in both parts
pub subobject_three : (w : World) (s : Objects) (regions : List Region) (c : ClassId) (to from : ObjectPart) → s.is_closed to.object ≡ false → s.is_closed from.object ≡ false → (sides : Sides) (n : ℕ) (i : Subobject) → IsPartMade (world_classes w) s.classes to c → IsPartMade (world_classes w) s.classes from c → IsSubobject (world_classes w) c i
    → AllThree (DoesCopy w s (heap_of s.classes regions) c to from sides (address (world_classes w) (places_in w) (heap_of s.classes regions) (inner_part to i)) (address (world_classes w) (places_in w) (heap_of s.classes regions) (inner_part from i)))
    (own_copies w.setup (object_copies w.setup sides n) sides (class_of i) 0) (own_leaves (world_classes w) (leaves_within (world_classes w) n) (class_of i) (inner_part to i)) (own_leaves (world_classes w) (leaves_within (world_classes w) n) (class_of i) (inner_part from i))
subobject_three w s regions c to from open_to open_from sides n i made_to made_from valid =
    let h = world_classes w in
    let g = heap_of s.classes regions in
    let k = class_there h c i valid in
    let first = address h (places_in w) g (inner_part to i) in
    let second = address h (places_in w) g (inner_part from i) in
    subst (λ (o : Option ClassId). AllThree (DoesCopy w s g c to from sides first second) (own_copies w.setup (object_copies w.setup sides n) sides o 0) (own_leaves h (leaves_within h n) o (inner_part to i)) (own_leaves h (leaves_within h n) o (inner_part from i))) (sym k.1)
    (own_three w s regions c to from open_to open_from sides first second (object_copies w.setup sides n) (leaves_within h n) (object_three w s regions c to from open_to open_from sides first second n) k.0 (inner_part to i) (inner_part from i) 0
    (record {
      like = near i valid;
      made_p = inner_is_made h g to c k.0 i made_to valid k.1;
      made_q = inner_is_made h g from c k.0 i made_from valid k.1;
      at_p = omega arith;
      at_q = omega arith;
    }))
