-- One thing, member and subobject more of the walk over an object.
use Rattle.std.proofs.Common.{◌≡◌, ℕ, zero, suc, ◌+◌, ◌*◌, ◌<◌, ◌≤◌, Option, Some, List, [], ◌∷◌, ◌++◌, map, length, take, get_or, refl, ap, sym, ◌∙◌, arith, append_assoc}
use Rattle.std.specs.List.{slice_get, flat_map, range_with_len}
use Rattle.foundation.proofs.Members.{flat_map_same}
use Rattle.cxx_hierarchy.specs.declared.records.ClassId.{ClassId}
use Rattle.cxx_hierarchy.specs.declared.records.Member.{Member}
use Rattle.cxx_hierarchy.specs.declared.records.FieldType.{FieldType}
use Rattle.cxx_hierarchy.specs.declared.records.FieldType.TheVariants.{Value, Object}
use Rattle.cxx_hierarchy.specs.declared.records.ValueType.{ValueType}
use Rattle.cxx_hierarchy.specs.Classes.{members_of, width_of_member}
use Rattle.cxx_hierarchy.specs.Declarations.{elements_of}
use Rattle.cxx_subobject.specs.declared.Subobject.{Subobject}
use Rattle.cxx_subobject.specs.declared.locations.Hop.TheVariants.{Inherit, Member as MemberHop}
use Rattle.cxx_subobject.specs.Subobjects.{class_of}
use Rattle.cxx_subobject.specs.Preorder.{preorder}
use Rattle.abi_sound.specs.Places.{size_of_value}
use Rattle.abi_sound.specs.Locations.{size_of_type, stride_in, class_of_member, class_of_type, element_place, element_class, place_behind}
use Rattle.abi_judge.specs.declared.things.Thing.{Thing}
use Rattle.abi_judge.specs.declared.things.Thing.TheVariants.{Leaf, Part}
use Rattle.abi_judge.specs.declared.things.PlacedLeaf.{PlacedLeaf}
use Rattle.abi_judge.specs.declared.things.PlacedPart.{PlacedPart}
use Rattle.abi_judge.specs.invariants.Ways.{to_leaf, to_part, Way, way, behind_hop, typed_ways, member_ways, own_ways, base_ways, ways_within}
use Rattle.abi_judge.specs.invariants.Things.{Setting, part_thing, thing_at, thing_of, things_of}
use Rattle.abi_judge.specs.invariants.Leaves.{leaf_from}
use Rattle.abi_judge.specs.invariants.Pushes.{base_things, member_things, object_things, AddsBases, AddsObject, AddsMembers, AddsOwn, AddsMember, AddsObjects}
use Rattle.abi_judge.proofs.Ranges.{map_flat, items_next, range_next}

-- ways from a subobject are those from its object
pub behind_base : (x : Setting) (e d : ClassId) (s : Subobject) (at : ℕ) (ws : List Way) → class_of s ≡ Some d → things_of x (Some e) at (map (behind_hop (Inherit s)) ws) ≡ things_of x (Some d) (at + x.l.place e s) ws
behind_base x e d s at [] class = refl
behind_base x e d s at (w ∷ ws) class =
    let p : place_behind x.h x.l (class_of s) w.hops ≡ place_behind x.h x.l (Some d) w.hops = ap (λ (o : Option ClassId). place_behind x.h x.l o w.hops) class in
    let q : at + (x.l.place e s + place_behind x.h x.l (class_of s) w.hops) ≡ at + x.l.place e s + place_behind x.h x.l (Some d) w.hops = omega (arith, p) in
    let first : thing_of x (Some e) at (behind_hop (Inherit s) w) ≡ thing_of x (Some d) (at + x.l.place e s) w = ap (λ k. thing_at x k w.end) q in
    ap (λ t. t ∷ things_of x (Some e) at (map (behind_hop (Inherit s)) ws)) first ∙ ap (λ ts. thing_of x (Some d) (at + x.l.place e s) w ∷ ts) (behind_base x e d s at ws class)

-- ways from an element that is an object are those from the object that declares the member
pub behind_member : (x : Setting) (d b : ClassId) (m i at start : ℕ) (member : Member ClassId) (ws : List Way) → slice_get (members_of x.h d) m ≡ Some member → member.ty ≡ Object b → start ≡ at + x.l.member d m
    → things_of x (Some d) at (map (behind_hop (MemberHop m i)) ws) ≡ things_of x (Some b) (start + i * x.l.size b) ws
behind_member x d b m i at start member [] there is from = refl
behind_member x d b m i at start member (w ∷ ws) there is from =
    let inner : element_class x.h (Some d) m ≡ Some b = ap class_of_member there ∙ ap class_of_type is in
    let stride : stride_in x.l (slice_get (members_of x.h d) m) ≡ x.l.size b = ap (stride_in x.l) there ∙ ap (size_of_type x.l) is in
    let more : i * stride_in x.l (slice_get (members_of x.h d) m) ≡ i * x.l.size b = ap (λ k. i * k) stride in
    let p : place_behind x.h x.l (element_class x.h (Some d) m) w.hops ≡ place_behind x.h x.l (Some b) w.hops = ap (λ (o : Option ClassId). place_behind x.h x.l o w.hops) inner in
    let q : at + (element_place x.h x.l (Some d) m i + place_behind x.h x.l (element_class x.h (Some d) m) w.hops) ≡ start + i * x.l.size b + place_behind x.h x.l (Some b) w.hops = omega (arith, p, more, from) in
    let first : thing_of x (Some d) at (behind_hop (MemberHop m i) w) ≡ thing_of x (Some b) (start + i * x.l.size b) w = ap (λ k. thing_at x k w.end) q in
    ap (λ t. t ∷ things_of x (Some d) at (map (behind_hop (MemberHop m i)) ws)) first
    ∙ ap (λ ts. thing_of x (Some b) (start + i * x.l.size b) w ∷ ts) (behind_member x d b m i at start member ws there is from)

-- what lies in a complete object, as the list of ways counts classes
pub object_added : (x : Setting) (e : ClassId) (at : ℕ) (old new : List Thing) → AddsObject x e at old new → (n : ℕ) → e.0 < n → new ≡ old ++ object_things x n e at
object_added x e at old new added zero low = absurd (omega arith)
object_added x e at old new added (suc n) low =
    added.adds n (omega arith) ∙ ap (λ ts. old ++ ts) (sym (map_flat (thing_of x (Some e) at) (λ s. base_ways x.h (ways_within x.h n) e s (class_of s)) (preorder x.h e)))

-- one object more
pub objects_next : (x : Setting) (b : ClassId) (start k place : ℕ) (old mid new : List Thing) → place ≡ start + k * x.l.size b → AddsObjects x b start k old mid → AddsObject x b place mid new → AddsObjects x b start (k + 1) old new
objects_next x b start k place old mid new is before added = record {
  adds = λ n low. range_next (λ i. object_things x n b (start + i * x.l.size b)) k old mid new (before.adds n low) (object_added x b place mid new added n low ∙ ap (λ at. mid ++ object_things x n b at) is);
}

-- one member more
pub members_next : (x : Setting) (d : ClassId) (at k : ℕ) (old mid new : List Thing) → AddsMembers x d at k old mid → AddsMember x d at k mid new → AddsMembers x d at (k + 1) old new
members_next x d at k old mid new before added = record {
  adds = λ n low. range_next (member_things x n d at) k old mid new (before.adds n low) (added.adds n low);
}

-- one subobject more: itself, and what lies in its members
pub bases_next : (x : Setting) (e d : ClassId) (s : Subobject) (at place : ℕ) (list : List Subobject) (j : ℕ) (part : PlacedPart) (old mid after new : List Thing) → j < length list → s ≡ get_or list j s → class_of s ≡ Some d → d.0 ≤ e.0 → place ≡ at + x.l.place e s → part ≡ part_thing x place e s d
    → AddsBases x e at (take j list) old mid → after ≡ mid ++ Part part ∷ [] → AddsOwn x d place after new → AddsBases x e at (take (j + 1) list) old new
bases_next x e d s at place list j part old mid after new less is class low from made before pushed added = record {
  adds = λ n le. items_next (base_things x n e at) list j s old mid new less is (before.adds n le) (one n (omega arith));
}
  where
    one : (n : ℕ) → d.0 ≤ n → new ≡ mid ++ base_things x n e at s
    one n le =
        let own : List Way = own_ways x.h (ways_within x.h n) d in
        let rest : flat_map (member_things x n d place) (range_with_len 0 (length (members_of x.h d))) ≡ things_of x (Some e) at (map (behind_hop (Inherit s)) own) =
        sym (map_flat (thing_of x (Some d) place) (λ m. member_ways (ways_within x.h n) d m (slice_get (members_of x.h d) m)) (range_with_len 0 (length (members_of x.h d))))
        ∙ (ap (λ k. things_of x (Some d) k own) from ∙ sym (behind_base x e d s at own class)) in
        let here : place ≡ at + (x.l.place e s + 0) = omega (arith, from) in
        let first : Part part ≡ thing_of x (Some e) at (way (Inherit s ∷ []) (to_part e s d)) = ap Part made ∙ ap (λ k. thing_at x k (to_part e s d)) here in
        let all : Part part ∷ flat_map (member_things x n d place) (range_with_len 0 (length (members_of x.h d))) ≡ base_things x n e at s =
        ap (λ t. t ∷ flat_map (member_things x n d place) (range_with_len 0 (length (members_of x.h d)))) first
        ∙ (ap (λ ts. thing_of x (Some e) at (way (Inherit s ∷ []) (to_part e s d)) ∷ ts) rest
        ∙ ap (λ (o : Option ClassId). things_of x (Some e) at (base_ways x.h (ways_within x.h n) e s o)) (sym class)) in
        added.adds n le
        ∙ (ap (λ ts. ts ++ flat_map (member_things x n d place) (range_with_len 0 (length (members_of x.h d)))) pushed
        ∙ (append_assoc mid (Part part ∷ []) (flat_map (member_things x n d place) (range_with_len 0 (length (members_of x.h d)))) ∙ ap (λ ts. mid ++ ts) all))

typed_things : (x : Setting) (n : ℕ) (d : ClassId) (at m : ℕ) (member : Member ClassId) (type : FieldType ClassId) → slice_get (members_of x.h d) m ≡ Some member → member.ty ≡ type
    → things_of x (Some d) at (typed_ways (ways_within x.h n) d m (elements_of member.count) type) ≡ member_things x n d at m
typed_things x n d at m member type there is =
    ap (λ (t : FieldType ClassId). things_of x (Some d) at (typed_ways (ways_within x.h n) d m (elements_of member.count) t)) (sym is)
    ∙ ap (λ (o : Option (Member ClassId)). things_of x (Some d) at (member_ways (ways_within x.h n) d m o)) (sym there)

-- a member whose elements are objects
pub objects_added : (x : Setting) (d b : ClassId) (at m start : ℕ) (member : Member ClassId) (old new : List Thing) → slice_get (members_of x.h d) m ≡ Some member → member.ty ≡ Object b → b.0 < d.0 → start ≡ at + x.l.member d m
    → AddsObjects x b start (elements_of member.count) old new → AddsMember x d at m old new
objects_added x d b at m start member old new there is low from added = record {
  adds = λ n le.
      let count = elements_of member.count in
      added.adds n (omega arith)
      ∙ ap (λ ts. old ++ ts) (
      flat_map_same (λ i. object_things x n b (start + i * x.l.size b)) (λ i. things_of x (Some d) at (map (behind_hop (MemberHop m i)) (ways_within x.h n b))) (range_with_len 0 count)
      (λ i has. sym (behind_member x d b m i at start member (ways_within x.h n b) there is from))
      ∙ (sym (map_flat (thing_of x (Some d) at) (λ i. map (behind_hop (MemberHop m i)) (ways_within x.h n b)) (range_with_len 0 count))
      ∙ typed_things x n d at m member (Object b) there is));
}

abbrev make : ℕ → ℕ → ℕ → Option ℕ → Thing
make place bit size width = Leaf (record { place = place; first = bit; size = size; width = width })

-- a member whose elements are numbers or pointers
pub leaves_added : (x : Setting) (d : ClassId) (at m : ℕ) (type : ValueType ClassId) (member : Member ClassId) (first : PlacedLeaf) (old new : List Thing) → slice_get (members_of x.h d) m ≡ Some member → member.ty ≡ Value type
    → first.place ≡ at + x.l.member d m → first.first ≡ x.l.first d m → first.size ≡ size_of_value type → first.width ≡ width_of_member x.h d m → new ≡ old ++ map (leaf_from first) (range_with_len 0 (elements_of member.count)) → AddsMember x d at m old new
leaves_added x d at m type member first old new there is from bit size width added = record {
  adds = λ n le. added ∙ ap (λ ts. old ++ ts) (all (range_with_len 0 (elements_of member.count)) ∙ typed_things x n d at m member (Value type) there is);
}
  where
    one : (i : ℕ) → leaf_from first i ≡ thing_of x (Some d) at (way (MemberHop m i ∷ []) (to_leaf d m type))
    one i =
        let stride : stride_in x.l (slice_get (members_of x.h d) m) ≡ size_of_value type = ap (stride_in x.l) there ∙ ap (size_of_type x.l) is in
        let more : i * stride_in x.l (slice_get (members_of x.h d) m) ≡ i * first.size = ap (λ k. i * k) (stride ∙ sym size) in
        let place : first.place + i * first.size ≡ at + (element_place x.h x.l (Some d) m i + 0) = omega (arith, more, from) in
        let a : leaf_from first i ≡ make (at + (element_place x.h x.l (Some d) m i + 0)) first.first first.size first.width = ap (λ k. make k first.first first.size first.width) place in
        a ∙ (ap (λ k. make (at + (element_place x.h x.l (Some d) m i + 0)) k first.size first.width) bit
        ∙ (ap (λ k. make (at + (element_place x.h x.l (Some d) m i + 0)) (x.l.first d m) k first.width) size
        ∙ ap (λ k. make (at + (element_place x.h x.l (Some d) m i + 0)) (x.l.first d m) (size_of_value type) k) width))

    all : (is : List ℕ) → map (leaf_from first) is ≡ things_of x (Some d) at (map (λ i. way (MemberHop m i ∷ []) (to_leaf d m type)) is)
    all [] = refl
    all (i ∷ is) = ap (λ t. t ∷ map (leaf_from first) is) (one i) ∙ ap (λ ts. thing_of x (Some d) at (way (MemberHop m i ∷ []) (to_leaf d m type)) ∷ ts) (all is)
