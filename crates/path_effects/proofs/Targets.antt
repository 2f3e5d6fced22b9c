-- The class of what a right side gives, where that is a pointer.
use Rattle.std.proofs.Common.{◌≡◌, Bool, Option, Some, None, List, [], ◌∷◌, inl, refl, subst, ◌∙◌}
use Rattle.std.specs.Prelude.{filter, ◌&&◌, if◌then◌else◌}
use Rattle.foundation.proofs.Truth.{split}
use Rattle.foundation.proofs.Members.{Has}
use Rattle.foundation.proofs.Chosen.{has_filter, find_passes}
use Rattle.cxx_hierarchy.specs.declared.records.ClassId.{ClassId}
use Rattle.cxx_hierarchy.specs.declared.records.ValueType.{ValueType}
use Rattle.cxx_hierarchy.specs.declared.records.ValueType.TheVariants.{Pointer as PointerType}
use Rattle.cxx_hierarchy.specs.declared.records.FieldType.TheVariants.{Object}
use Rattle.cxx_hierarchy.specs.Classes.{Classes}
use Rattle.cxx_subobject.specs.declared.Subobject.{Subobject}
use Rattle.cxx_subobject.specs.Subobjects.{class_of, join, same_subobject, is_of_class}
use Rattle.cxx_subobject.specs.Locations.{ObjectPart}
use Rattle.cxx_subobject.proofs.InsideLemmas.{join_class}
use Rattle.cxx_search.specs.Searches.{is_within, is_public_in, subobjects_under, the_only, where_it, targets, cast_down, cast_across, or_else, cast_in, preorder_of}
use Rattle.cxx_search.proofs.Casts.{of_class}
use Rattle.cxx_program.specs.declared.statement.TypedCast.{TypedCast}
use Rattle.cxx_program.specs.declared.statement.TypedPlace.{TypedPlace}
use Rattle.cxx_program.specs.declared.statement.TypedRight.{TypedRight}
use Rattle.cxx_program.specs.Typed.{Scope, Casts, cast_same, cast_up, cast_down as down_cast, cast_dynamic, HasRight, an_operand, a_calculation, a_comparison, a_negation, a_read, an_address, a_result, an_object, a_cast, a_type_test, IsPlace}
use Rattle.path_model.specs.Values.{Value, Unset, Number, Null, Pointer, Objects, Sight, value_of_operand}
use Rattle.path_model.specs.Places.{address_value, leaf_value, leaf_at}
use Rattle.path_model.specs.Uses.{cast_value, view_cast, view_of, value_or, derived_of, class_of_owner}
use Rattle.path_model.specs.Effects.{right_side_value}
use Rattle.path_model.specs.TypedStates.{IsValue}
use Rattle.path_model.proofs.TypedValues.{IsTypedSight, operand_typed}
use Rattle.path_model.proofs.TypedPlaces.{leaf_made, object_made}
use Rattle.path_model.proofs.TypedViews.{both_left}

-- a pointer is one to the class; of other values nothing is said
abbrev pub IsTo : Value → ClassId → Type 0
IsTo Unset c = Unit {0}
IsTo (Number z) c = Unit {0}
IsTo Null c = Unit {0}
IsTo (Pointer p) c = class_of p.at ≡ Some c

-- a value of the type is one
pub typed_to : (h : Classes) (cs : List ClassId) (v : Value) (c : ClassId) → IsValue h cs v (PointerType c) → IsTo v c
typed_to h cs Unset c a = tt
typed_to h cs (Number z) c a = absurd a
typed_to h cs Null c a = tt
typed_to h cs (Pointer p) c a = a.of_class

-- casts

only_has : (xs : List Subobject) (t : Subobject) → the_only xs ≡ Some t → Has xs t
only_has [] t e = absurd (let f : None ≡ Some t = e in cc)
only_has (s ∷ []) t e = inl (let f : Some s ≡ Some t = e in cc)
only_has (s ∷ u ∷ rest) t e = absurd (let f : None ≡ Some t = e in cc)

where_is : (f : Subobject → Bool) (o : Option Subobject) (t : Subobject) → where_it f o ≡ Some t → o ≡ Some t
where_is f None t e = e
where_is f (Some s) t e = split (f s) (λ b. (if b then Some s else None) ≡ Some t → Some s ≡ Some t) (λ _ g. g) (λ _ g. absurd (let k : None ≡ Some t = g in cc)) e

target_class : (h : Classes) (target : ClassId) (x t : Subobject) → Has (targets h target x) t → class_of t ≡ Some target
target_class h target x t has = of_class target (class_of t) (has_filter (is_of_class target) (subobjects_under h x) t has).1

down_class : (h : Classes) (target : ClassId) (x y t : Subobject) → cast_down h target x y ≡ Some t → class_of t ≡ Some target
down_class h target x y t e =
    let list = filter (λ (u : Subobject). is_within h u y) (targets h target x) in
    target_class h target x t (has_filter (λ (u : Subobject). is_within h u y) (targets h target x) t (only_has list t (where_is (λ (u : Subobject). is_public_in h u y) (the_only list) t e))).0

across_class : (h : Classes) (target : ClassId) (x y t : Subobject) → cast_across h target x y ≡ Some t → class_of t ≡ Some target
across_class h target x y t e = split (is_public_in h x y) (λ b. (if b then where_it (is_public_in h x) (the_only (targets h target x)) else None) ≡ Some t → class_of t ≡ Some target)
    (λ _ g. target_class h target x t (only_has (targets h target x) t (where_is (is_public_in h x) (the_only (targets h target x)) t g)))
    (λ _ g. absurd (let k : None ≡ Some t = g in cc)) e

either_class : (target : ClassId) (t : Subobject) (a b : Option Subobject) → (a ≡ Some t → class_of t ≡ Some target) → (b ≡ Some t → class_of t ≡ Some target) → or_else a b ≡ Some t → class_of t ≡ Some target
either_class target t None b f g e = g e
either_class target t (Some s) b f g e = f e

cast_class : (h : Classes) (target : ClassId) (x y t : Subobject) → cast_in h target x y ≡ Some t → class_of t ≡ Some target
cast_class h target x y t e = either_class target t (cast_down h target x y) (cast_across h target x y) (down_class h target x y t) (across_class h target x y t) e

found_to : (p : ObjectPart) (d : ClassId) (o : Option Subobject) → ((t : Subobject) → o ≡ Some t → class_of t ≡ Some d) → (other : Value) → IsTo other d → IsTo (value_or p other o) d
found_to p d None f other a = a
found_to p d (Some t) f other a = f t refl

view_to : (h : Classes) (d : ClassId) (p : ObjectPart) (o : Option Subobject) → IsTo (view_cast h d p o) d
view_to h d p None = tt
view_to h d p (Some x) = split (is_within h x p.at) (λ b. IsTo (if b then value_or p Null (cast_in h d x p.at) else Unset) d) (λ _. found_to p d (cast_in h d x p.at) (cast_class h d x p.at) Null tt) (λ _. tt)

derived_to : (h : Classes) (s : Objects) (p : ObjectPart) (d : ClassId) (i t : Subobject) → derived_of h s d i p ≡ Some t → class_of t ≡ Some d
derived_to h s p d i t e = of_class d (class_of t) (both_left (is_of_class d t) (same_subobject (join t i) p.at) (find_passes (λ (x : Subobject). is_of_class d x && same_subobject (join x i) p.at) (preorder_of h (class_of_owner h s p)) t e).1)

pub cast_to : (h : Classes) (s : Objects) (cast : TypedCast) (c d : ClassId) → Casts h c cast d → (v : Value) → IsTo v c → IsTo (cast_value h s cast v) d
cast_to h s _ _ _ (cast_same c) v a = a
cast_to h s _ _ _ (cast_up c d i b) Unset a = tt
cast_to h s _ _ _ (cast_up c d i b) (Number z) a = tt
cast_to h s _ _ _ (cast_up c d i b) Null a = tt
cast_to h s _ _ _ (cast_up c d i b) (Pointer p) a = join_class h c p.at i a b.valid ∙ b.class
cast_to h s _ _ _ (down_cast c d i b root known) Unset a = tt
cast_to h s _ _ _ (down_cast c d i b root known) (Number z) a = tt
cast_to h s _ _ _ (down_cast c d i b root known) Null a = tt
cast_to h s _ _ _ (down_cast c d i b root known) (Pointer p) a = found_to p d (derived_of h s d i p) (derived_to h s p d i) Unset tt
cast_to h s _ _ _ (cast_dynamic c d poly known) Unset a = tt
cast_to h s _ _ _ (cast_dynamic c d poly known) (Number z) a = tt
cast_to h s _ _ _ (cast_dynamic c d poly known) Null a = tt
cast_to h s _ _ _ (cast_dynamic c d poly known) (Pointer p) a = view_to h d p (view_of h s p)

-- places

address_to : (h : Classes) (e : Scope) (cs : List ClassId) (place : TypedPlace) (d : ClassId) → IsPlace h e place (Object d) → (v : Value) → IsValue h cs v (PointerType place.class) → IsTo (address_value place d v) d
address_to h e cs place d b Unset a = tt
address_to h e cs place d b (Number z) a = tt
address_to h e cs place d b Null a = tt
address_to h e cs place d b (Pointer q) a = (object_made h cs e place d q a b).of_class

read_to : (h : Classes) (e : Scope) (s : Sight) → IsTypedSight h e s → (place : TypedPlace) (c : ClassId) (v : Value) → ((p : ObjectPart) → v ≡ Pointer p → IsValue h s.objects.classes (s.objects.leaf (leaf_at p place)) (PointerType c)) → IsTo (leaf_value s place v) c
read_to h e s a place c Unset f = tt
read_to h e s a place c (Number z) f = tt
read_to h e s a place c Null f = tt
read_to h e s a place c (Pointer p) f = typed_to h s.objects.classes (s.objects.leaf (leaf_at p place)) c (f p refl)

pub right_to : (h : Classes) (e : Scope) (s : Sight) → IsTypedSight h e s → (r : TypedRight) (u : ValueType ClassId) → HasRight h e r u → (c : ClassId) → u ≡ PointerType c → IsTo (right_side_value h s r) c
right_to h e s a _ _ (an_operand x t has) c is = typed_to h s.objects.classes (value_of_operand s x) c (subst (λ (u : ValueType ClassId). IsValue h s.objects.classes (value_of_operand s x) u) is (operand_typed h e s a x t has))
right_to h e s a _ _ (a_calculation op u t x y left right) c is = absurd (cc)
right_to h e s a _ _ (a_comparison differ x y k left right) c is = tt
right_to h e s a _ _ (a_negation x t has) c is = absurd (cc)
right_to h e s a _ _ (a_read place t b) c is = read_to h e s a place c (value_of_operand s place.pointer) (λ p at.
    subst (λ (u : ValueType ClassId). IsValue h s.objects.classes (s.objects.leaf (leaf_at p place)) u) is
    (a.leaves (leaf_at p place) t (leaf_made h s.objects.classes e place t p (subst (λ (v : Value). IsValue h s.objects.classes v (PointerType place.class)) at (operand_typed h e s a place.pointer (PointerType place.class) b.pointer)) b)))
right_to h e s a _ _ (an_address place d b) c is =
    let same : d ≡ c = cc in
    subst (λ (k : ClassId). IsTo (address_value place d (value_of_operand s place.pointer)) k) same (address_to h e s.objects.classes place d b (value_of_operand s place.pointer) (operand_typed h e s a place.pointer (PointerType place.class) b.pointer))
right_to h e s a _ _ (a_result call f t k ret) c is = tt
right_to h e s a _ _ (an_object k known) c is = tt
right_to h e s a _ _ (a_cast cast x k d has casts) c is =
    let same : d ≡ c = cc in
    subst (λ (j : ClassId). IsTo (cast_value h s.objects cast (value_of_operand s x)) j) same
    (cast_to h s.objects cast k d casts (value_of_operand s x) (typed_to h s.objects.classes (value_of_operand s x) k (operand_typed h e s a x (PointerType k) has)))
right_to h e s a _ _ (a_type_test x k d has poly known) c is = absurd (cc)
