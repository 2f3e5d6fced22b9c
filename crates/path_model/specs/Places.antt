-- Where a place leads, and the leaves and class members of a part.
use Rattle.std.specs.Prelude.{ℕ, zero, suc, ◌+◌, Option, Some, None, List, [], ◌∷◌, ◌++◌, length, slice_get, map, option_and_then}
use Rattle.std.specs.Option.{option_map_or}
use Rattle.std.specs.List.{flat_map}
use Rattle.cxx_hierarchy.specs.declared.records.ClassId.{ClassId}
use Rattle.cxx_hierarchy.specs.declared.records.Member.{Member}
use Rattle.cxx_hierarchy.specs.declared.records.FieldType.{FieldType}
use Rattle.cxx_hierarchy.specs.declared.records.FieldType.TheVariants.{Value as ValueField, Object}
use Rattle.cxx_hierarchy.specs.Classes.{Classes, members_of}
use Rattle.cxx_hierarchy.specs.Declarations.{elements_of}
use Rattle.cxx_subobject.specs.Subobjects.{class_of}
use Rattle.cxx_subobject.specs.Preorder.{preorder}
use Rattle.cxx_subobject.specs.Locations.{Step, ObjectPart}
use Rattle.cxx_program.specs.declared.statement.PassedMember.{PassedMember}
use Rattle.cxx_program.specs.declared.statement.TypedPlace.{TypedPlace}
use Rattle.path_plan.specs.Places.{element}
use Rattle.path_plan.specs.Plans.{upto}
use Rattle.path_model.specs.Values.{Value, Unset, Pointer, Leaf, Sight, inner_part}

-- the class member that a path passes through, from a part
abbrev pub passed_part : ObjectPart → PassedMember → ObjectPart
passed_part p x = element (inner_part p x.base) x.member x.index x.class

-- behind all class members of the path
abbrev pub end_part : ObjectPart → List PassedMember → ObjectPart
end_part p [] = p
end_part p (x ∷ rest) = end_part (passed_part p x) rest

-- the leaf to which a place leads from a part
abbrev pub leaf_at : ObjectPart → TypedPlace → Leaf
leaf_at p place = record { part = inner_part (end_part p place.passed) place.base; member = place.member; index = place.index }

-- the value of the leaf, where the pointer names a part
abbrev pub leaf_value : Sight → TypedPlace → Value → Value
leaf_value s place (Pointer p) = s.objects.leaf (leaf_at p place)
leaf_value s place other = Unset

-- the place's own member, of class d
abbrev pub last_passed : TypedPlace → ClassId → PassedMember
last_passed place d = record { base = place.base; member = place.member; index = place.index; class = d }

-- a pointer to the class member that the place is
abbrev pub address_value : TypedPlace → ClassId → Value → Value
address_value place d (Pointer p) = Pointer (end_part p (place.passed ++ last_passed place d ∷ []))
address_value place d other = Unset

-- the class of a member that is an object
abbrev pub object_in : FieldType ClassId → Option ClassId
object_in (ValueField type) = None
object_in (Object d) = Some d

-- the class of the member m of a class
abbrev pub class_within : Classes → Option ClassId → ℕ → Option ClassId
class_within h class m = option_and_then (λ b. option_and_then (λ member. object_in member.ty) (slice_get (members_of h b) m)) class

-- the class of the complete object to which the steps lead, in one of the objects of these classes
abbrev pub owner_class : Classes → List ClassId → ℕ → List Step → Option ClassId
owner_class h classes k [] = slice_get classes k
owner_class h classes k (step ∷ rest) = class_within h (class_of step.base) step.member

-- leaves

-- an element of a member of a part
abbrev pub leaf : ObjectPart → ℕ → ℕ → Leaf
leaf p m i = record { part = p; member = m; index = i }

-- the leaves of a member, by its type: a value has its own, an object those inside it
abbrev pub typed_leaves : (ClassId → ObjectPart → List Leaf) → ObjectPart → ℕ → List ℕ → FieldType ClassId → List Leaf
typed_leaves inside p m indices (ValueField type) = map (leaf p m) indices
typed_leaves inside p m indices (Object d) = flat_map (λ i. inside d (element p m i d)) indices

-- the leaves of a member, in each of its elements
abbrev pub member_leaves : (ClassId → ObjectPart → List Leaf) → ObjectPart → ℕ → Option (Member ClassId) → List Leaf
member_leaves inside p m declared = option_map_or (λ member. typed_leaves inside p m (upto (elements_of member.count)) member.ty) declared []

-- the leaves of the members that the class of a part declares
abbrev pub own_leaves : Classes → (ClassId → ObjectPart → List Leaf) → Option ClassId → ObjectPart → List Leaf
own_leaves h inside class p = option_map_or (λ b. flat_map (λ m. member_leaves inside p m (slice_get (members_of h b) m)) (upto (length (members_of h b)))) class []

-- the leaves of a part, for classes of numbers below n
abbrev pub leaves_within : Classes → ℕ → ClassId → ObjectPart → List Leaf
leaves_within h zero c p = []
leaves_within h (suc n) c p = flat_map (λ i. own_leaves h (leaves_within h n) (class_of i) (inner_part p i)) (preorder h c)

-- the leaves of a part of class c: those of its subobjects in preorder, each virtual base once, and in each the members and
-- elements in order. A member object is of a class of a smaller number, so that one step more than the number of c is enough
abbrev pub leaves_of : Classes → ClassId → ObjectPart → List Leaf
leaves_of h c p = leaves_within h (c.0 + 1) c p
