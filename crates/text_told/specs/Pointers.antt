-- The virtual pointers of an object (Itanium C++ ABI 2.5).
use Rattle.std.specs.Prelude.{ℕ, zero, suc, ◌+◌, ◌*◌, Option, List, [], ◌∷◌, ◌++◌, map, length, slice_get}
use Rattle.std.specs.Option.{option_map_or}
use Rattle.std.specs.List.{flat_map, range_with_len}
use Rattle.cxx_hierarchy.specs.declared.records.ClassId.{ClassId}
use Rattle.cxx_hierarchy.specs.declared.records.Member.{Member}
use Rattle.cxx_hierarchy.specs.declared.records.FieldType.{FieldType}
use Rattle.cxx_hierarchy.specs.declared.records.FieldType.TheVariants.{Value, Object}
use Rattle.cxx_hierarchy.specs.Classes.{Classes, members_of}
use Rattle.cxx_hierarchy.specs.Declarations.{elements_of}
use Rattle.cxx_subobject.specs.declared.Subobject.{Subobject}
use Rattle.cxx_subobject.specs.Subobjects.{class_of}
use Rattle.cxx_subobject.specs.Preorder.{preorder}
use Rattle.abi_sound.specs.Places.{Places}
use Rattle.abi_slots.specs.Views.{heads, whole_view}
use Rattle.text_told.specs.declared.pointers.TablePointer.{TablePointer}
use Rattle.text_told.specs.declared.pointers.MemberObjects.{MemberObjects}

-- the virtual pointer of a subobject of class c points to the table of that subobject
abbrev pub table_pointer_at : Places → ClassId → Subobject → TablePointer
table_pointer_at l c s = record { place = l.place c s; class = class_of s; in_object = l.place c s; object = c }

-- the pointers of a complete object itself: one for each table of its class
abbrev pub own_pointers : Classes → Places → ClassId → List TablePointer
own_pointers h l c = map (table_pointer_at l c) (heads h l (whole_view c))

abbrev pub objects_by_type : ℕ → ℕ → FieldType ClassId → List MemberObjects
objects_by_type place count (Value type) = []
objects_by_type place count (Object d) = record { class = d; place = place; count = count } ∷ []

abbrev pub objects_by_member : ℕ → Option (Member ClassId) → List MemberObjects
objects_by_member place declared = option_map_or (λ member. objects_by_type place (elements_of member.count) member.ty) declared []

-- the members that are objects, of a subobject that lies at a place
abbrev pub objects_in : Classes → Places → ℕ → Option ClassId → List MemberObjects
objects_in h l place class = option_map_or (λ b. flat_map (λ m. objects_by_member (place + l.member b m) (slice_get (members_of h b) m)) (range_with_len 0 (length (members_of h b)))) class []

-- the members that are objects, of all subobjects of an object of class c
abbrev pub member_objects : Classes → Places → ClassId → List MemberObjects
member_objects h l c = flat_map (λ s. objects_in h l (l.place c s) (class_of s)) (preorder h c)

-- the same pointer, of an object that lies so much further
abbrev pub moved_pointer : ℕ → TablePointer → TablePointer
moved_pointer by p = record { place = by + p.place; class = p.class; in_object = p.in_object; object = p.object }

-- the pointers in each element of a member, by those in an object of its class
abbrev pub pointers_in : Places → (ClassId → List TablePointer) → MemberObjects → List TablePointer
pointers_in l inside x = flat_map (λ i. map (moved_pointer (x.place + i * l.size x.class)) (inside x.class)) (range_with_len 0 x.count)

-- for classes of numbers below n
abbrev pub pointers_within : Classes → Places → ℕ → ClassId → List TablePointer
pointers_within h l zero c = []
pointers_within h l (suc n) c = own_pointers h l c ++ flat_map (pointers_in l (pointers_within h l n)) (member_objects h l c)

-- the virtual pointers of an object of class c: its own, and those of the objects that are members of it, at any depth. A
-- member object is of a class of a smaller number, so that one step more than the number of c is enough
abbrev pub pointers_of : Classes → Places → ClassId → List TablePointer
pointers_of h l c = pointers_within h l (c.0 + 1) c
