-- The leaves of an object by its class and a layout: where each lies, with its first bit in the byte there, of which member it is an
-- element, and its name.
use Rattle.std.specs.Prelude.{ℕ, zero, suc, ◌+◌, ◌*◌, Option, Some, None, List, [], ◌++◌, codes, length, map}
use Rattle.std.specs.List.{flat_map, range_with_len}
use Rattle.cxx_hierarchy.specs.declared.records.ClassId.{ClassId}
use Rattle.cxx_hierarchy.specs.declared.records.Member.{Member}
use Rattle.cxx_hierarchy.specs.declared.records.FieldType.{FieldType}
use Rattle.cxx_hierarchy.specs.declared.records.FieldType.TheVariants.{Value, Object}
use Rattle.cxx_hierarchy.specs.Classes.{Classes, members_of}
use Rattle.cxx_hierarchy.specs.Declarations.{elements_of}
use Rattle.cxx_subobject.specs.Subobjects.{class_of}
use Rattle.cxx_subobject.specs.Preorder.{preorder}
use Rattle.abi_sound.specs.Places.{Places, size_of_value}
use Rattle.abi_print.specs.LayoutTexts.{subobject_text}
use Rattle.text_told.specs.Fields.{before_field, element_name_text, member_at}
use Rattle.text_bytes.specs.declared.members.PlacedMember.{PlacedMember}
use Rattle.text_bytes.specs.declared.rows.LeafRow.{LeafRow}

-- the member of a number of class b, in a subobject that lies at a place, with what stands before its name
abbrev pub placed_member : Places → ℕ → List ℕ → ClassId → ℕ → PlacedMember
placed_member l place before b m = record { place = place + l.member b m; first = l.first b m; class = b; number = m; before = before }

-- the members of such a subobject, in order
abbrev pub placed_in : Classes → Places → ℕ → List ℕ → Option ClassId → List PlacedMember
placed_in h l place before None = []
placed_in h l place before (Some b) = map (placed_member l place before b) (range_with_len 0 (length (members_of h b)))

-- the members of all subobjects of an object of class c, in preorder
abbrev pub placed_members : Classes → Places → ClassId → List PlacedMember
placed_members h l c = flat_map (λ s. placed_in h l (l.place c s) (before_field (subobject_text h s)) (class_of s)) (preorder h c)

-- the name of an element of a member
abbrev pub element_name : PlacedMember → Member ClassId → ℕ → List ℕ
element_name x member i = x.before ++ element_name_text (Some member) i

-- an element that is a number or a pointer, of so many bytes
abbrev pub value_row : PlacedMember → Member ClassId → ℕ → ℕ → LeafRow
value_row x member size i = record { place = x.place + i * size; first = x.first; class = x.class; number = x.number; name = element_name x member i }

-- a leaf of an object that is an element of a name, and lies at a place
abbrev pub inner_row : ℕ → List ℕ → LeafRow → LeafRow
inner_row place name row = record { place = place + row.place; first = row.first; class = row.class; number = row.number; name = name ++ codes "." ++ row.name }

-- the leaves of an element that is an object, by those of an object of its class
abbrev pub element_rows : PlacedMember → Member ClassId → ℕ → List LeafRow → ℕ → List LeafRow
element_rows x member size inside i = map (inner_row (x.place + i * size) (element_name x member i)) inside

-- the leaves of a member in its elements, by its type
abbrev pub rows_by_type : Places → (ClassId → List LeafRow) → PlacedMember → Member ClassId → FieldType ClassId → List LeafRow
rows_by_type l inside x member (Value type) = map (value_row x member (size_of_value type)) (range_with_len 0 (elements_of member.count))
rows_by_type l inside x member (Object d) = flat_map (element_rows x member (l.size d) (inside d)) (range_with_len 0 (elements_of member.count))

abbrev pub rows_by_member : Places → (ClassId → List LeafRow) → PlacedMember → Option (Member ClassId) → List LeafRow
rows_by_member l inside x None = []
rows_by_member l inside x (Some member) = rows_by_type l inside x member member.ty

-- the leaves of a placed member
abbrev pub rows_in : Classes → Places → (ClassId → List LeafRow) → PlacedMember → List LeafRow
rows_in h l inside x = rows_by_member l inside x (member_at h (Some x.class) x.number)

-- for classes of numbers below n
abbrev pub rows_within : Classes → Places → ℕ → ClassId → List LeafRow
rows_within h l zero c = []
rows_within h l (suc n) c = flat_map (rows_in h l (rows_within h l n)) (placed_members h l c)

-- the leaves of an object of class c: those of the members of its subobjects in preorder, at any depth. A member object is of a
-- class of a smaller number, so that one step more than the number of c is enough
abbrev pub leaf_rows : Classes → Places → ClassId → List LeafRow
leaf_rows h l c = rows_within h l (c.0 + 1) c
