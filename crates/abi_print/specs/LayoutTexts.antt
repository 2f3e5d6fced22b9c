-- The text of a class's layout.
use Rattle.std.specs.Prelude.{ℕ, zero, suc, Option, Some, None, List, [], ◌∷◌, ◌++◌, codes, slice_get, length}
use Rattle.std.specs.List.{flat_map}
use Rattle.std.specs.Fmt.{decimal}
use Rattle.cxx_hierarchy.specs.declared.records.ClassId.{ClassId}
use Rattle.cxx_hierarchy.specs.declared.records.Member.{Member}
use Rattle.cxx_hierarchy.specs.declared.records.Scalar.{Scalar}
use Rattle.cxx_hierarchy.specs.declared.records.Scalar.TheVariants.{Bool, Char, SChar, UChar, Short, UShort, Int, UInt, Long, ULong, LongLong, ULongLong}
use Rattle.cxx_hierarchy.specs.declared.records.ValueType.{ValueType}
use Rattle.cxx_hierarchy.specs.declared.records.ValueType.TheVariants.{Number, Pointer}
use Rattle.cxx_hierarchy.specs.declared.records.FieldType.{FieldType}
use Rattle.cxx_hierarchy.specs.declared.records.FieldType.TheVariants.{Value, Object}
use Rattle.cxx_hierarchy.specs.Classes.{Class, Classes, class_at, members_of}
use Rattle.cxx_subobject.specs.declared.Root.{Root}
use Rattle.cxx_subobject.specs.declared.Root.TheVariants.{Whole, Shared}
use Rattle.cxx_subobject.specs.declared.Subobject.{Subobject}
use Rattle.cxx_subobject.specs.Subobjects.{tail_of}
use Rattle.cxx_subobject.specs.Preorder.{preorder}
use Rattle.abi_primary.specs.declared.Primary.{Primary}
use Rattle.abi_primary.specs.declared.Primary.TheVariants.{None as NoPrimary, Direct, Virtual}
use Rattle.abi_sound.specs.declared.class_layout.ClassLayout.{ClassLayout}
use Rattle.abi_sound.specs.Places.{first_bit, member_place}

abbrev pub name_in_class : Option Class → List ℕ
name_in_class None = []
name_in_class (Some class) = class.name

-- the name of a class
abbrev pub declared_class_name : Classes → ClassId → List ℕ
declared_class_name h c = name_in_class (class_at h c)

-- the names of classes, each behind a slash
abbrev pub slashed : Classes → List ClassId → List ℕ
slashed h path = flat_map (λ (c : ClassId). 47 ∷ declared_class_name h c) path

-- the names of classes with slashes between
abbrev pub slashed_names : Classes → List ClassId → List ℕ
slashed_names h [] = []
slashed_names h (c ∷ path) = declared_class_name h c ++ slashed h path

abbrev pub path_text : Classes → Root → List ClassId → List ℕ
path_text h Whole path = slashed_names h (tail_of path)
path_text h (Shared v) path = 42 ∷ slashed_names h path

-- a subobject: the names of its path below the whole, or `*` and those from its virtual base on
abbrev pub subobject_text : Classes → Subobject → List ℕ
subobject_text h s = path_text h s.root s.path

abbrev pub scalar_text : Scalar → List ℕ
scalar_text Bool = codes "bool"
scalar_text Char = codes "char"
scalar_text SChar = codes "signed char"
scalar_text UChar = codes "unsigned char"
scalar_text Short = codes "short"
scalar_text UShort = codes "unsigned short"
scalar_text Int = codes "int"
scalar_text UInt = codes "unsigned int"
scalar_text Long = codes "long"
scalar_text ULong = codes "unsigned long"
scalar_text LongLong = codes "long long"
scalar_text ULongLong = codes "unsigned long long"

abbrev pub value_type_text : Classes → ValueType ClassId → List ℕ
value_type_text h (Number t) = scalar_text t
value_type_text h (Pointer c) = declared_class_name h c ++ codes "*"

-- a type as a member of it is written
abbrev pub type_text : Classes → FieldType ClassId → List ℕ
type_text h (Value t) = value_type_text h t
type_text h (Object d) = declared_class_name h d

-- the first bit of a bit-field in the byte at its place, and its width
abbrev pub bits_text : ℕ → ℕ → List ℕ
bits_text first width = codes "bits " ++ decimal first ++ codes " " ++ decimal width

-- how a member lies at its place: in whole bytes, or as a bit-field (ISO C++03 9.6)
abbrev pub kind_text : Option ℕ → ℕ → List ℕ
kind_text None first = codes "field"
kind_text (Some width) first = bits_text first width

abbrev pub length_text : Option ℕ → List ℕ
length_text None = []
length_text (Some n) = codes "[" ++ decimal n ++ codes "]"

abbrev pub primary_text : Classes → Primary → List ℕ
primary_text h NoPrimary = codes "none"
primary_text h (Direct b) = declared_class_name h b
primary_text h (Virtual v) = codes "virtual " ++ declared_class_name h v

-- the class, its numbers, and its primary base
abbrev pub class_text : Classes → ClassId → ClassLayout → List ℕ
class_text h c row =
    codes "class " ++ declared_class_name h c ++ codes " size " ++ decimal row.size ++ codes " align " ++ decimal row.align
    ++ codes " dsize " ++ decimal row.dsize ++ codes " nvsize " ++ decimal row.nvsize ++ codes " nvalign " ++ decimal row.nvalign
    ++ codes "\nprimary " ++ primary_text h row.primary ++ codes "\n"

abbrev pub row_text : Classes → ClassId → Option ClassLayout → List ℕ
row_text h c None = []
row_text h c (Some row) = class_text h c row

-- a base subobject and its place
abbrev pub base_text : Classes → (ClassId → Subobject → ℕ) → ClassId → Subobject → List ℕ
base_text h place c s = decimal (place c s) ++ codes " base " ++ subobject_text h s ++ codes "\n"

-- a member, its place, and the first bit of its value in the byte there
abbrev pub field_text : Classes → ℕ → ℕ → Member ClassId → List ℕ
field_text h place first member = decimal place ++ codes " " ++ kind_text member.width first ++ codes " " ++ type_text h member.ty ++ length_text member.count ++ codes " " ++ member.name ++ codes "\n"

abbrev pub field_in : Classes → ℕ → ℕ → Option (Member ClassId) → List ℕ
field_in h place first None = []
field_in h place first (Some member) = field_text h place first member

-- the first members, as many as are asked for
abbrev pub fields_text : Classes → List ClassLayout → ClassId → ℕ → List ℕ
fields_text h rows c zero = []
fields_text h rows c (suc n) = fields_text h rows c n ++ field_in h (member_place rows c n) (first_bit rows c n) (slice_get (members_of h c) n)

-- all but the whole, which stands first
abbrev pub proper : List Subobject → List Subobject
proper [] = []
proper (s ∷ list) = list

-- the lines of a class whose subobjects are listed: its numbers, its bases, its own members
abbrev pub listed_text : Classes → List ClassLayout → (ClassId → Subobject → ℕ) → ClassId → List Subobject → List ℕ
listed_text h rows place c list =
    row_text h c (slice_get rows c.0)
    ++ flat_map (base_text h place c) (proper list)
    ++ fields_text h rows c (length (members_of h c))

-- the layout of a class by its row and the places of its subobjects, which stand in preorder
abbrev pub layout_text : Classes → List ClassLayout → (ClassId → Subobject → ℕ) → ClassId → List ℕ
layout_text h rows place c = listed_text h rows place c (preorder h c)
