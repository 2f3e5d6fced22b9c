-- The text of a dump, by the values of its leaves.
use Rattle.std.specs.Prelude.{ℕ, ◌<◌, ◌≤◌, Option, Some, None, List, [], ◌∷◌, ◌++◌, codes, length}
use Rattle.std.specs.List.{concat}
use Rattle.std.specs.Fmt.{decimal}
use Rattle.cxx_hierarchy.specs.declared.records.ClassId.{ClassId}
use Rattle.cxx_hierarchy.specs.Classes.{Classes}
use Rattle.abi_sound.specs.Places.{Places}
use Rattle.abi_print.specs.LayoutTexts.{bits_text, declared_class_name, value_type_text as type_text}
use Rattle.abi_inspect.specs.declared.seen.SeenValue.{SeenValue}
use Rattle.abi_inspect.specs.declared.seen.Seen.{Seen}
use Rattle.abi_inspect.specs.declared.slots.LeafLine.{LeafLine}
use Rattle.abi_inspect.specs.declared.slots.Row.{Row}
use Rattle.abi_inspect.specs.declared.slots.Row.TheVariants.{Fixed, Leaf}
use Rattle.abi_inspect.specs.Values.{IsValueOf, most_dumped_number, value_text}
use Rattle.abi_inspect.specs.Rows.{rows_of}

-- a bit-field says its first bit and its width before its value (ISO C++03 9.6)
abbrev pub bits_before : Option ℕ → ℕ → List ℕ
bits_before None first = []
bits_before (Some width) first = bits_text first width ++ codes " "

-- what stands before the value of a leaf in its line: its place, and the bits of a bit-field
abbrev pub before_value : LeafLine → List ℕ
before_value x = decimal x.place ++ codes " " ++ bits_before x.bits.width x.bits.first

-- what stands behind it: its type and its name
abbrev pub behind_value : Classes → LeafLine → List ℕ
behind_value h x = codes " " ++ type_text h x.ty ++ codes " " ++ x.name ++ codes "\n"

-- the line of a leaf that has this value
abbrev pub leaf_line : Classes → LeafLine → SeenValue → List ℕ
leaf_line h x value = before_value x ++ value_text x.bits.width x.ty value ++ behind_value h x

-- the lines of rows, of which the leaves have these values in turn
abbrev pub row_lines : Classes → List Row → List SeenValue → List (List ℕ)
row_lines h [] values = []
row_lines h (Fixed text ∷ rows) values = (text ++ codes "\n") ∷ row_lines h rows values
row_lines h (Leaf x ∷ rows) [] = []
row_lines h (Leaf x ∷ rows) (value ∷ values) = leaf_line h x value ∷ row_lines h rows values

-- there is one value for each leaf, and the leaf can have it
abbrev pub AreValuesOf : List Row → List SeenValue → Type 0
AreValuesOf [] [] = Unit {0}
AreValuesOf [] (value ∷ values) = ⊥
AreValuesOf (Fixed text ∷ rows) values = AreValuesOf rows values
AreValuesOf (Leaf x ∷ rows) [] = ⊥
AreValuesOf (Leaf x ∷ rows) (value ∷ values) = IsValueOf x.bits.width x.ty value × AreValuesOf rows values

-- the number of an object of a class of the hierarchy, and values that its leaves can have
pub record IsFitting (h : Classes) (l : Places) (seen : Seen) : Type 0 where
  pub known : seen.class.0 < length h
  pub low : 1 ≤ seen.object
  pub high : seen.object ≤ most_dumped_number
  pub leaves : AreValuesOf (rows_of h l seen.class) seen.leaves

-- the first line: the number of the object, its class and the size of that
abbrev pub dump_heading : Classes → Places → ℕ → ClassId → List ℕ
dump_heading h l object c = codes "dump #" ++ decimal object ++ codes " " ++ declared_class_name h c ++ codes " " ++ decimal (l.size c) ++ codes "\n"

-- the lines of the dump, each with its line feed
abbrev pub dump_lines : Classes → Places → Seen → List (List ℕ)
dump_lines h l seen = dump_heading h l seen.object seen.class ∷ row_lines h (rows_of h l seen.class) seen.leaves

-- the dump: its first line, and by place the virtual pointers, the leaves and the gaps
abbrev pub dump_of_seen : Classes → Places → Seen → List ℕ
dump_of_seen h l seen = concat (dump_lines h l seen)
