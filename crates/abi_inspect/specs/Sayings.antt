-- What is said of the values of a dump.
use Rattle.std.specs.Prelude.{List, [], ◌∷◌, ◌++◌, codes, ℕ}
use Rattle.std.specs.Fmt.{decimal, signed_decimal}
use Rattle.cxx_hierarchy.specs.Classes.{Classes}
use Rattle.abi_sound.specs.Places.{Places}
use Rattle.abi_print.specs.LayoutTexts.{declared_class_name}
use Rattle.abi_print.specs.Texts.{location_text}
use Rattle.abi_inspect.specs.declared.seen.SeenValue.{SeenValue}
use Rattle.abi_inspect.specs.declared.seen.SeenValue.TheVariants.{Unset, Number, Null, Place}
use Rattle.abi_inspect.specs.declared.seen.Seen.{Seen}
use Rattle.abi_inspect.specs.declared.slots.LeafLine.{LeafLine}
use Rattle.abi_inspect.specs.declared.slots.Row.{Row}
use Rattle.abi_inspect.specs.declared.slots.Row.TheVariants.{Fixed, Leaf}
use Rattle.abi_inspect.specs.Rows.{rows_of}

-- a value: that it is unset, a number in decimal digits, or where a pointer leads
abbrev pub said_value : SeenValue → List ℕ
said_value Unset = codes "unset"
said_value (Number z) = signed_decimal z
said_value Null = codes "null"
said_value (Place number place) = location_text number place

-- a leaf and its value
abbrev pub said_leaf : LeafLine → SeenValue → List ℕ
said_leaf x value = x.name ++ codes " " ++ said_value value ++ codes "\n"

-- the leaves among rows, which have these values in turn
abbrev pub said_leaves : List Row → List SeenValue → List ℕ
said_leaves [] values = []
said_leaves (Fixed text ∷ rows) values = said_leaves rows values
said_leaves (Leaf x ∷ rows) [] = []
said_leaves (Leaf x ∷ rows) (value ∷ values) = said_leaf x value ++ said_leaves rows values

-- the object and its class, and each leaf in the order of the dump
abbrev pub seen_text : Classes → Places → Seen → List ℕ
seen_text h l seen = codes "object " ++ decimal seen.object ++ codes " class " ++ declared_class_name h seen.class ++ codes "\n" ++ said_leaves (rows_of h l seen.class) seen.leaves
