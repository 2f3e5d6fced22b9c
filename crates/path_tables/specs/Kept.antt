-- The answers that are kept: each is right for every two subobjects of its numbers.
use Rattle.std.specs.Prelude.{◌≡◌, ℕ, Bool, nat_eq, ◌&&◌, Option, Some}
use Rattle.indexmap.specs.IndexMap.{get_by}
use Rattle.cxx_hierarchy.specs.Classes.{Classes, class_by_number}
use Rattle.cxx_subobject.specs.declared.Root.TheVariants.{Whole}
use Rattle.cxx_subobject.specs.declared.Subobject.{Subobject}
use Rattle.cxx_subobject.specs.Subobjects.{class_of, Leads, tail_of}
use Rattle.cxx_overrider.specs.declared.FunctionId.{FunctionId}
use Rattle.cxx_overrider.specs.Overriding.{IsVirtual}
use Rattle.cxx_search.specs.Searches.{final_in, cast_in, is_within}
use Rattle.path_numbers.specs.Numbers.{path_number}
use Rattle.path_tables.specs.declared.finals.FinalAt.{FinalAt}
use Rattle.path_tables.specs.declared.kept.CastKey.{CastKey}
use Rattle.path_tables.specs.declared.kept.CastTable.{CastTable}
use Rattle.path_tables.specs.declared.kept.FinalKey.{FinalKey}
use Rattle.path_tables.specs.declared.kept.FinalTable.{FinalTable}
use Rattle.path_tables.specs.declared.kept.WithinKey.{WithinKey}
use Rattle.path_tables.specs.declared.kept.WithinTable.{WithinTable}
use Rattle.path_tables.specs.declared.kept.DownKey.{DownKey}
use Rattle.path_tables.specs.declared.kept.DownTable.{DownTable}
use Rattle.path_tables.specs.declared.lists.ListTable.{ListTable}
use Rattle.path_tables.specs.declared.parts.PartList.{PartList}
use Rattle.path_tables.specs.Parts.{IsNumbered, IsPartList, number_where_found, numbered_overrider, derived_in}

-- two keys are one
abbrev pub same_cast : CastKey → CastKey → Bool
same_cast a b = nat_eq a.class b.class && (nat_eq a.view b.view && (nat_eq a.source b.source && nat_eq a.target b.target))

-- the answer under a key
abbrev pub kept_cast : CastTable → CastKey → Option (Option ℕ)
kept_cast table key = get_by (same_cast key) table.casts

-- two keys are one
abbrev pub same_final : FinalKey → FinalKey → Bool
same_final a b = nat_eq a.class b.class && (nat_eq a.view b.view && (nat_eq a.source b.source && (nat_eq a.owner b.owner && nat_eq a.index b.index)))

-- the answer under a key
abbrev pub final_of : FinalTable → FinalKey → Option (Option FinalAt)
final_of table key = get_by (same_final key) table.finals

-- two keys are one
abbrev pub same_within : WithinKey → WithinKey → Bool
same_within a b = nat_eq a.class b.class && (nat_eq a.outer b.outer && nat_eq a.inner b.inner)

-- the answer under a key
abbrev pub within_of : WithinTable → WithinKey → Option Bool
within_of table key = get_by (same_within key) table.withins

-- two keys are one
abbrev pub same_down : DownKey → DownKey → Bool
same_down a b = nat_eq a.class b.class && (nat_eq a.source b.source && (nat_eq a.target b.target && nat_eq a.offset b.offset))

-- the answer under a key
abbrev pub down_of : DownTable → DownKey → Option (Option ℕ)
down_of table key = get_by (same_down key) table.downs

-- the list of the class of a number
abbrev pub list_of : ListTable → ℕ → Option PartList
list_of table n = get_by (nat_eq n) table.lists

-- where a cast from y in the view x leads, as a number
abbrev pub IsCastAnswer : Classes → CastKey → Option ℕ → Type 0
IsCastAnswer h key answer = (x y : Subobject) → IsNumbered h (class_by_number key.class) key.view x → IsNumbered h (class_by_number key.class) key.source y → answer ≡ number_where_found h (class_by_number key.class) (cast_in h (class_by_number key.target) x y)

-- the function that a key names
abbrev pub keyed_function : FinalKey → FunctionId
keyed_function key = record { class = class_by_number key.owner; index = key.index }

-- the final overrider of a virtual function of the class of y in the view x, with the number of its subobject
abbrev pub IsFinalAnswer : Classes → FinalKey → Option FinalAt → Type 0
IsFinalAnswer h key answer = (x y : Subobject) → IsNumbered h (class_by_number key.class) key.view x → IsNumbered h (class_by_number key.class) key.source y → class_of y ≡ Some (class_by_number key.owner) → IsVirtual h (keyed_function key)
    → answer ≡ numbered_overrider h (class_by_number key.class) (final_in h x y (keyed_function key))

-- whether y lies in x
abbrev pub IsWithinAnswer : Classes → WithinKey → Bool → Type 0
IsWithinAnswer h key answer = (x y : Subobject) → IsNumbered h (class_by_number key.class) key.outer x → IsNumbered h (class_by_number key.class) key.inner y → answer ≡ is_within h x y

-- the first subobject of the target class whose base i is y, as a number, where a path of this number leads to i
abbrev pub IsDownAnswer : Classes → DownKey → Option ℕ → Type 0
IsDownAnswer h key answer = (y i : Subobject) → IsNumbered h (class_by_number key.class) key.source y → i.root ≡ Whole → Leads h (class_by_number key.target) (tail_of i.path) → path_number h (class_by_number key.target) (tail_of i.path) ≡ key.offset
    → answer ≡ number_where_found h (class_by_number key.class) (derived_in h (class_by_number key.class) (class_by_number key.target) i y)

-- what is kept is right
pub record AreCasts (h : Classes) (table : CastTable) : Type 0 where
  pub right : (key : CastKey) (answer : Option ℕ) → kept_cast table key ≡ Some answer → IsCastAnswer h key answer

pub record AreFinals (h : Classes) (table : FinalTable) : Type 0 where
  pub right : (key : FinalKey) (answer : Option FinalAt) → final_of table key ≡ Some answer → IsFinalAnswer h key answer

pub record AreWithins (h : Classes) (table : WithinTable) : Type 0 where
  pub right : (key : WithinKey) (answer : Bool) → within_of table key ≡ Some answer → IsWithinAnswer h key answer

pub record AreDowns (h : Classes) (table : DownTable) : Type 0 where
  pub right : (key : DownKey) (answer : Option ℕ) → down_of table key ≡ Some answer → IsDownAnswer h key answer

pub record AreLists (h : Classes) (table : ListTable) : Type 0 where
  pub right : (n : ℕ) (list : PartList) → list_of table n ≡ Some list → IsPartList h (class_by_number n) list
