-- A table that numbers names by their first places in a list.
use Rattle.std.specs.Prelude.{◌≡◌, ℕ, Bool, Option, is_some, List}
use Rattle.std.specs.List.{position_from}
use Rattle.std.specs.Str.{bytes_eq}
use Rattle.indexmap.specs.IndexMap.{get_by}
use Rattle.cxx_hierarchy.specs.declared.names.NameTable.{NameTable}

-- the bytes of a name
abbrev pub Text : Type 0
Text = List ℕ

-- the first place of a name in a list of names
abbrev pub place_in : List Text → Text → Option ℕ
place_in names name = position_from (bytes_eq name) 0 names

-- the number that the table has for a name
abbrev pub number_in : NameTable → Text → Option ℕ
number_in table name = get_by (λ key. bytes_eq name key.items) table.numbers

-- the table has each of the names with its first place, and no other name
pub record Numbers (table : NameTable) (names : List Text) : Type 0 where
  pub places : (name : Text) → number_in table name ≡ place_in names name

-- whether the name is one of these
abbrev pub is_in : List Text → Text → Bool
is_in names name = is_some (place_in names name)

-- the table has these names, and no other
pub record HoldsNames (table : NameTable) (names : List Text) : Type 0 where
  pub has : (name : Text) → is_some (number_in table name) ≡ is_in names name
