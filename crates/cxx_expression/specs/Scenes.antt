-- The variables in scope (ISO C++03 3.3.2, 3.4.1).
use Rattle.std.specs.Prelude.{◌+◌, Bool, Option, List, [], ◌∷◌, ◌++◌, find, length, take, drop}
use Rattle.std.specs.List.{list_any}
use mathlib.Core.List.{reverse}
use Rattle.std.specs.Str.{bytes_eq}
use Rattle.cxx_hierarchy.specs.NameTables.{Text}
use Rattle.cxx_hierarchy.specs.declared.records.ClassId.{ClassId}
use Rattle.cxx_hierarchy.specs.declared.records.ValueType.{ValueType}
use Rattle.cxx_expression.specs.declared.scene.Entry.{Entry}
use Rattle.cxx_expression.specs.declared.scene.Scene.{Scene}

-- the innermost variable of a name
abbrev pub innermost_entry : List Entry → Text → Option Entry
innermost_entry entries name = find (λ (entry : Entry). bytes_eq entry.name name) (reverse entries)

-- the innermost scope has the name
abbrev pub is_taken : Scene → Text → Bool
is_taken s name = list_any (λ (entry : Entry). bytes_eq entry.name name) (drop s.start s.entries)

-- one more variable in the innermost scope
abbrev pub with_variable : Scene → Text → ValueType ClassId → Scene
with_variable s name ty = record {
  entries = s.entries ++ (record { name = name; number = length s.types; ty = ty }) ∷ [];
  start = s.start;
  types = s.types ++ ty ∷ [];
  declared = s.declared + 1;
}

-- a scope is opened inside
abbrev pub opened : Scene → Scene
opened s = record { entries = s.entries; start = length s.entries; types = s.types; declared = s.declared }

-- behind a block: the scopes that were open before it
abbrev pub closed : Scene → Scene → Scene
closed before s = record { entries = take (length before.entries) s.entries; start = before.start; types = s.types; declared = s.declared }
