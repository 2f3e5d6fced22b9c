-- The order in which the parts of a class are declared (ISO C++03 9.2).
use Rattle.std.specs.Prelude.{◌≡◌, ℕ, Bool, true, false, List, map, filter}
use Rattle.std.specs.List.{list_any, range_with_len}
use Rattle.cxx_hierarchy.specs.declared.records.PartAt.{PartAt}
use Rattle.cxx_hierarchy.specs.declared.records.PartKind.{PartKind}
use Rattle.cxx_hierarchy.specs.declared.records.PartKind.TheVariants.{Member, Function, Constructor, Destructor}

abbrev pub is_member : PartKind → Bool
is_member Member = true
is_member Function = false
is_member Constructor = false
is_member Destructor = false

abbrev pub is_function : PartKind → Bool
is_function Member = false
is_function Function = true
is_function Constructor = false
is_function Destructor = false

abbrev pub is_constructor : PartKind → Bool
is_constructor Member = false
is_constructor Function = false
is_constructor Constructor = true
is_constructor Destructor = false

abbrev pub is_destructor : PartKind → Bool
is_destructor Member = false
is_destructor Function = false
is_destructor Constructor = false
is_destructor Destructor = true

-- the parts of one kind, in their order
abbrev pub parts_of_kind : (PartKind → Bool) → List PartAt → List PartAt
parts_of_kind kind order = filter (λ part. kind part.kind) order

-- whether there is a part of this kind
abbrev pub has_kind : (PartKind → Bool) → List PartAt → Bool
has_kind kind order = list_any (λ part. kind part.kind) order

-- the parts of this kind have the numbers 0, 1, .. below n, in this order
abbrev pub NamesEach : (PartKind → Bool) → List PartAt → ℕ → Type 0
NamesEach kind order n = map (λ part. part.number) (parts_of_kind kind order) ≡ range_with_len 0 n
