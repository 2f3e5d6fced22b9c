-- Lists of classes in which one stands twice.
use Rattle.std.specs.Prelude.{Bool, false, nat_eq, ◌||◌, List, [], ◌∷◌}
use Rattle.std.specs.List.{list_any}
use Rattle.cxx_hierarchy.specs.declared.records.ClassId.{ClassId}

abbrev pub is_same_class : ClassId → ClassId → Bool
is_same_class c d = nat_eq c.0 d.0

-- some class stands in the list twice
abbrev pub has_repeat : List ClassId → Bool
has_repeat [] = false
has_repeat (c ∷ cs) = list_any (is_same_class c) cs || has_repeat cs
