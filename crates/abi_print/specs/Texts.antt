-- The places of subobjects, and the text of a place in an object.
use Rattle.std.specs.Prelude.{ℕ, List, ◌++◌, codes}
use Rattle.std.specs.Fmt.{decimal}
use Rattle.cxx_hierarchy.specs.declared.records.ClassId.{ClassId}
use Rattle.cxx_subobject.specs.declared.Subobject.{Subobject}

-- the place of a subobject in an object of a class, in bytes
abbrev pub PlaceOf : Type 0
PlaceOf = ClassId → Subobject → ℕ

-- `#n+off`: the number of an object, from 1, and a place in it
abbrev pub location_text : ℕ → ℕ → List ℕ
location_text number place = codes "#" ++ decimal number ++ codes "+" ++ decimal place
