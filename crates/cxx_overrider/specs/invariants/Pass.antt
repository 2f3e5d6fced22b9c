-- What the class-meaning pass keeps, and what it has found out.
use Rattle.std.specs.Prelude.{◌<◌, ◌+◌, ◌↔◌, Bool, false, IsTrue, List, length, slice_index_or}
use Rattle.cxx_hierarchy.specs.declared.records.ClassId.{ClassId}
use Rattle.cxx_hierarchy.specs.declared.records.FieldType.{FieldType}
use Rattle.cxx_hierarchy.specs.declared.records.FieldType.TheVariants.{Value, Object}
use Rattle.cxx_hierarchy.specs.declared.stop.Stop.{Stop}
use Rattle.cxx_hierarchy.specs.Classes.{Classes}
use Rattle.cxx_overrider.specs.Overriding.{IsAbstract}
use Rattle.cxx_overrider.specs.Faults.{Spot, IsBefore, Fault}

-- the list tells of its classes which are abstract
pub record TellsAbstract (h : Classes) (list : List Bool) : Type 0 where
  pub each : (c : ClassId) → c.0 < length list → IsTrue (slice_index_or list c.0 false) ↔ IsAbstract h c

-- a member of the type has objects of a class that is marked
abbrev pub is_abstract_object : List Bool → FieldType ClassId → Bool
is_abstract_object list (Value ty) = false
is_abstract_object list (Object d) = slice_index_or list d.0 false

abbrev pub class_after : ClassId → ClassId
class_after c = record { 0 = c.0 + 1 }

-- no condition refuses the hierarchy at a spot before this one
pub record IsFineTo (h : Classes) (at : Spot) : Type 0 where
  pub none : (b : Spot) (stop : Stop) → Fault h b stop → IsBefore b at → ⊥
