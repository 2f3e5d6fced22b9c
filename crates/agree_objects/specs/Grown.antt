-- One heap object more: what was made is made, and lies where it lay.
use Rattle.std.specs.Prelude.{◌≡◌, ℕ, Some, List, [], ◌∷◌, slice_get}
use Rattle.cxx_hierarchy.specs.declared.records.ClassId.{ClassId}
use Rattle.cxx_hierarchy.specs.declared.records.ValueType.{ValueType}
use Rattle.cxx_hierarchy.specs.Classes.{Classes}
use Rattle.cxx_subobject.specs.Locations.{ObjectPart}
use Rattle.path_model.specs.Values.{Value}
use Rattle.path_model.specs.States.{RunningBody as Body, Frame as PathFrame, InBody, InPlan}
use Rattle.path_model.specs.TypedStates.{IsPartMade, IsValue}
use Rattle.agree_parts.specs.Heaps.{Heap}
use Rattle.agree_parts.specs.Addresses.{address}
use Rattle.agree_relation.specs.Worlds.{World, world_classes, places_in}
use Rattle.agree_relation.specs.Words.{register_word}

-- each object that was made is there, each part lies where it lay, and each value has the word that it had
pub record HeapGrows (w : World) (g g' : Heap) : Type 0 where
  pub object : (k : ℕ) (c : ClassId) → slice_get g.classes k ≡ Some c → slice_get g'.classes k ≡ Some c
  pub same : (p : ObjectPart) (c : ClassId) → IsPartMade (world_classes w) g.classes p c → address (world_classes w) (places_in w) g' p ≡ address (world_classes w) (places_in w) g p
  pub word : (v : Value) (t : ValueType ClassId) → IsValue (world_classes w) g.classes v t → register_word w g' v ≡ register_word w g v

-- a value of some type
abbrev pub HasSomeType : Classes → List ClassId → Value → Type 0
HasSomeType h classes v = (t : ValueType ClassId) × IsValue h classes v t

-- a body holds values of types
pub record HoldsTypedValues (h : Classes) (classes : List ClassId) (f : Body) : Type 0 where
  pub this : HasSomeType h classes f.this
  pub local : (n : ℕ) (v : Value) → slice_get f.locals n ≡ Some v → HasSomeType h classes v

-- so does each body of these frames
abbrev pub AreHeld : Classes → List ClassId → List PathFrame → Type 0
AreHeld h classes [] = Unit {0}
AreHeld h classes (InBody f ∷ below) = HoldsTypedValues h classes f × AreHeld h classes below
AreHeld h classes (InPlan p ∷ below) = AreHeld h classes below
