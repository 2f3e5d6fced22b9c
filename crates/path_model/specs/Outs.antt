-- What a run tells, and how it names parts and leaves from the outside: by hops, the outermost first.
use Rattle.std.specs.Prelude.{Bool, true, false, ℕ, ◌+◌, Option, slice_get, unwrap_or}
use Rattle.cxx_hierarchy.specs.declared.records.ClassId.{ClassId}
use Rattle.cxx_subobject.specs.declared.locations.Location.{Location}
use Rattle.cxx_subobject.specs.Locations.{ObjectPart, hops_of, hops_to_element}
use Rattle.path_model.specs.declared.outs.Value.{Value as Shown}
use Rattle.path_model.specs.declared.outs.Value.TheVariants.{Unset as ShownUnset, Number as ShownNumber, Null as ShownNull, Pointer as ShownPointer}
use Rattle.path_model.specs.declared.outs.DumpLeaf.{DumpLeaf}
use Rattle.path_model.specs.declared.outs.Out.{Out}
use Rattle.path_model.specs.declared.outs.Out.TheVariants.{Call, Built, Ending}
use Rattle.path_model.specs.Values.{Value, Unset, Number, Null, Pointer, Leaf, Objects}

-- a class that is there; what no program within the rules meets is the first one
abbrev pub class_or_first : Option ClassId → ClassId
class_or_first class = unwrap_or class (record { 0 = 0 })

-- the class of a heap object that was made
abbrev pub object_class : Objects → ℕ → ClassId
object_class s k = class_or_first (slice_get s.classes k)

-- the heap objects are numbered from 1
abbrev pub location_of : Objects → ObjectPart → Location
location_of s p = record { object = p.object + 1; class = object_class s p.object; hops = hops_of p.owner p.at }

-- a leaf, from the outside
abbrev pub leaf_location : Objects → Leaf → Location
leaf_location s l = record { object = l.part.object + 1; class = object_class s l.part.object; hops = hops_to_element l.part.owner l.part.at l.member l.index }

-- a value, from the outside
abbrev pub shown : Objects → Value → Shown
shown s Unset = ShownUnset
shown s (Number z) = ShownNumber z
shown s Null = ShownNull
shown s (Pointer p) = ShownPointer (location_of s p)

-- a line of a dump
abbrev pub dump_leaf : Objects → Leaf → DumpLeaf
dump_leaf s l = record { at = leaf_location s l; value = shown s (s.leaf l) }

-- calls, and the ends of constructions and begins of destructions, are told in a trace alone
abbrev pub is_traced : Out → Bool
is_traced (Call f at) = true
is_traced (Built c at) = true
is_traced (Ending c at) = true
is_traced other = false
