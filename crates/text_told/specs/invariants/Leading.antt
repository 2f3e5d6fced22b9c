-- Hops from what is of a class, where there is one.
use Rattle.std.specs.Prelude.{◌<◌, Option, Some, None, List, [], ◌∷◌, length}
use Rattle.cxx_hierarchy.specs.declared.records.ClassId.{ClassId}
use Rattle.cxx_hierarchy.specs.Classes.{Classes}
use Rattle.cxx_subobject.specs.declared.locations.Hop.{Hop}
use Rattle.cxx_subobject.specs.declared.locations.Hop.TheVariants.{Inherit, Member as MemberHop}
use Rattle.cxx_subobject.specs.declared.Subobject.{Subobject}
use Rattle.cxx_subobject.specs.Subobjects.{IsSubobject, class_of}
use Rattle.abi_sound.specs.Locations.{element_class}

-- the class is one of the hierarchy, where there is one
abbrev pub IsKnownClass : Classes → Option ClassId → Type 0
IsKnownClass h None = Unit {0}
IsKnownClass h (Some c) = c.0 < length h

-- the subobject is one of the class, which is known, where there is one
abbrev pub IsBaseOf : Classes → Option ClassId → Subobject → Type 0
IsBaseOf h None s = Unit {0}
IsBaseOf h (Some c) s = (c.0 < length h) × IsSubobject h c s

-- each hop into a base goes from a known class into a subobject of it, and each hop into a member goes from a known class
abbrev pub AreKnownHops : Classes → Option ClassId → List Hop → Type 0
AreKnownHops h c [] = Unit {0}
AreKnownHops h c (Inherit s ∷ hops) = IsBaseOf h c s × AreKnownHops h (class_of s) hops
AreKnownHops h c (MemberHop m i ∷ hops) = IsKnownClass h c × AreKnownHops h (element_class h c m) hops
