-- Which subobject holds a virtual base that is a primary base.
use Rattle.std.specs.Prelude.{◌≡◌, true, false, Option, Some, None, List}
use Rattle.std.specs.List.{find}
use Rattle.cxx_hierarchy.specs.declared.records.ClassId.{ClassId}
use Rattle.cxx_hierarchy.specs.Classes.{Classes}
use Rattle.cxx_subobject.specs.declared.Subobject.{Subobject}
use Rattle.cxx_subobject.specs.Subobjects.{IsSubobject}
use Rattle.cxx_subobject.specs.Preorder.{preorder}
use Rattle.abi_primary.specs.declared.Primary.{Primary}
use Rattle.abi_primary.specs.PrimaryBase.{has_primary}

-- the holder of v in c: the first subobject in preorder whose primary base v is
abbrev pub holder_of : Classes → List Primary → ClassId → ClassId → Option Subobject
holder_of h primaries c v = find (has_primary primaries v) (preorder h c)

-- the holder is a subobject of c whose primary base v is, and where there is none, v is that of no subobject of c
abbrev pub IsHeld : Classes → List Primary → ClassId → ClassId → Option Subobject → Type 0
IsHeld h primaries c v None = (s : Subobject) → IsSubobject h c s → has_primary primaries v s ≡ false
IsHeld h primaries c v (Some s) = IsSubobject h c s × (has_primary primaries v s ≡ true)
