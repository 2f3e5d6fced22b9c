-- The virtual bases of a class, in the order of its subobjects (ISO C++03 10.1).
use Rattle.std.specs.Prelude.{Option, Some, None, List, [], ◌∷◌}
use Rattle.std.specs.List.{filter_map}
use Rattle.cxx_hierarchy.specs.declared.records.ClassId.{ClassId}
use Rattle.cxx_hierarchy.specs.Classes.{Classes}
use Rattle.cxx_subobject.specs.declared.Root.{Root}
use Rattle.cxx_subobject.specs.declared.Root.TheVariants.{Whole, Shared}
use Rattle.cxx_subobject.specs.declared.Subobject.{Subobject}
use Rattle.cxx_subobject.specs.Preorder.{preorder}

abbrev pub shared_at : Root → List ClassId → Option ClassId
shared_at Whole path = None
shared_at (Shared v) [] = None
shared_at (Shared v) (c ∷ []) = Some v
shared_at (Shared v) (c ∷ d ∷ path) = None

-- the virtual base that a subobject is, itself
abbrev pub shared_class : Subobject → Option ClassId
shared_class s = shared_at s.root s.path

-- the virtual bases of c, in preorder
abbrev pub virtual_bases : Classes → ClassId → List ClassId
virtual_bases h c = filter_map shared_class (preorder h c)
