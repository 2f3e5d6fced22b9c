-- When a path can be followed: each part that it leads through, and each subobject in which it finds a name, has begun.
use Rattle.std.specs.Prelude.{◌≡◌, Some, List, [], ◌∷◌}
use Rattle.cxx_hierarchy.specs.declared.records.ClassId.{ClassId}
use Rattle.cxx_hierarchy.specs.Classes.{Classes}
use Rattle.cxx_subobject.specs.declared.Subobject.{Subobject}
use Rattle.cxx_subobject.specs.Subobjects.{IsSubobject, class_of}
use Rattle.cxx_subobject.specs.Locations.{ObjectPart}
use Rattle.cxx_program.specs.declared.statement.PassedMember.{PassedMember}
use Rattle.cxx_program.specs.Typed.{IsPassed}
use Rattle.path_model.specs.Values.{Objects, inner_part}
use Rattle.path_model.specs.Places.{passed_part}
use Rattle.path_heap.specs.Stands.{HasBegun}

-- the part is of class c and has begun, and so has its subobject i
pub record OpensTo (h : Classes) (s : Objects) (p : ObjectPart) (c : ClassId) (i : Subobject) : Type 0 where
  pub begun : HasBegun s p
  pub of_class : class_of p.at ≡ Some c
  pub valid : IsSubobject h c i
  pub inner_begun : HasBegun s (inner_part p i)

-- the path leads from the part, of class c, to its last name, in the subobject `last`
abbrev pub IsOpen : Classes → Objects → ObjectPart → ClassId → List PassedMember → Subobject → Type 0
IsOpen h s p c [] last = OpensTo h s p c last
IsOpen h s p c (x ∷ rest) last = OpensTo h s p c x.base × IsPassed h c x × IsOpen h s (passed_part p x) x.class rest last
