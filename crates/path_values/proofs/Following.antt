-- Where paths lead, step by step.
use Rattle.std.proofs.Common.{◌≡◌, Some, List, [], ◌∷◌, ◌∙◌}
use Rattle.cxx_hierarchy.specs.declared.records.ClassId.{ClassId}
use Rattle.cxx_hierarchy.specs.Classes.{Classes}
use Rattle.cxx_subobject.specs.declared.Subobject.{Subobject}
use Rattle.cxx_subobject.specs.Subobjects.{class_of}
use Rattle.cxx_subobject.specs.Locations.{ObjectPart}
use Rattle.cxx_subobject.proofs.InsideLemmas.{join_class}
use Rattle.cxx_program.specs.declared.statement.PassedMember.{PassedMember}
use Rattle.path_model.specs.Values.{Objects, inner_part}
use Rattle.path_model.specs.Places.{passed_part, end_part}
use Rattle.path_values.specs.Open.{OpensTo, IsOpen}

-- the class of the subobject in which a name is found
pub inner_class : (h : Classes) (s : Objects) (p : ObjectPart) (c d : ClassId) (i : Subobject) → OpensTo h s p c i → class_of i ≡ Some d → class_of (inner_part p i).at ≡ Some d
inner_class h s p c d i o e = join_class h c p.at i o.of_class o.valid ∙ e

-- the last part of a path
pub record Ends (h : Classes) (s : Objects) (p : ObjectPart) (last : Subobject) : Type 0 where
  pub class : ClassId
  pub opens : OpensTo h s p class last

pub ends : (h : Classes) (s : Objects) (p : ObjectPart) (c : ClassId) (passed : List PassedMember) (last : Subobject) → IsOpen h s p c passed last → Ends h s (end_part p passed) last
ends h s p c [] last o = record { class = c; opens = o }
ends h s p c (x ∷ rest) last o = ends h s (passed_part p x) x.class rest last o.2
