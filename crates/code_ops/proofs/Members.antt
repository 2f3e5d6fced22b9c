-- The classes of members and of subobjects are known.
use Rattle.std.proofs.Common.{◌≡◌, ◌<◌, ℕ, List, Some, length, arith}
use Rattle.std.specs.Prelude.{slice_get}
use Rattle.cxx_hierarchy.specs.declared.records.ClassId.{ClassId}
use Rattle.cxx_hierarchy.specs.declared.records.Member.{Member}
use Rattle.cxx_hierarchy.specs.declared.records.FieldType.TheVariants.{Object}
use Rattle.cxx_hierarchy.specs.Classes.{Classes, members_of}
use Rattle.cxx_hierarchy.specs.Hierarchies.{IsHierarchy}
use Rattle.cxx_subobject.specs.declared.Subobject.{Subobject}
use Rattle.cxx_subobject.specs.Subobjects.{class_of}
use Rattle.cxx_subobject.proofs.PathLemmas.{class_low}
use Rattle.abi_sound.specs.declared.class_layout.ClassLayout.{ClassLayout}
use Rattle.abi_sound.specs.Sound.{IsSoundLayout}
use Rattle.foundation.proofs.Places.{contains_at}
use Rattle.code_ops.specs.invariants.Fits.{FitsBase}

-- the class of a member object has a row
pub object_known : (h : Classes) (rows : List ClassLayout) → IsHierarchy h → IsSoundLayout h rows → (d e : ClassId) (m : ℕ) (member : Member ClassId) → d.0 < length h → slice_get (members_of h d) m ≡ Some member → member.ty ≡ Object e → e.0 < length rows
object_known h rows keeps sound d e m member known there is =
    let low : e.0 < d.0 = keeps.objects d e member (contains_at (members_of h d) m member there) is in
    let all : length rows ≡ length h = sound.full.one_each in omega arith

-- the class of a subobject
pub class_known : (h : Classes) → IsHierarchy h → (c d : ClassId) (s : Subobject) → FitsBase h c s → class_of s ≡ Some d → d.0 < length h
class_known h keeps c d s fits is = let low = class_low h keeps c d s fits.valid is in let known = fits.known in omega arith
