-- Lists of words that grow by what is for some items.
use Rattle.std.specs.Prelude.{◌≡◌, ◌<◌, All, Some, List, ◌++◌, length}
use Rattle.cxx_hierarchy.specs.declared.records.ClassId.{ClassId}
use Rattle.cxx_hierarchy.specs.Classes.{Classes}
use Rattle.cxx_subobject.specs.Subobjects.{class_of}
use Rattle.abi_sound.specs.Places.{Places}
use Rattle.abi_slots.specs.Views.{is_dynamic}
use Rattle.abi_slots.specs.Groups.{GoAlong}
use Rattle.abi_vtable.specs.declared.view.ViewPart.{ViewPart}
use Rattle.abi_slots.specs.declared.words.VttWord.{VttWord}
use Rattle.abi_vtt.specs.Vtts.{VttEntry, IsVttWord}

-- a part of a view whose classes are known
pub record IsKnownPart (h : Classes) (part : ViewPart) : Type 0 where
  pub path : All (λ (c : ClassId). c.0 < length h) part.at.path
  pub class : class_of part.at ≡ Some part.class
  pub known : part.class.0 < length h
  pub dynamic : part.is_dynamic ≡ is_dynamic h part.class

-- the words for these items are put behind the others
pub record GrowsByVttWords (h : Classes) (l : Places) (c : ClassId) (more : List VttEntry) (old new : List VttWord) : Type 0 where
  pub along : (before : List VttEntry) → GoAlong (IsVttWord h l c) before old → GoAlong (IsVttWord h l c) (before ++ more) new

-- of all items those that are left have no word yet
pub record IsGrowing (h : Classes) (l : Places) (c : ClassId) (left all : List VttEntry) (old new : List VttWord) : Type 0 where
  pub made : List VttEntry
  pub grows : GrowsByVttWords h l c made old new
  pub whole : made ++ left ≡ all
