-- Heap objects that lie apart, and what lies in them.
use Rattle.std.specs.Prelude.{◌≡◌, ℕ, ◌+◌, ◌*◌, ◌<◌, ◌≤◌, ◌^◌, Some, List, length, slice_get}
use Rattle.cxx_hierarchy.specs.declared.records.ClassId.{ClassId}
use Rattle.cxx_hierarchy.specs.Classes.{Classes}
use Rattle.cxx_hierarchy.specs.Hierarchies.{IsHierarchy}
use Rattle.abi_sound.specs.declared.class_layout.ClassLayout.{ClassLayout}
use Rattle.abi_sound.specs.Places.{Places, places_of}
use Rattle.abi_sound.specs.Locations.{Span}
use Rattle.abi_sound.specs.Sound.{IsSoundLayout}
use Rattle.agree_parts.specs.Heaps.{Heap}

-- object k is of class c and starts there
pub record IsObject (g : Heap) (k : ℕ) (c : ClassId) (start : ℕ) : Type 0 where
  pub class : slice_get g.classes k ≡ Some c
  pub there : slice_get g.starts k ≡ Some start

-- objects of known classes lie above address 0 and below 2^41, each before the later ones
pub record AreObjectsPlaced (h : Classes) (l : Places) (g : Heap) : Type 0 where
  pub one_each : length g.starts ≡ length g.classes
  pub known : (k : ℕ) (c : ClassId) → slice_get g.classes k ≡ Some c → c.0 < length h
  pub positive : (k : ℕ) (c : ClassId) (start : ℕ) → IsObject g k c start → 0 < start
  pub limit : (k : ℕ) (c : ClassId) (start : ℕ) → IsObject g k c start → start + l.size c < 2 ^ 41
  pub ascending : (i j : ℕ) (c d : ClassId) (first second : ℕ) → i < j → IsObject g i c first → IsObject g j d second → first + l.size c ≤ second

-- they are objects of a hierarchy, by a sound layout of it
pub record AreObjectsLaid (h : Classes) (rows : List ClassLayout) (g : Heap) : Type 0 where
  pub hierarchy : IsHierarchy h
  pub sound : IsSoundLayout h rows
  pub placed : AreObjectsPlaced h (places_of h rows) g

-- the n bytes at an address lie in object k
pub record LieIn (l : Places) (g : Heap) (k at n : ℕ) : Type 0 where
  pub class : ClassId
  pub start : ℕ
  pub object : IsObject g k class start
  pub low : start ≤ at
  pub high : at + n ≤ start + l.size class

-- the bits lie in object k
pub record BitsLieIn (l : Places) (g : Heap) (k : ℕ) (span : Span) : Type 0 where
  pub class : ClassId
  pub start : ℕ
  pub object : IsObject g k class start
  pub low : 8 * start ≤ span.start
  pub high : span.start + span.length ≤ 8 * (start + l.size class)

-- an address at which one more object of class c may be made: each earlier object ends before it
pub record IsFree (h : Classes) (l : Places) (g : Heap) (c : ClassId) (start : ℕ) : Type 0 where
  pub known : c.0 < length h
  pub positive : 0 < start
  pub limit : start + l.size c < 2 ^ 41
  pub above : (k : ℕ) (d : ClassId) (first : ℕ) → IsObject g k d first → first + l.size d ≤ start
