-- What is kept of each class, once for a program.
use Rattle.std.specs.Prelude.{◌≡◌, ◌≤◌, ℕ, Bool, true, Some, List, ◌∷◌, length, slice_get}
use Rattle.cxx_hierarchy.specs.declared.records.ClassId.{ClassId}
use Rattle.cxx_hierarchy.specs.Classes.{Classes}
use Rattle.cxx_hierarchy.specs.VirtualBases.{HasVirtualBase}
use Rattle.cxx_subobject.specs.Subobjects.{Leads, last_of}
use Rattle.abi_primary.specs.Kinds.{TellDynamic}
use Rattle.abi_sound.specs.Places.{Places}
use Rattle.abi_slots.specs.Views.{is_dynamic}
use Rattle.abi_vtt.specs.Vtts.{has_vtt, ends_in_primary}
use Rattle.abi_vtt.specs.Blocks.{block_length}
use Rattle.code_plans.specs.declared.class_tables.ClassTables.{ClassTables}

-- the number of each class with virtual bases, by its number, is that of the words of its sub-VTT
pub record AreBlocks (h : Classes) (l : Places) (blocks : List ℕ) : Type 0 where
  pub few : length blocks ≤ length h
  pub each : (n m : ℕ) → slice_get blocks n ≡ Some m → has_vtt h (record { 0 = n }) ≡ true → m ≡ block_length h l (record { 0 = n })

-- no base of class c has a virtual pointer of its own: c has no virtual base, and each dynamic base is the primary base of the subobject that directly derives it
pub record IsLone (h : Classes) (l : Places) (c : ClassId) : Type 0 where
  pub none_virtual : (v : ClassId) → HasVirtualBase h c v → ⊥
  pub all_primary : (b : ClassId) (path : List ClassId) → Leads h c (b ∷ path) → is_dynamic h (last_of b path) ≡ true → ends_in_primary l (c ∷ b ∷ path) ≡ true

-- a flag is set only where no base of its class has a virtual pointer of its own
pub record TellLone (h : Classes) (l : Places) (flags : List Bool) : Type 0 where
  pub each : (n : ℕ) → slice_get flags n ≡ Some true → IsLone h l (record { 0 = n })

-- they are kept of all classes
pub record AreKeptTables (h : Classes) (l : Places) (tables : ClassTables) : Type 0 where
  pub flags : TellDynamic h tables.dynamic
  pub lone : TellLone h l tables.lone
  pub one_block_each : length tables.blocks ≡ length h
  pub blocks : AreBlocks h l tables.blocks
