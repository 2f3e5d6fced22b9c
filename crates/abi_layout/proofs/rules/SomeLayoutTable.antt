-- Where the virtual bases of a class lie that subobjects hold.
use Rattle.std.proofs.Common.{◌≡◌, ℕ, ◌+◌, ◌<◌, true, Option, Some, List, length, refl, ap, arith}
use Rattle.cxx_hierarchy.specs.declared.records.ClassId.{ClassId}
use Rattle.cxx_hierarchy.specs.Classes.{Classes}
use Rattle.cxx_hierarchy.specs.Hierarchies.{IsHierarchy}
use Rattle.cxx_subobject.specs.declared.Root.TheVariants.{Whole, Shared}
use Rattle.cxx_subobject.specs.declared.Subobject.{Subobject}
use Rattle.cxx_subobject.specs.Subobjects.{IsSubobject, whole, shared}
use Rattle.cxx_subobject.specs.Preorder.{preorder}
use Rattle.cxx_subobject.proofs.TreeLemmas.{preorder_lists}
use Rattle.abi_primary.specs.declared.Primary.{Primary}
use Rattle.abi_primary.specs.PrimaryBase.{has_primary}
use Rattle.abi_primary.specs.Holder.{holder_of}
use Rattle.abi_primary.proofs.HolderLemmas.{held}
use Rattle.abi_sound.specs.declared.class_layout.ClassLayout.{ClassLayout}
use Rattle.abi_layout.proofs.lists.Lists.{number}
use Rattle.abi_layout.proofs.rules.TableLemmas.{DoesRise, table_exists}
use Rattle.abi_layout.proofs.rules.AgreeingParts.{ArePossible}
use Rattle.abi_layout.proofs.rules.OneLayoutRows.{holder_rises}
use Rattle.abi_layout.proofs.rules.RowPlacesTable.{IsVirtualTable}

-- the holders in an object of class c, by class number
abbrev holders_by : Classes → List Primary → ClassId → ℕ → Option Subobject
holders_by h ps c v = holder_of h ps c (number v)

holders_rise : (h : Classes) (ps : List Primary) (c : ClassId) → IsHierarchy h → ArePossible h (c.0 + 1) ps → DoesRise (holders_by h ps c)
holders_rise h ps c keeps possible = record { rises = λ v t w is root. let f = held h ps c (number v) (preorder h c) (Some t) refl (preorder_lists h c keeps) is in by_root v w t f.0 f.1 root }
  where
    by_root : (v : ℕ) (w : ClassId) (t : Subobject) → IsSubobject h c t → has_primary ps (number v) t ≡ true → t.root ≡ Shared w → v < w.0
    by_root v w _ (whole path leads) has root = let f : Whole ≡ Shared w = root in cc
    by_root v w _ (shared u path has leads) passes root =
        let same : u ≡ w = cc in
        let e : u.0 ≡ w.0 = ap (λ (x : ClassId). x.0) same in
        let lt = holder_rises h ps c (number v) u path keeps possible has leads passes in
        omega arith

-- the places of the virtual bases of a class
pub record HasVirtualTable (h : Classes) (ps : List Primary) (c : ClassId) (rows : List ClassLayout) (old : List ℕ) : Type 0 where
  pub table : List ℕ
  pub is : IsVirtualTable h ps c rows old table

-- whatever the places of those that no subobject holds, the others can be placed
pub virtual_table_exists : (h : Classes) (ps : List Primary) (c : ClassId) (rows : List ClassLayout) (old : List ℕ) → IsHierarchy h → ArePossible h (c.0 + 1) ps → length old ≡ c.0 → HasVirtualTable h ps c rows old
virtual_table_exists h ps c rows old keeps possible size =
    let made = table_exists h rows (holders_by h ps c) c.0 old (holders_rise h ps c keeps possible) size c.0 (omega arith) in
    record {
      table = made.table;
      is = record { held = λ v holder lt is. made.is.held v.0 holder lt (omega arith) is; kept = λ v lt free. made.is.kept v.0 free };
    }
