-- A class that the table does not flag has no virtual base.
use Rattle.std.proofs.Common.{◌≡◌, ◌<◌, Bool, false, List, length, subst, arith}
use Rattle.std.specs.Prelude.{slice_index_or}
use Rattle.cxx_hierarchy.specs.declared.records.ClassId.{ClassId}
use Rattle.cxx_hierarchy.specs.Classes.{Classes}
use Rattle.cxx_hierarchy.specs.VirtualBases.{HasVirtualBase}
use Rattle.cxx_subobject.proofs.VirtualFlagLemmas.{no_virtual_bases}
use Rattle.cxx_overrider.specs.declared.tables.Tables.{Tables}
use Rattle.cxx_overrider.specs.invariants.Tables.{AreTables}

pub table_no_virtual_bases : (h : Classes) (tables : Tables) (flags : List Bool) (c : ClassId) (flag : Bool) → AreTables h tables → c.0 < length h → flags ≡ tables.with_virtual.items → flag ≡ slice_index_or flags c.0 false → flag ≡ false → (v : ClassId) → HasVirtualBase h c v → ⊥
table_no_virtual_bases h tables flags c flag are known same is no_flag v has =
    let all = are.all_with_virtual in
    no_virtual_bases h tables.with_virtual.items c v flag are.with_virtual (omega arith) (subst (λ (x : List Bool). flag ≡ slice_index_or x c.0 false) same is) no_flag has
