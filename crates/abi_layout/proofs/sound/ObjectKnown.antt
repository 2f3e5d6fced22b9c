-- What a layout of a whole hierarchy says of one class: its row, its primary base, and its virtual bases.
use Rattle.std.proofs.Common.{◌≡◌, ◌<◌, Bool, false, Some, List, length}
use Rattle.cxx_hierarchy.specs.declared.records.ClassId.{ClassId}
use Rattle.cxx_hierarchy.specs.Classes.{Classes}
use Rattle.cxx_hierarchy.specs.Hierarchies.{IsHierarchy}
use Rattle.cxx_hierarchy.specs.VirtualBases.{IsDirectBase, HasVirtualBase}
use Rattle.abi_primary.specs.declared.Primary.{Primary}
use Rattle.abi_primary.specs.declared.Primary.TheVariants.{Direct}
use Rattle.abi_primary.specs.Kinds.{IsDynamic}
use Rattle.abi_sound.specs.declared.class_layout.ClassLayout.{ClassLayout}
use Rattle.abi_layout.specs.Holding.{virtual_primary_base}
use Rattle.abi_layout.specs.Layouts.{primary_of, IsLaidBy}
use Rattle.abi_layout.specs.invariants.Scenes.{AreBefore}
use Rattle.cxx_subobject.proofs.PathLemmas.{virtual_below}
use Rattle.abi_layout.proofs.rules.AgreeingParts.{primary_is_virtual}
use Rattle.abi_layout.proofs.sound.ObjectPrimaries.{HasRow, row_of as row_at, direct_primary, virtual_primary_of, laid_before}

-- the rows are the layout of all classes of a hierarchy
pub record IsLaidOut (h : Classes) (rows : List ClassLayout) (nearly : List Bool) (ps : List Primary) : Type 0 where
  pub keeps : IsHierarchy h
  pub laid : IsLaidBy h (length h) rows nearly ps

pub row_of : (h : Classes) (rows : List ClassLayout) (nearly : List Bool) (ps : List Primary) → IsLaidOut h rows nearly ps → (c : ClassId) → c.0 < length h → HasRow h rows nearly ps c
row_of h rows nearly ps known c lt = row_at h rows nearly ps c known.laid lt

-- a primary base that is virtual is a dynamic virtual base, of a smaller number
pub record IsVirtualPrimary (h : Classes) (d v : ClassId) : Type 0 where
  pub has : HasVirtualBase h d v
  pub dynamic : IsDynamic h v
  pub falls : v.0 < d.0

pub virtual_primary_is : (h : Classes) (rows : List ClassLayout) (nearly : List Bool) (ps : List Primary) → IsLaidOut h rows nearly ps → (d v : ClassId) → d.0 < length h → virtual_primary_base ps d ≡ Some v → IsVirtualPrimary h d v
virtual_primary_is h rows nearly ps known d v lt e =
    let x = virtual_primary_of h rows nearly ps d v known.keeps known.laid lt (primary_is_virtual ps d v e) in
    record { has = x.0; dynamic = x.1; falls = virtual_below h known.keeps d v x.0 }

pub before_of : (h : Classes) (rows : List ClassLayout) (nearly : List Bool) (ps : List Primary) → IsLaidOut h rows nearly ps → AreBefore ps
before_of h rows nearly ps known = laid_before h rows nearly ps known.keeps known.laid

-- a primary base that is direct is a dynamic base that is not virtual
pub record IsDirectPrimary (h : Classes) (d b : ClassId) : Type 0 where
  pub edge : IsDirectBase h d false b
  pub dynamic : IsDynamic h b

pub direct_primary_is : (h : Classes) (rows : List ClassLayout) (nearly : List Bool) (ps : List Primary) → IsLaidOut h rows nearly ps → (d b : ClassId) → d.0 < length h → primary_of ps d ≡ Direct b → IsDirectPrimary h d b
direct_primary_is h rows nearly ps known d b lt e = let x = direct_primary h rows nearly ps d b known.laid lt e in record { edge = x.0; dynamic = x.1 }
