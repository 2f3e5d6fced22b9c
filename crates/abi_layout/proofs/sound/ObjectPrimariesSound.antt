-- The primary bases of a laid hierarchy are sound: each is a dynamic base, and lies where its class does or where its holder does.
use Rattle.std.proofs.Common.{◌≡◌, ◌<◌, Bool, Option, Some, None, List, length, refl, ap, sym, ◌∙◌, arith}
use Rattle.std.specs.List.{find}
use Rattle.cxx_hierarchy.specs.declared.records.ClassId.{ClassId}
use Rattle.cxx_hierarchy.specs.Classes.{Classes}
use Rattle.cxx_hierarchy.specs.Hierarchies.{IsHierarchy}
use Rattle.cxx_hierarchy.specs.VirtualBases.{HasVirtualBase}
use Rattle.cxx_subobject.specs.declared.Subobject.{Subobject}
use Rattle.cxx_subobject.specs.Subobjects.{IsSubobject, class_of}
use Rattle.cxx_subobject.specs.Preorder.{preorder}
use Rattle.cxx_subobject.proofs.TreeLemmas.{has_preorder}
use Rattle.abi_primary.specs.declared.Primary.{Primary}
use Rattle.abi_primary.specs.declared.Primary.TheVariants.{Direct, Virtual}
use Rattle.abi_primary.specs.PrimaryBase.{is_virtual_primary, has_primary_in, has_primary}
use Rattle.abi_sound.specs.declared.class_layout.ClassLayout.{ClassLayout}
use Rattle.abi_sound.proofs.PrimaryParts.{IsPrimaryPart, by_direct, by_holder}
use Rattle.abi_sound.proofs.PlaceLemmas.{direct_place}
use Rattle.abi_layout.specs.Layouts.{place_in_class, virtual_place, primary_of}
use Rattle.abi_sound.specs.Places.{places_of}
use Rattle.abi_sound.specs.Sound.{is_primary_of}
use Rattle.abi_layout.proofs.algorithm.SettledLemmas.{base_below}
use Rattle.abi_layout.proofs.rules.AgreeingRows.{find_same, class_low}
use Rattle.cxx_subobject.proofs.VirtualBaseLemmas.{virtual_listed}
use Rattle.abi_layout.proofs.sound.ObjectPrimaries.{direct_primary, virtual_primary_of}
use Rattle.abi_layout.proofs.sound.ObjectKnown.{IsLaidOut, row_of}
use Rattle.abi_layout.proofs.sound.ObjectSteps.{virtual_above}
use Rattle.abi_layout.proofs.sound.ObjectStarts.{primary_at_start}
use Rattle.abi_layout.proofs.sound.ObjectChains.{primary_told, holder_told}

-- a subobject of a class of the hierarchy is of one too
pub class_inside : (h : Classes) (c : ClassId) (s : Subobject) (d : ClassId) → IsHierarchy h → c.0 < length h → IsSubobject h c s → class_of s ≡ Some d → d.0 < length h
class_inside h c s d keeps lt valid class = let low = class_low h c s d keeps valid class in omega arith

-- a primary base lies where its subobject does
pub primary_place : (h : Classes) (rows : List ClassLayout) (nearly : List Bool) (ps : List Primary) → IsLaidOut h rows nearly ps → (c : ClassId) (s t : Subobject) → c.0 < length h → IsSubobject h c s → IsPrimaryPart (places_of h rows) c s t → place_in_class h rows c t ≡ place_in_class h rows c s
primary_place h rows nearly ps known c _ _ lt valid (by_direct s d b class primary) =
    let inside = class_inside h c s d known.keeps lt valid class in
    let is : primary_of ps d ≡ Direct b = sym (primary_told h rows nearly ps known d inside) ∙ primary in
    let falls = base_below h d b known.keeps (direct_primary h rows nearly ps d b known.laid inside is).0 in
    let at = primary_at_start h rows nearly ps known d b inside falls is in
    let place = direct_place h rows c d b s class in
    omega arith
primary_place h rows nearly ps known c _ _ lt valid (by_holder s d v class primary holder) =
    let inside = class_inside h c s d known.keeps lt valid class in
    let is : primary_of ps d ≡ Virtual v = sym (primary_told h rows nearly ps known d inside) ∙ primary in
    let has = virtual_above h c s d v valid class (virtual_primary_of h rows nearly ps d v known.keeps known.laid inside is).0 in
    let r = row_of h rows nearly ps known c lt in
    let at : virtual_place rows c v ≡ place_in_class h rows c s = r.laid.held v s (virtual_listed h known.keeps c v has) (sym (holder_told h rows nearly ps known c v lt has) ∙ holder) in
    omega arith

-- the test of a holder by the rows is that by the primary bases
holder_test : (h : Classes) (rows : List ClassLayout) (nearly : List Bool) (ps : List Primary) → IsLaidOut h rows nearly ps → (c v : ClassId) (s : Subobject) → c.0 < length h → IsSubobject h c s → has_primary ps v s ≡ is_primary_of (places_of h rows) v (class_of s)
holder_test h rows nearly ps known c v s lt valid = by_class (class_of s) refl
  where
    by_class : (o : Option ClassId) → class_of s ≡ o → has_primary_in ps v o ≡ is_primary_of (places_of h rows) v o
    by_class None e = refl
    by_class (Some d) e = ap (λ (p : Primary). is_virtual_primary p v) (sym (primary_told h rows nearly ps known d (class_inside h c s d known.keeps lt valid e)))

-- the holder of a virtual base is the first subobject whose primary base it is, by the rows
pub holder_first : (h : Classes) (rows : List ClassLayout) (nearly : List Bool) (ps : List Primary) → IsLaidOut h rows nearly ps → (c v : ClassId) → c.0 < length h → HasVirtualBase h c v → (places_of h rows).holder c v ≡ find (λ (s : Subobject). is_primary_of (places_of h rows) v (class_of s)) (preorder h c)
holder_first h rows nearly ps known c v lt has =
    holder_told h rows nearly ps known c v lt has
    ∙ find_same (has_primary ps v) (λ (s : Subobject). is_primary_of (places_of h rows) v (class_of s)) (preorder h c)
    (λ s listed. holder_test h rows nearly ps known c v s lt (has_preorder h c s listed))
