-- The places of virtual bases by the table, and what the virtual bases' places in a row leave as it was.
use Rattle.std.proofs.Common.{◌≡◌, ℕ, zero, suc, ◌+◌, ◌<◌, Bool, Option, Some, None, List, [], ◌∷◌, ◌++◌, map, length, get_or, refl, ap, sym, ◌∙◌, arith}
use Rattle.std.specs.Prelude.{Contains, filter, position, nat_eq}
use Rattle.std.specs.Option.{option_map}
use Rattle.std.specs.List.{slice_get}
use Rattle.std.proofs.lemmas.Bool.{eq-eqb, eqb-true}
use Rattle.std.proofs.lemmas.Option.{slice_get-map, get_or_from_slice_get}
use Rattle.std.proofs.lemmas.List.Elements.{All-contains}
use Rattle.cxx_hierarchy.specs.declared.records.ClassId.{ClassId}
use Rattle.cxx_hierarchy.specs.declared.records.Base.{Base}
use Rattle.cxx_hierarchy.specs.Classes.{Classes, bases_of}
use Rattle.cxx_hierarchy.specs.Hierarchies.{IsHierarchy}
use Rattle.cxx_subobject.specs.declared.Subobject.{Subobject}
use Rattle.cxx_subobject.specs.Subobjects.{IsSubobject, whole, shared}
use Rattle.cxx_subobject.specs.Preorder.{preorder}
use Rattle.cxx_subobject.proofs.ListLemmas.{contains_from_has}
use Rattle.cxx_subobject.proofs.TreeLemmas.{preorder_lists}
use Rattle.abi_primary.specs.declared.Primary.{Primary}
use Rattle.abi_primary.specs.Holder.{holder_of}
use Rattle.abi_primary.proofs.HolderLemmas.{held}
use Rattle.abi_sound.specs.declared.class_layout.ClassLayout.{ClassLayout}
use Rattle.cxx_hierarchy.specs.Declarations.{is_plain_base}
use Rattle.abi_sound.specs.Places.{nth_place, place_or_zero, base_places_in, direct_base_place, place_along}
use Rattle.cxx_subobject.specs.VirtualBases.{virtual_bases}
use Rattle.cxx_subobject.proofs.VirtualBaseLemmas.{virtual_listed}
use Rattle.abi_layout.specs.Holding.{AreHolders}
use Rattle.abi_layout.specs.invariants.Settled.{place_by, held_at, AreSettled}
use Rattle.abi_layout.specs.Layouts.{virtual_places_in, virtual_bases_in, virtual_place, place_from, place_in_class}
use Rattle.abi_layout.specs.invariants.Scenes.{TellsHolders}
use Rattle.abi_layout.proofs.lists.Lists.{get_within}
use Rattle.abi_layout.proofs.algorithm.Searches.{first_that, position_is}
use Rattle.abi_layout.proofs.rules.KindLemmas.{has_of}
use Rattle.abi_layout.proofs.algorithm.SceneLemmas.{holder_below, holder_is, holder_is_none}
use Rattle.abi_layout.proofs.algorithm.PlacedClassLemmas.{virtuals_below}
pub use Rattle.foundation.proofs.Chosen.{has_filter_map}
pub use Rattle.foundation.proofs.Members.{map_same as map_agrees}

-- what the virtual bases' places in the last row leave: the places of direct bases, and along paths
bases_stay : (before : List ClassLayout) (r s : ClassLayout) → r.base_places ≡ s.base_places → (i : ℕ) → base_places_in (slice_get (before ++ r ∷ []) i) ≡ base_places_in (slice_get (before ++ s ∷ []) i)
bases_stay [] r s e zero = e
bases_stay [] r s e (suc i) = refl
bases_stay (x ∷ before) r s e zero = refl
bases_stay (x ∷ before) r s e (suc i) = bases_stay before r s e i

along_stays : (h : Classes) (before : List ClassLayout) (r s : ClassLayout) → r.base_places ≡ s.base_places → (d : ClassId) (path : List ClassId) → place_along h (before ++ r ∷ []) d path ≡ place_along h (before ++ s ∷ []) d path
along_stays h before r s e d [] = refl
along_stays h before r s e d (b ∷ path) =
    ap (λ ps. nth_place ps (position (λ (base : Base ClassId). nat_eq base.class.0 b.0) (filter is_plain_base (bases_of h d))) + place_along h (before ++ r ∷ []) b path) (bases_stay before r s e d.0)
    ∙ ap (λ n. direct_base_place h (before ++ s ∷ []) d b + n) (along_stays h before r s e b path)

pub from_stays : (h : Classes) (before : List ClassLayout) (r s : ClassLayout) → r.base_places ≡ s.base_places → (path : List ClassId) → place_from h (before ++ r ∷ []) path ≡ place_from h (before ++ s ∷ []) path
from_stays h before r s e [] = refl
from_stays h before r s e (d ∷ path) = along_stays h before r s e d path

-- the place of a virtual base by the table
pub virtual_place_is : (h : Classes) (rows : List ClassLayout) (c : ClassId) (row : ClassLayout) (table : List ℕ) → slice_get rows c.0 ≡ Some row → row.virtual_bases ≡ virtual_bases h c → row.virtual_places ≡ map (λ (v : ClassId). get_or table v.0 0) (virtual_bases h c) → (v : ClassId) → Contains (virtual_bases h c) v → virtual_place rows c v ≡ get_or table v.0 0
virtual_place_is h rows c row table there bases are v has =
    let p : ClassId → Bool = λ w. nat_eq w.0 v.0 in
    let vs = virtual_bases h c in
    let first = first_that p vs v (has_of vs v has) (eq-eqb v.0 v.0 refl) in
    let same : first.item.0 ≡ v.0 = eqb-true first.item.0 v.0 first.passes in
    ap (λ (o : Option ClassLayout). nth_place (virtual_places_in o) (position p (virtual_bases_in o))) there
    ∙ (ap (λ (ws : List ClassId). nth_place row.virtual_places (position p ws)) bases
    ∙ (ap (λ ps. nth_place ps (position p vs)) are
    ∙ (ap (nth_place (map (λ (w : ClassId). get_or table w.0 0) vs)) (position_is p vs first)
    ∙ (ap place_or_zero (slice_get-map (λ (w : ClassId). get_or table w.0 0) vs first.index ∙ ap (option_map (λ (w : ClassId). get_or table w.0 0)) first.there)
    ∙ ap (λ n. get_or table n 0) same))))

-- the subobject at the number that the table of holders has is the holder
pub held_is : (h : Classes) (ps : List Primary) (c : ClassId) (list : List Subobject) (holders : List (Option ℕ)) (v : ClassId) → TellsHolders h ps c list → AreHolders ps list c.0 holders → v.0 < c.0 → held_at list (get_or holders v.0 None) ≡ holder_of h ps c v
held_is h ps c list holders v same are lt = at (get_or holders v.0 None) refl
  where
    at : (o : Option ℕ) → get_or holders v.0 None ≡ o → held_at list o ≡ holder_of h ps c v
    at None e = sym (holder_is_none h ps c list c.0 holders v same are lt e)
    at (Some n) e =
        let x = get_within list n (holder_below ps list c.0 holders v n are lt e) in
        x.1 ∙ sym (holder_is h ps c list c.0 holders v n x.0 same are lt e (sym (get_or_from_slice_get list n x.0 x.0 x.1)))

pub below_of : (h : Classes) (c v : ClassId) → IsHierarchy h → Contains (virtual_bases h c) v → v.0 < c.0
below_of h c v keeps has = All-contains (λ (w : ClassId). w.0 < c.0) (virtual_bases h c) v (virtuals_below h c keeps) has

-- the holders of the virtual bases
pub holders_are : (h : Classes) (ps : List Primary) (c : ClassId) (list : List Subobject) (holders : List (Option ℕ)) → IsHierarchy h → TellsHolders h ps c list → AreHolders ps list c.0 holders → map (λ (v : ClassId). held_at list (get_or holders v.0 None)) (virtual_bases h c) ≡ map (holder_of h ps c) (virtual_bases h c)
holders_are h ps c list holders keeps same are =
    map_agrees (λ (v : ClassId). held_at list (get_or holders v.0 None)) (holder_of h ps c) (virtual_bases h c)
    (λ v has. held_is h ps c list holders v same are (below_of h c v keeps (contains_from_has (virtual_bases h c) v has)))

-- the place of a subobject by the table is its place by the row with the places of the table
pub place_by_is : (h : Classes) (before : List ClassLayout) (c : ClassId) (r s : ClassLayout) (table : List ℕ) → IsHierarchy h → r.base_places ≡ s.base_places → slice_get (before ++ s ∷ []) c.0 ≡ Some s → s.virtual_bases ≡ virtual_bases h c → s.virtual_places ≡ map (λ (v : ClassId). get_or table v.0 0) (virtual_bases h c)
    → (t : Subobject) → IsSubobject h c t → place_by h (before ++ r ∷ []) table t ≡ place_in_class h (before ++ s ∷ []) c t
place_by_is h before c r s table keeps e there bases are _ (whole path leads) = ap (λ n. 0 + n) (from_stays h before r s e (c ∷ path))
place_by_is h before c r s table keeps e there bases are _ (shared w path has leads) =
    ap (λ n. n + place_from h (before ++ r ∷ []) (w ∷ path)) (sym (virtual_place_is h (before ++ s ∷ []) c s table there bases are w (virtual_listed h keeps c w has)))
    ∙ ap (λ n. virtual_place (before ++ s ∷ []) c w + n) (from_stays h before r s e (w ∷ path))

-- a table in which each virtual base of c that is held lies where its holder does, and each other one where it lay
pub record IsVirtualTable (h : Classes) (ps : List Primary) (c : ClassId) (rows : List ClassLayout) (old table : List ℕ) : Type 0 where
  pub held : (v : ClassId) (holder : Subobject) → v.0 < c.0 → holder_of h ps c v ≡ Some holder → get_or table v.0 0 ≡ place_by h rows table holder
  pub kept : (v : ClassId) → v.0 < c.0 → holder_of h ps c v ≡ None → get_or table v.0 0 ≡ get_or old v.0 0

-- one that is settled by the numbers of the holders is one
pub settled_table : (h : Classes) (ps : List Primary) (c : ClassId) (rows : List ClassLayout) (list : List Subobject) (holders : List (Option ℕ)) (old table : List ℕ) → TellsHolders h ps c list → AreHolders ps list c.0 holders → length old ≡ c.0 → AreSettled h rows list holders old table → IsVirtualTable h ps c rows old table
settled_table h ps c rows list holders old table same all size settled = record {
  held = λ v holder lt is. settled.held v.0 holder (omega arith) (held_is h ps c list holders v same all lt ∙ is);
  kept = λ v lt free. settled.kept v.0 (held_is h ps c list holders v same all lt ∙ free);
}

-- a virtual base that is held lies where its holder does
pub held_place : (h : Classes) (ps : List Primary) (before : List ClassLayout) (c : ClassId) (r s : ClassLayout) (old table : List ℕ) → IsHierarchy h → r.base_places ≡ s.base_places → slice_get (before ++ s ∷ []) c.0 ≡ Some s
    → s.virtual_bases ≡ virtual_bases h c → s.virtual_places ≡ map (λ (v : ClassId). get_or table v.0 0) (virtual_bases h c) → IsVirtualTable h ps c (before ++ r ∷ []) old table
    → (v : ClassId) (holder : Subobject) → Contains (virtual_bases h c) v → holder_of h ps c v ≡ Some holder → virtual_place (before ++ s ∷ []) c v ≡ place_in_class h (before ++ s ∷ []) c holder
held_place h ps before c r s old table keeps e there bases are made v holder has is =
    let facts = held h ps c v (preorder h c) (Some holder) refl (preorder_lists h c keeps) is in
    virtual_place_is h (before ++ s ∷ []) c s table there bases are v has
    ∙ (made.held v holder (below_of h c v keeps has) is
    ∙ place_by_is h before c r s table keeps e there bases are holder facts.0)
