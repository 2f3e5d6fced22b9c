-- The places of the virtual bases that no subobject holds, by the table.
use Rattle.std.proofs.Common.{◌≡◌, ℕ, zero, suc, ◌<◌, inl, inr, Bool, true, false, Option, Some, None, List, [], ◌∷◌, map, length, get_or, replicate, refl, ap, subst, sym, ◌∙◌, arith}
use Rattle.std.specs.Prelude.{Contains, filter, slice_set}
use Rattle.std.specs.List.{slice_get}
use Rattle.std.proofs.lemmas.List.{get_or-set_same, get_or-set_other, length-set}
use Rattle.cxx_hierarchy.specs.declared.records.ClassId.{ClassId}
use Rattle.cxx_hierarchy.specs.Classes.{Classes}
use Rattle.cxx_subobject.specs.declared.Subobject.{Subobject}
use Rattle.cxx_subobject.proofs.ListLemmas.{Has, EachOnce, has_at, contains_from_has}
use Rattle.cxx_subobject.proofs.TreeLemmas.{has_filter, once_filter}
use Rattle.abi_primary.specs.declared.Primary.{Primary}
use Rattle.abi_primary.specs.Holder.{holder_of}
use Rattle.abi_layout.specs.declared.placed_bases.PlacedBase.{PlacedBase}
use Rattle.abi_layout.specs.declared.placed_bases.PlacedBase.TheVariants.{Own, VirtualBase}
use Rattle.cxx_subobject.specs.VirtualBases.{virtual_bases}
use Rattle.cxx_subobject.proofs.VirtualBaseLemmas.{virtual_once}
use Rattle.abi_layout.specs.PlacedBases.{is_free}
use Rattle.abi_layout.specs.invariants.Settled.{with_free, with_frees, free_table}
use Rattle.abi_layout.proofs.algorithm.Searches.{same_class}

-- a place among others is kept
frees_keep : (table : List ℕ) (ws : List ClassId) (places : List ℕ) (v : ClassId) → (Has ws v → ⊥) → get_or (with_frees table (map (λ (w : ClassId). VirtualBase w) ws) places) v.0 0 ≡ get_or table v.0 0
frees_keep table [] places v apart = refl
frees_keep table (w ∷ ws) [] v apart = refl
frees_keep table (w ∷ ws) (p ∷ places) v apart =
    frees_keep (slice_set table w.0 p) ws places v (λ has. apart (inr has))
    ∙ get_or-set_other table w.0 v.0 p 0 (λ same. apart (inl (same_class w v (sym same))))

-- each free one has its place
pub free_at : (table : List ℕ) (ws : List ClassId) (places : List ℕ) (i : ℕ) (v : ClassId) (p : ℕ) → EachOnce ws → slice_get ws i ≡ Some v → slice_get places i ≡ Some p → v.0 < length table → get_or (with_frees table (map (λ (w : ClassId). VirtualBase w) ws) places) v.0 0 ≡ p
free_at table [] places i v p once e there lt = let f : None ≡ Some v = e in cc
free_at table (w ∷ ws) [] i v p once e there lt = let f : None ≡ Some p = there in cc
free_at table (w ∷ ws) (q ∷ places) zero v p once e there lt =
    let same : w ≡ v = cc in
    let is : q ≡ p = cc in
    frees_keep (slice_set table w.0 q) ws places v (λ has. once.0 (subst (λ (x : ClassId). Has ws x) (sym same) has))
    ∙ (ap (λ (x : ClassId). get_or (slice_set table x.0 q) v.0 0) same
    ∙ (get_or-set_same table v.0 q 0 lt ∙ is))
free_at table (w ∷ ws) (q ∷ places) (suc i) v p once e there lt =
    free_at (slice_set table w.0 q) ws places i v p once.1 e there (let m = length-set table w.0 q in omega arith)

frees_length : (table : List ℕ) (bs : List PlacedBase) (places : List ℕ) → length (with_frees table bs places) ≡ length table
frees_length table [] places = refl
frees_length table (b ∷ bs) [] = refl
frees_length table (b ∷ bs) (p ∷ places) = frees_length (with_free table b p) bs places ∙ one b
  where
    one : (b : PlacedBase) → length (with_free table b p) ≡ length table
    one (Own d) = refl
    one (VirtualBase v) = length-set table v.0 p

zeros_length : {X : Type 0} (count : ℕ) (x : X) → length (replicate count x) ≡ count
zeros_length zero x = refl
zeros_length (suc count) x = let r = zeros_length count x in omega arith

pub table_length : (count : ℕ) (bs : List PlacedBase) (places : List ℕ) → length (free_table count bs places) ≡ count
table_length count bs places = frees_length (replicate count 0) bs places ∙ zeros_length count (let z : ℕ = 0 in z)

pub frees_once : (h : Classes) (ps : List Primary) (c : ClassId) → EachOnce (filter (λ (v : ClassId). is_free (holder_of h ps c v)) (virtual_bases h c))
frees_once h ps c = once_filter (λ (v : ClassId). is_free (holder_of h ps c v)) (virtual_bases h c) (virtual_once h c)

free_holder : (o : Option Subobject) → is_free o ≡ true → o ≡ None
free_holder None e = refl
free_holder (Some s) e = let f : false ≡ true = e in cc

-- a free one is a virtual base that no subobject holds
pub record IsFreeBase (h : Classes) (ps : List Primary) (c v : ClassId) : Type 0 where
  pub listed : Contains (virtual_bases h c) v
  pub unheld : holder_of h ps c v ≡ None

pub free_facts : (h : Classes) (ps : List Primary) (c : ClassId) (i : ℕ) (v : ClassId) → slice_get (filter (λ (v : ClassId). is_free (holder_of h ps c v)) (virtual_bases h c)) i ≡ Some v → IsFreeBase h ps c v
free_facts h ps c i v there =
    let test : ClassId → Bool = λ w. is_free (holder_of h ps c w) in
    let r = has_filter test (virtual_bases h c) v (has_at (filter test (virtual_bases h c)) i v there) in
    record { listed = contains_from_has (virtual_bases h c) v r.0; unheld = free_holder (holder_of h ps c v) r.1 }
