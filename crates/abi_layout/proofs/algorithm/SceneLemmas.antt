-- Lemmas on what is known while a class is laid out.
use Rattle.std.proofs.Common.{◌≡◌, ℕ, ◌<◌, Bool, cond, ltb, Option, Some, None, List, [], length, get_or, refl, ap, sym, ◌∙◌, arith}
use Rattle.std.specs.Prelude.{position, if◌then◌else◌}
use Rattle.std.specs.List.{position_or_len, find}
use Rattle.std.proofs.lemmas.Bool.{ltb-true}
use Rattle.cxx_hierarchy.specs.declared.records.ClassId.{ClassId}
use Rattle.cxx_hierarchy.specs.Classes.{Classes}
use Rattle.cxx_subobject.specs.declared.Subobject.{Subobject}
use Rattle.cxx_subobject.specs.Subobjects.{same_subobject}
use Rattle.abi_primary.specs.declared.Primary.{Primary}
use Rattle.abi_primary.specs.PrimaryBase.{has_primary}
use Rattle.abi_primary.specs.Holder.{holder_of}
use Rattle.abi_primary.proofs.PrimaryLemmas.{found, not_found}
use Rattle.abi_sound.specs.Chains.{is_subobject_in}
use Rattle.abi_layout.specs.Holding.{kept_if, holds_base, held_base, virtual_primary_base, AreHolders}
use Rattle.abi_layout.specs.invariants.Scenes.{TellsHolders}
use Rattle.abi_layout.proofs.rules.Parts.{split}

pub position_below : {X : Type 0} (p : X → Bool) (xs : List X) (n : ℕ) → position p xs ≡ Some n → n < length xs
position_below {X} p xs n e = split (ltb (position_or_len p xs) (length xs)) (λ b. cond b (Some (position_or_len p xs)) None ≡ Some n → n < length xs)
    (λ t at. let lt = ltb-true (position_or_len p xs) (length xs) t in let same : position_or_len p xs ≡ n = cc in omega arith)
    (λ f at. let no_place : None ≡ Some n = at in cc) e

-- the number of a holder is below the length of the list
pub holder_below : (ps : List Primary) (list : List Subobject) (count : ℕ) (holders : List (Option ℕ)) (v : ClassId) (n : ℕ) → AreHolders ps list count holders → v.0 < count → get_or holders v.0 None ≡ Some n → n < length list
holder_below ps list count holders v n are lt e = position_below (has_primary ps v) list n (sym (are.first v lt) ∙ e)

pub holder_is : (h : Classes) (ps : List Primary) (c : ClassId) (list : List Subobject) (count : ℕ) (holders : List (Option ℕ)) (v : ClassId) (n : ℕ) (t : Subobject) → TellsHolders h ps c list → AreHolders ps list count holders → v.0 < count → get_or holders v.0 None ≡ Some n → t ≡ get_or list n t → holder_of h ps c v ≡ Some t
holder_is h ps c list count holders v n t same are lt e is = sym (same.holder v) ∙ found (has_primary ps v) list n t (sym (are.first v lt) ∙ e) is

pub holds_by : (h : Classes) (ps : List Primary) (c : ClassId) (list : List Subobject) (count : ℕ) (holders : List (Option ℕ)) (v : ClassId) (n : ℕ) (t s : Subobject) → TellsHolders h ps c list → AreHolders ps list count holders → v.0 < count → get_or holders v.0 None ≡ Some n → t ≡ get_or list n t → same_subobject t s ≡ holds_base h ps c s v
holds_by h ps c list count holders v n t s same are lt e is = sym (ap (λ o. is_subobject_in o s) (holder_is h ps c list count holders v n t same are lt e is))

pub holder_is_none : (h : Classes) (ps : List Primary) (c : ClassId) (list : List Subobject) (count : ℕ) (holders : List (Option ℕ)) (v : ClassId) → TellsHolders h ps c list → AreHolders ps list count holders → v.0 < count → get_or holders v.0 None ≡ None → holder_of h ps c v ≡ None
holder_is_none h ps c list count holders v same are lt e = sym (same.holder v) ∙ not_found (has_primary ps v) list (sym (are.first v lt) ∙ e)

-- where no subobject is listed, nothing is held
pub none_held : (h : Classes) (ps : List Primary) (c : ClassId) (list : List Subobject) → TellsHolders h ps c list → list ≡ [] → (s : Subobject) (d : ClassId) → held_base h ps c s d ≡ None
none_held h ps c list tells e s d = by_primary (virtual_primary_base ps d)
  where
    by_primary : (o : Option ClassId) → kept_if (holds_base h ps c s) o ≡ None
    by_primary None = refl
    by_primary (Some v) =
        let nobody : holder_of h ps c v ≡ None = sym (tells.holder v) ∙ ap (find (has_primary ps v)) e in
        ap (λ b. if b then Some v else None) (ap (λ o. is_subobject_in o s) nobody)
