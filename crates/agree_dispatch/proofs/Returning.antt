-- An entry moves a result as the function says that was found, whatever class lists it.
use Rattle.std.proofs.Common.{◌≡◌, ◌⊎◌, inl, inr, ⊎_elim, Some, List, refl, ap, subst, sym, ◌∙◌, arith}
use Rattle.std.specs.Prelude.{Contains, nat_eq}
use Rattle.std.proofs.lemmas.Bool.{eqb-true, eq-eqb}
use Rattle.foundation.proofs.Truth.{split}
use Rattle.cxx_hierarchy.specs.declared.records.ClassId.{ClassId}
use Rattle.cxx_hierarchy.specs.Classes.{Classes}
use Rattle.cxx_hierarchy.specs.Hierarchies.{IsHierarchy}
use Rattle.cxx_subobject.specs.declared.Subobject.{Subobject}
use Rattle.cxx_subobject.specs.Subobjects.{IsSubobject, class_of}
use Rattle.cxx_subobject.proofs.InsideLemmas.{join_class}
use Rattle.cxx_subobject.proofs.PathLemmas.{same_id}
use Rattle.cxx_overrider.specs.declared.FunctionId.{FunctionId}
use Rattle.cxx_overrider.specs.declared.Overrider.{Overrider}
use Rattle.cxx_overrider.specs.Functions.{Signature, signature_of, return_of, pointee}
use Rattle.cxx_overrider.specs.Overriding.{HasPart, IsVirtual}
use Rattle.cxx_overrider.specs.Covariance.{Overrides}
use Rattle.cxx_overrider.specs.Faults.{HasNoFault}
use Rattle.cxx_overrider.proofs.CovarianceLemmas.{part_part, part_before}
use Rattle.cxx_overrider.proofs.Numbering.{same_function}
use Rattle.cxx_search.specs.Searches.{final_in}
use Rattle.cxx_search.proofs.Finals.{found_final}
use Rattle.abi_sound.specs.declared.class_layout.ClassLayout.{ClassLayout}
use Rattle.abi_sound.specs.Places.{Places, places_of}
use Rattle.abi_sound.specs.Sound.{IsSoundLayout}
use Rattle.abi_slots.specs.declared.words.EntryKey.{EntryKey}
use Rattle.abi_slots.specs.Groups.{return_for}
use Rattle.abi_slots.specs.Listing.{listing, own_keys}
use Rattle.abi_slots.proofs.Bases.{item_contains}
use Rattle.abi_slots.proofs.Bounds.{function_bounds}
use Rattle.abi_slots.proofs.Owns.{own_virtual}
use Rattle.abi_slots.proofs.ClassEntries.{own_key}
use Rattle.abi_slots.proofs.ClassOffsets.{primaries_of}
use Rattle.agree_dispatch.specs.Results.{RunsFor}
use Rattle.agree_dispatch.proofs.ResultClasses.{PointeesFit, fits_itself, pointees_fit}
use Rattle.agree_dispatch.proofs.Adjusting.{same_adjust}
use Rattle.agree_dispatch.proofs.Listers.{IsListed, itself, shared_with, is_listed}

-- what overrides a function overrides what that overrides
overrides_through : (h : Classes) → IsHierarchy h → (f g k : FunctionId) → Overrides h f g → Overrides h g k → Overrides h f k
overrides_through h keeps f g k a b =
    let one : a.signature ≡ b.signature = let x = a.of_g in let y = b.of_f in cc in
    let less = part_before h keeps f.class g.class a.base a.proper in
    let more = part_before h keeps g.class k.class b.base b.proper in
    record {
      signature = a.signature;
      of_f = a.of_f;
      of_g = b.of_g ∙ ap (λ s. Some s) (sym one);
      base = part_part h f.class g.class k.class a.base b.base;
      proper = λ e. let z = ap (λ (c : ClassId). c.0) e in absurd (omega arith);
      is_virtual = b.is_virtual;
    }

module _ (h : Classes) (rows : List ClassLayout) (keeps : IsHierarchy h) (fine : HasNoFault h) (sound : IsSoundLayout h rows) where
  abbrev l : Places
  l = places_of h rows

  pub runs_fit : (g f : FunctionId) → RunsFor h g f → PointeesFit h (pointee (return_of h g)) (pointee (return_of h f))
  runs_fit g f runs = ⊎_elim (λ e. subst (λ k. PointeesFit h (pointee (return_of h g)) (pointee (return_of h k))) e (fits_itself h (pointee (return_of h g)))) (λ k. pointees_fit h keeps fine g f k) runs

  listed_returning : (g : FunctionId) (k old : EntryKey) → RunsFor h g k.function → IsListed h (places_of h rows) keeps (primaries_of h rows sound) k old → return_for h (places_of h rows) g old.function ≡ return_for h (places_of h rows) g k.function
  listed_returning g k _ runs itself = refl
  listed_returning g k _ runs (shared_with old overrides needs) =
      let third : RunsFor h g old.function = ⊎_elim (λ e. inr (subst (λ a. Overrides h a old.function) (sym e) overrides)) (λ a. inr (overrides_through h keeps g k.function old.function a overrides)) runs in
      same_adjust h rows keeps (pointee (return_of h g)) (pointee (return_of h k.function)) (pointee (return_of h old.function))
      (runs_fit g k.function runs) (pointees_fit h keeps fine k.function old.function overrides) (runs_fit g old.function third) needs

  pub same_returns : (g : FunctionId) (k : EntryKey) → Contains (own_keys h k.function.class) k → RunsFor h g k.function → return_for h (places_of h rows) g (listing h (places_of h rows) k).function ≡ return_for h (places_of h rows) g k.function
  same_returns g k own runs =
      let mine = own_key h k.function.class k (item_contains (own_keys h k.function.class) k own) in
      let is = own_virtual h keeps k.function.class k.function mine.1.declares in
      let known = (function_bounds h keeps k.function is.signature is.is).0 in
      listed_returning g k (listing h l k) runs (is_listed h l keeps (primaries_of h rows sound) k known is)

-- a final overrider in a view is the function, or overrides it
pub final_runs : (h : Classes) → IsHierarchy h → (d : ClassId) (y s : Subobject) (f : FunctionId) (o : Overrider) → IsSubobject h d y → class_of s ≡ Some f.class → IsVirtual h f → final_in h y s f ≡ Some o → RunsFor h o.function f
final_runs h keeps d y s f o valid class is found =
    let k = found_final h keeps d y valid s f o found in
    let cand = k.candidate.candidate in
    let over = cand.contains in
    let part_class : class_of over.part ≡ Some f.class = sym (join_class h over.class o.at over.part over.of_class over.valid) ∙ (ap class_of (sym over.joined) ∙ class) in
    let at_class : over.class ≡ o.function.class = let a = over.of_class in let b = cand.class in cc in
    let base : HasPart h o.function.class f.class = record { part = over.part; valid = subst (λ c. IsSubobject h c over.part) at_class over.valid; class = part_class } in
    ⊎_elim
    (λ e. inl e)
    (λ proper. inr (record { signature = k.signature; of_f = cand.same; of_g = k.is; base = base; proper = proper; is_virtual = is }))
    (same_or_proper k.signature cand.same k.is)
  where
    same_or_proper : (signature : Signature) → signature_of h o.function ≡ Some signature → signature_of h f ≡ Some signature → (o.function ≡ f) ⊎ (f.class ≡ o.function.class → ⊥)
    same_or_proper signature a b = split (nat_eq f.class.0 o.function.class.0) (λ t. nat_eq f.class.0 o.function.class.0 ≡ t → (o.function ≡ f) ⊎ (f.class ≡ o.function.class → ⊥))
        (λ t e. inl (same_function h keeps o.function f signature (sym (same_id f.class o.function.class (eqb-true f.class.0 o.function.class.0 e))) a b))
        (λ t e. inr (λ same. absurd (let z = ap (λ (c : ClassId). c.0) same in let y = eq-eqb f.class.0 o.function.class.0 z in cc)))
        refl
