-- What the adjustments are.
use Rattle.std.proofs.Common.{◌≡◌, ℕ, zero, suc, ◌+◌, Option, Some, None, List, [], ◌∷◌, ℤ, pos, negsuc, refl, ap, subst, sym, ◌∙◌, arith}
use Rattle.std.specs.Prelude.{◌+ℤ◌, ◌-ℤ◌}
use Rattle.std.proofs.lemmas.Int.{ints}
use Rattle.cxx_hierarchy.specs.declared.records.ClassId.{ClassId}
use Rattle.cxx_hierarchy.specs.Classes.{Classes}
use Rattle.cxx_subobject.specs.declared.Subobject.{Subobject}
use Rattle.abi_sound.specs.Places.{Places}
use Rattle.abi_slots.specs.declared.words.ThisAdjust.{ThisAdjust}
use Rattle.abi_slots.specs.declared.words.ReturnAdjust.{ReturnAdjust}
use Rattle.abi_slots.specs.Groups.{this_constant, this_adjust, return_constant, return_adjust, root_base}
use Rattle.abi_thunk.specs.Leads.{AdjustmentLeads, ReturnLeads}

pub this_none : (d : ℤ) → d ≡ pos 0 → None ≡ this_constant d
this_none d e = sym (ap this_constant e)

pub this_some : (d : ℤ) → (d ≡ pos 0 → ⊥) → Some (record { constant = d; vcall = None }) ≡ this_constant d
this_some (pos zero) apart = absurd (apart refl)
this_some (pos (suc n)) apart = refl
this_some (negsuc n) apart = refl

pub return_none : (n : ℕ) → n ≡ 0 → None ≡ return_constant n
return_none n e = sym (ap return_constant e)

pub return_some : (n : ℕ) → (n ≡ 0 → ⊥) → Some (record { vbase = None; constant = pos n }) ≡ return_constant n
return_some zero apart = absurd (apart refl)
return_some (suc n) apart = refl

pub this_leads : (l : Places) (c : ClassId) (from to : Subobject) (vcall : Option ℤ) → AdjustmentLeads l c from to vcall (this_adjust l c from to vcall)
this_leads l c from to (Some bytes) = (omega (arith, ints), refl)
this_leads l c from to None = by_distance (pos (l.place c to) -ℤ pos (l.place c from)) refl
  where
    by_distance : (d : ℤ) → d ≡ pos (l.place c to) -ℤ pos (l.place c from) → AdjustmentLeads l c from to None (this_constant d)
    by_distance (pos zero) e = omega (arith, ints)
    by_distance (pos (suc n)) e = (omega (arith, ints), refl)
    by_distance (negsuc n) e = (omega (arith, ints), refl)

pub return_leads : (l : Places) (c : ClassId) (path : Subobject) (vbase : Option ℤ) → ReturnLeads l c path vbase (return_adjust l c path vbase)
return_leads l c path (Some bytes) = (omega (arith, ints), refl)
return_leads l c path None = by_place (l.place c path) refl
  where
    by_place : (n : ℕ) → n ≡ l.place c path → ReturnLeads l c path None (return_constant n)
    by_place zero e = sym e
    by_place (suc n) e = (ap pos e, refl)
