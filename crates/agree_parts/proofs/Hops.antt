-- Hops name one part: its steps and its subobject are read back from them; and who shares a virtual pointer has one owner.
use Rattle.std.proofs.Common.{◌≡◌, ◌⊎◌, inl, inr, Option, Some, None, List, [], ◌∷◌, ◌++◌, refl, ap, sym, ◌∙◌, append_assoc, append-nil}
use Rattle.cxx_hierarchy.specs.declared.records.ClassId.{ClassId}
use Rattle.cxx_hierarchy.specs.declared.records.FieldType.TheVariants.{Object}
use Rattle.cxx_hierarchy.specs.Classes.{Classes}
use Rattle.cxx_subobject.specs.declared.Subobject.{Subobject}
use Rattle.cxx_subobject.specs.declared.locations.Hop.{Hop}
use Rattle.cxx_subobject.specs.declared.locations.Hop.TheVariants.{Inherit, Member as MemberHop}
use Rattle.cxx_subobject.specs.Subobjects.{class_of}
use Rattle.cxx_subobject.specs.Locations.{Step, hops_of_steps, hops_of}
use Rattle.cxx_subobject.proofs.LocationLemmas.{hops_outside}
use Rattle.abi_sound.specs.Places.{Places}
use Rattle.abi_sound.specs.Locations.{element_class, class_at_steps}
use Rattle.abi_sound.specs.Chains.{IsInChain, ShareChain, downwards, upwards, in_element}
use Rattle.abi_sound.proofs.PlaceLemmas.{element_class_is}

-- the steps that hops make, the innermost first, behind those made before
abbrev steps_in : List Step → List Hop → List Step
steps_in before [] = before
steps_in before (MemberHop m i ∷ hops) = before
steps_in before (Inherit s ∷ []) = before
steps_in before (Inherit s ∷ Inherit t ∷ hops) = before
steps_in before (Inherit s ∷ MemberHop m i ∷ hops) = steps_in (record { base = s; member = m; index = i } ∷ before) hops

-- the last subobject that hops go into
abbrev last_base : Option Subobject → List Hop → Option Subobject
last_base s [] = s
last_base s (Inherit t ∷ hops) = last_base (Some t) hops
last_base s (MemberHop m i ∷ hops) = last_base s hops

steps_read : (steps before : List Step) (hops : List Hop) → steps_in before (hops_of_steps steps ++ hops) ≡ steps_in (steps ++ before) hops
steps_read [] before hops = refl
steps_read (step ∷ rest) before hops =
    let regrouped : (hops_of_steps rest ++ Inherit step.base ∷ MemberHop step.member step.index ∷ []) ++ hops ≡ hops_of_steps rest ++ Inherit step.base ∷ MemberHop step.member step.index ∷ hops = append_assoc (hops_of_steps rest) (Inherit step.base ∷ MemberHop step.member step.index ∷ []) hops in
    ap (steps_in before) regrouped ∙ steps_read rest before (Inherit step.base ∷ MemberHop step.member step.index ∷ hops)

last_read : (hops : List Hop) (s : Option Subobject) (t : Subobject) → last_base s (hops ++ Inherit t ∷ []) ≡ Some t
last_read [] s t = refl
last_read (Inherit u ∷ hops) s t = last_read hops (Some u) t
last_read (MemberHop m i ∷ hops) s t = last_read hops s t

-- hops to a complete object are those of no other steps
pub steps_one : (steps others : List Step) → hops_of_steps steps ≡ hops_of_steps others → steps ≡ others
steps_one steps others e = sym (read steps) ∙ (ap (steps_in []) e ∙ read others)
  where
    read : (o : List Step) → steps_in [] (hops_of_steps o) ≡ o
    read o = ap (steps_in []) (sym (append-nil (hops_of_steps o))) ∙ (steps_read o [] [] ∙ append-nil o)

-- hops to a subobject are those of no other
pub hops_one : (o o' : List Step) (s s' : Subobject) → hops_of o s ≡ hops_of o' s' → (o ≡ o') × (s ≡ s')
hops_one o o' s s' e =
    let last : Some s ≡ Some s' = sym (last_read (hops_of_steps o) None s) ∙ (ap (last_base None) e ∙ last_read (hops_of_steps o') None s') in
    (sym (read o s) ∙ (ap (steps_in []) e ∙ read o' s'), let same : s ≡ s' = cc in same)
  where
    read : (o : List Step) (s : Subobject) → steps_in [] (hops_of o s) ≡ o
    read o s = steps_read o [] (Inherit s ∷ []) ∙ append-nil o

-- two subobjects with one virtual pointer: of one complete object, and one is in the chain of the other
pub record HasOneOwner (h : Classes) (l : Places) (c : ClassId) (hops others : List Hop) : Type 0 where
  pub steps : List Step
  pub complete : ClassId
  pub at_first : Subobject
  pub at_second : Subobject
  pub leads : class_at_steps h c steps ≡ Some complete
  pub first : hops ≡ hops_of steps at_first
  pub second : others ≡ hops_of steps at_second
  pub chain : IsInChain l complete at_first at_second ⊎ IsInChain l complete at_second at_first

class_outside : (h : Classes) (c e d : ClassId) (step : Step) (steps : List Step) → element_class h (class_of step.base) step.member ≡ Some e → class_at_steps h e steps ≡ Some d → class_at_steps h c (steps ++ step ∷ []) ≡ Some d
class_outside h c e d step [] first leads = first ∙ leads
class_outside h c e d step (inner ∷ steps) first leads = leads

pub one_owner : (h : Classes) (l : Places) (c : ClassId) (hops others : List Hop) → ShareChain h l c hops others → HasOneOwner h l c hops others
one_owner h l _ _ _ (downwards c s t chain) = record { steps = []; complete = c; at_first = s; at_second = t; leads = refl; first = refl; second = refl; chain = inl chain }
one_owner h l _ _ _ (upwards c s t chain) = record { steps = []; complete = c; at_first = s; at_second = t; leads = refl; first = refl; second = refl; chain = inr chain }
one_owner h l _ _ _ (in_element c d e s m i hops others class element share) =
    let step : Step = record { base = s; member = m; index = i } in
    let r = one_owner h l e hops others share in
    let around : (hs : List Hop) (at : Subobject) → hs ≡ hops_of r.steps at → (Inherit s ∷ MemberHop m i ∷ hs) ≡ hops_of (r.steps ++ step ∷ []) at =
    λ hs at is. ap (λ (x : List Hop). Inherit s ∷ MemberHop m i ∷ x) is ∙ ap (λ (x : List Hop). x ++ Inherit at ∷ []) (sym (hops_outside r.steps step)) in
    record {
      steps = r.steps ++ step ∷ [];
      complete = r.complete;
      at_first = r.at_first;
      at_second = r.at_second;
      leads = class_outside h c e r.complete step r.steps (element_class_is h (class_of s) d m i (Object e) class element) r.leads;
      first = around hops r.at_first r.first;
      second = around others r.at_second r.second;
      chain = r.chain;
    }
