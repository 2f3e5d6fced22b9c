-- Owners and hops say the same of the parts of an object.
use Rattle.std.proofs.Common.{◌≡◌, ℕ, Some, List, [], ◌∷◌, ◌++◌, refl, ap, subst, sym, ◌∙◌, append_assoc, ◌<◌}
use Rattle.foundation.proofs.Places.{contains_at}
use Rattle.cxx_hierarchy.specs.declared.records.ClassId.{ClassId}
use Rattle.cxx_hierarchy.specs.declared.records.ValueType.{ValueType}
use Rattle.cxx_hierarchy.specs.declared.records.FieldType.{FieldType}
use Rattle.cxx_hierarchy.specs.declared.records.FieldType.TheVariants.{Value, Object}
use Rattle.cxx_hierarchy.specs.Classes.{Classes, members_of}
use Rattle.cxx_hierarchy.specs.Hierarchies.{IsHierarchy}
use Rattle.cxx_subobject.specs.declared.Subobject.{Subobject}
use Rattle.cxx_subobject.specs.declared.locations.Hop.{Hop}
use Rattle.cxx_subobject.specs.declared.locations.Hop.TheVariants.{Inherit, Member as MemberHop}
use Rattle.cxx_subobject.specs.Subobjects.{IsSubobject, class_of}
use Rattle.cxx_subobject.specs.Locations.{IsElement, LeadsTo, to_subobject, to_value, to_inner, Step, IsOwner, hops_of_steps, hops_of, hops_to_element, IsHopsTo}

-- what hops lead to in the complete object that steps lead to, both lead to
pub leads_from_owner : (h : Classes) (c : ClassId) (steps : List Step) (d : ClassId) (hops : List Hop) (type : FieldType ClassId) → IsOwner h c steps d → LeadsTo h d hops type → LeadsTo h c (hops_of_steps steps ++ hops) type
leads_from_owner h c [] d hops type owner leads = subst (λ (x : ClassId). LeadsTo h x hops type) owner leads
leads_from_owner h c (step ∷ rest) e hops type owner leads =
    let longer = Inherit step.base ∷ MemberHop step.member step.index ∷ hops in
    subst (λ (hs : List Hop). LeadsTo h c hs type) (sym (append_assoc (hops_of_steps rest) (Inherit step.base ∷ MemberHop step.member step.index ∷ []) hops))
    (leads_from_owner h c rest owner.0 longer type owner.2 (to_inner owner.0 owner.1 e step.base step.member step.index hops type owner.3 owner.4 owner.5 leads))

-- the hops of a part lead to it
pub hops_lead : (h : Classes) (c : ClassId) (steps : List Step) (d e : ClassId) (at : Subobject) → IsOwner h c steps d → IsSubobject h d at → class_of at ≡ Some e → LeadsTo h c (hops_of steps at) (Object e)
hops_lead h c steps d e at owner valid class = leads_from_owner h c steps d (Inherit at ∷ []) (Object e) owner (to_subobject d e at valid class)

-- and those of a leaf
pub hops_lead_to_leaf : (h : Classes) (c : ClassId) (steps : List Step) (d e : ClassId) (at : Subobject) (m i : ℕ) (type : ValueType ClassId) → IsOwner h c steps d → IsSubobject h d at → class_of at ≡ Some e →
    IsElement h e m i (Value type) → LeadsTo h c (hops_to_element steps at m i) (Value type)
hops_lead_to_leaf h c steps d e at m i type owner valid class element =
    leads_from_owner h c steps d (Inherit at ∷ MemberHop m i ∷ []) (Value type) owner (to_value d e at m i type valid class element)

-- a step more at the outer end
pub owner_outside : (h : Classes) (c b : ClassId) (step : Step) (inner : ClassId) (steps : List Step) (e : ClassId) → IsSubobject h c step.base → class_of step.base ≡ Some b → IsElement h b step.member step.index (Object inner) →
    IsOwner h inner steps e → IsOwner h c (steps ++ step ∷ []) e
owner_outside h c b step inner [] e valid class element owner = (c, b, refl, valid, class, subst (λ (x : ClassId). IsElement h b step.member step.index (Object x)) (sym owner) element)
owner_outside h c b step inner (first ∷ steps) e valid class element owner =
    (owner.0, owner.1, owner_outside h c b step inner steps owner.0 valid class element owner.2, owner.3, owner.4, owner.5)

pub hops_outside : (steps : List Step) (step : Step) → hops_of_steps (steps ++ step ∷ []) ≡ Inherit step.base ∷ MemberHop step.member step.index ∷ hops_of_steps steps
hops_outside [] step = refl
hops_outside (first ∷ steps) step = ap (λ (hs : List Hop). hs ++ Inherit first.base ∷ MemberHop first.member first.index ∷ []) (hops_outside steps step)

inner_hops : (h : Classes) (c d e : ClassId) (s : Subobject) (m i : ℕ) (hops : List Hop) (type : FieldType ClassId) → IsSubobject h c s → class_of s ≡ Some d → IsElement h d m i (Object e) → IsHopsTo h e hops type →
    IsHopsTo h c (Inherit s ∷ MemberHop m i ∷ hops) type
inner_hops h c d e s m i hops (Object f) valid class element r =
    let step : Step = record { base = s; member = m; index = i } in
    record {
      steps = r.steps ++ step ∷ [];
      complete = r.complete;
      at = r.at;
      owner = owner_outside h c d step e r.steps r.complete valid class element r.owner;
      valid = r.valid;
      class = r.class;
      is = ap (λ (hs : List Hop). Inherit s ∷ MemberHop m i ∷ hs) r.is ∙ ap (λ (hs : List Hop). hs ++ Inherit r.at ∷ []) (sym (hops_outside r.steps step));
    }
inner_hops h c d e s m i hops (Value type) valid class element r =
    let step : Step = record { base = s; member = m; index = i } in
    record {
      steps = r.steps ++ step ∷ [];
      complete = r.complete;
      at = r.at;
      class = r.class;
      member = r.member;
      index = r.index;
      owner = owner_outside h c d step e r.steps r.complete valid class element r.owner;
      valid = r.valid;
      class_is = r.class_is;
      element = r.element;
      is = ap (λ (hs : List Hop). Inherit s ∷ MemberHop m i ∷ hs) r.is ∙ ap (λ (hs : List Hop). hs ++ Inherit r.at ∷ MemberHop r.member r.index ∷ []) (sym (hops_outside r.steps step));
    }

pub hops_to : (h : Classes) (c : ClassId) (hops : List Hop) (type : FieldType ClassId) → LeadsTo h c hops type → IsHopsTo h c hops type
hops_to h _ _ _ (to_subobject c d s valid class) = record { steps = []; complete = c; at = s; owner = refl; valid = valid; class = class; is = refl }
hops_to h _ _ _ (to_value c d s m i type valid class element) = record { steps = []; complete = c; at = s; class = d; member = m; index = i; owner = refl; valid = valid; class_is = class; element = element; is = refl }
hops_to h _ _ _ (to_inner c d e s m i hops type valid class element leads) = inner_hops h c d e s m i hops type valid class element (hops_to h e hops type leads)

-- and such hops lead there
pub leads_by : (h : Classes) (c : ClassId) (hops : List Hop) (type : FieldType ClassId) → IsHopsTo h c hops type → LeadsTo h c hops type
leads_by h c hops (Object e) r = subst (λ (hs : List Hop). LeadsTo h c hs (Object e)) (sym r.is) (hops_lead h c r.steps r.complete e r.at r.owner r.valid r.class)
leads_by h c hops (Value type) r = subst (λ (hs : List Hop). LeadsTo h c hs (Value type)) (sym r.is) (hops_lead_to_leaf h c r.steps r.complete r.class r.at r.member r.index type r.owner r.valid r.class_is r.element)

-- a member object is of a class before
pub element_low : (h : Classes) → IsHierarchy h → (d e : ClassId) (m i : ℕ) → IsElement h d m i (Object e) → e.0 < d.0
element_low h keeps d e m i element = keeps.objects d e element.member (contains_at (members_of h d) m element.member element.there) element.type_is
