-- What is sound at every depth is so at depth one, for the bases of a class.
use Rattle.std.proofs.Common.{◌≡◌, ◌<◌, Option, Some, None, List, [], ◌∷◌, length, refl, ap, subst, sym, ◌∙◌}
use Rattle.cxx_hierarchy.specs.declared.records.ClassId.{ClassId}
use Rattle.cxx_hierarchy.specs.Classes.{Classes}
use Rattle.cxx_subobject.specs.declared.Subobject.{Subobject}
use Rattle.cxx_subobject.specs.Subobjects.{IsSubobject, whole, shared, last_of, class_of}
use Rattle.abi_sound.specs.declared.class_layout.ClassLayout.{ClassLayout}
use Rattle.cxx_subobject.specs.declared.locations.Hop.{Hop}
use Rattle.cxx_subobject.specs.declared.locations.Hop.TheVariants.{Inherit, Member as MemberHop}
use Rattle.cxx_subobject.specs.Locations.{to_subobject}
use Rattle.abi_sound.specs.Places.{places_of}
use Rattle.abi_sound.specs.Locations.{place_along_hops}
use Rattle.abi_sound.specs.Sound.{IsSoundLayout}
use Rattle.abi_sound.proofs.PlaceLemmas.{place_at_base}

-- a subobject has a class
pub record HasClass (s : Subobject) : Type 0 where
  pub class : ClassId
  pub is : class_of s ≡ Some class

abbrev first_base : List Hop → Option Subobject
first_base [] = None
first_base (Inherit s ∷ hops) = Some s
first_base (MemberHop m i ∷ hops) = None

pub has_class : (h : Classes) (c : ClassId) (s : Subobject) → IsSubobject h c s → HasClass s
has_class h c _ (whole path l) = record { class = last_of c path; is = refl }
has_class h c _ (shared v path has l) = record { class = last_of v path; is = refl }

-- a class subobject begins inside
pub below : (h : Classes) (rows : List ClassLayout) → IsSoundLayout h rows → (c : ClassId) (s : Subobject) → c.0 < length h → IsSubobject h c s → (places_of h rows).place c s < (places_of h rows).size c
below h rows sound c s lt is =
    let k = has_class h c s is in
    subst (λ n. n < (places_of h rows).size c) (place_at_base h (places_of h rows) c s) ((sound.each c lt).begins_inside k.class (Inherit s ∷ []) (to_subobject c k.class s is k.is))

-- two class subobjects of one class begin at different places
pub distinct : (h : Classes) (rows : List ClassLayout) → IsSoundLayout h rows → (c d : ClassId) (s t : Subobject) → c.0 < length h → IsSubobject h c s → IsSubobject h c t → class_of s ≡ Some d → class_of t ≡ Some d → (places_of h rows).place c s ≡ (places_of h rows).place c t → s ≡ t
distinct h rows sound c d s t lt x y e f same =
    let l = places_of h rows in
    let at : place_along_hops h l c (Inherit s ∷ []) ≡ place_along_hops h l c (Inherit t ∷ []) = place_at_base h l c s ∙ (same ∙ sym (place_at_base h l c t)) in
    let hops = (sound.each c lt).distinct d (Inherit s ∷ []) (Inherit t ∷ []) (to_subobject c d s x e) (to_subobject c d t y f) at in
    let a : Some s ≡ Some t = ap first_base hops in
    cc
