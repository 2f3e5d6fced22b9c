-- What hops to a complete object inside another one put before the hops in it: a place, and a name.
use Rattle.std.proofs.Common.{◌≡◌, ◌∙◌, ℕ, ◌+◌, ◌*◌, Some, List, [], ◌∷◌, ◌++◌, append_assoc, refl, ap, arith}
use Rattle.std.specs.Prelude.{codes}
use Rattle.std.specs.Option.{option_or}
use Rattle.cxx_hierarchy.specs.declared.records.ClassId.{ClassId}
use Rattle.cxx_hierarchy.specs.declared.records.Member.{Member}
use Rattle.cxx_hierarchy.specs.declared.records.ValueType.{ValueType}
use Rattle.cxx_hierarchy.specs.declared.records.FieldType.TheVariants.{Object}
use Rattle.cxx_hierarchy.specs.Classes.{Classes, element_type}
use Rattle.cxx_subobject.specs.declared.Subobject.{Subobject}
use Rattle.cxx_subobject.specs.declared.locations.Hop.{Hop}
use Rattle.cxx_subobject.specs.declared.locations.Hop.TheVariants.{Inherit, Member as MemberHop}
use Rattle.cxx_subobject.specs.Subobjects.{IsSubobject, class_of}
use Rattle.cxx_subobject.specs.Locations.{IsElement, IsOwner, Step, hops_of_steps}
use Rattle.abi_sound.specs.Places.{Places}
use Rattle.abi_sound.specs.Locations.{element_class, place_along_hops}
use Rattle.abi_sound.proofs.PlaceLemmas.{element_class_is, place_at_inner}
use Rattle.abi_print.specs.LayoutTexts.{subobject_text}
use Rattle.text_told.specs.Fields.{before_field, element_name_text, field_name_text, inner_text, member_at, type_behind}

-- the hops of the steps lead from an object of class c to a complete object of class d; it lies at a place, and what lies in it has a name behind this one
pub record LeadsOn (h : Classes) (l : Places) (c : ClassId) (owner : List Step) (d : ClassId) (place : ℕ) (name : List ℕ) : Type 0 where
  pub owned : IsOwner h c owner d
  pub at : (hops : List Hop) → place_along_hops h l c (hops_of_steps owner ++ hops) ≡ place + place_along_hops h l d hops
  pub type : (hops : List Hop) (t : ValueType ClassId) → type_behind h (Some d) hops ≡ Some t → type_behind h (Some c) (hops_of_steps owner ++ hops) ≡ Some t
  pub named : (s : Subobject) (hops : List Hop) → field_name_text h (hops_of_steps owner ++ Inherit s ∷ hops) ≡ name ++ field_name_text h (Inherit s ∷ hops)

-- no hops
pub leads_none : (h : Classes) (l : Places) (c : ClassId) → LeadsOn h l c [] c 0 []
leads_none h l c = record {
  owned = refl;
  at = λ hops. none (place_along_hops h l c hops);
  type = λ hops t e. e;
  named = λ s hops. refl;
}
  where
    none : (n : ℕ) → n ≡ 0 + n
    none n = omega arith

-- the name of an element of a member of a subobject
abbrev pub part_name : Classes → Subobject → Member ClassId → ℕ → List ℕ
part_name h s member i = before_field (subobject_text h s) ++ element_name_text (Some member) i

dotted : (name before element dot rest : List ℕ) → name ++ (before ++ (element ++ (dot ++ rest))) ≡ (name ++ ((before ++ element) ++ dot)) ++ rest
dotted name before element dot rest = simp append_assoc refl

-- hops into one more element that is an object
pub leads_more : (h : Classes) (l : Places) (c : ClassId) (owner : List Step) (d b e : ClassId) (place : ℕ) (name : List ℕ) (s : Subobject) (m i : ℕ) → LeadsOn h l c owner d place name → IsSubobject h d s → class_of s ≡ Some b → (element : IsElement h b m i (Object e)) →
    LeadsOn h l c (record { base = s; member = m; index = i } ∷ owner) e (place + (l.place d s + l.member b m + i * l.size e)) (name ++ (part_name h s element.member i ++ codes "."))
leads_more h l c owner d b e place name s m i on valid class element = record {
  owned = (d, b, on.owned, valid, class, element);
  at = λ hops.
      let inside : place_along_hops h l d (Inherit s ∷ MemberHop m i ∷ hops) ≡ l.place d s + (l.member b m + i * l.size e) + place_along_hops h l e hops = place_at_inner h l d b e s m i hops class element in
      ap (place_along_hops h l c) (longer hops) ∙ (on.at (Inherit s ∷ MemberHop m i ∷ hops) ∙ sums place (l.place d s) (l.member b m) (i * l.size e) (place_along_hops h l e hops) (place_along_hops h l d (Inherit s ∷ MemberHop m i ∷ hops)) inside);
  type = λ hops t is.
      let inside : type_behind h (element_class h (class_of s) m) hops ≡ Some t = ap (λ o. type_behind h o hops) (element_class_is h (class_of s) b m i (Object e) class element) ∙ is in
      ap (type_behind h (Some c)) (longer hops) ∙ on.type (Inherit s ∷ MemberHop m i ∷ hops) t (ap (λ o. option_or o (element_type (member_at h (class_of s) m))) inside);
  named = λ t hops.
      let there : member_at h (class_of s) m ≡ Some element.member = ap (λ o. member_at h o m) class ∙ element.there in
      ap (field_name_text h) (longer (Inherit t ∷ hops))
      ∙ (on.named s (MemberHop m i ∷ Inherit t ∷ hops)
      ∙ (ap (λ o. name ++ (before_field (subobject_text h s) ++ (element_name_text o i ++ (codes "." ++ (before_field (subobject_text h t) ++ inner_text h (class_of t) hops))))) there
      ∙ dotted name (before_field (subobject_text h s)) (element_name_text (Some element.member) i) (codes ".") (before_field (subobject_text h t) ++ inner_text h (class_of t) hops)));
}
  where
    longer : (hops : List Hop) → (hops_of_steps owner ++ Inherit s ∷ MemberHop m i ∷ []) ++ hops ≡ hops_of_steps owner ++ Inherit s ∷ MemberHop m i ∷ hops
    longer hops = append_assoc (hops_of_steps owner) (Inherit s ∷ MemberHop m i ∷ []) hops

    sums : (p a b k r n : ℕ) → n ≡ a + (b + k) + r → p + n ≡ p + (a + b + k) + r
    sums p a b k r n e = omega arith
