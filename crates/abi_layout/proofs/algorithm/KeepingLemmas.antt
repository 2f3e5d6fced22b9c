-- No member is of a class where no class has one.
use Rattle.std.proofs.Common.{◌≡◌, ℕ, ◌+◌, ◌<◌, ◌≤◌, ⊎_elim, inl, inr, true, false, Option, Some, None, [], length, refl, ap, subst, ◌∙◌, arith, eq-eqb}
use Rattle.std.specs.List.{Contains, list_any}
use Rattle.std.proofs.lemmas.Bool.{cases_order}
use Rattle.std.proofs.lemmas.Option.{slice_get_within}
use Rattle.cxx_hierarchy.specs.declared.records.ClassId.{ClassId}
use Rattle.cxx_hierarchy.specs.declared.records.Member.{Member}
use Rattle.cxx_hierarchy.specs.declared.records.FieldType.TheVariants.{Object}
use Rattle.cxx_hierarchy.specs.Classes.{Class, Classes, class_at, members_of, members_in}
use Rattle.abi_layout.specs.declared.known.Known.{Known}
use Rattle.abi_layout.specs.invariants.Known.{is_object, IsMemberType, KeepsEnough}
use Rattle.abi_layout.proofs.lists.Each.{not_both}
use Rattle.abi_layout.proofs.lists.Lists.{number}
use Rattle.abi_layout.proofs.rules.Stages.{any_true}
use Rattle.abi_layout.proofs.rules.KindLemmas.{has_of}

-- none of the first n classes has a member of class c
pub record AreNoOwners (h : Classes) (c : ClassId) (n : ℕ) : Type 0 where
  pub each : (owner : ClassId) (member : Member ClassId) → owner.0 < n → Contains (members_of h owner) member → member.ty ≡ Object c → ⊥

pub no_owner : (h : Classes) (c : ClassId) → AreNoOwners h c 0
no_owner h c = record { each = λ owner member lt. absurd (omega arith) }

object_is : (c : ClassId) (member : Member ClassId) → member.ty ≡ Object c → is_object c member.ty ≡ true
object_is c member e = ap (is_object c) e ∙ eq-eqb c.0 c.0 refl

pub one_owner_more : (h : Classes) (c : ClassId) (n : ℕ) (class : Class) → class_at h (number n) ≡ Some class → AreNoOwners h c n → list_any (λ (member : Member ClassId). is_object c member.ty) class.members ≡ false → AreNoOwners h c (n + 1)
one_owner_more h c n class there before nothing = record {
  each = λ owner member lt has e. ⊎_elim
      (λ same. let id : owner ≡ number n = ap number same in here member (subst (λ (o : ClassId). Contains (members_of h o) member) id has) e)
      (λ o. ⊎_elim (λ l. before.each owner member l has e) (λ g. absurd (omega arith)) o)
      (cases_order owner.0 n);
}
  where
    here : (member : Member ClassId) → Contains (members_of h (number n)) member → member.ty ≡ Object c → ⊥
    here member has e =
        let in_class = subst (λ (o : Option Class). Contains (members_in o) member) there has in
        not_both (any_true (λ (m : Member ClassId). is_object c m.ty) class.members member (has_of class.members member in_class) (object_is c member e)) nothing

pub never_member : (h : Classes) (c : ClassId) (n : ℕ) → length h ≤ n → AreNoOwners h c n → IsMemberType h c → ⊥
never_member h c n le nobody is = by_owner (class_at h is.owner) refl
  where
    by_owner : (o : Option Class) → class_at h is.owner ≡ o → ⊥
    by_owner None e = let l = subst (λ (o : Option Class). Contains (members_in o) is.member) e is.listed in has_of [] is.member l
    by_owner (Some class) e = let lt = slice_get_within h is.owner.0 class e in nobody.each is.owner is.member (omega arith) is.listed is.type

-- all is kept, or all but the class subobjects
pub all_kept : (h : Classes) (c : ClassId) (known : Known) → KeepsEnough h c known known
all_kept h c known = record { is_empty = refl; is_pod = refl; parts = λ is. refl; less = inl refl }

pub parts_dropped : (h : Classes) (c : ClassId) (known kept : Known) → kept.is_empty ≡ known.is_empty → kept.is_pod ≡ known.is_pod → kept.parts ≡ [] → (IsMemberType h c → ⊥) → KeepsEnough h c known kept
parts_dropped h c known kept e p none never = record { is_empty = e; is_pod = p; parts = λ is. absurd (never is); less = inr none }
