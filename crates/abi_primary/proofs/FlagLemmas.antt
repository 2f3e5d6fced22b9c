-- A table of the dynamic classes, class by class.
use Rattle.std.proofs.Common.{◌≡◌, ℕ, ◌+◌, ◌<◌, ◌≤◌, ⊎_elim, false, List, [], ◌∷◌, ◌++◌, length, ap, subst, sym, ◌∙◌, arith}
use Rattle.std.specs.Prelude.{Bool, Some, IsTrue, ◌↔◌}
use Rattle.std.proofs.lemmas.Bool.{cases_lt}
use Rattle.std.proofs.lemmas.List.{get_or_push, get_or_append_left, length_push}
use Rattle.cxx_hierarchy.specs.declared.records.Base.{Base}
use Rattle.cxx_hierarchy.specs.declared.records.ClassId.{ClassId}
use Rattle.cxx_hierarchy.specs.Classes.{Class, Classes, class_at}
use Rattle.cxx_hierarchy.specs.Hierarchies.{IsHierarchy}
use Rattle.cxx_subobject.proofs.PathLemmas.{same_id}
use Rattle.abi_primary.specs.Kinds.{IsDynamic, TellDynamic, TellDynamicTo, flag_of}
use Rattle.abi_primary.proofs.Nth.{nth}
use Rattle.abi_primary.proofs.KindLemmas.{listed_base}

pub flags_none : (h : Classes) (flags : List Bool) → flags ≡ [] → TellDynamicTo 0 h flags
flags_none h flags e = record { size = ap length e; each = λ c lt. absurd (omega arith) }

pub flags_push : (n : ℕ) (h : Classes) (flags new : List Bool) (flag : Bool) → IsTrue flag ↔ IsDynamic h (record { 0 = n }) → new ≡ flags ++ flag ∷ [] → TellDynamicTo n h flags → TellDynamicTo (n + 1) h new
flags_push n h flags new flag is pushed old = record {
  size = ap length pushed ∙ length_push flags flag ∙ ap (λ k. k + 1) old.size;
  each = λ c lt. ⊎_elim
      (λ less. subst (λ b. IsTrue b ↔ IsDynamic h c) (sym (ap (λ (fs : List Bool). flag_of fs c) pushed ∙ get_or_append_left flags (flag ∷ []) false c.0 (let s = old.size in omega arith))) (old.each c less))
      (λ far.
      let last : c.0 ≡ n = omega arith in
      let same : record { 0 = n } ≡ c = same_id (record { 0 = n }) c (sym last) in
      subst (λ b. IsTrue b ↔ IsDynamic h c) (sym (ap (λ (fs : List Bool). flag_of fs c) pushed ∙ get_or_push flags flag false c.0 (old.size ∙ sym last))) (subst (λ d. IsTrue flag ↔ IsDynamic h d) same is))
      (cases_lt c.0 n);
}

pub flags_end : (h : Classes) (n end : ℕ) (flags : List Bool) → end ≤ n → n ≤ end → end ≡ length h → TellDynamicTo n h flags → TellDynamic h flags
flags_end h n end flags a b is tell = subst (λ k. TellDynamicTo k h flags) (let e : n ≡ length h = omega arith in e) tell

-- a listed base of a class stands before it
pub base_before : (h : Classes) → IsHierarchy h → (c : ClassId) (class : Class) (xs : List (Base ClassId)) (i : ℕ) → class_at h c ≡ Some class → xs ≡ class.bases → i < length xs → (nth xs i).class.0 < c.0
base_before h keeps c class xs i e same lt = keeps.bases c (nth xs i) (listed_base h c class xs i e same lt)
