-- The words of all classes, step by step.
use Rattle.std.proofs.Common.{◌≡◌, ℕ, suc, ◌+◌, ◌<◌, ◌≤◌, zero, true, List, [], ◌∷◌, length, get_or, ap, subst, sym, arith, add-one}
use Rattle.std.specs.Prelude.{All, min}
use Rattle.std.specs.List.{sum_by}
use Rattle.cxx_hierarchy.specs.declared.records.ClassId.{ClassId}
use Rattle.cxx_hierarchy.specs.Classes.{Classes}
use Rattle.cxx_hierarchy.specs.Hierarchies.{IsHierarchy}
use Rattle.cxx_subobject.specs.declared.Subobject.{Subobject}
use Rattle.cxx_subobject.specs.Subobjects.{IsSubobject, class_of, whole, whole_of}
use Rattle.cxx_subobject.specs.VirtualBases.{virtual_bases}
use Rattle.cxx_subobject.proofs.VirtualBaseLemmas.{virtual_has}
use Rattle.abi_primary.specs.Kinds.{IsDynamic}
use Rattle.abi_primary.proofs.KindLemmas.{base_dynamic}
use Rattle.abi_sound.specs.Places.{Places}
use Rattle.abi_slots.specs.Views.{is_dynamic}
use Rattle.abi_slots.proofs.Chains.{same_some}
use Rattle.abi_slots.proofs.Heads.{test_dynamic}
use Rattle.abi_vtt.specs.Vtts.{has_vtt, HasDynamicClass}
use Rattle.abi_tables.specs.Counts.{class_words, group_views, most_words, vtt_words, vtts_before_class, words_of_all_classes, words_of_all_vtts, words_of_view, words_before_class}
use Rattle.abi_tables.specs.invariants.Weights.{cut}
use Rattle.abi_tables.proofs.VttSums.{first_of}

pub virtual_dynamic : (h : Classes) (c : ClassId) → has_vtt h c ≡ true → IsDynamic h c
virtual_dynamic h c e = let r = first_of (virtual_bases h c) e in base_dynamic h c r.0 (virtual_has h c r.0 r.1)

pub one_all : {X : Type 0} (P : X → Type 0) (x : X) → P x → All P (x ∷ [])
one_all P x holds zero d lt = holds
one_all P x holds (suc k) d lt = absurd (omega arith)

pub whole_valid : (h : Classes) (c : ClassId) → IsSubobject h c (whole_of c)
whole_valid h c = whole [] tt

pub whole_dynamic : (h : Classes) → IsHierarchy h → (c : ClassId) → is_dynamic h c ≡ true → HasDynamicClass h (whole_of c)
whole_dynamic h keeps c e d class = subst (λ b. IsDynamic h b) (same_some c d class) (test_dynamic h keeps c e)

-- of all, the one at a place
pub all_at : {X : Type 0} (P : X → Type 0) (xs : List X) (i : ℕ) (x : X) → All P xs → i < length xs → x ≡ get_or xs i x → P x
all_at P xs i x all lt is = subst P (sym is) (all i x lt)

pub one_class_more : (h : Classes) (l : Places) (n : ℕ) → cut (words_before_class h l n + class_words h l (record { 0 = n })) ≡ cut (words_before_class h l (n + 1))
one_class_more h l n = ap (λ k. cut (words_before_class h l k)) (sym (add-one n))

-- the VTT of one class more
pub one_vtt_more : (h : Classes) (l : Places) (n sum len new : ℕ) → sum ≡ cut (vtts_before_class h l n) → len ≡ min (vtt_words h l (record { 0 = n })) (most_words + 1) → new ≡ cut (sum + len) → new ≡ cut (vtts_before_class h l (n + 1))
one_vtt_more h l n sum len new before is made =
    let more : vtts_before_class h l (n + 1) ≡ vtts_before_class h l n + vtt_words h l (record { 0 = n }) = ap (vtts_before_class h l) (add-one n) in
    omega (arith, before, is, made, more)

-- the VTTs of classes have no more words than all that these classes have
pub vtts_within : (h : Classes) (l : Places) (n : ℕ) → vtts_before_class h l n ≤ words_before_class h l n
vtts_within h l zero = omega arith
vtts_within h l (suc n) =
    let c : ClassId = record { 0 = n } in
    let below = vtts_within h l n in
    let here : vtt_words h l c ≤ class_words h l c = at_end (sum_by (λ (x : Subobject). words_of_view h l c x (class_of x)) (group_views h c)) (vtt_words h l c) in
    omega (arith, below, here)
  where
    at_end : (a b : ℕ) → b ≤ a + b
    at_end a b = omega arith

-- where the VTTs alone pass the limit, all words do
pub past_all : (h : Classes) (l : Places) (sum : ℕ) → sum ≡ cut (words_of_all_vtts h l) → most_words < sum → most_words < words_of_all_classes h l
past_all h l sum is past = let below = vtts_within h l (length h) in omega (arith, is, past, below)
