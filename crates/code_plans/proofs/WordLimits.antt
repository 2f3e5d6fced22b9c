-- The words of the tables that come first in a group, and of VTTs, are within the limit on all words.
use Rattle.std.proofs.Common.{◌≡◌, ℕ, zero, suc, ◌+◌, ◌≤◌, ◌<◌, inl, ⊎_elim, true, false, Option, Some, None, List, [], ◌∷◌, ◌++◌, length, refl, ap, subst, sym, arith}
use Rattle.std.specs.Prelude.{if◌then◌else◌, not}
use Rattle.std.specs.List.{sum_by}
use Rattle.std.proofs.lemmas.Bool.{and_parts, cases_lt}
use Rattle.std.proofs.lemmas.List.Sums.{sum_by-cons, sum_by-append}
use Rattle.foundation.proofs.Truth.{split, not_both}
use Rattle.foundation.proofs.Members.{Has, has_left}
use Rattle.foundation.proofs.Chosen.{has_filter}
use Rattle.cxx_hierarchy.specs.declared.records.ClassId.{ClassId}
use Rattle.cxx_hierarchy.specs.Classes.{Classes}
use Rattle.cxx_hierarchy.specs.Hierarchies.{IsHierarchy}
use Rattle.cxx_subobject.specs.declared.Root.{Root}
use Rattle.cxx_subobject.specs.declared.Root.TheVariants.{Whole, Shared}
use Rattle.cxx_subobject.specs.declared.Subobject.{Subobject}
use Rattle.cxx_subobject.specs.Subobjects.{whole_of, class_of}
use Rattle.cxx_subobject.specs.Preorder.{preorder}
use Rattle.cxx_subobject.proofs.PathLemmas.{class_there}
use Rattle.cxx_subobject.proofs.TreeLemmas.{has_preorder}
use Rattle.cxx_subobject.proofs.SumLemmas.{sum_same}
use Rattle.abi_sound.specs.Places.{Places}
use Rattle.abi_slots.specs.Views.{View, is_dynamic, is_dynamic_class, of_root}
use Rattle.abi_slots.proofs.Dynamics.{dynamic_whole}
use Rattle.abi_slots.proofs.Heads.{dynamic_test, test_dynamic}
use Rattle.abi_vtt.specs.Vtts.{has_vtt, ends_in_primary, sub_views, views}
use Rattle.abi_vtt.specs.Blocks.{is_front_head, table_run}
use Rattle.abi_vtt.proofs.RunLemmas.{heads_are, shared_heads}
use Rattle.abi_tables.specs.Counts.{most_words, words_of_class, table_words, group_words, words_of_view, group_views, vtt_words, class_words, words_before_class, words_of_all_classes}
use Rattle.code_plans.specs.invariants.Walks.{table_word_count}
use Rattle.code_plans.proofs.FirstTables.{first_listed}

-- sums

sum_has : {A : Type 0} (f : A → ℕ) (xs : List A) (x : A) → Has xs x → f x ≤ sum_by f xs
sum_has f [] x has = absurd has
sum_has f (y ∷ xs) x has = let sum = sum_by-cons f y xs in ⊎_elim (λ e. let same : f y ≡ f x = ap f e in omega arith) (λ more. let less = sum_has f xs x more in omega arith) has

sum_none : {A : Type 0} (f : A → ℕ) (xs : List A) → ((x : A) → Has xs x → ⊥) → sum_by f xs ≡ 0
sum_none f [] none = refl
sum_none f (x ∷ xs) none = absurd (none x (inl refl))

-- the words of one class are among all

class_within : (h : Classes) (l : Places) (n : ℕ) (c : ClassId) → c.0 < n → class_words h l c ≤ words_before_class h l n
class_within h l zero c lt = absurd (omega arith)
class_within h l (suc n) c lt = ⊎_elim (λ less. let more = class_within h l n c less in omega arith)
    (λ ge. let same : c.0 ≡ n = omega arith in let is : class_words h l c ≡ class_words h l (record { 0 = n }) = ap (λ (k : ℕ). class_words h l (record { 0 = k })) same in omega arith)
    (cases_lt c.0 n)

pub vtt_within : (h : Classes) (l : Places) (c : ClassId) → c.0 < length h → words_of_all_classes h l ≤ most_words → vtt_words h l c ≤ most_words
vtt_within h l c known few = let one = class_within h l (length h) c known in omega arith

-- the whole has a group where its class is dynamic

whole_view : (h : Classes) (c : ClassId) → is_dynamic h c ≡ true → Has (group_views h c) (whole_of c)
whole_view h c dynamic = split (has_vtt h c) (λ b. Has (if b then views h c else (if is_dynamic h c then whole_of c ∷ [] else [])) (whole_of c))
    (λ t. has_left (sub_views h (c.0 + 1) (whole_of c) c) _ (whole_of c) (let steps : suc c.0 ≡ c.0 + 1 = omega arith in subst (λ n. Has (sub_views h n (whole_of c) c) (whole_of c)) steps (inl refl)))
    (λ t. subst (λ b. Has (if b then whole_of c ∷ [] else []) (whole_of c)) (sym dynamic) (inl refl))

abbrev whole_as_view : ClassId → View
whole_as_view c = record { complete = c; at_sub = whole_of c; class = c }

-- the table of a subobject of the non-virtual part
own_words : (h : Classes) (l : Places) (c : ClassId) (s : Subobject) → s.root ≡ Whole → table_words h l (whole_as_view c) s ≡ table_word_count h l s
own_words h l c s whole = by_root s.root s.path whole
  where
    by_class : (o : Option ClassId) → words_of_class h l false o ≡ Rattle.abi_vtt.specs.Blocks.words_by_class h l o
    by_class None = refl
    by_class (Some d) = refl

    by_root : (root : Root) (path : List ClassId) → root ≡ Whole → table_words h l (whole_as_view c) (record { root = root; path = path }) ≡ table_word_count h l (record { root = root; path = path })
    by_root Whole path e = by_class (class_of (record { root = Whole; path = path }))
    by_root (Shared v) path e = absurd (cc)

pub run_within : (h : Classes) → IsHierarchy h → (l : Places) (c : ClassId) → c.0 < length h → words_of_all_classes h l ≤ most_words → sum_by (table_word_count h l) (table_run h l c) ≤ most_words
run_within h keeps l c known few = split (is_dynamic h c) (λ b. is_dynamic h c ≡ b → sum_by (table_word_count h l) (table_run h l c) ≤ most_words) (λ _ dynamic. some dynamic) (λ _ plain. none plain) refl
  where
    some : is_dynamic h c ≡ true → sum_by (table_word_count h l) (table_run h l c) ≤ most_words
    some dynamic =
        let x = whole_as_view c in
        let f = λ (s : Subobject). words_of_view h l c s (class_of s) in
        let group : group_words h l x ≤ sum_by f (group_views h c) = sum_has f (group_views h c) (whole_of c) (whole_view h c dynamic) in
        let all : group_words h l x ≡ sum_by (table_words h l x) (table_run h l c ++ shared_heads h keeps l x) = ap (sum_by (table_words h l x)) (heads_are h keeps l x) in
        let parts = sum_by-append (table_words h l x) (table_run h l c) (shared_heads h keeps l x) in
        let own = sum_same (table_words h l x) (table_word_count h l) (table_run h l c) (λ s has. own_words h l c s (first_listed h l (preorder h c) s has).1) in
        let class = class_within h l (length h) c known in
        omega arith

    none : is_dynamic h c ≡ false → sum_by (table_word_count h l) (table_run h l c) ≤ most_words
    none plain =
        let nothing = sum_none (table_word_count h l) (table_run h l c) (λ s has.
        let there = first_listed h l (preorder h c) s has in
        let valid = has_preorder h c s there.0 in
        let class = class_there h c s valid in
        let front = (has_filter (is_front_head h l) (of_root Whole (preorder h c)) s has).1 in
        let dynamic = (and_parts (is_dynamic_class h (class_of s)) (not (ends_in_primary l s.path)) front).0 in
        not_both (dynamic_test h keeps c (dynamic_whole h c class.0 s valid class.1 (test_dynamic h keeps class.0 (subst (λ o. is_dynamic_class h o ≡ true) class.1 dynamic)))) plain) in
        omega arith
