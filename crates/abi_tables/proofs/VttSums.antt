-- The length of a VTT is a sum of numbers of its class and of the virtual bases of that.
use Rattle.std.proofs.Common.{◌≡◌, ℕ, zero, suc, ◌+◌, ◌<◌, inl, true, false, List, [], ◌∷◌, ◌++◌, length, refl, ap, sym, ◌∙◌, arith}
use Rattle.std.specs.Prelude.{Some, Bool, not, ◌&&◌, ◌||◌, if◌then◌else◌, filter}
use Rattle.std.specs.List.{sum_by, flat_map}
use Rattle.std.proofs.lemmas.List.{length-map, length-append}
use Rattle.std.proofs.lemmas.List.Concat.{length-flat_map}
use Rattle.std.proofs.lemmas.List.Sums.{sum_by-cons}
use Rattle.cxx_hierarchy.specs.declared.records.ClassId.{ClassId}
use Rattle.cxx_hierarchy.specs.declared.records.Base.{Base}
use Rattle.cxx_hierarchy.specs.Classes.{Classes, bases_of}
use Rattle.cxx_hierarchy.specs.Hierarchies.{IsHierarchy}
use Rattle.cxx_hierarchy.specs.VirtualBases.{further}
use Rattle.cxx_subobject.specs.declared.Root.{Root}
use Rattle.cxx_subobject.specs.declared.Root.TheVariants.{Whole, Shared}
use Rattle.cxx_subobject.specs.declared.Subobject.{Subobject}
use Rattle.cxx_subobject.specs.Subobjects.{subobject, shared_base, whole_of, class_of, class_of_path, is_shared_root}
use Rattle.cxx_subobject.specs.Preorder.{preorder}
use Rattle.cxx_subobject.specs.VirtualBases.{virtual_bases}
use Rattle.cxx_subobject.specs.invariants.Counts.{own_bases, own_within}
use Rattle.cxx_subobject.proofs.SumLemmas.{sum_same, sum_ones}
use Rattle.cxx_subobject.proofs.TreeLemmas.{edge, preorder_has, has_preorder, preorder_once}
use Rattle.cxx_subobject.proofs.TestLemmas.{class_below}
use Rattle.cxx_subobject.proofs.VirtualBaseLemmas.{has_virtual as virtual_there, virtual_has}
use Rattle.foundation.proofs.Truth.{split, is_false}
use Rattle.foundation.proofs.Members.{Has, contains_from_has}
use Rattle.abi_sound.specs.Places.{Places}
use Rattle.abi_primary.specs.PrimaryBase.{is_direct_primary}
use Rattle.abi_slots.specs.Views.{is_dynamic, is_dynamic_class}
use Rattle.abi_vtt.specs.Vtts.{item, is_filled, has_vtt, class_has_virtual, is_built_base, is_proper_at, ends_in_primary, needs_word, words_of_bases, extended_by, sub_items, shared_items, vtt_items}
use Rattle.abi_tables.specs.Counts.{vtt_words}
use Rattle.abi_tables.specs.invariants.Weights.{sides_of, dynamic_word, virtual_word, shared_words, base_words, sub_words, sub_vtt_words}
use Rattle.abi_tables.proofs.TreeSums.{WeighsEdges, all_sum, sum_filter}

-- the words of a sub-VTT for the bases of its view

ends_below : (l : Places) (path : List ClassId) (k b : ClassId) → class_of_path path ≡ Some k → ends_in_primary l (path ++ b ∷ []) ≡ is_direct_primary (l.primary k) b
ends_below l [] k b e = cc
ends_below l (c ∷ []) k b e = let same : c ≡ k = cc in ap (λ d. is_direct_primary (l.primary d) b) same
ends_below l (c ∷ d ∷ []) k b e = let same : d ≡ k = cc in ap (λ f. is_direct_primary (l.primary f) b) same
ends_below l (c ∷ d ∷ f ∷ path) k b e = ends_below l (d ∷ f ∷ path) k b e

proper_below : (r : Root) (path : List ClassId) (k b : ClassId) → class_of_path path ≡ Some k → is_proper_at r (path ++ b ∷ []) ≡ true
proper_below (Shared v) path k b e = refl
proper_below Whole [] k b e = cc
proper_below Whole (c ∷ []) k b e = refl
proper_below Whole (c ∷ d ∷ path) k b e = refl

abbrev one_if : Bool → ℕ
one_if b = if b then 1 else 0

whole_flags : (d w q v : Bool) → v ≡ false → one_if (d && ((w || false) && not q)) ≡ (if v || q then 0 else one_if (d && w))
whole_flags false w true v e = rw e refl
whole_flags false w false v e = rw e refl
whole_flags true false true v e = rw e refl
whole_flags true false false v e = rw e refl
whole_flags true true true v e = rw e refl
whole_flags true true false v e = rw e refl

shared_flags : (d w q v : Bool) → v ≡ false → one_if (d && ((w || true) && not q)) ≡ (if v || q then 0 else one_if d)
shared_flags false w true v e = rw e refl
shared_flags false w false v e = rw e refl
shared_flags true false true v e = rw e refl
shared_flags true false false v e = rw e refl
shared_flags true true true v e = rw e refl
shared_flags true true false v e = rw e refl

top_flags : (d w : Bool) → one_if (d && ((w || true) && true)) ≡ one_if d
top_flags false w = refl
top_flags true true = refl
top_flags true false = refl

abbrev word_weight : Classes → Places → Subobject → ℕ
word_weight h l t = one_if (needs_word h l t)

needs_below : (h : Classes) (l : Places) (t : Subobject) (k b : ClassId) → class_of t ≡ Some k → needs_word h l (subobject t.root (t.path ++ b ∷ [])) ≡ (is_dynamic h b && ((has_vtt h b || is_shared_root t.root) && not (is_direct_primary (l.primary k) b)))
needs_below h l t k b class =
    let path = t.path ++ b ∷ [] in
    let of_s : class_of_path path ≡ Some b = class_below t.path k b class in
    ap (λ p. p && (is_dynamic_class h (class_of_path path) && ((class_has_virtual h (class_of_path path) || is_shared_root t.root) && not (ends_in_primary l path)))) (proper_below t.root t.path k b class)
    ∙ ap (λ o. is_dynamic_class h o && ((class_has_virtual h o || is_shared_root t.root) && not (ends_in_primary l path))) of_s
    ∙ ap (λ e. is_dynamic h b && ((has_vtt h b || is_shared_root t.root) && not e)) (ends_below l t.path k b class)

whole_edges : (h : Classes) (l : Places) (c : ClassId) → WeighsEdges h l c Whole (word_weight h l) (virtual_word h)
whole_edges h l c = record {
  each = λ t k base at valid class way.
      let b = base.class in
      ap one_if (needs_below h l t k b class ∙ ap (λ r. is_dynamic h b && ((has_vtt h b || is_shared_root r) && not (is_direct_primary (l.primary k) b))) at)
      ∙ whole_flags (is_dynamic h b) (has_vtt h b) (is_direct_primary (l.primary k) b) base.is_virtual way;
}

shared_edges : (h : Classes) (l : Places) (c v : ClassId) → WeighsEdges h l c (Shared v) (word_weight h l) (dynamic_word h)
shared_edges h l c v = record {
  each = λ t k base at valid class way.
      let b = base.class in
      ap one_if (needs_below h l t k b class ∙ ap (λ r. is_dynamic h b && ((has_vtt h b || is_shared_root r) && not (is_direct_primary (l.primary k) b))) at)
      ∙ shared_flags (is_dynamic h b) (has_vtt h b) (is_direct_primary (l.primary k) b) base.is_virtual way;
}

bases_length : (h : Classes) → IsHierarchy h → (l : Places) (x : Subobject) (c : ClassId) → length (words_of_bases h l x c) ≡ base_words h l c
bases_length h keeps l x c =
    let vs = virtual_bases h c in
    let first : length (words_of_bases h l x c) ≡ sum_by (word_weight h l) (preorder h c) =
    length-map (filter (needs_word h l) (preorder h c)) (item x)
    ∙ sym (sum_ones (filter (needs_word h l) (preorder h c)))
    ∙ sum_filter (λ (t : Subobject). 1) (needs_word h l) (preorder h c) in
    let all = all_sum h keeps l c (word_weight h l) (virtual_word h) (dynamic_word h) (whole_edges h l c) (shared_edges h l c) (preorder h c) (preorder_once h c) (preorder_has h c keeps) (has_preorder h c) in
    let itself : word_weight h l (whole_of c) ≡ 0 = refl in
    let tops : sum_by (λ (v : ClassId). word_weight h l (shared_base v) + sides_of h l (dynamic_word h) v) vs ≡ sum_by (shared_words h l) vs = sum_same _ (shared_words h l) vs (λ v has. ap (λ n. n + sides_of h l (dynamic_word h) v) (top_flags (is_dynamic h v) (has_vtt h v))) in
    omega arith

-- a class without virtual bases has no words

pub filled : (vs : List ClassId) (v : ClassId) → Has vs v → is_filled vs ≡ true
filled [] v has = absurd has
filled (u ∷ vs) v has = refl

pub first_of : (vs : List ClassId) → is_filled vs ≡ true → (v : ClassId) × Has vs v
first_of [] e = cc
first_of (u ∷ vs) e = (u, inl refl)

unfilled : (vs : List ClassId) → is_filled vs ≡ false → vs ≡ []
unfilled [] e = refl
unfilled (u ∷ vs) e = cc

sum_nothing : {X : Type 0} (xs : List X) → sum_by (λ (x : X). 0) xs ≡ 0
sum_nothing [] = refl
sum_nothing {X} (x ∷ xs) = let a = sum_by-cons (λ (y : X). 0) x xs in let b = sum_nothing xs in omega arith

module _ (h : Classes) (keeps : IsHierarchy h) (l : Places) where
  none_below : (c : ClassId) (base : Base ClassId) → has_vtt h c ≡ false → Has (bases_of h c) base → has_vtt h base.class ≡ false
  none_below c base none has = is_false (has_vtt h base.class) (λ e.
      let r = first_of (virtual_bases h base.class) e in
      let there = further c base.class r.0 base.is_virtual (edge h c base base.is_virtual (contains_from_has (bases_of h c) base has) refl) (virtual_has h base.class r.0 r.1) in
      let some : has_vtt h c ≡ true = filled (virtual_bases h c) r.0 (virtual_there h keeps c r.0 there) in
      absurd (cc))

  none_within : (n : ℕ) (c : ClassId) → has_vtt h c ≡ false → own_within (sub_words h l) h n c ≡ 0
  none_within zero c none = refl
  none_within (suc n) c none =
      let here : sub_words h l c ≡ 0 = ap (λ (b : Bool). if b then 1 + base_words h l c else 0) none in
      let rest : own_bases (own_within (sub_words h l) h n) (bases_of h c) ≡ 0 = sum_same _ (λ (base : Base ClassId). 0) (bases_of h c) (λ base has.
      split base.is_virtual (λ b. (if b then 0 else own_within (sub_words h l) h n base.class) ≡ 0) (λ e. refl) (λ e. none_within n base.class (none_below c base none has)))
      ∙ sum_nothing (bases_of h c) in
      let r : sub_words h l c + own_bases (own_within (sub_words h l) h n) (bases_of h c) ≡ 0 = omega arith in
      r

  sub_length : (n : ℕ) (x : Subobject) (c : ClassId) → has_vtt h c ≡ true → c.0 < n → length (sub_items h l n x c) ≡ own_within (sub_words h l) h n c
  sub_length zero x c some lt = absurd (omega arith)
  sub_length (suc n) x c some lt =
      let f : Base ClassId → List Rattle.abi_vtt.specs.Vtts.VttEntry = λ base. sub_items h l n (extended_by x base.class) base.class in
      let bases : length (words_of_bases h l x c) ≡ base_words h l c = bases_length h keeps l x c in
      let subs : length (flat_map f (filter (is_built_base h) (bases_of h c))) ≡ own_bases (own_within (sub_words h l) h n) (bases_of h c) =
      length-flat_map f (filter (is_built_base h) (bases_of h c)) ∙ sum_filter (λ (base : Base ClassId). length (f base)) (is_built_base h) (bases_of h c) ∙ sum_same _ _ (bases_of h c) (λ base has.
      let less = keeps.bases c base (contains_from_has (bases_of h c) base has) in
      split base.is_virtual (λ b. (if not b && has_vtt h base.class then length (sub_items h l n (extended_by x base.class) base.class) else 0) ≡ (if b then 0 else own_within (sub_words h l) h n base.class))
      (λ e. refl)
      (λ e. split (has_vtt h base.class) (λ w. has_vtt h base.class ≡ w → (if w then length (sub_items h l n (extended_by x base.class) base.class) else 0) ≡ own_within (sub_words h l) h n base.class)
      (λ f some_there. sub_length n (extended_by x base.class) base.class some_there (omega arith))
      (λ f none. sym (none_within n base.class none))
      refl)) in
      let joined = length-append (flat_map f (filter (is_built_base h) (bases_of h c))) (words_of_bases h l x c) in
      let own : sub_words h l c ≡ 1 + base_words h l c = ap (λ (b : Bool). if b then 1 + base_words h l c else 0) some in
      ap suc joined ∙ (let r : suc (length (flat_map f (filter (is_built_base h) (bases_of h c))) + length (words_of_bases h l x c)) ≡ sub_words h l c + own_bases (own_within (sub_words h l) h n) (bases_of h c) = omega arith in r)

  pub vtt_sum : (c : ClassId) → vtt_words h l c ≡ sub_vtt_words h l c + sum_by (sub_vtt_words h l) (virtual_bases h c)
  vtt_sum c = split (has_vtt h c) (λ b. has_vtt h c ≡ b → (if b then length (vtt_items h l c) else 0) ≡ sub_vtt_words h l c + sum_by (sub_vtt_words h l) (virtual_bases h c))
      (λ e some.
      length-append (sub_items h l (c.0 + 1) (whole_of c) c) (flat_map (shared_items h l) (filter (has_vtt h) (virtual_bases h c)))
      ∙ ap (λ n. n + length (flat_map (shared_items h l) (filter (has_vtt h) (virtual_bases h c)))) (sub_length (c.0 + 1) (whole_of c) c some (omega arith))
      ∙ ap (λ n. sub_vtt_words h l c + n) (length-flat_map (shared_items h l) (filter (has_vtt h) (virtual_bases h c))
      ∙ sum_filter (λ (v : ClassId). length (shared_items h l v)) (has_vtt h) (virtual_bases h c)
      ∙ sum_same _ _ (virtual_bases h c) (λ v has. split (has_vtt h v) (λ w. has_vtt h v ≡ w → (if w then length (shared_items h l v) else 0) ≡ sub_vtt_words h l v)
      (λ f there. sub_length (v.0 + 1) (shared_base v) v there (omega arith))
      (λ f none. sym (none_within (v.0 + 1) v none))
      refl)))
      (λ e none. sym (ap (λ n. n + sum_by (sub_vtt_words h l) (virtual_bases h c)) (none_within (c.0 + 1) c none) ∙ ap (λ vs. 0 + sum_by (sub_vtt_words h l) vs) (unfilled (virtual_bases h c) none)))
      refl
