-- Where the table of a subobject is found, by where the walk over the subobjects of its class stands.
use Rattle.std.proofs.Common.{◌≡◌, ℕ, ◌+◌, ◌-◌, ◌*◌, ◌≤◌, ◌<◌, Bool, true, false, List, ◌∷◌, ◌++◌, length, refl, ap, sym, ◌∙◌, arith}
use Rattle.std.specs.Prelude.{filter, not, ◌&&◌, ◌||◌}
use Rattle.std.specs.List.{sum_by}
use Rattle.std.proofs.lemmas.List.{length-append}
use Rattle.cxx_hierarchy.specs.declared.records.ClassId.{ClassId}
use Rattle.cxx_hierarchy.specs.Hierarchies.{IsHierarchy}
use Rattle.cxx_subobject.specs.declared.Root.{Root}
use Rattle.cxx_subobject.specs.declared.Root.TheVariants.{Whole, Shared}
use Rattle.cxx_subobject.specs.Preorder.{preorder}
use Rattle.cxx_subobject.specs.declared.Subobject.{Subobject}
use Rattle.cxx_subobject.specs.Subobjects.{class_of, is_shared_root}
use Rattle.abi_slots.specs.Views.{is_dynamic_class}
use Rattle.abi_vtt.specs.Vtts.{has_vtt, class_has_virtual, is_proper_at, ends_in_primary, needs_word}
use Rattle.abi_vtt.specs.Blocks.{is_front_head, before_by_class}
use Rattle.abi_tables.specs.Counts.{words_of_all_classes, most_words}
use Rattle.code_ops.specs.Setups.{Setup, places}
use Rattle.code_blocks.specs.Blocks.{is_set_apart, point_distance}
use Rattle.code_plans.specs.declared.walks.Walk.{Walk}
use Rattle.code_plans.specs.invariants.Walks.{capped_count, first_tables, table_word_count, first_words_or, next_item, vtt_word_number, IsAtPart}
use Rattle.code_plans.proofs.FirstTables.{apart_front, filter_at, distance_at, words_within, distance_outside, number_whole, number_outside}
use Rattle.code_plans.proofs.WordLimits.{run_within, vtt_within}
use Rattle.code_plans.proofs.BlockSums.{block_is, vtt_is}

-- what is set apart needs one where it is a base that has virtual bases or lies below one
a_word : (p d q n : Bool) → (d && n) ≡ true → (p && (d && (q && n))) ≡ (p && q)
a_word p false q n e = absurd (cc)
a_word p true q false e = absurd (cc)
a_word false true q true e = refl
a_word true true false true e = refl
a_word true true true true e = refl

apart_needs : (x : Setup) (s : Subobject) → is_set_apart x s ≡ true → needs_word x.h (places x) s ≡ (is_proper_at s.root s.path && (class_has_virtual x.h (class_of s) || is_shared_root s.root))
apart_needs x s apart = a_word (is_proper_at s.root s.path) (is_dynamic_class x.h (class_of s)) (class_has_virtual x.h (class_of s) || is_shared_root s.root) (not (ends_in_primary (places x) s.path)) (sym (apart_front x s) ∙ apart)

-- of a subobject that is set apart
module _ (x : Setup) (keeps : IsHierarchy x.h) (c : ClassId) (known : c.0 < length x.h) (few : words_of_all_classes x.h (places x) ≤ most_words) (s : Subobject) (walk : Walk) (at : IsAtPart x.h (places x) c s walk) (apart : is_set_apart x s ≡ true) where
  front : is_front_head x.h (places x) s ≡ true
  front = sym (apart_front x s) ∙ apart

  pub whole_distance : s.root ≡ Whole → (distance : ℕ) → distance ≡ 8 * (walk.words + before_by_class x.h (places x) (class_of s) - first_words_or walk.first (before_by_class x.h (places x) (class_of s))) → distance ≡ point_distance x c s
  whole_distance whole distance is =
      let f = table_word_count x.h (places x) in
      let firsts = first_tables x.h (places x) at.passed in
      let before = before_by_class x.h (places x) (class_of s) in
      let cut_words : walk.words ≡ capped_count (sum_by f firsts) = at.past.words in
      let within = words_within x c at.passed s at.rest at.is front whole in
      let small = run_within x.h keeps (places x) c known few in
      let exact : walk.words ≡ sum_by f firsts = omega arith in
      is ∙ ap (λ n. 8 * (n + before - first_words_or walk.first before)) exact ∙ ap (λ o. 8 * (sum_by f firsts + before - first_words_or o before)) at.past.first ∙ sym (distance_at x c at.passed s at.rest at.is front whole)

  pub whole_number : s.root ≡ Whole → 0 ≡ vtt_word_number x c s
  whole_number whole = sym (number_whole x c at.passed s at.rest at.is front whole)

  pub shared_distance_none : is_shared_root s.root ≡ true → 0 ≡ point_distance x c s
  shared_distance_none shared = sym (distance_outside x c at.passed s at.rest at.is shared)

  pub shared_number : is_shared_root s.root ≡ true → needs_word x.h (places x) s ≡ true → has_vtt x.h c ≡ true → walk.item ≡ vtt_word_number x c s
  shared_number shared needs has =
      let cut_item : walk.item ≡ capped_count (next_item x.h (places x) c at.passed) = at.past.item in
      let p = needs_word x.h (places x) in
      let listed : length (filter p (preorder x.h c)) ≡ length (filter p at.passed ++ s ∷ filter p at.rest) = ap (λ (xs : List Subobject). length (filter p xs)) at.is ∙ ap length (filter_at p at.passed s at.rest needs) in
      let size = length-append (filter p at.passed) (s ∷ filter p at.rest) in
      let block = block_is x.h keeps (places x) c in
      let vtt = vtt_is x.h keeps (places x) c has in
      let small = vtt_within x.h (places x) c known few in
      let exact : walk.item ≡ next_item x.h (places x) c at.passed = omega arith in
      exact ∙ sym (number_outside x c at.passed s at.rest at.is shared needs)

-- what lies behind a virtual base and is set apart needs a word
pub shared_needs : (x : Setup) (s : Subobject) → is_set_apart x s ≡ true → is_shared_root s.root ≡ true → needs_word x.h (places x) s ≡ true
shared_needs x s apart shared = apart_needs x s apart ∙ by_root s.root s.path (class_has_virtual x.h (class_of s)) shared
  where
    by_root : (root : Root) (path : List ClassId) (b : Bool) → is_shared_root root ≡ true → (is_proper_at root path && (b || is_shared_root root)) ≡ true
    by_root Whole path b e = absurd (cc)
    by_root (Shared v) path true e = refl
    by_root (Shared v) path false e = refl
