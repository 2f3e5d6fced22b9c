-- Where the table of a subobject is found, by what stands before it in preorder.
use Rattle.std.proofs.Common.{◌≡◌, ℕ, suc, ◌+◌, ◌-◌, ◌*◌, ◌≤◌, ◌<◌, inl, inr, ⊎_elim, Bool, true, false, Option, Some, None, List, [], ◌∷◌, ◌++◌, length, refl, ap, subst, sym, ◌∙◌, arith}
use Rattle.std.specs.Prelude.{filter, if◌then◌else◌, nat_lt, not, ◌&&◌}
use Rattle.std.specs.List.{sum_by}
use Rattle.std.proofs.lemmas.Bool.Decides.{nat_tests}
use Rattle.std.proofs.lemmas.List.{length-append}
use Rattle.std.proofs.lemmas.List.Elements.{filter-append}
use Rattle.std.proofs.lemmas.List.Sums.{sum_by-cons, sum_by-append}
use Rattle.foundation.proofs.Truth.{split, is_false}
use Rattle.foundation.proofs.Members.{Has, EachOnce}
use Rattle.foundation.proofs.Chosen.{has_filter}
use Rattle.cxx_hierarchy.specs.declared.records.ClassId.{ClassId}
use Rattle.cxx_hierarchy.specs.Classes.{Classes}
use Rattle.cxx_subobject.specs.declared.Root.TheVariants.{Whole}
use Rattle.cxx_subobject.specs.declared.Subobject.{Subobject}
use Rattle.cxx_subobject.specs.Subobjects.{same_subobject, same_root, class_of, is_shared_root}
use Rattle.cxx_subobject.specs.Preorder.{preorder}
use Rattle.cxx_subobject.proofs.TreeLemmas.{preorder_once, same_itself, subobject_same, root_same}
use Rattle.abi_sound.specs.Places.{Places}
use Rattle.abi_slots.specs.Listing.{first_position}
use Rattle.abi_slots.specs.Views.{is_dynamic_class, of_root}
use Rattle.abi_slots.proofs.EntryPlaces.{place_none}
use Rattle.abi_vtt.specs.Vtts.{ends_in_primary, needs_word}
use Rattle.abi_vtt.specs.Blocks.{is_front_head, table_run, run_distance, item_number, words_by_class, before_by_class, words_to, lengths_of, built_classes}
use Rattle.code_ops.specs.Setups.{Setup, places}
use Rattle.code_blocks.specs.Blocks.{is_set_apart, is_in_run, run_number, point_distance}
use Rattle.code_plans.specs.invariants.Walks.{first_tables, table_word_count, words_before_first, first_words_or, next_item, vtt_word_number}

-- places in lists

place_past : {A : Type 0} (test : A → Bool) (xs : List A) (s : A) (rest : List A) → test s ≡ true → ((y : A) → Has xs y → test y ≡ false) → first_position test (xs ++ s ∷ rest) ≡ length xs
place_past test [] s rest passes none = ap (λ b. if b then 0 else suc (first_position test rest)) passes
place_past test (x ∷ xs) s rest passes none = ap (λ b. if b then 0 else suc (first_position test (xs ++ s ∷ rest))) (none x (inl refl)) ∙ ap suc (place_past test xs s rest passes (λ y has. none y (inr has)))

-- what stands once does not stand before itself
once_before : {A : Type 0} (xs : List A) (s : A) (rest : List A) → EachOnce (xs ++ s ∷ rest) → Has xs s → ⊥
once_before [] s rest once has = has
once_before {A} (x ∷ xs) s rest once has = ⊎_elim (λ e. once.0 (subst (λ (y : A). Has (xs ++ s ∷ rest) y) (sym e) (middle xs))) (λ more. once_before xs s rest once.1 more) has
  where
    middle : (ys : List A) → Has (ys ++ s ∷ rest) s
    middle [] = inl refl
    middle (y ∷ ys) = inr (middle ys)

-- a filter keeps what passes, between what stood before it and behind it
pub filter_at : {A : Type 0} (p : A → Bool) (xs : List A) (s : A) (rest : List A) → p s ≡ true → filter p (xs ++ s ∷ rest) ≡ filter p xs ++ s ∷ filter p rest
filter_at p xs s rest passes = filter-append p xs (s ∷ rest) ∙ ap (λ b. filter p xs ++ (if b then s ∷ filter p rest else filter p rest)) passes

-- words before address points

words_there : (h : Classes) (l : Places) (xs : List Subobject) (s : Subobject) (rest : List Subobject) → words_to h l (xs ++ s ∷ rest) (length xs) ≡ sum_by (table_word_count h l) xs + before_by_class h l (class_of s)
words_there h l [] s rest = omega arith
words_there h l (x ∷ xs) s rest = let more = words_there h l xs s rest in let sum = sum_by-cons (table_word_count h l) x xs in omega arith

words_first : (h : Classes) (l : Places) (xs : List Subobject) (s : Subobject) (rest : List Subobject) → words_to h l (xs ++ s ∷ rest) 0 ≡ first_words_or (words_before_first h l xs) (before_by_class h l (class_of s))
words_first h l [] s rest = refl
words_first h l (x ∷ xs) s rest = refl

pub before_within : (h : Classes) (l : Places) (o : Option ClassId) → before_by_class h l o ≤ words_by_class h l o
before_within h l None = omega arith
before_within h l (Some d) = omega arith

-- what is set apart

pub apart_front : (x : Setup) (s : Subobject) → is_set_apart x s ≡ is_front_head x.h (places x) s
apart_front x s = split (is_dynamic_class x.h (class_of s)) (λ b. (if b then not (ends_in_primary (places x) s.path) else false) ≡ (b && not (ends_in_primary (places x) s.path))) (λ t. refl) (λ t. refl)

-- a subobject of the first tables is of the non-virtual part, and stands in the list
pub first_listed : (h : Classes) (l : Places) (list : List Subobject) (s : Subobject) → Has (first_tables h l list) s → Has list s × (s.root ≡ Whole)
first_listed h l list s has =
    let a = has_filter (is_front_head h l) (of_root Whole list) s has in
    let b = has_filter (λ (t : Subobject). same_root Whole t.root) list s a.0 in
    (b.0, sym (root_same Whole s.root b.1))

-- the first tables around a subobject of the non-virtual part that is set apart
pub first_at : (h : Classes) (l : Places) (xs : List Subobject) (s : Subobject) (rest : List Subobject) → is_front_head h l s ≡ true → s.root ≡ Whole → first_tables h l (xs ++ s ∷ rest) ≡ first_tables h l xs ++ s ∷ first_tables h l rest
first_at h l xs s rest front whole =
    ap (filter (is_front_head h l)) (filter_at (λ (t : Subobject). same_root Whole t.root) xs s rest (ap (same_root Whole) whole))
    ∙ filter_at (is_front_head h l) (of_root Whole xs) s (of_root Whole rest) front

-- no other subobject in a list is this one
others : (xs : List Subobject) (s : Subobject) → (Has xs s → ⊥) → (y : Subobject) → Has xs y → same_subobject s y ≡ false
others xs s none y has = is_false (same_subobject s y) (λ same. none (subst (λ t. Has xs t) (sym (subobject_same s y same)) has))

below_true : (a b : ℕ) → a < b → nat_lt a b ≡ true
below_true a b lt = grind (arith, nat_tests)

not_below : (a b : ℕ) → a ≡ b → nat_lt a b ≡ false
not_below a b e = grind (arith, nat_tests)

-- of a subobject of a class, by what stands before it and behind it in preorder
module _ (x : Setup) (c : ClassId) (passed : List Subobject) (s : Subobject) (rest : List Subobject) (at : preorder x.h c ≡ passed ++ s ∷ rest) where
  abbrev firsts : List Subobject
  firsts = first_tables x.h (places x) passed

  abbrev before : ℕ
  before = before_by_class x.h (places x) (class_of s)

  not_passed : Has passed s → ⊥
  not_passed = once_before passed s rest (subst EachOnce at (preorder_once x.h c))

  run_at : is_front_head x.h (places x) s ≡ true → s.root ≡ Whole → table_run x.h (places x) c ≡ firsts ++ s ∷ first_tables x.h (places x) rest
  run_at front whole = ap (first_tables x.h (places x)) at ∙ first_at x.h (places x) passed s rest front whole

  number_at : is_front_head x.h (places x) s ≡ true → s.root ≡ Whole → run_number x c s ≡ length firsts
  number_at front whole =
      ap (first_position (same_subobject s)) (run_at front whole)
      ∙ place_past (same_subobject s) firsts s (first_tables x.h (places x) rest) (same_itself s) (others firsts s (λ has. not_passed (first_listed x.h (places x) passed s has).0))

  inside : is_front_head x.h (places x) s ≡ true → s.root ≡ Whole → is_in_run x c s ≡ true
  inside front whole =
      let number = number_at front whole in
      let size : length (table_run x.h (places x) c) ≡ length (firsts ++ s ∷ first_tables x.h (places x) rest) = ap length (run_at front whole) in
      let sum : length (firsts ++ s ∷ first_tables x.h (places x) rest) ≡ length firsts + suc (length (first_tables x.h (places x) rest)) = length-append firsts (s ∷ first_tables x.h (places x) rest) in
      below_true (run_number x c s) (length (table_run x.h (places x) c)) (omega arith)

  -- the words of the first tables up to its own are among all of them
  pub words_within : is_front_head x.h (places x) s ≡ true → s.root ≡ Whole → sum_by (table_word_count x.h (places x)) firsts + before ≤ sum_by (table_word_count x.h (places x)) (table_run x.h (places x) c)
  words_within front whole =
      let f = table_word_count x.h (places x) in
      let all : sum_by f (table_run x.h (places x) c) ≡ sum_by f (firsts ++ s ∷ first_tables x.h (places x) rest) = ap (sum_by f) (run_at front whole) in
      let parts = sum_by-append f firsts (s ∷ first_tables x.h (places x) rest) in
      let own = sum_by-cons f s (first_tables x.h (places x) rest) in
      let less = before_within x.h (places x) (class_of s) in
      omega arith

  -- how far behind the first address point its own stands
  pub distance_at : is_front_head x.h (places x) s ≡ true → s.root ≡ Whole → point_distance x c s ≡ 8 * (sum_by (table_word_count x.h (places x)) firsts + before - first_words_or (words_before_first x.h (places x) firsts) before)
  distance_at front whole =
      let h = x.h in
      let l = places x in
      let r = first_tables h l rest in
      let own : words_to h l (table_run h l c) (run_number x c s) ≡ sum_by (table_word_count h l) firsts + before = ap (words_to h l (table_run h l c)) (number_at front whole) ∙ ap (λ (xs : List Subobject). words_to h l xs (length firsts)) (run_at front whole) ∙ words_there h l firsts s r in
      let first : words_to h l (table_run h l c) 0 ≡ first_words_or (words_before_first h l firsts) before = ap (λ (xs : List Subobject). words_to h l xs 0) (run_at front whole) ∙ words_first h l firsts s r in
      ap (λ b. if b then 8 * run_distance h l c (run_number x c s) else 0) (inside front whole)
      ∙ ap (λ n. 8 * (n - words_to h l (table_run h l c) 0)) own
      ∙ ap (λ n. 8 * (sum_by (table_word_count h l) firsts + before - n)) first

  pub number_whole : is_front_head x.h (places x) s ≡ true → s.root ≡ Whole → vtt_word_number x c s ≡ 0
  number_whole front whole = ap (λ b. if b then 0 else item_number x.h (places x) c s) (inside front whole)

  -- of a subobject behind a virtual base

  outside : is_shared_root s.root ≡ true → is_in_run x c s ≡ false
  outside shared = not_below (run_number x c s) (length (table_run x.h (places x) c)) (place_none (same_subobject s) (table_run x.h (places x) c) other)
    where
      other : (y : Subobject) → Has (table_run x.h (places x) c) y → same_subobject s y ≡ false
      other y has = is_false (same_subobject s y) (λ same.
          let whole : s.root ≡ Whole = ap (λ (t : Subobject). t.root) (subobject_same s y same) ∙ (first_listed x.h (places x) (preorder x.h c) y has).1 in
          let bad : false ≡ true = sym (ap is_shared_root whole) ∙ shared in cc)

  pub distance_outside : is_shared_root s.root ≡ true → point_distance x c s ≡ 0
  distance_outside shared = ap (λ b. if b then 8 * run_distance x.h (places x) c (run_number x c s) else 0) (outside shared)

  pub number_outside : is_shared_root s.root ≡ true → needs_word x.h (places x) s ≡ true → vtt_word_number x c s ≡ next_item x.h (places x) c passed
  number_outside shared needs =
      let p = needs_word x.h (places x) in
      let there : first_position (same_subobject s) (filter p (preorder x.h c)) ≡ length (filter p passed) =
      ap (λ (xs : List Subobject). first_position (same_subobject s) (filter p xs)) at
      ∙ ap (first_position (same_subobject s)) (filter_at p passed s rest needs)
      ∙ place_past (same_subobject s) (filter p passed) s (filter p rest) (same_itself s) (others (filter p passed) s (λ has. not_passed (has_filter p passed s has).0)) in
      ap (λ b. if b then 0 else item_number x.h (places x) c s) (outside shared) ∙ ap (λ n. 1 + lengths_of x.h (places x) (built_classes x.h c) + n) there
