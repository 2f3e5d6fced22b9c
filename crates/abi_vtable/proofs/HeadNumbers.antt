-- The numbers of the heads.
use Rattle.std.proofs.Common.{◌≡◌, ℕ, suc, ◌+◌, ◌<◌, ◌≤◌, Bool, true, false, Option, Some, None, List, [], ◌∷◌, ◌++◌, map, length, drop, get_or, refl, ap, subst, sym, ◌∙◌}
use Rattle.std.specs.Prelude.{if◌then◌else◌, slice_get, ◌&&◌, ◌||◌, not, nat_eq}
use Rattle.std.specs.List.{list_any, filter, flat_map, filter_map}
use Rattle.std.proofs.lemmas.Bool.{eq-eqb, eqb-true}
use Rattle.std.proofs.lemmas.List.{append-nil}
use Rattle.foundation.proofs.Places.{get_read}
use Rattle.cxx_hierarchy.specs.declared.records.ClassId.{ClassId}
use Rattle.cxx_hierarchy.specs.Classes.{Classes}
use Rattle.cxx_subobject.specs.declared.Root.{Root}
use Rattle.cxx_subobject.specs.declared.Root.TheVariants.{Whole, Shared}
use Rattle.cxx_subobject.specs.declared.Subobject.{Subobject}
use Rattle.cxx_subobject.specs.Subobjects.{class_of, same_root, same_subobject}
use Rattle.cxx_subobject.specs.Preorder.{preorder}
use Rattle.cxx_subobject.specs.VirtualBases.{shared_class, virtual_bases}
use Rattle.cxx_subobject.proofs.TreeLemmas.{preorder_lists, subobject_same, same_itself}
use Rattle.abi_sound.specs.Places.{Places}
use Rattle.abi_sound.specs.Chains.{is_subobject_in}
use Rattle.abi_slots.specs.Views.{View, next, is_dynamic, is_dynamic_class, is_first, is_head, of_root, heads}
use Rattle.abi_slots.proofs.Chains.{same_some}
use Rattle.abi_slots.proofs.Complete.{same_bool}
use Rattle.abi_slots.proofs.Heads.{dynamic_test, test_dynamic}
use Rattle.abi_slots.proofs.Loops.{pushed_more, pushed_all}
use Rattle.abi_vtable.specs.declared.view.ViewPart.{ViewPart}
use Rattle.abi_vtable.specs.declared.view.ViewParts.{ViewParts}
use Rattle.abi_vtable.specs.invariants.Parts.{NumbersSubobject, nothing, number, at_of, AreKeptParts, view_of_parts, leads_to, subobjects_numbered, heads_of_root, heads_of_bases}
use Rattle.abi_vtable.proofs.Lists.{map_more}
use Rattle.cxx_hierarchy.proofs.Listed.{get_map}

-- the number of the next one says which that is
number_test : (list : List Subobject) → ((i j : ℕ) (s : Subobject) → slice_get list i ≡ Some s → slice_get list j ≡ Some s → i ≡ j) → (n : ℕ) (s : Subobject) → slice_get list n ≡ Some s → (o : Option ℕ) (p : Option Subobject) → NumbersSubobject list o p → is_subobject_in p s ≡ leads_to n o
number_test list once n s at _ _ nothing = refl
number_test list once n s at _ _ (number m t there) = same_bool (same_subobject t s) (nat_eq m n)
    (λ e. eq-eqb m n (once m n s (there ∙ ap (λ a. Some a) (subobject_same t s e)) at))
    (λ e.
    let same : m ≡ n = eqb-true m n e in
    let one : t ≡ s = same_some t s (sym there ∙ ap (slice_get list) same ∙ at) in
    subst (λ a. same_subobject t a ≡ true) one (same_itself t))

any_alike : {A B : Type 0} (f : A → B) (q : B → Bool) (r : A → Bool) (xs : List A) → ((i : ℕ) (x : A) → slice_get xs i ≡ Some x → q (f x) ≡ r x) → list_any q (map f xs) ≡ list_any r xs
any_alike f q r [] e = refl
any_alike f q r (x ∷ xs) e = ap (λ a. a || list_any q (map f xs)) (e 0 x refl) ∙ ap (λ a. r x || a) (any_alike f q r xs (λ i y there. e (suc i) y there))

module _ (h : Classes) (l : Places) (v : ViewParts) (kept : AreKeptParts h l v) where
  abbrev here : View
  here = view_of_parts v

  part_there : (n : ℕ) (part : ViewPart) → slice_get v.parts n ≡ Some part → slice_get (preorder h v.class) n ≡ Some part.at
  part_there n part e = ap (λ xs. slice_get xs n) (sym kept.view.parts.subobjects) ∙ get_map at_of v.parts n part e

  first_test : (n : ℕ) (part : ViewPart) → slice_get v.parts n ≡ Some part → is_first h l (view_of_parts v) part.at ≡ not (list_any (λ (other : ViewPart). leads_to n other.next) v.parts)
  first_test n part e =
      let test = λ (u : Subobject). is_subobject_in (next l (view_of_parts v) u) part.at in
      let once = (preorder_lists h v.class kept.keeps).once in
      ap (λ xs. not (list_any test xs)) (sym kept.view.parts.subobjects)
      ∙ ap not (any_alike at_of test (λ (other : ViewPart). leads_to n other.next) v.parts
      (λ i other there. number_test (preorder h v.class) once n part.at (part_there n part e) other.next (next l (view_of_parts v) other.at) (kept.view.parts.each i other there).next))

  dynamic_is : (part : ViewPart) (n : ℕ) → slice_get v.parts n ≡ Some part → is_dynamic_class h (class_of part.at) ≡ part.is_dynamic
  dynamic_is part n e =
      let is = kept.view.parts.each n part e in
      ap (is_dynamic_class h) is.class ∙ same_bool (is_dynamic h part.class) part.is_dynamic (λ t. is.dynamic.1 (test_dynamic h kept.keeps part.class t)) (λ t. dynamic_test h kept.keeps part.class (is.dynamic.0 t))

  head_is : (n : ℕ) (part : ViewPart) → slice_get v.parts n ≡ Some part → is_head h l (view_of_parts v) part.at ≡ (part.is_dynamic && not (list_any (λ (other : ViewPart). leads_to n other.next) v.parts))
  head_is n part e = ap (λ a. a && is_first h l (view_of_parts v) part.at) (dynamic_is part n e) ∙ ap (λ a. part.is_dynamic && a) (first_test n part e)

  opens : (root : Root) (part : ViewPart) (rest : List ViewPart) (a b : Bool) → same_root root part.at.root ≡ a → is_head h l (view_of_parts v) part.at ≡ b → heads_of_root h l (view_of_parts v) root (part ∷ rest) ≡ (if a && b then Some part.at ∷ [] else []) ++ heads_of_root h l (view_of_parts v) root rest
  opens root part rest true true e f = rw (e, f) refl
  opens root part rest true false e f = rw (e, f) refl
  opens root part rest false b e f = rw e refl

  pushed_here : (list : List Subobject) (numbers new : List ℕ) (n : ℕ) (s : Subobject) (test : Bool) → slice_get list n ≡ Some s → new ≡ (if test then numbers ++ n ∷ [] else numbers) → subobjects_numbered list new ≡ subobjects_numbered list numbers ++ (if test then Some s ∷ [] else [])
  pushed_here list numbers new n s true at e = ap (subobjects_numbered list) e ∙ map_more (slice_get list) numbers n ∙ ap (λ a. subobjects_numbered list numbers ++ a ∷ []) at
  pushed_here list numbers new n s false at e = ap (subobjects_numbered list) e ∙ sym (append-nil (subobjects_numbered list numbers))

  -- one part more of those of a root
  pub root_more : (root : Root) (parts : List ViewPart) (n : ℕ) (part : ViewPart) (test : Bool) (numbers new : List ℕ) (all : List (Option Subobject)) → parts ≡ v.parts → n < length parts → part ≡ get_or parts n part →
      test ≡ (same_root root part.at.root && (part.is_dynamic && not (list_any (λ (other : ViewPart). leads_to n other.next) parts))) → new ≡ (if test then numbers ++ n ∷ [] else numbers) →
      subobjects_numbered (preorder h v.class) numbers ++ heads_of_root h l (view_of_parts v) root (drop n parts) ≡ all → subobjects_numbered (preorder h v.class) new ++ heads_of_root h l (view_of_parts v) root (drop (n + 1) parts) ≡ all
  root_more root parts n part test numbers new all same lt is tested pushed inv =
      let there : slice_get v.parts n ≡ Some part = ap (λ xs. slice_get xs n) (sym same) ∙ get_read parts n part lt is in
      let found : test ≡ (same_root root part.at.root && is_head h l (view_of_parts v) part.at) = tested ∙ ap (λ xs. same_root root part.at.root && (part.is_dynamic && not (list_any (λ (other : ViewPart). leads_to n other.next) xs))) same ∙ ap (λ a. same_root root part.at.root && a) (sym (head_is n part there)) in
      let piece = (if test then Some part.at ∷ [] else []) in
      let opened : heads_of_root h l (view_of_parts v) root (part ∷ drop (n + 1) parts) ≡ piece ++ heads_of_root h l (view_of_parts v) root (drop (n + 1) parts) =
      opens root part (drop (n + 1) parts) (same_root root part.at.root) (is_head h l (view_of_parts v) part.at) refl refl ∙ ap (λ b. (if b then Some part.at ∷ [] else []) ++ heads_of_root h l (view_of_parts v) root (drop (n + 1) parts)) (sym found) in
      pushed_more (heads_of_root h l (view_of_parts v) root) parts n part piece (subobjects_numbered (preorder h v.class) numbers) (subobjects_numbered (preorder h v.class) new) all lt is opened (pushed_here (preorder h v.class) numbers new n part.at test (part_there n part there) pushed) inv

  pub root_all : (root : Root) (parts : List ViewPart) (n : ℕ) (numbers old : List ℕ) → parts ≡ v.parts → length parts ≤ n →
      subobjects_numbered (preorder h v.class) numbers ++ heads_of_root h l (view_of_parts v) root (drop n parts) ≡ subobjects_numbered (preorder h v.class) old ++ heads_of_root h l (view_of_parts v) root parts →
      subobjects_numbered (preorder h v.class) numbers ≡ subobjects_numbered (preorder h v.class) old ++ heads_of_root h l (view_of_parts v) root v.parts
  root_all root parts n numbers old same le inv = pushed_all (heads_of_root h l (view_of_parts v) root) refl parts n (subobjects_numbered (preorder h v.class) numbers) _ le inv ∙ ap (λ xs. subobjects_numbered (preorder h v.class) old ++ heads_of_root h l (view_of_parts v) root xs) same

  filter_both : {A : Type 0} (p : A → Bool) (xs ys : List A) → map Some (filter p (xs ++ ys)) ≡ map Some (filter p xs) ++ map Some (filter p ys)
  filter_both p [] ys = refl
  filter_both p (x ∷ xs) ys = by_bool (p x) refl (filter_both p xs ys)
    where
      by_bool : (b : Bool) → p x ≡ b → map Some (filter p (xs ++ ys)) ≡ map Some (filter p xs) ++ map Some (filter p ys) → map Some (filter p ((x ∷ xs) ++ ys)) ≡ map Some (filter p (x ∷ xs)) ++ map Some (filter p ys)
      by_bool true e rest = rw e (ap (λ a. Some x ∷ a) rest)
      by_bool false e rest = rw e rest

  root_heads : (root : Root) → map Some (filter (is_head h l (view_of_parts v)) (of_root root (preorder h v.class))) ≡ heads_of_root h l (view_of_parts v) root v.parts
  root_heads root = ap (λ xs. map Some (filter (is_head h l (view_of_parts v)) (of_root root xs))) (sym kept.view.parts.subobjects)

  bases_some : (part : ViewPart) (rest : List ViewPart) (u : ClassId) → shared_class part.at ≡ Some u → heads_of_bases h l (view_of_parts v) (part ∷ rest) ≡ heads_of_root h l (view_of_parts v) (Shared u) v.parts ++ heads_of_bases h l (view_of_parts v) rest
  bases_some part rest u e =
      let go = λ (w : ClassId). of_root (Shared w) (preorder h v.class) in
      let first : filter_map shared_class (part.at ∷ map at_of rest) ≡ u ∷ filter_map shared_class (map at_of rest) = rw e refl in
      ap (λ us. map Some (filter (is_head h l (view_of_parts v)) (flat_map go us))) first
      ∙ filter_both (is_head h l (view_of_parts v)) (go u) (flat_map go (filter_map shared_class (map at_of rest)))
      ∙ ap (λ a. a ++ heads_of_bases h l (view_of_parts v) rest) (root_heads (Shared u))

  bases_none : (part : ViewPart) (rest : List ViewPart) → shared_class part.at ≡ None → heads_of_bases h l (view_of_parts v) (part ∷ rest) ≡ [] ++ heads_of_bases h l (view_of_parts v) rest
  bases_none part rest e =
      let first : filter_map shared_class (part.at ∷ map at_of rest) ≡ filter_map shared_class (map at_of rest) = rw e refl in
      ap (λ us. map Some (filter (is_head h l (view_of_parts v)) (flat_map (λ w. of_root (Shared w) (preorder h v.class)) us))) first

  -- one part more that is a virtual base, or none
  pub base_more : (parts : List ViewPart) (n : ℕ) (part : ViewPart) (u : ClassId) (numbers new : List ℕ) (all : List (Option Subobject)) → n < length parts → part ≡ get_or parts n part → Some u ≡ shared_class part.at →
      subobjects_numbered (preorder h v.class) new ≡ subobjects_numbered (preorder h v.class) numbers ++ heads_of_root h l (view_of_parts v) (Shared u) v.parts →
      subobjects_numbered (preorder h v.class) numbers ++ heads_of_bases h l (view_of_parts v) (drop n parts) ≡ all → subobjects_numbered (preorder h v.class) new ++ heads_of_bases h l (view_of_parts v) (drop (n + 1) parts) ≡ all
  base_more parts n part u numbers new all lt is e pushed inv =
      pushed_more (heads_of_bases h l (view_of_parts v)) parts n part (heads_of_root h l (view_of_parts v) (Shared u) v.parts) (subobjects_numbered (preorder h v.class) numbers) (subobjects_numbered (preorder h v.class) new) all lt is (bases_some part (drop (n + 1) parts) u (sym e)) pushed inv

  pub base_skip : (parts : List ViewPart) (n : ℕ) (part : ViewPart) (numbers : List ℕ) (all : List (Option Subobject)) → n < length parts → part ≡ get_or parts n part → None ≡ shared_class part.at →
      subobjects_numbered (preorder h v.class) numbers ++ heads_of_bases h l (view_of_parts v) (drop n parts) ≡ all → subobjects_numbered (preorder h v.class) numbers ++ heads_of_bases h l (view_of_parts v) (drop (n + 1) parts) ≡ all
  base_skip parts n part numbers all lt is e inv =
      pushed_more (heads_of_bases h l (view_of_parts v)) parts n part [] (subobjects_numbered (preorder h v.class) numbers) (subobjects_numbered (preorder h v.class) numbers) all lt is (bases_none part (drop (n + 1) parts) (sym e)) (sym (append-nil (subobjects_numbered (preorder h v.class) numbers))) inv

  pub heads_are : (parts : List ViewPart) (n : ℕ) (old numbers : List ℕ) → parts ≡ v.parts → length parts ≤ n → subobjects_numbered (preorder h v.class) old ≡ heads_of_root h l (view_of_parts v) Whole v.parts →
      subobjects_numbered (preorder h v.class) numbers ++ heads_of_bases h l (view_of_parts v) (drop n parts) ≡ subobjects_numbered (preorder h v.class) old ++ heads_of_bases h l (view_of_parts v) parts →
      subobjects_numbered (preorder h v.class) numbers ≡ map Some (heads h l (view_of_parts v))
  heads_are parts n old numbers same le first inv =
      let go = λ (w : ClassId). of_root (Shared w) (preorder h v.class) in
      let rest : heads_of_bases h l (view_of_parts v) parts ≡ map Some (filter (is_head h l (view_of_parts v)) (flat_map go (virtual_bases h v.class))) =
      ap (λ xs. map Some (filter (is_head h l (view_of_parts v)) (flat_map go (filter_map shared_class xs)))) (ap (map at_of) same ∙ kept.view.parts.subobjects) in
      pushed_all (heads_of_bases h l (view_of_parts v)) refl parts n (subobjects_numbered (preorder h v.class) numbers) _ le inv
      ∙ ap (λ a. a ++ heads_of_bases h l (view_of_parts v) parts) (first ∙ sym (root_heads Whole))
      ∙ ap (λ a. map Some (filter (is_head h l (view_of_parts v)) (of_root Whole (preorder h v.class))) ++ a) rest
      ∙ sym (filter_both (is_head h l (view_of_parts v)) (of_root Whole (preorder h v.class)) (flat_map go (virtual_bases h v.class)))
