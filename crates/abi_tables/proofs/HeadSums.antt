-- The words of the group of a view are a sum of numbers of its class and of the virtual bases of that.
use Rattle.std.proofs.Common.{◌≡◌, ℕ, ◌+◌, true, false, [], ◌∷◌, ◌++◌, refl, ap, subst, sym, ◌∙◌}
use Rattle.std.specs.Prelude.{Some, None, Bool, not, ◌&&◌, ◌||◌, IsTrue, ◌↔◌, if◌then◌else◌}
use Rattle.std.specs.List.{sum_by, list_any}
use Rattle.std.proofs.lemmas.Bool.{eqb-true, eq-eqb, and_from}
use Rattle.std.proofs.lemmas.List.{same_from_push}
use Rattle.cxx_hierarchy.specs.declared.records.ClassId.{ClassId}
use Rattle.cxx_hierarchy.specs.Classes.{Classes}
use Rattle.cxx_hierarchy.specs.VirtualBases.{HasVirtualBase}
use Rattle.cxx_subobject.specs.declared.Root.{Root}
use Rattle.cxx_subobject.specs.declared.Root.TheVariants.{Whole, Shared}
use Rattle.cxx_subobject.specs.declared.Subobject.{Subobject}
use Rattle.cxx_subobject.specs.Subobjects.{IsSubobject, subobject, shared_base, whole_of, class_of, class_of_path}
use Rattle.cxx_subobject.specs.Preorder.{preorder}
use Rattle.cxx_subobject.specs.VirtualBases.{virtual_bases}
use Rattle.cxx_subobject.proofs.PathLemmas.{class_there, part_virtual, same_id}
use Rattle.cxx_subobject.proofs.InsideLemmas.{join_whole}
use Rattle.cxx_subobject.proofs.TreeLemmas.{same_itself}
use Rattle.cxx_subobject.proofs.TestLemmas.{class_below}
use Rattle.foundation.proofs.Truth.{is_false}
use Rattle.foundation.proofs.Members.{has_at}
use Rattle.abi_primary.specs.declared.Primary.{Primary}
use Rattle.abi_primary.specs.declared.Primary.TheVariants.{None as NoPrimary, Direct, Virtual}
use Rattle.abi_primary.specs.PrimaryBase.{is_virtual_primary, is_direct_primary}
use Rattle.abi_sound.specs.Places.{Places}
use Rattle.abi_sound.specs.Sound.{IsSoundClass, is_primary_of}
use Rattle.abi_sound.specs.Chains.{is_subobject_in}
use Rattle.abi_slots.specs.Views.{View, seen, next_by, next_in, next, is_dynamic, is_dynamic_class, is_first, is_head, by_part}
use Rattle.abi_slots.specs.Groups.{is_shared_base}
use Rattle.abi_slots.proofs.Lists.{any_item, item_any, found_passes}
use Rattle.abi_slots.proofs.Bases.{preorder_item, item_preorder}
use Rattle.abi_slots.proofs.Chains.{Setting, same_some, seen_valid, seen_class, seen_down, not_shared_path}
use Rattle.abi_slots.proofs.OneHead.{some_path, held_if}
use Rattle.abi_slots.proofs.Complete.{same_bool}
use Rattle.abi_slots.proofs.Heads.{dynamic_test, part_item}
use Rattle.abi_slots.proofs.HeadsOnce.{parts_once, part_valid}
use Rattle.abi_primary.proofs.PrimaryKinds.{direct_is}
use Rattle.abi_tables.specs.Counts.{words_of_class, table_words, group_words}
use Rattle.abi_tables.specs.invariants.Weights.{sides_of, head_words, top_words, IsHeldIn}
use Rattle.abi_tables.proofs.TreeSums.{WeighsEdges, all_sum, sum_filter}
use Rattle.abi_sound.proofs.PrimaryParts.{is_in}

virtual_is : (p : Primary) (v : ClassId) → is_virtual_primary p v ≡ true → p ≡ Virtual v
virtual_is NoPrimary v e = cc
virtual_is (Direct d) v e = cc
virtual_is (Virtual w) v e = ap Virtual (same_id w v (eqb-true w.0 v.0 e))

side_flags : (d q v : Bool) (n : ℕ) → v ≡ false → (if d && not q then n else 0) ≡ (if v || q then 0 else (if d then n else 0))
side_flags true true v n e = rw e refl
side_flags true false v n e = rw e refl
side_flags false true v n e = rw e refl
side_flags false false v n e = rw e refl

abbrev head_weight : Classes → Places → View → Subobject → ℕ
head_weight h l x t = if is_head h l x t then table_words h l x t else 0

module _ (h : Classes) (l : Places) (x : View) (set : Setting h l x) where
  -- the one whose next is one class further down is the one that directly derives it
  direct_from : (u t : Subobject) (j k b : ClassId) → IsSubobject h x.class u → IsSubobject h x.class t → class_of u ≡ Some j → class_of t ≡ Some k → (p : Primary) → l.primary j ≡ p → next_by l x u p ≡ Some (subobject t.root (t.path ++ b ∷ [])) → is_direct_primary (l.primary k) b ≡ true
  direct_from u t j k b of_u of_t class_u class_t NoPrimary is e = absurd (cc)
  direct_from u t j k b of_u of_t class_u class_t (Direct d) is e =
      let one : subobject u.root (u.path ++ d ∷ []) ≡ subobject t.root (t.path ++ b ∷ []) = same_some _ _ e in
      let paths : u.path ++ d ∷ [] ≡ t.path ++ b ∷ [] = ap (λ (z : Subobject). z.path) one in
      let front = (same_from_push u.path t.path d b paths).0 in
      let last : d ≡ b = same_some d b (sym (class_below u.path j d class_u) ∙ ap class_of_path paths ∙ class_below t.path k b class_t) in
      let above : j ≡ k = same_some j k (sym class_u ∙ ap class_of_path front ∙ class_t) in
      let primary : l.primary k ≡ Direct b = ap l.primary (sym above) ∙ is ∙ ap Direct last in
      ap (λ p. is_direct_primary p b) primary ∙ eq-eqb b.0 b.0 refl
  direct_from u t j k b of_u of_t class_u class_t (Virtual w) is e =
      let held = held_if (l.holder x.complete w) (seen x u) (subobject t.root (t.path ++ b ∷ [])) w e in
      let paths : w ∷ [] ≡ t.path ++ b ∷ [] = ap (λ (z : Subobject). z.path) held.base in
      absurd (some_path h x.class t of_t (sym ((same_from_push [] t.path w b paths).0)))

  first_below : (t : Subobject) (k b : ClassId) → IsSubobject h x.class t → class_of t ≡ Some k → is_first h l x (subobject t.root (t.path ++ b ∷ [])) ≡ not (is_direct_primary (l.primary k) b)
  first_below t k b valid class =
      let s = subobject t.root (t.path ++ b ∷ []) in
      ap not (same_bool (list_any (λ u. is_subobject_in (next l x u) s) (preorder h x.class)) (is_direct_primary (l.primary k) b)
      (λ e.
      let r = item_any (λ u. is_subobject_in (next l x u) s) (preorder h x.class) e in
      let there = item_preorder h set.keeps x.class r.0 r.1 in
      let j = class_there h x.class r.0 there in
      direct_from r.0 t j.0 k b there valid j.1 class (l.primary j.0) refl (subst (λ o. next_in l x r.0 o ≡ Some s) j.1 (is_in (next l x r.0) s r.2)))
      (λ e.
      let goes : next l x t ≡ Some s = ap (next_in l x t) class ∙ ap (next_by l x t) (direct_is (l.primary k) b e) in
      any_item (λ u. is_subobject_in (next l x u) s) (preorder h x.class) t (preorder_item h set.keeps x.class t valid) (ap (λ o. is_subobject_in o s) goes ∙ same_itself s)))

  edge_weight : (root : Root) → WeighsEdges h l x.class root (head_weight h l x) (head_words h l)
  edge_weight root = record {
    each = λ t k base at valid class way.
        let b = base.class in
        let s = subobject t.root (t.path ++ b ∷ []) in
        let of_s : class_of s ≡ Some b = class_below t.path k b class in
        let head : is_head h l x s ≡ (is_dynamic h b && not (is_direct_primary (l.primary k) b)) = ap (λ o. is_dynamic_class h o && is_first h l x s) of_s ∙ ap (λ c. is_dynamic h b && c) (first_below t k b valid class) in
        let flat : is_shared_base (seen x s) ≡ false = by_seen t k b valid class in
        let words : table_words h l x s ≡ words_of_class h l false (Some b) = ap (words_of_class h l (is_shared_base (seen x s))) of_s ∙ ap (λ f. words_of_class h l f (Some b)) flat in
        ap (λ c. if c then table_words h l x s else 0) head
        ∙ ap (λ n. if is_dynamic h b && not (is_direct_primary (l.primary k) b) then n else 0) words
        ∙ side_flags (is_dynamic h b) (is_direct_primary (l.primary k) b) base.is_virtual (words_of_class h l false (Some b)) way;
  }
    where
      class_seen : (t : Subobject) (k : ClassId) → IsSubobject h x.class t → class_of t ≡ Some k → (j : ClassId) × (class_of (seen x t) ≡ Some j)
      class_seen t k valid class = class_there h x.complete (seen x t) (seen_valid h l x set t valid)

      by_seen : (t : Subobject) (k b : ClassId) → IsSubobject h x.class t → class_of t ≡ Some k → is_shared_base (seen x (subobject t.root (t.path ++ b ∷ []))) ≡ false
      by_seen t k b valid class = let j = class_seen t k valid class in ap is_shared_base (seen_down h x x.class t b valid) ∙ not_shared_path (seen x t).root (seen x t).path j.0 b j.1

  -- the whole is in no other's chain
  whole_first : is_first h l x (whole_of x.class) ≡ true
  whole_first = ap not (is_false (list_any (λ u. is_subobject_in (next l x u) (whole_of x.class)) (preorder h x.class)) (λ e.
      let r = item_any (λ u. is_subobject_in (next l x u) (whole_of x.class)) (preorder h x.class) e in
      let there = item_preorder h set.keeps x.class r.0 r.1 in
      let j = class_there h x.class r.0 there in
      by_primary r.0 there (l.primary j.0) (subst (λ o. next_in l x r.0 o ≡ Some (whole_of x.class)) j.1 (is_in (next l x r.0) (whole_of x.class) r.2))))
    where
      by_primary : (u : Subobject) → IsSubobject h x.class u → (p : Primary) → next_by l x u p ≡ Some (whole_of x.class) → ⊥
      by_primary u of_u NoPrimary e = absurd (cc)
      by_primary u of_u (Direct d) e =
          let one : subobject u.root (u.path ++ d ∷ []) ≡ whole_of x.class = same_some _ _ e in
          some_path h x.class u of_u ((same_from_push u.path [] d x.class (ap (λ (z : Subobject). z.path) one)).0)
      by_primary u of_u (Virtual w) e =
          let held = held_if (l.holder x.complete w) (seen x u) (whole_of x.class) w e in
          let roots : Shared w ≡ Whole = ap (λ (z : Subobject). z.root) held.base in absurd (cc)

  whole_weight : head_weight h l x (whole_of x.class) ≡ words_of_class h l (is_shared_base x.at_sub) (Some x.class)
  whole_weight =
      let head : is_head h l x (whole_of x.class) ≡ true = and_from (is_dynamic h x.class) (is_first h l x (whole_of x.class)) (dynamic_test h set.keeps x.class set.view.dynamic) whole_first in
      ap (λ c. if c then table_words h l x (whole_of x.class) else 0) head
      ∙ ap (λ s. words_of_class h l (is_shared_base s) (Some x.class)) (join_whole x.at_sub x.class)

pub group_sum : (h : Classes) (l : Places) (x : View) → Setting h l x →
    group_words h l x ≡ (words_of_class h l (is_shared_base x.at_sub) (Some x.class) + sides_of h l (head_words h l) x.class) + sum_by (λ (v : ClassId). top_words h l x v + sides_of h l (head_words h l) v) (virtual_bases h x.class)
group_sum h l x set =
    sum_filter (table_words h l x) (is_head h l x) (by_part h x.class)
    ∙ all_sum h set.keeps l x.class (head_weight h l x) (head_words h l) (head_words h l) (edge_weight h l x set Whole) (λ v. edge_weight h l x set (Shared v))
    (by_part h x.class) (parts_once h x.class)
    (λ t valid. let i = part_item h set.keeps x.class t valid in has_at (by_part h x.class) i.index t i.there)
    (part_valid h x.class)
    ∙ ap (λ n. (n + sides_of h l (head_words h l) x.class) + sum_by (λ (v : ClassId). top_words h l x v + sides_of h l (head_words h l) v) (virtual_bases h x.class)) (whole_weight h l x set)

-- a virtual base has a table of its own where no subobject of the view holds it
pub first_shared : (h : Classes) (l : Places) (x : View) → Setting h l x → IsSoundClass h l x.complete → (v : ClassId) → HasVirtualBase h x.class v → (b : Bool) → IsTrue b ↔ IsHeldIn h l x.complete x.at_sub v → is_first h l x (shared_base v) ≡ not b
first_shared h l x set laws v has b test =
    ap not (same_bool (list_any (λ u. is_subobject_in (next l x u) (shared_base v)) (preorder h x.class)) b
    (λ e.
    let r = item_any (λ u. is_subobject_in (next l x u) (shared_base v)) (preorder h x.class) e in
    let there = item_preorder h set.keeps x.class r.0 r.1 in
    let j = class_there h x.class r.0 there in
    as_true b (test.1 (by_primary r.0 there (l.primary j.0) (subst (λ o. next_in l x r.0 o ≡ Some (shared_base v)) j.1 (is_in (next l x r.0) (shared_base v) r.2)))))
    (λ e.
    let held = test.0 (is_true b e) in
    let k = held.inside in
    let same : k.class ≡ x.class = same_some k.class x.class (sym k.of_class ∙ set.view.of_class) in
    let valid : IsSubobject h x.class k.part = subst (λ c. IsSubobject h c k.part) same k.valid in
    let found = found_passes (λ (s : Subobject). is_primary_of l v (class_of s)) (preorder h x.complete) held.holder
    (sym (laws.holder v (part_virtual h x.complete x.class v x.at_sub set.view.valid set.view.of_class has)) ∙ held.is) in
    let j = class_there h x.class k.part valid in
    let class : class_of held.holder ≡ Some j.0 = ap class_of k.joined ∙ seen_class h l x set k.part j.0 valid j.1 in
    let primary : l.primary j.0 ≡ Virtual v = virtual_is (l.primary j.0) v (sym (ap (is_primary_of l v) class) ∙ found.1) in
    let there : l.holder x.complete v ≡ Some (seen x k.part) = held.is ∙ ap (λ s. Some s) k.joined in
    let goes : next l x k.part ≡ Some (shared_base v) = ap (next_in l x k.part) j.1 ∙ ap (next_by l x k.part) primary ∙ ap (λ o. if is_subobject_in o (seen x k.part) then Some (shared_base v) else None) there ∙ ap (λ c. if c then Some (shared_base v) else None) (same_itself (seen x k.part)) in
    any_item (λ u. is_subobject_in (next l x u) (shared_base v)) (preorder h x.class) k.part (preorder_item h set.keeps x.class k.part valid) (ap (λ o. is_subobject_in o (shared_base v)) goes ∙ same_itself (shared_base v))))
  where
    as_true : (b : Bool) → IsTrue b → b ≡ true
    as_true true t = refl
    as_true false t = absurd (let bad : false ≡ true = t in cc)

    is_true : (b : Bool) → b ≡ true → IsTrue b
    is_true true e = refl
    is_true false e = cc

    by_primary : (u : Subobject) → IsSubobject h x.class u → (p : Primary) → next_by l x u p ≡ Some (shared_base v) → IsHeldIn h l x.complete x.at_sub v
    by_primary u of_u NoPrimary e = absurd (cc)
    by_primary u of_u (Direct d) e =
        let one : subobject u.root (u.path ++ d ∷ []) ≡ shared_base v = same_some _ _ e in
        absurd (some_path h x.class u of_u ((same_from_push u.path [] d v (ap (λ (z : Subobject). z.path) one)).0))
    by_primary u of_u (Virtual w) e =
        let held = held_if (l.holder x.complete w) (seen x u) (shared_base v) w e in
        let paths : w ∷ [] ≡ v ∷ [] = ap (λ (z : Subobject). z.path) held.base in
        let same : w ≡ v = cc in
        record {
          holder = seen x u;
          is = ap (l.holder x.complete) (sym same) ∙ held.held;
          inside = record { class = x.class; of_class = set.view.of_class; part = u; valid = of_u; joined = refl };
        }
