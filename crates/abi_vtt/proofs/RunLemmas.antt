-- The tables of the non-virtual part of a view come first, and which they are depends on the class alone.
use Rattle.std.proofs.Common.{◌≡◌, ℕ, zero, suc, ◌⊎◌, inl, inr, ⊎_elim, Bool, true, false, Some, None, List, [], ◌∷◌, ◌++◌, refl, ap, subst, sym, ◌∙◌, arith}
use Rattle.std.specs.Prelude.{slice_get, nat_eq, filter, not, ◌&&◌, ◌||◌, if◌then◌else◌}
use Rattle.std.specs.List.{flat_map, list_any}
use Rattle.std.proofs.lemmas.Bool.{and_parts, and_from}
use Rattle.std.proofs.lemmas.List.Elements.{filter-append}
use Rattle.abi_primary.proofs.PrimaryKinds.{direct_is}
use Rattle.cxx_hierarchy.specs.declared.records.ClassId.{ClassId}
use Rattle.cxx_hierarchy.specs.Classes.{Classes}
use Rattle.cxx_hierarchy.specs.Hierarchies.{IsHierarchy}
use Rattle.cxx_subobject.specs.declared.Root.{Root}
use Rattle.cxx_subobject.specs.declared.Root.TheVariants.{Whole, Shared}
use Rattle.cxx_subobject.specs.declared.Subobject.{Subobject}
use Rattle.cxx_subobject.specs.Subobjects.{IsSubobject, Leads, whole, shared, subobject, shared_base, last_of, class_of, class_of_path, same_root}
use Rattle.cxx_subobject.specs.Preorder.{preorder}
use Rattle.cxx_subobject.specs.VirtualBases.{virtual_bases}
use Rattle.cxx_subobject.proofs.PathLemmas.{leads_front}
use Rattle.cxx_subobject.proofs.TreeLemmas.{root_same, same_itself, has_preorder}
use Rattle.foundation.proofs.Members.{Has}
use Rattle.foundation.proofs.Chosen.{has_filter, filter_same}
use Rattle.foundation.proofs.Places.{get_front}
use Rattle.foundation.proofs.Truth.{split, not_both, is_false}
use Rattle.abi_primary.specs.declared.Primary.{Primary}
use Rattle.abi_primary.specs.declared.Primary.TheVariants.{None as NoPrimary, Direct, Virtual}
use Rattle.abi_sound.specs.Places.{Places}
use Rattle.abi_primary.specs.PrimaryBase.{is_direct_primary}
use Rattle.abi_sound.specs.Chains.{is_subobject_in}
use Rattle.abi_slots.specs.Views.{View, seen, next_by, next_in, next, is_dynamic_class, is_first, is_head, of_root, heads}
use Rattle.abi_slots.proofs.Lists.{Item, item_filter, from_filter, from_flat, any_item, item_any}
use Rattle.abi_slots.proofs.Bases.{preorder_item}
use Rattle.abi_slots.proofs.Chains.{same_some}
use Rattle.abi_slots.proofs.Complete.{same_bool}
use Rattle.abi_vtt.specs.Vtts.{ends_in_primary, needs_word, class_has_virtual}
use Rattle.abi_vtt.specs.Blocks.{is_front_head, table_run, IsFirstRun, IsFoundByClass, in_run, by_word}
use Rattle.abi_vtt.proofs.BlockLemmas.{word_stands}
use Rattle.abi_sound.proofs.PrimaryParts.{is_in}

id_itself : (b : ClassId) → nat_eq b.0 b.0 ≡ true
id_itself b = grind arith

-- a path that ends in a primary base is one class longer than a path
record IsPrimaryEnd (l : Places) (path : List ClassId) : Type 0 where
  first : ClassId
  rest : List ClassId
  base : ClassId
  is : path ≡ (first ∷ rest) ++ base ∷ []
  primary : l.primary (last_of first rest) ≡ Direct base

primary_end : (l : Places) (path : List ClassId) → ends_in_primary l path ≡ true → IsPrimaryEnd l path
primary_end l [] e = absurd (cc)
primary_end l (c ∷ []) e = absurd (cc)
primary_end l (c ∷ d ∷ []) e = record { first = c; rest = []; base = d; is = refl; primary = direct_is (l.primary c) d e }
primary_end l (c ∷ d ∷ f ∷ path) e =
    let r = primary_end l (d ∷ f ∷ path) e in
    record { first = c; rest = r.first ∷ r.rest; base = r.base; is = ap (λ p. c ∷ p) r.is; primary = r.primary }

end_primary : (l : Places) (c b : ClassId) (rest : List ClassId) → l.primary (last_of c rest) ≡ Direct b → ends_in_primary l ((c ∷ rest) ++ b ∷ []) ≡ true
end_primary l c b [] e = ap (λ p. is_direct_primary p b) e ∙ id_itself b
end_primary l c b (d ∷ []) e = ap (λ p. is_direct_primary p b) e ∙ id_itself b
end_primary l c b (d ∷ f ∷ rest) e = end_primary l d b (f ∷ rest) e

-- the subobject that directly derives it
pub record IsDerived (h : Classes) (l : Places) (x : View) (s : Subobject) : Type 0 where
  pub deriver : Subobject
  pub valid : IsSubobject h x.class deriver
  pub goes : next l x deriver ≡ Some s

pub derived : (h : Classes) (l : Places) (x : View) (s : Subobject) → IsSubobject h x.class s → ends_in_primary l s.path ≡ true → IsDerived h l x s
derived h l x s valid e = by_end s valid (primary_end l s.path e)
  where
    goes : (root : Root) (c b : ClassId) (rest : List ClassId) → l.primary (last_of c rest) ≡ Direct b → next l x (subobject root (c ∷ rest)) ≡ Some (subobject root ((c ∷ rest) ++ b ∷ []))
    goes root c b rest f = ap (next_by l x (subobject root (c ∷ rest))) f

    by_end : (s : Subobject) → IsSubobject h x.class s → IsPrimaryEnd l s.path → IsDerived h l x s
    by_end _ (whole path leads) p =
        let first : x.class ≡ p.first = let f = p.is in cc in
        let is : path ≡ p.rest ++ p.base ∷ [] = let f = p.is in cc in
        record {
          deriver = subobject Whole (x.class ∷ p.rest);
          valid = whole p.rest (leads_front h x.class p.rest (p.base ∷ []) (subst (λ q. Leads h x.class q) is leads));
          goes = goes Whole x.class p.base p.rest (subst (λ c. l.primary (last_of c p.rest) ≡ Direct p.base) (sym first) p.primary) ∙ ap (λ q. Some (subobject Whole (x.class ∷ q))) (sym is);
        }
    by_end _ (shared v path has leads) p =
        let first : v ≡ p.first = let f = p.is in cc in
        let is : path ≡ p.rest ++ p.base ∷ [] = let f = p.is in cc in
        record {
          deriver = subobject (Shared v) (v ∷ p.rest);
          valid = shared v p.rest has (leads_front h v p.rest (p.base ∷ []) (subst (λ q. Leads h v q) is leads));
          goes = goes (Shared v) v p.base p.rest (subst (λ c. l.primary (last_of c p.rest) ≡ Direct p.base) (sym first) p.primary) ∙ ap (λ q. Some (subobject (Shared v) (v ∷ q))) (sym is);
        }

-- what comes next to another, and is no virtual base, is its non-virtual primary base
next_ends : (l : Places) (x : View) (u s : Subobject) → next l x u ≡ Some s → s.root ≡ Whole → ends_in_primary l s.path ≡ true
next_ends l x u s e root = by_path u.path refl
  where
    by_primary : (c : ClassId) (rest : List ClassId) → u.path ≡ c ∷ rest → (p : Primary) → l.primary (last_of c rest) ≡ p → next_by l x u p ≡ Some s → ends_in_primary l s.path ≡ true
    by_primary c rest is NoPrimary f g = absurd (cc)
    by_primary c rest is (Direct b) f g =
        let same : (c ∷ rest) ++ b ∷ [] ≡ s.path = ap (λ q. q ++ b ∷ []) (sym is) ∙ ap (λ (t : Subobject). t.path) (same_some (subobject u.root (u.path ++ b ∷ [])) s g) in
        subst (λ q. ends_in_primary l q ≡ true) same (end_primary l c b rest f)
    by_primary c rest is (Virtual v) f g = split (is_subobject_in (l.holder x.complete v) (seen x u))
        (λ b. (if b then Some (shared_base v) else None) ≡ Some s → ends_in_primary l s.path ≡ true)
        (λ t there. absurd (let r : Shared v ≡ s.root = ap (λ (t : Subobject). t.root) (same_some (shared_base v) s there) in let q = root in cc))
        (λ t there. absurd (cc))
        g

    by_path : (path : List ClassId) → u.path ≡ path → ends_in_primary l s.path ≡ true
    by_path [] is = absurd (let none : next l x u ≡ None = ap (λ q. next_in l x u (class_of_path q)) is in cc)
    by_path (c ∷ rest) is = by_primary c rest is (l.primary (last_of c rest)) refl (subst (λ q. next_in l x u (class_of_path q) ≡ Some s) is e)

module _ (h : Classes) (keeps : IsHierarchy h) (l : Places) where
  -- a primary base is in the chain of its deriver
  not_first : (x : View) (s : Subobject) → IsSubobject h x.class s → ends_in_primary l s.path ≡ true → list_any (λ u. is_subobject_in (next l x u) s) (preorder h x.class) ≡ true
  not_first x s valid e =
      let d = derived h l x s valid e in
      any_item (λ u. is_subobject_in (next l x u) s) (preorder h x.class) d.deriver (preorder_item h keeps x.class d.deriver d.valid) (ap (λ o. is_subobject_in o s) d.goes ∙ same_itself s)

  first_by_path : (x : View) (s : Subobject) → IsSubobject h x.class s → s.root ≡ Whole → is_first h l x s ≡ not (ends_in_primary l s.path)
  first_by_path x s valid root = ap not (same_bool (list_any (λ u. is_subobject_in (next l x u) s) (preorder h x.class)) (ends_in_primary l s.path)
      (λ any. let r = item_any (λ u. is_subobject_in (next l x u) s) (preorder h x.class) any in next_ends l x r.0 s (is_in (next l x r.0) s r.2) root)
      (not_first x s valid))

  head_by_class : (x : View) (s : Subobject) → Has (of_root Whole (preorder h x.class)) s → is_head h l x s ≡ is_front_head h l s
  head_by_class x s there =
      let r = has_filter (λ (t : Subobject). same_root Whole t.root) (preorder h x.class) s there in
      ap (λ a. is_dynamic_class h (class_of s) && a) (first_by_path x s (has_preorder h x.class s r.0) (sym (root_same Whole s.root r.1)))

  abbrev pub shared_heads : View → List Subobject
  shared_heads x = filter (is_head h l x) (flat_map (λ v. of_root (Shared v) (preorder h x.class)) (virtual_bases h x.class))

  pub heads_are : (x : View) → heads h l x ≡ table_run h l x.class ++ shared_heads x
  heads_are x =
      filter-append (is_head h l x) (of_root Whole (preorder h x.class)) (flat_map (λ v. of_root (Shared v) (preorder h x.class)) (virtual_bases h x.class))
      ∙ ap (λ a. a ++ shared_heads x) (filter_same (is_head h l x) (is_front_head h l) (of_root Whole (preorder h x.class)) (head_by_class x))

  run_root : (d : ClassId) (t : Subobject) → Item (table_run h l d) t → t.root ≡ Whole
  run_root d t i =
      let a = from_filter (is_front_head h l) (of_root Whole (preorder h d)) t i in
      let b = from_filter (λ (u : Subobject). same_root Whole u.root) (preorder h d) t a.0 in
      sym (root_same Whole t.root b.1)

  shared_not_whole : (x : View) (t : Subobject) → Item (shared_heads x) t → t.root ≡ Whole → ⊥
  shared_not_whole x t i root =
      let a = from_filter (is_head h l x) (flat_map (λ v. of_root (Shared v) (preorder h x.class)) (virtual_bases h x.class)) t i in
      let b = from_flat (λ v. of_root (Shared v) (preorder h x.class)) (virtual_bases h x.class) t a.0 in
      let c = from_filter (λ (u : Subobject). same_root (Shared b.0) u.root) (preorder h x.class) t b.2 in
      let r : Shared b.0 ≡ t.root = root_same (Shared b.0) t.root c.1 in
      absurd (cc)

  get_cases : {A : Type 0} (xs ys : List A) (n : ℕ) (a : A) → slice_get (xs ++ ys) n ≡ Some a → (slice_get xs n ≡ Some a) ⊎ Item ys a
  get_cases [] ys n a e = inr (record { index = n; there = e })
  get_cases (x ∷ xs) ys zero a e = inl e
  get_cases (x ∷ xs) ys (suc n) a e = get_cases xs ys n a e

  -- the first tables of a view are the run of its class
  pub first_run : (x : View) → IsFirstRun (heads h l x) (table_run h l x.class)
  first_run x = record {
    there = λ n t e. subst (λ a. slice_get a n ≡ Some t) (sym (heads_are x)) (get_front (table_run h l x.class) (shared_heads x) n t e);
    whole = λ n t e. run_root x.class t (record { index = n; there = e });
    each = λ n t e root. ⊎_elim (λ a. a) (λ b. absurd (shared_not_whole x t b root)) (get_cases (table_run h l x.class) (shared_heads x) n t (subst (λ a. slice_get a n ≡ Some t) (heads_are x) e));
  }

  -- a dynamic subobject that is no non-virtual primary base is found by the class alone
  pub found : (x : Subobject) (d : ClassId) (s : Subobject) → IsSubobject h d s → is_dynamic_class h (class_of s) ≡ true → ends_in_primary l s.path ≡ false → IsFoundByClass h l x d s
  found x d s valid dyn first = by_valid s valid dyn first
    where
      by_valid : (s : Subobject) → IsSubobject h d s → is_dynamic_class h (class_of s) ≡ true → ends_in_primary l s.path ≡ false → IsFoundByClass h l x d s
      by_valid _ (whole path leads) dyn first =
          let s = subobject Whole (d ∷ path) in
          let test : is_front_head h l s ≡ true = and_from (is_dynamic_class h (class_of s)) (not (ends_in_primary l s.path)) dyn (ap not first) in
          let at = item_filter (is_front_head h l) (of_root Whole (preorder h d)) s (item_filter (λ (t : Subobject). same_root Whole t.root) (preorder h d) s (preorder_item h keeps d s (whole path leads)) refl) test in
          in_run at.index at.there
      by_valid _ (shared v path has leads) dyn first =
          let s = subobject (Shared v) (v ∷ path) in
          let test : needs_word h l s ≡ true = and_from (is_dynamic_class h (class_of s)) ((class_has_virtual h (class_of s) || true) && not (ends_in_primary l s.path)) dyn (rw first (by_or (class_has_virtual h (class_of s)))) in
          by_word (word_stands h keeps l x d s (shared v path has leads) test)
        where
          by_or : (b : Bool) → ((b || true) && true) ≡ true
          by_or true = refl
          by_or false = refl

  -- the head of each chain is found by the class alone
  pub head_found : (x : View) (t : Subobject) → IsSubobject h x.class t → is_head h l x t ≡ true → IsFoundByClass h l x.at_sub x.class t
  head_found x t valid head =
      let r = and_parts (is_dynamic_class h (class_of t)) (is_first h l x t) head in
      found x.at_sub x.class t valid r.0 (is_false (ends_in_primary l t.path) (λ e. let any = not_first x t valid e in let first : is_first h l x t ≡ false = ap not any in not_both r.1 first))
