-- Each dynamic subobject of a view is served by a table of its group, and by one alone.
use Rattle.std.proofs.Common.{◌≡◌, ℕ, zero, suc, ◌+◌, ◌<◌, ◌≤◌, ◌⊎◌, inl, inr, ⊎_elim, true, false, Option, Some, None, [], ◌∷◌, refl, ap, subst, sym, ◌∙◌, arith}
use Rattle.std.specs.Prelude.{◌||◌, not}
use Rattle.std.specs.List.{list_any, flat_map}
use Rattle.std.proofs.lemmas.Bool.{and_from}
use Rattle.cxx_hierarchy.specs.declared.records.ClassId.{ClassId}
use Rattle.cxx_hierarchy.specs.Classes.{Class, Classes, class_at}
use Rattle.cxx_hierarchy.specs.Hierarchies.{IsHierarchy}
use Rattle.cxx_hierarchy.specs.VirtualBases.{IsDirectBase, direct}
use Rattle.cxx_subobject.specs.declared.Root.TheVariants.{Whole, Shared}
use Rattle.cxx_subobject.specs.declared.Subobject.{Subobject}
use Rattle.cxx_subobject.specs.Subobjects.{IsSubobject, whole, shared, subobject, shared_base, whole_of, class_of, join, same_root, is_shared_root}
use Rattle.cxx_subobject.specs.Preorder.{preorder}
use Rattle.cxx_subobject.proofs.InsideLemmas.{join_valid, join_class}
use Rattle.cxx_subobject.proofs.TreeLemmas.{root_itself}
use Rattle.abi_primary.specs.Kinds.{IsDynamic, declares, shares, inherits}
use Rattle.abi_sound.specs.Places.{Places}
use Rattle.abi_slots.specs.declared.words.Table.{Table}
use Rattle.abi_slots.specs.declared.words.Group.{Group}
use Rattle.cxx_subobject.specs.VirtualBases.{virtual_bases}
use Rattle.abi_sound.specs.Chains.{is_subobject_in}
use Rattle.cxx_hierarchy.specs.Declarations.{has_virtual, declares_virtual}
use Rattle.abi_slots.specs.Views.{View, next, is_dynamic, is_dynamic_class, is_first, is_head, of_root, by_part, heads, along_chain, Serves}
use Rattle.abi_slots.specs.Groups.{IsTable, view_of_group, IsGroup}
use Rattle.abi_slots.specs.Dispatch.{IsServedBy}
use Rattle.abi_slots.proofs.Lists.{Item, item_left, item_right, item_flat, item_filter, any_item, item_any}
use Rattle.abi_slots.proofs.Bases.{preorder_item, item_preorder, virtual_item}
use Rattle.abi_slots.proofs.Dynamics.{dynamic_whole}
use Rattle.abi_slots.proofs.Chains.{Setting, IsUnder, same_some, next_under}
use Rattle.abi_slots.proofs.WordPlaces.{partner}
use Rattle.cxx_subobject.proofs.PathLemmas.{class_low}
use Rattle.foundation.proofs.Truth.{split}
use Rattle.abi_primary.proofs.KindLemmas.{base_dynamic}
use Rattle.abi_sound.proofs.PrimaryParts.{is_in}

-- a subobject for which a class is dynamic
record IsDynamicPart (h : Classes) (c : ClassId) (s : Subobject) : Type 0 where
  valid : IsSubobject h c s
  says : (is_shared_root s.root || declares_virtual h (class_of s)) ≡ true

in_base : (h : Classes) (c b : ClassId) → IsDirectBase h c false b → (s : Subobject) → IsDynamicPart h b s → IsDynamicPart h c (join (subobject Whole (c ∷ b ∷ [])) s)
in_base h c b edge s part =
    let outer : IsSubobject h c (subobject Whole (c ∷ b ∷ [])) = whole (b ∷ []) (edge, tt) in
    let class = join_class h b (subobject Whole (c ∷ b ∷ [])) s refl part.valid in
    record { valid = join_valid h c b (subobject Whole (c ∷ b ∷ [])) s outer refl part.valid; says = by_valid s part.valid part.says class }
  where
    by_valid : (s : Subobject) → IsSubobject h b s → (is_shared_root s.root || declares_virtual h (class_of s)) ≡ true → class_of (join (subobject Whole (c ∷ b ∷ [])) s) ≡ class_of s → (is_shared_root (join (subobject Whole (c ∷ b ∷ [])) s).root || declares_virtual h (class_of (join (subobject Whole (c ∷ b ∷ [])) s))) ≡ true
    by_valid _ (whole path l) says class = subst (λ o. declares_virtual h o ≡ true) (sym class) says
    by_valid _ (shared v path has l) says class = refl

dynamic_part : (h : Classes) (c : ClassId) → IsDynamic h c → (s : Subobject) × IsDynamicPart h c s
dynamic_part h _ (declares c class e says) = (whole_of c, record { valid = whole [] tt; says = subst (λ o. has_virtual o ≡ true) (sym e) says })
dynamic_part h _ (shares c b edge) = (shared_base b, record { valid = shared b [] (direct c b edge) tt; says = refl })
dynamic_part h _ (inherits c b true edge dyn) = (shared_base b, record { valid = shared b [] (direct c b edge) tt; says = refl })
dynamic_part h _ (inherits c b false edge dyn) = let r = dynamic_part h b dyn in (join (subobject Whole (c ∷ b ∷ [])) r.0, in_base h c b edge r.0 r.1)

pub dynamic_test : (h : Classes) → IsHierarchy h → (c : ClassId) → IsDynamic h c → is_dynamic h c ≡ true
dynamic_test h keeps c dyn = let r = dynamic_part h c dyn in any_item (λ (s : Subobject). is_shared_root s.root || declares_virtual h (class_of s)) (preorder h c) r.0 (preorder_item h keeps c r.0 r.1.valid) r.1.says

said_class : (h : Classes) (o : Option ClassId) → declares_virtual h o ≡ true → (d : ClassId) × (o ≡ Some d) × IsDynamic h d
said_class h None e = cc
said_class h (Some d) e = (d, refl, by_class (class_at h d) refl e)
  where
    by_class : (o : Option Class) → class_at h d ≡ o → has_virtual o ≡ true → IsDynamic h d
    by_class None is f = cc
    by_class (Some class) is f = declares d class is f

pub test_dynamic : (h : Classes) → IsHierarchy h → (c : ClassId) → is_dynamic h c ≡ true → IsDynamic h c
test_dynamic h keeps c e =
    let r = item_any (λ (s : Subobject). is_shared_root s.root || declares_virtual h (class_of s)) (preorder h c) e in
    by_valid r.0 (item_preorder h keeps c r.0 r.1) r.2
  where
    by_valid : (s : Subobject) → IsSubobject h c s → (is_shared_root s.root || declares_virtual h (class_of s)) ≡ true → IsDynamic h c
    by_valid _ (whole path l) says = let d = said_class h (class_of (subobject Whole (c ∷ path))) says in dynamic_whole h c d.0 (subobject Whole (c ∷ path)) (whole path l) d.1 d.2
    by_valid _ (shared v path has l) says = base_dynamic h c v has

-- all subobjects are listed by their parts
pub part_item : (h : Classes) → IsHierarchy h → (c : ClassId) (s : Subobject) → IsSubobject h c s → Item (by_part h c) s
part_item h keeps c s valid = by_valid s valid (preorder_item h keeps c s valid)
  where
    by_valid : (s : Subobject) → IsSubobject h c s → Item (preorder h c) s → Item (by_part h c) s
    by_valid _ (whole path l) i = item_left (of_root Whole (preorder h c)) _ _ (item_filter (λ (t : Subobject). same_root Whole t.root) (preorder h c) _ i refl)
    by_valid _ (shared v path has l) i = item_right (of_root Whole (preorder h c)) (flat_map (λ u. of_root (Shared u) (preorder h c)) (virtual_bases h c)) _
        (item_flat (λ u. of_root (Shared u) (preorder h c)) (virtual_bases h c) v _ (virtual_item h keeps c v has) (item_filter (λ (t : Subobject). same_root (Shared v) t.root) (preorder h c) _ i (root_itself (Shared v))))

walk_more : (go : Subobject → Option Subobject) (i : ℕ) (t u s : Subobject) → along_chain go i (Some t) ≡ Some u → go u ≡ Some s → along_chain go (suc i) (Some t) ≡ Some s
walk_more go zero t u s e f = let same : t ≡ u = same_some t u e in subst (λ a. go a ≡ Some s) (sym same) f
walk_more go (suc i) t u s e f = by_next (go t) e (λ v there. walk_more go i v u s there f)
  where
    by_next : (o : Option Subobject) → along_chain go i o ≡ Some u → ((v : Subobject) → along_chain go i (Some v) ≡ Some u → along_chain go (suc i) (Some v) ≡ Some s) → along_chain go (suc i) o ≡ Some s
    by_next None there rest = absurd (none i there)
      where
        none : (j : ℕ) → along_chain go j None ≡ Some u → ⊥
        none zero g = cc
        none (suc j) g = cc
    by_next (Some v) there rest = rest v there

module _ (h : Classes) (l : Places) (x : View) (set : Setting h l x) where
  -- what is above a dynamic subobject in a chain is dynamic
  above_dynamic : (u s : Subobject) (d : ClassId) → IsUnder h l x u s → class_of s ≡ Some d → IsDynamic h d → (b : ClassId) → class_of u ≡ Some b → IsDynamic h b
  above_dynamic u s d under e dyn b of_u =
      let k = under.inside in
      let class : class_of k.part ≡ Some d = sym (join_class h k.class u k.part k.of_class k.valid) ∙ ap class_of (sym k.joined) ∙ e in
      subst (λ a. IsDynamic h a) (same_some k.class b (sym k.of_class ∙ of_u)) (dynamic_whole h k.class d k.part k.valid class dyn)

  longer : (t u s : Subobject) → Serves h l x t u → next l x u ≡ Some s → Serves h l x t s
  longer t u s serves e = record { valid = serves.valid; head = serves.head; steps = suc serves.steps; leads = walk_more (next l x) serves.steps t u s serves.leads e }

  -- one step up a chain, or the head of it
  record IsAbove (s : Subobject) (d : ClassId) : Type 0 where
    above : Subobject
    class : ClassId
    valid : IsSubobject h x.class above
    of_class : class_of above ≡ Some class
    dynamic : IsDynamic h class
    goes : next l x above ≡ Some s
    less : d.0 < class.0
    few : class.0 ≤ x.class.0

  step_up : (s : Subobject) (d : ClassId) → IsSubobject h x.class s → class_of s ≡ Some d → IsDynamic h d → IsAbove s d ⊎ (is_head h l x s ≡ true)
  step_up s d valid e dyn = split (list_any (λ u. is_subobject_in (next l x u) s) (preorder h x.class))
      (λ b. list_any (λ u. is_subobject_in (next l x u) s) (preorder h x.class) ≡ b → IsAbove s d ⊎ (is_head h l x s ≡ true))
      (λ b found.
      let r = item_any (λ u. is_subobject_in (next l x u) s) (preorder h x.class) found in
      let goes = is_in (next l x r.0) s r.2 in
      let there = item_preorder h set.keeps x.class r.0 r.1 in
      let up = next_under h l x set r.0 s there goes in
      inl (record {
        above = r.0;
        class = up.under.above;
        valid = there;
        of_class = up.under.of_above;
        dynamic = above_dynamic r.0 s d up.under e dyn up.under.above up.under.of_above;
        goes = goes;
        less = subst (λ (a : ClassId). a.0 < up.under.above.0) (same_some up.under.below d (sym up.under.of_below ∙ e)) up.less;
        few = class_low h set.keeps x.class up.under.above r.0 there up.under.of_above;
      }))
      (λ b none. inr (and_from (is_dynamic_class h (class_of s)) (is_first h l x s) (subst (λ o. is_dynamic_class h o ≡ true) (sym e) (dynamic_test h set.keeps d dyn)) (ap not none)))
      refl

  itself_serves : (s : Subobject) → IsSubobject h x.class s → is_head h l x s ≡ true → Serves h l x s s
  itself_serves s valid head = record { valid = valid; head = head; steps = 0; leads = refl }

  climb : (m : ℕ) (s : Subobject) (d : ClassId) → IsSubobject h x.class s → class_of s ≡ Some d → IsDynamic h d → x.class.0 ≤ d.0 + m → (t : Subobject) × Serves h l x t s
  climb zero s d valid e dyn far = ⊎_elim (λ up. absurd (let a = up.less in let b = up.few in omega arith)) (λ head. (s, itself_serves s valid head)) (step_up s d valid e dyn)
  climb (suc m) s d valid e dyn far = ⊎_elim
      (λ up. let r = climb m up.above up.class up.valid up.of_class up.dynamic (let a = up.less in omega arith) in (r.0, longer r.0 up.above s r.1 up.goes))
      (λ head. (s, itself_serves s valid head))
      (step_up s d valid e dyn)

  -- each dynamic subobject is in the chain of a head
  pub some_head : (s : Subobject) (d : ClassId) → IsSubobject h x.class s → class_of s ≡ Some d → IsDynamic h d → (t : Subobject) × Serves h l x t s
  some_head s d valid e dyn = climb x.class.0 s d valid e dyn (omega arith)

-- a table of the group serves it
pub some_table : (h : Classes) (l : Places) (group : Group) (of : IsGroup h l group) (set : Setting h l (view_of_group group of.class)) (s : Subobject) (d : ClassId) → IsSubobject h of.class s → class_of s ≡ Some d → IsDynamic h d → (table : Table) × IsServedBy h l (view_of_group group of.class) group s table
some_table h l group of set s d valid e dyn =
    let x = view_of_group group of.class in
    let r = some_head h l x set s d valid e dyn in
    let listed = item_filter (is_head h l x) (by_part h of.class) r.0 (part_item h set.keeps of.class r.0 r.1.valid) r.1.head in
    let p = partner (IsTable h l x) (heads h l x) group.tables of.tables listed.index r.0 listed.there in
    (p.0, record { number = listed.index; head = r.0; at_head = listed.there; at_table = p.1; serves = r.1 })
