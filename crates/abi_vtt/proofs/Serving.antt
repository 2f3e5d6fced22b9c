-- Each dynamic subobject of a view has the number of the table that serves it.
use Rattle.std.proofs.Common.{◌≡◌, ℕ, ◌+◌, ◌<◌, ◌≤◌, ⊎_elim, true, Option, Some, List, map, length, get_or, ap, subst, sym, ◌∙◌, arith}
use Rattle.std.specs.Prelude.{slice_get, IfSome}
use Rattle.std.specs.List.{flat_map}
use Rattle.std.proofs.lemmas.Bool.{cases_order}
use Rattle.std.proofs.lemmas.Option.{slice_get_within}
use Rattle.std.proofs.lemmas.List.{length-map}
use Rattle.foundation.proofs.Places.{get_read, get_mapped}
use Rattle.cxx_hierarchy.specs.declared.records.ClassId.{ClassId}
use Rattle.cxx_hierarchy.specs.Classes.{Classes}
use Rattle.cxx_hierarchy.specs.Hierarchies.{IsHierarchy}
use Rattle.cxx_subobject.specs.declared.Root.{Root}
use Rattle.cxx_subobject.specs.declared.Root.TheVariants.{Whole, Shared}
use Rattle.cxx_subobject.specs.declared.Subobject.{Subobject}
use Rattle.cxx_subobject.specs.Subobjects.{IsSubobject, same_root}
use Rattle.cxx_subobject.specs.Preorder.{preorder}
use Rattle.cxx_subobject.specs.VirtualBases.{virtual_bases}
use Rattle.cxx_subobject.proofs.TreeLemmas.{preorder_lists}
use Rattle.abi_sound.specs.Places.{Places}
use Rattle.abi_slots.specs.Views.{View, next, is_head, of_root, by_part, heads, along_chain}
use Rattle.abi_slots.proofs.Lists.{Item, item_cases, item_filter, from_filter, from_flat}
use Rattle.abi_slots.proofs.Bases.{item_preorder}
use Rattle.abi_slots.proofs.Chains.{Setting, same_some, walk_under}
use Rattle.abi_slots.proofs.Heads.{part_item, some_head}
use Rattle.abi_vtable.specs.declared.view.ViewPart.{ViewPart}
use Rattle.abi_vtable.specs.declared.view.ViewParts.{ViewParts}
use Rattle.abi_vtable.specs.invariants.Parts.{NumbersSubobject, nothing, number, at_of, IsViewParts, view_of_parts, subobjects_numbered}
use Rattle.abi_vtt.specs.invariants.Served.{LeadWithin, AreNumbered, IsFrom, from_before, from_chain, IsNoted, IsServedAt, AreServingTo, AreServing}
use Rattle.cxx_subobject.proofs.PathLemmas.{class_low}
use Rattle.cxx_hierarchy.proofs.Listed.{get_map}
use Rattle.abi_vtable.proofs.Steps.{number_within}

-- what is listed by parts is a subobject
root_valid : (h : Classes) → IsHierarchy h → (c : ClassId) (root : Root) (s : Subobject) → Item (of_root root (preorder h c)) s → IsSubobject h c s
root_valid h keeps c root s i = item_preorder h keeps c s (from_filter (λ (t : Subobject). same_root root t.root) (preorder h c) s i).0

pub part_valid : (h : Classes) → IsHierarchy h → (c : ClassId) (s : Subobject) → Item (by_part h c) s → IsSubobject h c s
part_valid h keeps c s i = ⊎_elim
    (λ first. root_valid h keeps c Whole s first)
    (λ rest. let r = from_flat (λ v. of_root (Shared v) (preorder h c)) (virtual_bases h c) s rest in root_valid h keeps c (Shared r.0) s r.2)
    (item_cases (of_root Whole (preorder h c)) (flat_map (λ v. of_root (Shared v) (preorder h c)) (virtual_bases h c)) s i)

pub head_valid : (h : Classes) (l : Places) → IsHierarchy h → (x : View) (s : Subobject) → Item (heads h l x) s → IsSubobject h x.class s
head_valid h l keeps x s i = part_valid h keeps x.class s (from_filter (is_head h l x) (by_part h x.class) s i).0

module _ (h : Classes) (l : Places) (v : ViewParts) (view : IsViewParts h l v) where
  pub parts_size : length (preorder h v.class) ≡ length v.parts
  parts_size = ap length (sym view.parts.subobjects) ∙ length-map v.parts at_of

  pub leads_within : (parts : List ViewPart) → parts ≡ v.parts → LeadWithin parts
  leads_within parts same = subst LeadWithin (sym same) (record { each = λ n part e. number_within (preorder h v.class) (length v.parts) parts_size part.next (next l (view_of_parts v) part.at) (view.parts.each n part e).next })

  pub parts_numbered : IsHierarchy h → (parts : List ViewPart) → parts ≡ v.parts → AreNumbered (preorder h v.class) (next l (view_of_parts v)) parts
  parts_numbered keeps parts same = subst (λ ps. AreNumbered (preorder h v.class) (next l (view_of_parts v)) ps) (sym same) (record {
    once = (preorder_lists h v.class keeps).once;
    there = λ n part e. ap (λ xs. slice_get xs n) (sym view.parts.subobjects) ∙ get_map at_of v.parts n part e;
    next = λ n part e. (view.parts.each n part e).next;
  })

-- the head of a number
pub record IsHeadAt (h : Classes) (l : Places) (x : View) (i n : ℕ) : Type 0 where
  pub head : Subobject
  pub at_head : slice_get (heads h l x) i ≡ Some head
  pub there : slice_get (preorder h x.class) n ≡ Some head

pub head_at : (h : Classes) (l : Places) (x : View) (numbers : List ℕ) (i n : ℕ) → subobjects_numbered (preorder h x.class) numbers ≡ map Some (heads h l x) → i < length numbers → n ≡ get_or numbers i n → IsHeadAt h l x i n
head_at h l x numbers i n are lt is =
    let here = get_map (slice_get (preorder h x.class)) numbers i n (get_read numbers i n lt is) in
    let r = get_mapped Some (heads h l x) i (slice_get (preorder h x.class) n) (ap (λ xs. slice_get xs i) (sym are) ∙ here) in
    record { head = r.0; at_head = r.1; there = sym r.2 }

pub head_within : (h : Classes) (l : Places) (x : View) (numbers : List ℕ) (i n m : ℕ) → subobjects_numbered (preorder h x.class) numbers ≡ map Some (heads h l x) → i < length numbers → n ≡ get_or numbers i n → length (preorder h x.class) ≡ m → n < m
head_within h l x numbers i n m are lt is size = let r = head_at h l x numbers i n are lt is in let k = slice_get_within (preorder h x.class) n r.head r.there in omega arith

module _ (h : Classes) (l : Places) (x : View) (set : Setting h l x) where
  -- a chain is not longer than the number of its class
  chain_short : (i : ℕ) (s u : Subobject) → IsSubobject h x.class s → along_chain (next l x) i (Some s) ≡ Some u → i < x.class.0 + 1
  chain_short i s u valid e =
      let w = walk_under h l x set i s u valid e in
      let less = w.less w.under.above w.under.below w.under.of_above w.under.of_below in
      let most = class_low h set.keeps x.class w.under.above s valid w.under.of_above in
      omega arith

  -- one more chain
  pub serving_more : (m n : ℕ) (tables new : List (Option ℕ)) → IsHeadAt h l x m n → ((s : Option Subobject) → NumbersSubobject (preorder h x.class) (Some n) s → IsNoted (preorder h x.class) (next l x) s m (x.class.0 + 1) tables new) → AreServingTo h l x m tables → AreServingTo h l x (m + 1) new
  serving_more m n tables new at each inv = record {
    size = noted.size ∙ inv.size;
    sound = λ i k u there e. by_from i k u there (noted.sound i k u there e);
    noted = λ k i j head u lt is leads there. ⊎_elim
        (λ same. let one : head ≡ at.head = same_some head at.head (sym is ∙ subst (λ a. slice_get (heads h l x) a ≡ Some at.head) (sym same) at.at_head) in
        let here : along_chain (next l x) i (Some at.head) ≡ Some u = subst (λ a. along_chain (next l x) i (Some a) ≡ Some u) one leads in
        noted.noted i j u (chain_short i at.head u valid here) here there)
        (λ o. ⊎_elim (λ less. noted.stays j (inv.noted k i j head u less is leads there)) (λ more. absurd (omega arith)) o)
        (cases_order k m);
  }
    where
      noted : IsNoted (preorder h x.class) (next l x) (Some at.head) m (x.class.0 + 1) tables new
      noted = each (Some at.head) (number n at.head at.there)

      passes : Item (by_part h x.class) at.head × (is_head h l x at.head ≡ true)
      passes = from_filter (is_head h l x) (by_part h x.class) at.head (record { index = m; there = at.at_head })

      valid : IsSubobject h x.class at.head
      valid = part_valid h set.keeps x.class at.head passes.0

      by_from : (i k : ℕ) (u : Subobject) → slice_get (preorder h x.class) i ≡ Some u → IsFrom (next l x) (Some at.head) m tables i k u → IsServedAt h l x k u
      by_from i k u there (from_before e) = inv.sound i k u there e
      by_from i k u there (from_chain steps same leads) = record {
        head = at.head;
        there = subst (λ a. slice_get (heads h l x) a ≡ Some at.head) (sym same) at.at_head;
        serves = record { valid = valid; head = passes.1; steps = steps; leads = leads };
      }

  pub serving_all : (m : ℕ) (numbers : List ℕ) (tables : List (Option ℕ)) → subobjects_numbered (preorder h x.class) numbers ≡ map Some (heads h l x) → length numbers ≤ m → AreServingTo h l x m tables → AreServing h l x tables
  serving_all m numbers tables are le inv = record {
    size = inv.size;
    sound = inv.sound;
    noted = λ n u d there e dyn.
        let r = some_head h l x set u d (item_preorder h set.keeps x.class u (record { index = n; there = there })) e dyn in
        let at = item_filter (is_head h l x) (by_part h x.class) r.0 (part_item h set.keeps x.class r.0 r.1.valid) r.1.head in
        let within = slice_get_within (heads h l x) at.index r.0 at.there in
        let size : length numbers ≡ length (heads h l x) = sym (length-map numbers (slice_get (preorder h x.class))) ∙ ap length are ∙ length-map (heads h l x) Some in
        inv.noted at.index r.1.steps n r.0 u (omega arith) at.there r.1.leads there;
  }
