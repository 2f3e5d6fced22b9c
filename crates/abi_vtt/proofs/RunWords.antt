-- How far apart the address points of the first tables of a group stand.
use Rattle.std.proofs.Common.{◌≡◌, ℕ, zero, suc, ◌+◌, ◌-◌, ◌<◌, Bool, true, false, Some, None, List, [], ◌∷◌, ◌++◌, reverse, length, refl, ap, subst, sym, ◌∙◌, arith}
use Rattle.std.specs.Prelude.{slice_get, filter, not}
use Rattle.std.proofs.lemmas.List.{length-append, length-reverse, length-map}
use Rattle.cxx_hierarchy.specs.declared.records.ClassId.{ClassId}
use Rattle.cxx_hierarchy.specs.Classes.{Classes}
use Rattle.cxx_hierarchy.specs.Hierarchies.{IsHierarchy}
use Rattle.cxx_subobject.specs.declared.Root.{Root}
use Rattle.cxx_subobject.specs.declared.Root.TheVariants.{Whole, Shared}
use Rattle.cxx_subobject.specs.declared.Subobject.{Subobject}
use Rattle.cxx_subobject.specs.Subobjects.{IsSubobject, whole, shared, subobject, whole_of, class_of, class_of_path, same_root, same_subobject}
use Rattle.cxx_subobject.specs.Preorder.{preorder, firsts, tree}
use Rattle.cxx_subobject.proofs.TreeLemmas.{same_itself}
use Rattle.foundation.proofs.Truth.{not_both}
use Rattle.abi_primary.specs.Kinds.{IsDynamic}
use Rattle.abi_sound.specs.Places.{Places}
use Rattle.abi_slots.specs.declared.words.Table.{Table}
use Rattle.abi_slots.specs.declared.words.Group.{Group}
use Rattle.abi_slots.specs.declared.words.TableWord.TheVariants.{Entry}
use Rattle.abi_slots.specs.Images.{point_words}
use Rattle.abi_slots.specs.Listing.{entries, offsets}
use Rattle.abi_slots.specs.Views.{View, seen, is_dynamic_class, of_root, heads}
use Rattle.abi_slots.specs.Groups.{GoAlong, IsTable, is_shared_base, view_of_group, IsGroup}
use Rattle.abi_slots.proofs.Lists.{Item, from_filter}
use Rattle.abi_slots.proofs.Bases.{item_preorder}
use Rattle.abi_slots.proofs.Chains.{same_some}
use Rattle.abi_slots.proofs.Heads.{dynamic_test}
use Rattle.abi_vtt.specs.Blocks.{is_front_head, table_run, words_by_class, before_by_class, words_to, run_distance}
use Rattle.abi_vtt.proofs.RunLemmas.{first_run, heads_are, shared_heads}

-- how many words a table has, by its class
pub record IsSized (h : Classes) (l : Places) (is_shared : Bool) (c : ClassId) (table : Table) : Type 0 where
  pub before : table.before ≡ length (offsets h l is_shared c) + 2
  pub words : length table.words ≡ length (offsets h l is_shared c) + 2 + length (entries h l c)

table_sized : (h : Classes) (l : Places) (x : View) (t : Subobject) (table : Table) → IsTable h l x t table → IsSized h l (is_shared_base (seen x t)) table.class table
table_sized h l x t table is =
    let offsets_size = is.are_offsets.size in
    let entries_size = is.are_entries.size in
    let before = is.before in
    let rest = length-map is.entry_words Entry in
    let turned = length-reverse is.offset_words in
    let words = ap length is.words ∙ length-append (reverse is.offset_words) _ in
    record { before = omega arith; words = omega arith }

-- tables that are no virtual base's, for subobjects in turn
module _ (h : Classes) (l : Places) where
  pub data AreSized : List Subobject → List Table → ℕ → Type 0 where
    last_sized : (t : Subobject) (c : ClassId) (ts : List Subobject) (table : Table) (tables : List Table) → class_of t ≡ Some c → IsSized h l false c table → AreSized (t ∷ ts) (table ∷ tables) 0
    more_sized : (t : Subobject) (c : ClassId) (ts : List Subobject) (table : Table) (tables : List Table) (n : ℕ) → class_of t ≡ Some c → IsSized h l false c table → AreSized ts tables n → AreSized (t ∷ ts) (table ∷ tables) (suc n)

  same_words : (ts : List Subobject) (tables : List Table) (n : ℕ) → AreSized ts tables n → point_words tables n ≡ words_to h l ts n
  same_words _ _ _ (last_sized t c ts table tables e sized) = sized.before ∙ ap (before_by_class h l) (sym e)
  same_words _ _ _ (more_sized t c ts table tables n e sized rest) =
      let here : length table.words ≡ words_by_class h l (class_of t) = sized.words ∙ ap (words_by_class h l) (sym e) in
      let more = same_words ts tables n rest in
      omega arith

not_shared : (r : Root) (c b : ClassId) (p q : List ClassId) → is_shared_base (subobject r (c ∷ (p ++ b ∷ q))) ≡ false
not_shared Whole c b p q = refl
not_shared (Shared v) c b [] q = refl
not_shared (Shared v) c b (d ∷ p) q = refl

-- below a view, in its non-virtual part, nothing is a virtual base itself
inner_flat : (h : Classes) (x : View) (t : Subobject) → class_of x.at_sub ≡ Some x.class → IsSubobject h x.class t → t.root ≡ Whole → same_subobject (whole_of x.class) t ≡ false → is_shared_base (seen x t) ≡ false
inner_flat h x _ of (whole [] leads) root apart = absurd (not_both (same_itself (whole_of x.class)) apart)
inner_flat h x _ of (whole (b ∷ path) leads) root apart = by_path x.at_sub.path refl
  where
    by_path : (p : List ClassId) → x.at_sub.path ≡ p → is_shared_base (subobject x.at_sub.root (x.at_sub.path ++ b ∷ path)) ≡ false
    by_path [] is = absurd (let none : None ≡ Some x.class = ap (λ q. class_of_path q) (sym is) ∙ of in cc)
    by_path (c ∷ p) is = subst (λ q. is_shared_base (subobject x.at_sub.root (q ++ b ∷ path)) ≡ false) (sym is) (not_shared x.at_sub.root c b p path)
inner_flat h x _ of (shared v path has leads) root apart = absurd (cc)

-- the run begins with the view itself, which it has once
record IsOpened (h : Classes) (l : Places) (d : ClassId) : Type 0 where
  rest : List Subobject
  is : table_run h l d ≡ whole_of d ∷ rest
  apart : (t : Subobject) → Item rest t → same_subobject (whole_of d) t ≡ false

run_opens : (h : Classes) (l : Places) (d : ClassId) → is_dynamic_class h (Some d) ≡ true → IsOpened h l d
run_opens h l d dyn = by_steps (d.0 + 1) refl (omega arith)
  where
    inner : List Subobject → List Subobject
    inner list = filter (λ t. not (same_subobject (whole_of d) t)) (firsts list)

    by_list : (list : List Subobject) → preorder h d ≡ firsts (whole_of d ∷ list) → IsOpened h l d
    by_list list is =
        let here = filter (is_front_head h l) (of_root Whole (inner list)) in
        record {
          rest = here;
          is = ap (λ a. filter (is_front_head h l) (of_root Whole a)) is ∙ rw dyn refl;
          apart = λ t i.
              let a = from_filter (is_front_head h l) (of_root Whole (inner list)) t i in
              let b = from_filter (λ (u : Subobject). same_root Whole u.root) (inner list) t a.0 in
              let c = from_filter (λ (u : Subobject). not (same_subobject (whole_of d) u)) (firsts list) t b.0 in
              not_true (same_subobject (whole_of d) t) c.1;
        }
      where
        not_true : (b : Bool) → not b ≡ true → b ≡ false
        not_true true e = cc
        not_true false e = refl

    by_steps : (n : ℕ) → d.0 + 1 ≡ n → 0 < n → IsOpened h l d
    by_steps zero is lt = absurd (omega arith)
    by_steps (suc n) is lt = by_list _ (ap (λ m. firsts (tree h m d (whole_of d))) is)

module _ (h : Classes) (l : Places) (x : View) where
  sized_at : (u : Subobject) (table : Table) → is_shared_base (seen x u) ≡ false → IsTable h l x u table → IsSized h l false table.class table
  sized_at u table flat is = subst (λ b. IsSized h l b table.class table) flat (table_sized h l x u table is)

  along_rest : (u : Subobject) (us : List Subobject) (table : Table) (tables : List Table) → GoAlong (IsTable h l x) (u ∷ us) (table ∷ tables) → GoAlong (IsTable h l x) us tables
  along_rest u us table tables go = record { size = (let e = go.size in omega arith); each = λ i a b e f. go.each (suc i) a b e f }

  all_sized : (rest others : List Subobject) (tables : List Table) (n : ℕ) (t : Subobject) → ((u : Subobject) → Item rest u → is_shared_base (seen x u) ≡ false) → GoAlong (IsTable h l x) (rest ++ others) tables → slice_get rest n ≡ Some t → AreSized h l rest tables n
  all_sized [] others tables n t flat go e = absurd (cc)
  all_sized (u ∷ rest) others [] n t flat go e = absurd (let size = go.size in omega arith)
  all_sized (u ∷ rest) others (table ∷ tables) zero t flat go e =
      let is = go.each 0 u table refl refl in
      last_sized u table.class rest table tables is.class (sized_at u table (flat u (record { index = 0; there = refl })) is)
  all_sized (u ∷ rest) others (table ∷ tables) (suc n) t flat go e =
      let is = go.each 0 u table refl refl in
      more_sized u table.class rest table tables n is.class (sized_at u table (flat u (record { index = 0; there = refl })) is)
      (all_sized rest others tables n t (λ v i. flat v (record { index = suc i.index; there = i.there })) (along_rest u (rest ++ others) table tables go) e)

  points_apart : (rest others : List Subobject) (tables : List Table) (n : ℕ) (t : Subobject) → ((u : Subobject) → Item rest u → is_shared_base (seen x u) ≡ false) → GoAlong (IsTable h l x) (whole_of x.class ∷ (rest ++ others)) tables → slice_get (whole_of x.class ∷ rest) n ≡ Some t →
      point_words tables n ≡ point_words tables 0 + (words_to h l (whole_of x.class ∷ rest) n - words_to h l (whole_of x.class ∷ rest) 0)
  points_apart rest others tables zero t flat go e = omega arith
  points_apart rest others [] (suc n) t flat go e = absurd (let size = go.size in omega arith)
  points_apart rest others (table ∷ tables) (suc n) t flat go e =
      let is = go.each 0 (whole_of x.class) table refl refl in
      let class : x.class ≡ table.class = same_some x.class table.class is.class in
      let sized = table_sized h l x (whole_of x.class) table is in
      let more = same_words h l rest tables n (all_sized rest others tables n t flat (along_rest (whole_of x.class) (rest ++ others) table tables go) e) in
      let before = sized.before in
      let words = sized.words in
      let list : length (entries h l x.class) ≡ length (entries h l table.class) = ap (λ c. length (entries h l c)) class in
      omega arith

pub run_apart : (h : Classes) (l : Places) (group : Group) (n : ℕ) (t : Subobject) → IsHierarchy h → (of : IsGroup h l group) → slice_get (table_run h l of.class) n ≡ Some t → point_words group.tables n ≡ point_words group.tables 0 + run_distance h l of.class n
run_apart h l group n t keeps of e =
    let x = view_of_group group of.class in
    let opened = run_opens h l of.class (dynamic_test h keeps of.class of.view.dynamic) in
    let others = shared_heads h keeps l x in
    let heads_is : heads h l x ≡ whole_of of.class ∷ (opened.rest ++ others) = heads_are h keeps l x ∙ ap (λ a. a ++ others) opened.is in
    subst (λ a. point_words group.tables n ≡ point_words group.tables 0 + (words_to h l a n - words_to h l a 0)) (sym opened.is)
    (points_apart h l x opened.rest others group.tables n t
    (λ u i.
    let listed : Item (table_run h l of.class) u = subst (λ a. Item a u) (sym opened.is) (record { index = suc i.index; there = i.there }) in
    let a = from_filter (is_front_head h l) (of_root Whole (preorder h of.class)) u listed in
    let b = from_filter (λ (s : Subobject). same_root Whole s.root) (preorder h of.class) u a.0 in
    inner_flat h x u of.view.of_class (item_preorder h keeps of.class u b.0) ((first_run h keeps l x).whole (suc i.index) u (subst (λ a. slice_get a (suc i.index) ≡ Some u) (sym opened.is) i.there)) (opened.apart u i))
    (subst (λ a. GoAlong (IsTable h l x) a group.tables) heads_is of.tables)
    (subst (λ a. slice_get a n ≡ Some t) opened.is e))

-- the run begins with the view itself, and has subobjects of it
pub run_first : (h : Classes) (l : Places) (d : ClassId) → IsHierarchy h → IsDynamic h d → slice_get (table_run h l d) 0 ≡ Some (whole_of d)
run_first h l d keeps dyn = ap (λ a. slice_get a 0) (run_opens h l d (dynamic_test h keeps d dyn)).is

pub run_valid : (h : Classes) → IsHierarchy h → (l : Places) (d : ClassId) (n : ℕ) (s : Subobject) → slice_get (table_run h l d) n ≡ Some s → IsSubobject h d s
run_valid h keeps l d n s e =
    let a = from_filter (is_front_head h l) (of_root Whole (preorder h d)) s (record { index = n; there = e }) in
    item_preorder h keeps d s (from_filter (λ (t : Subobject). same_root Whole t.root) (preorder h d) s a.0).0
