-- The sub-VTTs of a VTT stand at numbers that depend on classes alone.
use Rattle.std.proofs.Common.{◌≡◌, ℕ, zero, suc, ◌+◌, ◌<◌, ⊎_elim, true, false, Some, List, [], ◌∷◌, ◌++◌, map, length, refl, ap, subst, sym, ◌∙◌, arith}
use Rattle.std.specs.Prelude.{slice_get, nat_eq, filter, if◌then◌else◌}
use Rattle.std.specs.List.{flat_map}
use Rattle.std.proofs.lemmas.Bool.{eqb-true}
use Rattle.std.proofs.lemmas.List.{length-append, length-map}
use Rattle.cxx_hierarchy.specs.declared.records.ClassId.{ClassId}
use Rattle.cxx_hierarchy.specs.declared.records.Base.{Base}
use Rattle.cxx_hierarchy.specs.Classes.{Classes, bases_of}
use Rattle.cxx_hierarchy.specs.Hierarchies.{IsHierarchy}
use Rattle.cxx_hierarchy.specs.VirtualBases.{IsDirectBase, HasVirtualBase}
use Rattle.cxx_hierarchy.proofs.Listed.{get_map}
use Rattle.cxx_subobject.specs.declared.Subobject.{Subobject}
use Rattle.cxx_subobject.specs.Subobjects.{IsSubobject, whole_of, shared_base, same_subobject}
use Rattle.cxx_subobject.specs.Preorder.{preorder}
use Rattle.cxx_subobject.specs.VirtualBases.{virtual_bases}
use Rattle.cxx_subobject.proofs.PathLemmas.{same_id, base_before}
use Rattle.cxx_subobject.proofs.TreeLemmas.{same_itself, subobject_same}
use Rattle.abi_sound.specs.Places.{Places}
use Rattle.abi_slots.specs.Listing.{first_position}
use Rattle.abi_slots.specs.Rows.{class_of_base}
use Rattle.abi_slots.proofs.Lists.{Item as ListItem, item_split, item_none, item_map, item_filter, from_filter, flat_same, get_past}
use Rattle.abi_slots.proofs.Bases.{item_contains, preorder_item, virtual_item}
use Rattle.abi_vtt.specs.Vtts.{VttEntry, item, has_vtt, is_built_base, bases_with_tables, needs_word, words_of_bases, extended_by, sub_items, shared_items, vtt_items}
use Rattle.abi_vtt.specs.Blocks.{block, StandsIn, block_length, lengths_of, lengths_before, built_classes, built_shared, block_distance, shared_distance, item_number}
use Rattle.abi_vtt.proofs.MarkLemmas.{has_some}
use Rattle.abi_vtt.proofs.ValidViews.{built_edge}
use Rattle.foundation.proofs.Places.{get_front}
use Rattle.foundation.proofs.Truth.{split}

-- lists that stand in others

stands_first : (xs ys : List VttEntry) → StandsIn (xs ++ ys) 0 xs
stands_first xs ys = record { each = λ i it e. let z : 0 + i ≡ i = omega arith in subst (λ n. slice_get (xs ++ ys) n ≡ Some it) (sym z) (get_front xs ys i it e) }

stands_behind : (xs ys : List VttEntry) → StandsIn (xs ++ ys) (length xs) ys
stands_behind xs ys = record { each = λ i it e. get_past xs ys i it e }

pub stands_through : (all some part : List VttEntry) (m n : ℕ) → StandsIn all m some → StandsIn some n part → StandsIn all (m + n) part
stands_through all some part m n a b = record { each = λ i it e. let z : m + n + i ≡ m + (n + i) = omega arith in subst (λ k. slice_get all k ≡ Some it) (sym z) (a.each (n + i) it (b.each i it e)) }

stands_at : (all some : List VttEntry) (m n : ℕ) → m ≡ n → StandsIn all m some → StandsIn all n some
stands_at all some m n e a = subst (λ k. StandsIn all k some) e a

-- what classes give, one after the other, where as many words are for each as its sub-VTT has
in_turn : (h : Classes) (l : Places) (go : ClassId → List VttEntry) → ((d : ClassId) → length (go d) ≡ block_length h l d) → (list : List ClassId) (b : ClassId) → ListItem list b → StandsIn (flat_map go list) (lengths_before h l b list) (go b)
in_turn h l go sized [] b i = absurd (item_none b i)
in_turn h l go sized (d ∷ rest) b i = split (nat_eq d.0 b.0)
    (λ same. nat_eq d.0 b.0 ≡ same → StandsIn (go d ++ flat_map go rest) (if same then 0 else block_length h l d + lengths_before h l b rest) (go b))
    (λ t same. let is : d ≡ b = same_id d b (eqb-true d.0 b.0 same) in subst (λ a. StandsIn (go d ++ flat_map go rest) 0 (go a)) is (stands_first (go d) (flat_map go rest)))
    (λ t apart. stands_at (go d ++ flat_map go rest) (go b) (length (go d) + lengths_before h l b rest) (block_length h l d + lengths_before h l b rest) (ap (λ n. n + lengths_before h l b rest) (sized d))
    (stands_through (go d ++ flat_map go rest) (flat_map go rest) (go b) (length (go d)) (lengths_before h l b rest) (stands_behind (go d) (flat_map go rest))
    (in_turn h l go sized rest b (later i apart))))
    refl
  where
    later : ListItem (d ∷ rest) b → nat_eq d.0 b.0 ≡ false → ListItem rest b
    later j apart = ⊎_elim (λ same. absurd (let f : nat_eq d.0 d.0 ≡ false = subst (λ (a : ClassId). nat_eq d.0 a.0 ≡ false) (sym same) apart in grind arith)) (λ r. r) (item_split d rest b j)

pub turn_length : (h : Classes) (l : Places) (go : ClassId → List VttEntry) → ((d : ClassId) → length (go d) ≡ block_length h l d) → (list : List ClassId) → length (flat_map go list) ≡ lengths_of h l list
turn_length h l go sized [] = refl
turn_length h l go sized (d ∷ rest) =
    let one = sized d in
    let more = turn_length h l go sized rest in
    let whole = length-append (go d) (flat_map go rest) in
    omega arith

-- bases give what their classes give
by_class : (go : ClassId → List VttEntry) (bases : List (Base ClassId)) → flat_map (λ (base : Base ClassId). go base.class) bases ≡ flat_map go (map class_of_base bases)
by_class go [] = refl
by_class go (base ∷ bases) = ap (λ a. go base.class ++ a) (by_class go bases)

pub whole_stands : (h : Classes) (l : Places) (c : ClassId) → StandsIn (vtt_items h l c) 0 (block h l (whole_of c) c)
whole_stands h l c = stands_first (block h l (whole_of c) c) (flat_map (shared_items h l) (built_shared h c))

module _ (h : Classes) (keeps : IsHierarchy h) (l : Places) where
  built_before : (d : ClassId) (base : Base ClassId) → ListItem (bases_with_tables h d) base → base.class.0 < d.0
  built_before d base i = let r = from_filter (is_built_base h) (bases_of h d) base i in base_before h keeps d base.class false (built_edge h d base r.0 r.1)

  -- as many steps are enough as the class has as its number, and one more
  steps_same : (m n : ℕ) (x : Subobject) (d : ClassId) → d.0 < m → d.0 < n → sub_items h l m x d ≡ sub_items h l n x d
  steps_same zero n x d lt less = absurd (omega arith)
  steps_same (suc m) zero x d lt less = absurd (omega arith)
  steps_same (suc m) (suc n) x d lt less =
      ap (λ a. item x (whole_of d) ∷ (a ++ words_of_bases h l x d))
      (flat_same (λ (base : Base ClassId). sub_items h l m (extended_by x base.class) base.class) (λ (base : Base ClassId). sub_items h l n (extended_by x base.class) base.class) (bases_with_tables h d)
      (λ base i. let k = built_before d base i in steps_same m n (extended_by x base.class) base.class (omega arith) (omega arith)))

  abbrev base_blocks : Subobject → ClassId → List VttEntry
  base_blocks x d = flat_map (λ b. block h l (extended_by x b) b) (built_classes h d)

  -- a block: the word of the view itself, the blocks of its bases, and the words of its base subobjects
  pub opened : (x : Subobject) (d : ClassId) → block h l x d ≡ item x (whole_of d) ∷ (base_blocks x d ++ words_of_bases h l x d)
  opened x d =
      steps_same (d.0 + 1) (suc d.0) x d (omega arith) (omega arith)
      ∙ ap (λ a. item x (whole_of d) ∷ (a ++ words_of_bases h l x d))
      (flat_same (λ (base : Base ClassId). sub_items h l d.0 (extended_by x base.class) base.class) (λ (base : Base ClassId). block h l (extended_by x base.class) base.class) (bases_with_tables h d)
      (λ base i. let k = built_before d base i in steps_same d.0 (base.class.0 + 1) (extended_by x base.class) base.class k (omega arith))
      ∙ by_class (λ b. block h l (extended_by x b) b) (bases_with_tables h d))

  pub first_word : (x : Subobject) (d : ClassId) → slice_get (block h l x d) 0 ≡ Some (item x (whole_of d))
  first_word x d = ap (λ a. slice_get a 0) (opened x d)

  -- a block has as many words in each view of the class
  flat_length : (f g : Base ClassId → List VttEntry) (bases : List (Base ClassId)) → ((base : Base ClassId) → length (f base) ≡ length (g base)) → length (flat_map f bases) ≡ length (flat_map g bases)
  flat_length f g [] same = refl
  flat_length f g (base ∷ bases) same =
      let one = same base in
      let more = flat_length f g bases same in
      let left = length-append (f base) (flat_map f bases) in
      let right = length-append (g base) (flat_map g bases) in
      omega arith

  length_steps : (n : ℕ) (x y : Subobject) (d : ClassId) → length (sub_items h l n x d) ≡ length (sub_items h l n y d)
  length_steps zero x y d = refl
  length_steps (suc n) x y d =
      let bases = flat_length (λ (base : Base ClassId). sub_items h l n (extended_by x base.class) base.class) (λ (base : Base ClassId). sub_items h l n (extended_by y base.class) base.class) (bases_with_tables h d) (λ base. length_steps n (extended_by x base.class) (extended_by y base.class) base.class) in
      let left = length-append (flat_map (λ (base : Base ClassId). sub_items h l n (extended_by x base.class) base.class) (bases_with_tables h d)) (words_of_bases h l x d) in
      let right = length-append (flat_map (λ (base : Base ClassId). sub_items h l n (extended_by y base.class) base.class) (bases_with_tables h d)) (words_of_bases h l y d) in
      let one = length-map (filter (needs_word h l) (preorder h d)) (item x) in
      let other = length-map (filter (needs_word h l) (preorder h d)) (item y) in
      omega arith

  pub length_same : (x : Subobject) (d : ClassId) → length (block h l x d) ≡ block_length h l d
  length_same x d = length_steps (d.0 + 1) x (whole_of d) d

  built_listed : (d b v : ClassId) → IsDirectBase h d false b → HasVirtualBase h b v → ListItem (built_classes h d) b
  built_listed d b v edge has =
      let base = edge.base in
      let class : base.class ≡ b = edge.class in
      let test : is_built_base h base ≡ true = rw (edge.way, class) (has_some h keeps b v has) in
      subst (λ a. ListItem (built_classes h d) a) class (item_map class_of_base (bases_with_tables h d) base (item_filter (is_built_base h) (bases_of h d) base (item_contains (bases_of h d) base edge.listed) test))

  -- the block of a base stands in that of a view at a number by the classes of both
  pub base_stands : (x : Subobject) (d b v : ClassId) (all : List VttEntry) (n : ℕ) → IsDirectBase h d false b → HasVirtualBase h b v → StandsIn all n (block h l x d) → StandsIn all (n + block_distance h l d b) (block h l (extended_by x b) b)
  base_stands x d b v all n edge has there =
      let go : ClassId → List VttEntry = λ a. block h l (extended_by x a) a in
      let rest = base_blocks x d ++ words_of_bases h l x d in
      let turn = in_turn h l (λ a. block h l (extended_by x a) a) (λ a. length_same (extended_by x a) a) (built_classes h d) b (built_listed d b v edge has) in
      let inner = stands_through rest (base_blocks x d) (block h l (extended_by x b) b) 0 (lengths_before h l b (built_classes h d)) (stands_first (base_blocks x d) (words_of_bases h l x d)) turn in
      let outer : StandsIn (item x (whole_of d) ∷ rest) 1 rest = stands_behind (item x (whole_of d) ∷ []) rest in
      let whole = stands_through (item x (whole_of d) ∷ rest) rest (block h l (extended_by x b) b) 1 (0 + lengths_before h l b (built_classes h d)) outer inner in
      let here : StandsIn (block h l x d) (1 + (0 + lengths_before h l b (built_classes h d))) (block h l (extended_by x b) b) = subst (λ a. StandsIn a (1 + (0 + lengths_before h l b (built_classes h d))) (block h l (extended_by x b) b)) (sym (opened x d)) whole in
      stands_through all (block h l x d) (block h l (extended_by x b) b) n (block_distance h l d b) there (stands_at (block h l x d) (block h l (extended_by x b) b) (1 + (0 + lengths_before h l b (built_classes h d))) (block_distance h l d b) (omega arith) here)

  pub shared_stands : (c v w : ClassId) → HasVirtualBase h c v → HasVirtualBase h v w → StandsIn (vtt_items h l c) (shared_distance h l c v) (block h l (shared_base v) v)
  shared_stands c v w has more =
      let front = block h l (whole_of c) c in
      let rest = flat_map (shared_items h l) (built_shared h c) in
      let listed : ListItem (built_shared h c) v = item_filter (has_vtt h) (virtual_bases h c) v (virtual_item h keeps c v has) (has_some h keeps v w more) in
      stands_through (front ++ rest) rest (block h l (shared_base v) v) (length front) (lengths_before h l v (built_shared h c)) (stands_behind front rest)
      (in_turn h l (shared_items h l) (λ a. length_same (shared_base a) a) (built_shared h c) v listed)

  -- the word for a base subobject stands at its number
  placed : (list : List Subobject) (s : Subobject) → ListItem list s → slice_get list (first_position (same_subobject s) list) ≡ Some s
  placed [] s i = absurd (item_none s i)
  placed (t ∷ list) s i = split (same_subobject s t)
      (λ b. same_subobject s t ≡ b → slice_get (t ∷ list) (if b then 0 else suc (first_position (same_subobject s) list)) ≡ Some s)
      (λ b same. ap (λ a. Some a) (sym (subobject_same s t same)))
      (λ b apart. placed list s (⊎_elim (λ same. absurd (let e : same_subobject s s ≡ false = subst (λ a. same_subobject s a ≡ false) same apart in let f = same_itself s in cc)) (λ r. r) (item_split t list s i)))
      refl

  pub word_stands : (x : Subobject) (d : ClassId) (s : Subobject) → IsSubobject h d s → needs_word h l s ≡ true → slice_get (block h l x d) (item_number h l d s) ≡ Some (item x s)
  word_stands x d s valid needs =
      let list = filter (needs_word h l) (preorder h d) in
      let at = first_position (same_subobject s) list in
      let there = placed list s (item_filter (needs_word h l) (preorder h d) s (preorder_item h keeps d s valid) needs) in
      let word : slice_get (words_of_bases h l x d) at ≡ Some (item x s) = get_map (item x) list at s there in
      let past = get_past (item x (whole_of d) ∷ base_blocks x d) (words_of_bases h l x d) at (item x s) word in
      let size = turn_length h l (λ a. block h l (extended_by x a) a) (λ a. length_same (extended_by x a) a) (built_classes h d) in
      let number : length (item x (whole_of d) ∷ base_blocks x d) + at ≡ item_number h l d s = omega arith in
      subst (λ a. slice_get a (item_number h l d s) ≡ Some (item x s)) (sym (opened x d))
      (subst (λ n. slice_get (item x (whole_of d) ∷ (base_blocks x d ++ words_of_bases h l x d)) n ≡ Some (item x s)) number past)
