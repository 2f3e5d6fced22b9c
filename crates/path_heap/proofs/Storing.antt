-- A leaf is read and written: what changes, and what stays.
use Rattle.std.proofs.Common.{◌≡◌, ℕ, ◌+◌, ⊎_elim, true, ◌&&◌, List, length, refl, ap, subst, sym, ◌∙◌}
use Rattle.std.specs.Prelude.{slice_get, slice_set, nat_eq, if◌then◌else◌}
use Rattle.std.proofs.lemmas.Bool.{eqb-true, eq-eqb, and_parts}
use Rattle.std.proofs.lemmas.List.{length-set}
use Rattle.std.proofs.lemmas.Option.{slice_get_within}
use Rattle.foundation.proofs.Truth.{split}
use Rattle.foundation.proofs.Deciding.{decide_number}
use Rattle.cxx_hierarchy.specs.Classes.{Classes}
use Rattle.path_plan.specs.Places.{ObjectPart, same_part}
use Rattle.path_plan.proofs.Same.{part_same, part_itself}
use Rattle.path_numbers.specs.Sizes.{sizes_of, member_offset}
use Rattle.path_numbers.specs.Nodes.{Node, LeafAt}
use Rattle.path_numbers.proofs.Sized.{sizes_are}
use Rattle.path_numbers.proofs.Leaves.{leaf_own, SameLeaf, one_leaf}
use Rattle.path_numbers.proofs.Heap.{heap_owner, heap_number}
use Rattle.path_model.specs.Values.{Value, Leaf, Objects}
use Rattle.path_model.specs.Places.{leaf}
use Rattle.path_model.specs.Effects.{same_leaf, with_leaf, leaf_set}
use Rattle.path_heap.specs.declared.state.Value.{Value as ValueCode}
use Rattle.path_heap.specs.declared.heap.Heap.{Heap}
use Rattle.path_heap.specs.Points.{PointsLeaf}
use Rattle.path_heap.specs.Running.{ViewsStand}
use Rattle.path_heap.specs.Stands.{Means, LeafStands, HeapStands}
use Rattle.path_heap.specs.invariants.Columns.{value_or_unset, Stored}
use Rattle.path_heap.proofs.Sets.{set_same, set_other}

pub leaf_told : (h : Classes) (heap : Heap) (s : Objects) → HeapStands h heap s → (k : ℕ) (l : Leaf) → PointsLeaf h s.classes k l → (value : ValueCode) → value ≡ value_or_unset (slice_get heap.leaves.items k) → Means h s.classes value (s.leaf l)
leaf_told h heap s stands k l q value is =
    let o = stands.leaves k l q in
    subst (λ (t : ValueCode). Means h s.classes t (s.leaf l)) (sym (is ∙ ap value_or_unset o.listed)) o.means

alike : (p q : ObjectPart) (m n i j : ℕ) → p ≡ q → m ≡ n → i ≡ j → leaf p m i ≡ leaf q n j
alike p q m n i j e f g = ap (λ t. leaf t m i) e ∙ (ap (λ t. leaf q t i) f ∙ ap (λ t. leaf q n t) g)

leaf_same : (l m : Leaf) → same_leaf l m ≡ true → l ≡ m
leaf_same l m e =
    let a = and_parts (same_part l.part m.part) (nat_eq l.member m.member && nat_eq l.index m.index) e in
    let b = and_parts (nat_eq l.member m.member) (nat_eq l.index m.index) a.1 in
    alike l.part m.part l.member m.member l.index m.index (part_same l.part m.part a.0) (eqb-true l.member m.member b.0) (eqb-true l.index m.index b.1)

leaf_itself : (l : Leaf) → same_leaf l l ≡ true
leaf_itself l = rw (part_itself l.part, eq-eqb l.member l.member refl, eq-eqb l.index l.index refl) refl

-- a number is that of one leaf
one_number_leaf : (h : Classes) (heap : Heap) (s : Objects) → HeapStands h heap s → (n : ℕ) (l m : Leaf) → PointsLeaf h s.classes n l → PointsLeaf h s.classes n m → l ≡ m
one_number_leaf h heap s stands n l m a b =
    let is = sizes_are h stands.hierarchy in
    let f : a.node ≡ b.node = heap_owner h (sizes_of h) is s.classes n a.node b.node a.at b.at (leaf_own h (sizes_of h) is a.node l.member l.index n a.leaf) (leaf_own h (sizes_of h) is b.node m.member m.index n b.leaf) in
    let k : SameLeaf l.member m.member l.index m.index = one_leaf h (sizes_of h) is b.node l.member l.index m.member m.index n (subst (λ (t : Node). LeafAt h (sizes_of h) t l.member l.index n) f a.leaf) b.leaf in
    let e : l.part ≡ m.part = sym a.is_part ∙ (ap (λ (t : Node). t.part) f ∙ b.is_part) in
    alike l.part m.part l.member m.member l.index m.index e k.member k.index

-- and a leaf has one number
one_leaf_number : (h : Classes) (heap : Heap) (s : Objects) → HeapStands h heap s → (n k : ℕ) (l : Leaf) → PointsLeaf h s.classes n l → PointsLeaf h s.classes k l → n ≡ k
one_leaf_number h heap s stands n k l a b =
    let f : a.node ≡ b.node = heap_number h (sizes_of h) stands.hierarchy s.classes a.node b.node a.at b.at (a.is_part ∙ sym b.is_part) in
    a.leaf.is ∙ (ap (λ (t : Node). t.number + (member_offset h (sizes_of h) t.class l.member + l.index)) f ∙ sym b.leaf.is)

leaf_written : (h : Classes) (heap : Heap) (s : Objects) → HeapStands h heap s → (k : ℕ) (value : ValueCode) (l : Leaf) (v : Value) → PointsLeaf h s.classes k l → Means h s.classes value v → (n : ℕ) (m : Leaf) → PointsLeaf h s.classes n m
    → LeafStands h (leaf_set s l v) (slice_set heap.leaves.items k value) n m
leaf_written h heap s stands k value l v q means n m r = ⊎_elim
    (λ e.
    let same : l ≡ m = one_number_leaf h heap s stands n l m (subst (λ t. PointsLeaf h s.classes t l) e q) r in
    let lt = slice_get_within heap.leaves.items k (stands.leaves k l q).value (stands.leaves k l q).listed in
    let told : with_leaf s.leaf l v m ≡ v = ap (with_leaf s.leaf l v) (sym same) ∙ ap (λ b. if b then v else s.leaf l) (leaf_itself l) in
    record { value = value; listed = ap (slice_get (slice_set heap.leaves.items k value)) (sym e) ∙ set_same heap.leaves.items k value lt; means = subst (λ (t : Value). Means h s.classes value t) (sym told) means })
    (λ differ.
    let old = stands.leaves n m r in
    let told : with_leaf s.leaf l v m ≡ s.leaf m = split (same_leaf l m) (λ b. (if b then v else s.leaf m) ≡ s.leaf m)
    (λ e. absurd (differ (one_leaf_number h heap s stands k n m (subst (λ (t : Leaf). PointsLeaf h s.classes k t) (leaf_same l m e) q) r))) (λ e. refl) in
    record { value = old.value; listed = set_other heap.leaves.items k n value differ ∙ old.listed; means = subst (λ (t : Value). Means h s.classes old.value t) (sym told) old.means })
    (decide_number k n)

pub stored_stands : (h : Classes) (heap new : Heap) (s : Objects) → HeapStands h heap s → (k : ℕ) (value : ValueCode) (l : Leaf) (v : Value) → PointsLeaf h s.classes k l → Means h s.classes value v → Stored heap new k value → HeapStands h new (leaf_set s l v)
stored_stands h heap new s stands k value l v q means did = record {
  hierarchy = stands.hierarchy;
  cells = λ y at. let old = stands.cells y at in record { cell = old.cell; listed = ap (λ t. slice_get t y.number) did.cells ∙ old.listed; phase = old.phase; class = old.class; owner = old.owner };
  leaves = λ n m r. subst (λ (t : List ValueCode). LeafStands h (leaf_set s l v) t n m) (sym did.leaves) (leaf_written h heap s stands k value l v q means n m r);
  objects = λ j c at. let o = stands.objects j c at in record { row = o.row; listed = ap (λ t. slice_get t j) did.objects ∙ o.listed; class = o.class; start = o.start; closed = o.closed };
  views = subst (λ t. ViewsStand h s.classes s.phases t new.parts.around) (sym did.tops) (subst (λ t. ViewsStand h s.classes s.phases heap.parts.tops t) (sym did.around) stands.views);
  counts = record {
    objects = ap length did.objects ∙ stands.counts.objects;
    cells = ap length did.cells ∙ stands.counts.cells;
    leaves = ap length did.leaves ∙ (length-set heap.leaves.items k value ∙ stands.counts.leaves);
    tops = ap length did.tops ∙ stands.counts.tops;
    around = ap length did.around ∙ stands.counts.around;
    few = stands.counts.few;
    small = stands.counts.small;
  };
}
