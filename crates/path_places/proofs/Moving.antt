-- Values are read from the leaves, and given to others from the last one on.
use Rattle.std.proofs.Common.{◌≡◌, ℕ, zero, suc, ◌+◌, ◌<◌, ◌≤◌, min, ◌⊎◌, inl, inr, ⊎_elim, Bool, true, false, List, [], ◌∷◌, ◌++◌, length, take, drop, get_or, refl, ap, subst, sym, ◌∙◌, arith}
use mathlib.Core.Path.{fun_ext}
use Rattle.std.specs.Prelude.{slice_get, Some, if◌then◌else◌}
use Rattle.std.specs.List.{AllZip, zip, find}
use Rattle.std.proofs.lemmas.List.{take_all}
use Rattle.foundation.proofs.Zips.{zip_append}
use Rattle.cxx_hierarchy.specs.Classes.{Classes}
use Rattle.path_model.specs.Values.{Value, Leaf, Objects}
use Rattle.path_model.specs.Effects.{same_leaf, leaf_set, value_behind}
use Rattle.path_heap.specs.declared.heap.Heap.{Heap}
use Rattle.path_heap.specs.declared.state.Value.{Value as ValueCode}
use Rattle.path_heap.specs.Points.{PointsLeaf}
use Rattle.path_heap.specs.Stands.{HeapStands, Means}
use Rattle.path_places.specs.invariants.Stores.{with_moved_leaves, MeansLeaf, ReadsAll, StoresFrom}

-- what goes along with an item
pub record IsAlong {A B : Type 0} (R : A → B → Type 0) (x : A) (ys : List B) (i : ℕ) : Type 0 where
  pub other : B
  pub there : slice_get ys i ≡ Some other
  pub along : R x other

pub along_at : {A B : Type 0} (R : A → B → Type 0) (xs : List A) (ys : List B) (i : ℕ) (d : A) → AllZip R xs ys → i < length xs → IsAlong R (get_or xs i d) ys i
along_at R [] ys i d zip_is lt = absurd (omega arith)
along_at R (x ∷ xs) [] i d zip_is lt = absurd zip_is
along_at R (x ∷ xs) (y ∷ ys) zero d zip_is lt = record { other = y; there = refl; along = zip_is.0 }
along_at R (x ∷ xs) (y ∷ ys) (suc i) d zip_is lt =
    let r = along_at R xs ys i d zip_is.1 (omega arith) in
    record { other = r.other; there = r.there; along = r.along }

take_along : {A B : Type 0} (R : A → B → Type 0) (xs : List A) (ys : List B) (i : ℕ) (y : B) → slice_get ys i ≡ Some y → take (i + 1) ys ≡ take i ys ++ y ∷ []
take_along R xs [] i y at = absurd (cc)
take_along {A} {B} R xs (z ∷ ys) zero y at = let e : z ≡ y = cc in ap (λ (t : B). t ∷ []) e
take_along {A} {B} R xs (z ∷ ys) (suc i) y at = let e : suc i + 1 ≡ suc (i + 1) = omega arith in ap (λ k. take k (z ∷ ys)) e ∙ ap (λ (t : List B). z ∷ t) (take_along R xs ys i y at)

-- the values so far
pub record ReadsTo (heap : Heap) (numbers : List ℕ) (values : List ValueCode) (i : ℕ) : Type 0 where
  pub reads : (h : Classes) (s : Objects) (leaves : List Leaf) → HeapStands h heap s → AllZip (PointsLeaf h s.classes) numbers leaves → AllZip (MeansLeaf h s) values (take i leaves)

pub reads_none : (heap : Heap) (numbers : List ℕ) (values : List ValueCode) → values ≡ [] → ReadsTo heap numbers values 0
reads_none heap numbers values e = record { reads = λ h s leaves stands along. subst (λ (l : List ValueCode). AllZip (MeansLeaf h s) l []) (sym e) tt }

pub reads_next : (heap : Heap) (numbers : List ℕ) (values new : List ValueCode) (i d : ℕ) (value : ValueCode) → i < length numbers → ReadsTo heap numbers values i
    → ((h : Classes) (s : Objects) (l : Leaf) → HeapStands h heap s → PointsLeaf h s.classes (get_or numbers i d) l → Means h s.classes value (s.leaf l)) → new ≡ values ++ value ∷ [] → ReadsTo heap numbers new (i + 1)
reads_next heap numbers values new i d value lt before told new_is = record {
  reads = λ h s leaves stands along.
      let one = along_at (PointsLeaf h s.classes) numbers leaves i d along lt in
      subst (λ (l : List ValueCode). AllZip (MeansLeaf h s) l (take (i + 1) leaves)) (sym new_is)
      (subst (λ (l : List Leaf). AllZip (MeansLeaf h s) (values ++ value ∷ []) l) (sym (take_along (PointsLeaf h s.classes) numbers leaves i one.other one.there))
      (zip_append (MeansLeaf h s) values (value ∷ []) (take i leaves) (one.other ∷ []) (before.reads h s leaves stands along) (told h s one.other stands one.along, tt)));
}

along_length : {A B : Type 0} (R : A → B → Type 0) (xs : List A) (ys : List B) → AllZip R xs ys → length xs ≡ length ys
along_length R [] [] a = refl
along_length R [] (y ∷ ys) a = absurd a
along_length R (x ∷ xs) [] a = absurd a
along_length R (x ∷ xs) (y ∷ ys) a = ap suc (along_length R xs ys a.1)

pub reads_all : (heap : Heap) (numbers : List ℕ) (values : List ValueCode) (i : ℕ) → length numbers ≤ i → ReadsTo heap numbers values i → ReadsAll heap numbers values
reads_all heap numbers values i past told = record {
  reads = λ h s leaves stands along.
      let e = along_length (PointsLeaf h s.classes) numbers leaves along in
      subst (λ (l : List Leaf). AllZip (MeansLeaf h s) values l) (take_all i leaves (omega arith)) (told.reads h s leaves stands along);
}

-- giving

drop_pair : {A B : Type 0} (xs : List A) (ys : List B) (i : ℕ) (x : A) (y : B) → slice_get xs i ≡ Some x → slice_get ys i ≡ Some y → drop i (zip xs ys) ≡ (x, y) ∷ drop (suc i) (zip xs ys)
drop_pair [] ys i x y a b = absurd (cc)
drop_pair (u ∷ xs) [] i x y a b = absurd (cc)
drop_pair {A} {B} (u ∷ xs) (v ∷ ys) zero x y a b =
    let e : u ≡ x = cc in
    let f : v ≡ y = cc in
    ap (λ (t : A). (t, v) ∷ zip xs ys) e ∙ ap (λ (t : B). (x, t) ∷ zip xs ys) f
drop_pair (u ∷ xs) (v ∷ ys) (suc i) x y a b = drop_pair xs ys i x y a b

drop_none : {A B : Type 0} (xs : List A) (ys : List B) (i : ℕ) → (length xs ≤ i) ⊎ (length ys ≤ i) → drop i (zip xs ys) ≡ []
drop_none [] ys zero past = refl
drop_none [] ys (suc i) past = refl
drop_none (x ∷ xs) [] zero past = refl
drop_none (x ∷ xs) [] (suc i) past = refl
drop_none (x ∷ xs) (y ∷ ys) zero past = absurd (⊎_elim (λ e. omega arith) (λ e. omega arith) past)
drop_none (x ∷ xs) (y ∷ ys) (suc i) past = drop_none xs ys i (⊎_elim (λ (e : length (x ∷ xs) ≤ suc i). inl (omega arith)) (λ (e : length (y ∷ ys) ≤ suc i). inr (omega arith)) past)

-- one leaf more
one_more : (s : Objects) (t f : Leaf) (rest : List (Leaf × Leaf)) → leaf_set (with_moved_leaves s rest) t (s.leaf f) ≡ with_moved_leaves s ((t, f) ∷ rest)
one_more s t f rest = ap (λ (leaf : Leaf → Value). record { classes = s.classes; is_closed = s.is_closed; phases = s.phases; leaf = leaf }) (fun_ext (λ l. by_test (same_leaf t l) l))
  where
    by_test : (b : Bool) (l : Leaf) → (if b then s.leaf f else value_behind s.leaf l (find (λ pair. same_leaf pair.0 l) rest)) ≡ value_behind s.leaf l (if b then Some (t, f) else find (λ pair. same_leaf pair.0 l) rest)
    by_test true l = refl
    by_test false l = refl

pub stores_none : (heap : Heap) (numbers : List ℕ) (values : List ValueCode) (i : ℕ) → i ≡ min (length numbers) (length values) → StoresFrom heap heap numbers values i
stores_none heap numbers values i is = record {
  stores = λ h s leaves sources stands along means.
      let a = along_length (PointsLeaf h s.classes) numbers leaves along in
      let b = along_length (MeansLeaf h s) values sources means in
      subst (λ (pairs : List (Leaf × Leaf)). HeapStands h heap (with_moved_leaves s pairs)) (sym (drop_none leaves sources i (one_past (length numbers) (length values) (length leaves) (length sources) i is a b))) stands;
}
  where
    one_past : (a b c d i : ℕ) → i ≡ min a b → a ≡ c → b ≡ d → (c ≤ i) ⊎ (d ≤ i)
    one_past a b c d i e f g = grind arith

pub stores_next : (old mid new : Heap) (numbers : List ℕ) (values : List ValueCode) (i d : ℕ) (e : ValueCode) → i < length numbers → i < length values → StoresFrom old mid numbers values (i + 1)
    → ((h : Classes) (s : Objects) (l : Leaf) (v : Value) → HeapStands h mid s → PointsLeaf h s.classes (get_or numbers i d) l → Means h s.classes (get_or values i e) v → HeapStands h new (leaf_set s l v)) → StoresFrom old new numbers values i
stores_next old mid new numbers values i d e ln lv before told = record {
  stores = λ h s leaves sources stands along means.
      let t = along_at (PointsLeaf h s.classes) numbers leaves i d along ln in
      let f = along_at (MeansLeaf h s) values sources i e means lv in
      let k : i + 1 ≡ suc i = omega arith in
      let rest = drop (suc i) (zip leaves sources) in
      let stood : HeapStands h mid (with_moved_leaves s rest) = subst (λ n. HeapStands h mid (with_moved_leaves s (drop n (zip leaves sources)))) k (before.stores h s leaves sources stands along means) in
      let set = told h (with_moved_leaves s rest) t.other (s.leaf f.other) stood t.along f.along in
      subst (λ (o : Objects). HeapStands h new o) (one_more s t.other f.other rest ∙ ap (with_moved_leaves s) (sym (drop_pair leaves sources i t.other f.other t.there f.there))) set;
}
