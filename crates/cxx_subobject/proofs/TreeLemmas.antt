-- The tree below a subobject lists exactly what lies in it.
use Rattle.std.proofs.Common.{◌≡◌, ℕ, zero, suc, ◌+◌, ◌<◌, inl, inr, ⊎_elim, Bool, true, false, List, [], ◌∷◌, ◌++◌, length, get_or, take, refl, ap, subst, sym, ◌∙◌, arith, append_assoc}
use Rattle.std.specs.Prelude.{not, nat_eq}
use Rattle.std.specs.List.{Contains, flat_map}
use Rattle.std.proofs.lemmas.Bool.{eqb-true, eq-eqb}
use Rattle.std.proofs.lemmas.Bool.Decides.{nat_tests}
use Rattle.std.proofs.lemmas.List.{append-nil, take_more}
use Rattle.std.proofs.lemmas.List.Concat.{flat_map-append}
use Rattle.std.proofs.lemmas.Option.{slice_get-get_or}
use Rattle.cxx_hierarchy.specs.declared.records.ClassId.{ClassId}
use Rattle.cxx_hierarchy.specs.declared.records.Base.{Base}
use Rattle.cxx_hierarchy.specs.Classes.{Classes, bases_of}
use Rattle.cxx_hierarchy.specs.Hierarchies.{IsHierarchy}
use Rattle.cxx_hierarchy.specs.VirtualBases.{IsDirectBase, HasVirtualBase, direct, further}
use Rattle.cxx_subobject.specs.declared.Root.{Root}
use Rattle.cxx_subobject.specs.declared.Root.TheVariants.{Whole, Shared}
use Rattle.cxx_subobject.specs.declared.Subobject.{Subobject}
use Rattle.cxx_subobject.specs.Subobjects.{Leads, IsSubobject, whole, shared, subobject, shared_base, whole_of, base_subobject, same_path, same_root, same_subobject}
use Rattle.cxx_subobject.specs.Preorder.{tree, firsts, preorder, ListsSubobjects}
pub use Rattle.foundation.proofs.Chosen.{has_filter, filter_has, once_filter}
use Rattle.foundation.proofs.Truth.{split}
use Rattle.foundation.proofs.Members.{Has, EachOnce, has_flat_map, from_flat_map, flat_map_same, has_at, contains_from_has, has_from_contains, once_by_place}
use Rattle.foundation.proofs.Places.{get_read}

-- t is what a walk down from s, of class c, leads to
pub data IsBelow (h : Classes) (c : ClassId) (s : Subobject) : Subobject → Type 0 where
  down : (path : List ClassId) (t : Subobject) → Leads h c path → t ≡ subobject s.root (s.path ++ path) → IsBelow h c s t
  across : (v : ClassId) (path : List ClassId) (t : Subobject) → HasVirtualBase h c v → Leads h v path → t ≡ subobject (Shared v) (v ∷ path) → IsBelow h c s t

pub base_down : (s : Subobject) (base : Base ClassId) → base.is_virtual ≡ false → base_subobject s base ≡ subobject s.root (s.path ++ base.class ∷ [])
base_down s base e = rw e refl

pub base_across : (s : Subobject) (base : Base ClassId) → base.is_virtual ≡ true → base_subobject s base ≡ shared_base base.class
base_across s base e = rw e refl

pub edge : (h : Classes) (c : ClassId) (base : Base ClassId) (way : Bool) → Contains (bases_of h c) base → base.is_virtual ≡ way → IsDirectBase h c way base.class
edge h c base way listed e = record { base = base; listed = listed; class = refl; way = e }

from_down : (h : Classes) (c : ClassId) (s : Subobject) (base : Base ClassId) → Contains (bases_of h c) base → base.is_virtual ≡ false → (t : Subobject) → IsBelow h base.class (subobject s.root (s.path ++ base.class ∷ [])) t → IsBelow h c s t
from_down h c s base listed e _ (down path t l is) = down (base.class ∷ path) t (edge h c base false listed e, l) (is ∙ ap (λ p. subobject s.root p) (append_assoc s.path (base.class ∷ []) path))
from_down h c s base listed e _ (across v path t has l is) = across v path t (further c base.class v false (edge h c base false listed e) has) l is

from_across : (h : Classes) (c : ClassId) (s : Subobject) (base : Base ClassId) → Contains (bases_of h c) base → base.is_virtual ≡ true → (t : Subobject) → IsBelow h base.class (shared_base base.class) t → IsBelow h c s t
from_across h c s base listed e _ (down path t l is) = across base.class path t (direct c base.class (edge h c base true listed e)) l is
from_across h c s base listed e _ (across v path t has l is) = across v path t (further c base.class v true (edge h c base true listed e) has) l is

pub from_base : (h : Classes) (c : ClassId) (s : Subobject) (base : Base ClassId) (t : Subobject) → Contains (bases_of h c) base → IsBelow h base.class (base_subobject s base) t → IsBelow h c s t
from_base h c s base t listed below = split base.is_virtual (λ b. IsBelow h c s t)
    (λ e. from_across h c s base listed e t (subst (λ (x : Subobject). IsBelow h base.class x t) (base_across s base e) below))
    (λ e. from_down h c s base listed e t (subst (λ (x : Subobject). IsBelow h base.class x t) (base_down s base e) below))

pub tree_sound : (h : Classes) (n : ℕ) (c : ClassId) (s t : Subobject) → Has (tree h n c s) t → IsBelow h c s t
tree_sound h zero c s t has = absurd has
tree_sound h (suc n) c s t has = ⊎_elim
    (λ e. down [] t tt (sym e ∙ ap (λ p. subobject s.root p) (sym (append-nil s.path))))
    (λ r.
    let m = from_flat_map (λ base. tree h n base.class (base_subobject s base)) (bases_of h c) t r in
    from_base h c s m.0 t (contains_from_has (bases_of h c) m.0 m.1) (tree_sound h n m.0.class (base_subobject s m.0) t m.2))
    has

in_base : (h : Classes) (n : ℕ) (c : ClassId) (s : Subobject) (base : Base ClassId) (inner t : Subobject) → Contains (bases_of h c) base → base_subobject s base ≡ inner → Has (tree h n base.class inner) t → Has (tree h (suc n) c s) t
in_base h n c s base inner t listed e there = inr (has_flat_map (λ b. tree h n b.class (base_subobject s b)) (bases_of h c) base t (has_from_contains (bases_of h c) base listed)
    (subst (λ (x : Subobject). Has (tree h n base.class x) t) (sym e) there))

tree_down : (h : Classes) → IsHierarchy h → (n : ℕ) (c : ClassId) (s : Subobject) (path : List ClassId) → c.0 < n → Leads h c path → Has (tree h n c s) (subobject s.root (s.path ++ path))
tree_down h keeps zero c s path lt leads = absurd (omega arith)
tree_down h keeps (suc n) c s [] lt leads = inl (ap (λ p. subobject s.root p) (sym (append-nil s.path)))
tree_down h keeps (suc n) c s (b ∷ path) lt leads =
    let d = leads.0 in
    let before = keeps.bases c d.base d.listed in
    let same = d.class in
    let further_down : Leads h d.base.class path = subst (λ (x : ClassId). Leads h x path) (sym same) leads.1 in
    let inner = tree_down h keeps n d.base.class (subobject s.root (s.path ++ d.base.class ∷ [])) path (omega arith) further_down in
    let is : subobject s.root ((s.path ++ d.base.class ∷ []) ++ path) ≡ subobject s.root (s.path ++ b ∷ path) = ap (λ p. subobject s.root p) (append_assoc s.path (d.base.class ∷ []) path ∙ ap (λ (x : ClassId). s.path ++ x ∷ path) same) in
    subst (λ x. Has (tree h (suc n) c s) x) is (in_base h n c s d.base (subobject s.root (s.path ++ d.base.class ∷ [])) (subobject s.root ((s.path ++ d.base.class ∷ []) ++ path)) d.listed (base_down s d.base d.way) inner)

tree_across : (h : Classes) → IsHierarchy h → (n : ℕ) (c : ClassId) (s : Subobject) (v : ClassId) (path : List ClassId) → c.0 < n → HasVirtualBase h c v → Leads h v path → Has (tree h n c s) (subobject (Shared v) (v ∷ path))
tree_across h keeps zero c s v path lt has leads = absurd (omega arith)
tree_across h keeps (suc n) _ s _ path lt (direct c v d) leads =
    let before = keeps.bases c d.base d.listed in
    let there : Leads h d.base.class path = subst (λ (x : ClassId). Leads h x path) (sym d.class) leads in
    let inner = tree_down h keeps n d.base.class (shared_base d.base.class) path (omega arith) there in
    subst (λ (x : ClassId). Has (tree h (suc n) c s) (subobject (Shared x) (x ∷ path))) d.class
    (in_base h n c s d.base (shared_base d.base.class) (subobject (Shared d.base.class) (d.base.class ∷ path)) d.listed (base_across s d.base d.way) inner)
tree_across h keeps (suc n) _ s _ path lt (further c b v way d rest) leads =
    let before = keeps.bases c d.base d.listed in
    let there : HasVirtualBase h d.base.class v = subst (λ (x : ClassId). HasVirtualBase h x v) (sym d.class) rest in
    in_base h n c s d.base (base_subobject s d.base) (subobject (Shared v) (v ∷ path)) d.listed refl (tree_across h keeps n d.base.class (base_subobject s d.base) v path (omega arith) there leads)

pub tree_complete : (h : Classes) → IsHierarchy h → (n : ℕ) (c : ClassId) (s t : Subobject) → c.0 < n → IsBelow h c s t → Has (tree h n c s) t
tree_complete h keeps n c s _ lt (down path t l is) = subst (λ x. Has (tree h n c s) x) (sym is) (tree_down h keeps n c s path lt l)
tree_complete h keeps n c s _ lt (across v path t has l is) = subst (λ x. Has (tree h n c s) x) (sym is) (tree_across h keeps n c s v path lt has l)

-- the number of steps does not matter where there are enough
pub tree_steps : (h : Classes) → IsHierarchy h → (n m : ℕ) (c : ClassId) (s : Subobject) → c.0 < n → c.0 < m → tree h n c s ≡ tree h m c s
tree_steps h keeps zero m c s a b = absurd (omega arith)
tree_steps h keeps (suc n) zero c s a b = absurd (omega arith)
tree_steps h keeps (suc n) (suc m) c s a b =
    ap (λ t. s ∷ t) (flat_map_same (λ base. tree h n base.class (base_subobject s base)) (λ base. tree h m base.class (base_subobject s base)) (bases_of h c)
    (λ base has. let f = keeps.bases c base (contains_from_has (bases_of h c) base has) in tree_steps h keeps n m base.class (base_subobject s base) (omega arith) (omega arith)))

path_same : (p q : List ClassId) → same_path p q ≡ true → p ≡ q
path_same [] [] e = refl
path_same [] (d ∷ q) e = cc
path_same (c ∷ p) [] e = cc
path_same (c ∷ p) (d ∷ q) e =
    let a : nat_eq c.0 d.0 ≡ true = grind (arith, nat_tests) in
    let b : same_path p q ≡ true = grind (arith, nat_tests) in
    ap (λ (x : ClassId). x ∷ p) (same_id c d (eqb-true c.0 d.0 a)) ∙ ap (λ r. d ∷ r) (path_same p q b)
  where
    same_id : (x y : ClassId) → x.0 ≡ y.0 → x ≡ y
    same_id x y e = let make : ℕ → ClassId = λ n. record { 0 = n } in let f : make x.0 ≡ make y.0 = ap make e in f

pub root_same : (r s : Root) → same_root r s ≡ true → r ≡ s
root_same Whole Whole e = refl
root_same Whole (Shared v) e = cc
root_same (Shared v) Whole e = cc
root_same (Shared v) (Shared w) e = let make : ℕ → Root = λ n. Shared (record { 0 = n }) in let f : make v.0 ≡ make w.0 = ap make (eqb-true v.0 w.0 e) in f

pub subobject_same : (s t : Subobject) → same_subobject s t ≡ true → s ≡ t
subobject_same s t e =
    let a : same_root s.root t.root ≡ true = grind (arith, nat_tests) in
    let b : same_path s.path t.path ≡ true = grind (arith, nat_tests) in
    let f : subobject s.root s.path ≡ subobject t.root t.path = ap (λ r. subobject r s.path) (root_same s.root t.root a) ∙ ap (λ p. subobject t.root p) (path_same s.path t.path b) in f

pub path_itself : (p : List ClassId) → same_path p p ≡ true
path_itself [] = refl
path_itself (c ∷ p) = rw (eq-eqb c.0 c.0 refl) (path_itself p)

pub root_itself : (r : Root) → same_root r r ≡ true
root_itself Whole = refl
root_itself (Shared v) = eq-eqb v.0 v.0 refl

pub same_itself : (s : Subobject) → same_subobject s s ≡ true
same_itself s = rw (root_itself s.root, path_itself s.path) refl

not_true : (b : Bool) → not b ≡ true → b ≡ false
not_true true h = absurd (cc)
not_true false h = refl

pub firsts_has : (list : List Subobject) (t : Subobject) → Has list t → Has (firsts list) t
firsts_has [] t h = absurd h
firsts_has (s ∷ list) t h = split (same_subobject s t) (λ b. Has (firsts (s ∷ list)) t)
    (λ e. inl (subobject_same s t e))
    (λ e. ⊎_elim (λ same. inl same) (λ k. inr (filter_has (λ u. not (same_subobject s u)) (firsts list) t (firsts_has list t k) (ap not e))) h)

pub has_firsts : (list : List Subobject) (t : Subobject) → Has (firsts list) t → Has list t
has_firsts [] t h = absurd h
has_firsts (s ∷ list) t h = ⊎_elim (λ same. inl same) (λ k. inr (has_firsts list t (has_filter (λ u. not (same_subobject s u)) (firsts list) t k).0)) h

pub firsts_once : (list : List Subobject) → EachOnce (firsts list)
firsts_once [] = tt
firsts_once (s ∷ list) = (
  λ h. let r = has_filter (λ u. not (same_subobject s u)) (firsts list) s h in let e = not_true (same_subobject s s) r.1 in let g : true ≡ false = sym (same_itself s) ∙ e in absurd (cc),
  once_filter (λ u. not (same_subobject s u)) (firsts list) (firsts_once list),
)

pub below_whole : (h : Classes) (c : ClassId) (s : Subobject) → IsSubobject h c s → IsBelow h c (whole_of c) s
below_whole h c _ (whole path l) = down path (subobject Whole (c ∷ path)) l refl
below_whole h c _ (shared v path has l) = across v path (subobject (Shared v) (v ∷ path)) has l refl

pub whole_below : (h : Classes) (c : ClassId) (s : Subobject) → IsBelow h c (whole_of c) s → IsSubobject h c s
whole_below h c _ (down path t l is) = subst (λ x. IsSubobject h c x) (sym is) (whole path l)
whole_below h c _ (across v path t has l is) = subst (λ x. IsSubobject h c x) (sym is) (shared v path has l)

-- the law of the list
pub preorder_has : (h : Classes) (c : ClassId) → IsHierarchy h → (s : Subobject) → IsSubobject h c s → Has (preorder h c) s
preorder_has h c keeps s valid = firsts_has (tree h (c.0 + 1) c (whole_of c)) s (tree_complete h keeps (c.0 + 1) c (whole_of c) s (omega arith) (below_whole h c s valid))

pub has_preorder : (h : Classes) (c : ClassId) (s : Subobject) → Has (preorder h c) s → IsSubobject h c s
has_preorder h c s has = whole_below h c s (tree_sound h (c.0 + 1) c (whole_of c) s (has_firsts (tree h (c.0 + 1) c (whole_of c)) s has))

-- an item of the list of a class's subobjects is one
pub valid_at : (h : Classes) (c : ClassId) (list : List Subobject) (j : ℕ) (s : Subobject) → list ≡ preorder h c → j < length list → s ≡ get_or list j s → IsSubobject h c s
valid_at h c list j s is less at =
    let has : Has list s = has_at list j s (get_read list j s less at) in
    has_preorder h c s (subst (λ (l : List Subobject). Has l s) is has)

pub preorder_once : (h : Classes) (c : ClassId) → EachOnce (preorder h c)
preorder_once h c = firsts_once (tree h (c.0 + 1) c (whole_of c))

pub preorder_lists : (h : Classes) (c : ClassId) → IsHierarchy h → ListsSubobjects h c (preorder h c)
preorder_lists h c keeps = record {
  listed = λ s valid. contains_from_has (preorder h c) s (preorder_has h c keeps s valid);
  valid = λ s has. has_preorder h c s (has_from_contains (preorder h c) s has);
  once = once_by_place (preorder h c) (firsts_once (tree h (c.0 + 1) c (whole_of c)));
}

-- one more base of a class
pub one_more : (f : Base ClassId → List Subobject) (bases : List (Base ClassId)) (i : ℕ) (d : Base ClassId) → i < length bases → flat_map f (take (i + 1) bases) ≡ flat_map f (take i bases) ++ f (get_or bases i d)
one_more f bases i d lt = rw (take_more bases i d lt, flat_map-append f (take i bases) (get_or bases i d ∷ [])) (ap (λ t. flat_map f (take i bases) ++ t) (append-nil (f (get_or bases i d))))

pub base_listed : (h : Classes) (c : ClassId) (bases : List (Base ClassId)) (i : ℕ) (d : Base ClassId) → bases ≡ bases_of h c → i < length bases → Contains (bases_of h c) (get_or bases i d)
base_listed h c bases i d is lt = subst (λ (xs : List (Base ClassId)). Contains xs (get_or bases i d)) is (contains_from_has bases (get_or bases i d) (has_at bases i (get_or bases i d) (slice_get-get_or bases i d lt)))
