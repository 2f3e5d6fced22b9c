-- The subobjects of a class by their roots: those within the whole, and those within each virtual base.
use Rattle.std.proofs.Common.{◌≡◌, ℕ, zero, suc, ◌+◌, ◌<◌, inl, inr, ⊎_elim, false, List, [], ◌∷◌, ◌++◌, refl, ap, subst, sym, ◌∙◌, arith, append_assoc}
use Rattle.std.specs.Prelude.{if◌then◌else◌, Some, slice_get}
use Rattle.std.specs.List.{flat_map}
use Rattle.std.proofs.lemmas.List.{append-nil, append_cancel_left}
use Rattle.cxx_hierarchy.specs.declared.records.ClassId.{ClassId}
use Rattle.cxx_hierarchy.specs.declared.records.Base.{Base}
use Rattle.cxx_hierarchy.specs.Classes.{Classes, bases_of}
use Rattle.cxx_hierarchy.specs.Hierarchies.{IsHierarchy}
use Rattle.cxx_subobject.specs.declared.Root.TheVariants.{Whole, Shared}
use Rattle.cxx_subobject.specs.declared.Subobject.{Subobject}
use Rattle.cxx_subobject.specs.Subobjects.{Leads, IsSubobject, whole, shared, subobject, shared_base, whole_of, base_subobject}
use Rattle.cxx_subobject.specs.invariants.Counts.{ListsVirtualBases}
use Rattle.foundation.proofs.Truth.{split}
use Rattle.foundation.proofs.Members.{Has, EachOnce, AreApart, EachApart, has_left, has_right, has_cases, has_flat_map, from_flat_map, once_append, once_flat_map, contains_from_has, has_from_contains}
use Rattle.cxx_subobject.proofs.TreeLemmas.{base_down, edge}
use Rattle.cxx_subobject.proofs.PathLemmas.{virtual_below, not_longer}

-- s, of class c, and what lies in it within its root
abbrev pub own_tree : Classes → ℕ → ClassId → Subobject → List Subobject
own_tree h zero c s = []
own_tree h (suc n) c s = s ∷ flat_map (λ base. if base.is_virtual then [] else own_tree h n base.class (base_subobject s base)) (bases_of h c)

abbrev pub own_below : Classes → ℕ → Subobject → Base ClassId → List Subobject
own_below h n s base = if base.is_virtual then [] else own_tree h n base.class (base_subobject s base)

-- t is what a path down from s leads to, within the root of s
record IsDown (h : Classes) (c : ClassId) (s t : Subobject) : Type 0 where
  path : List ClassId
  leads : Leads h c path
  is : t ≡ subobject s.root (s.path ++ path)

own_sound : (h : Classes) (n : ℕ) (c : ClassId) (s t : Subobject) → Has (own_tree h n c s) t → IsDown h c s t
own_sound h zero c s t has = absurd has
own_sound h (suc n) c s t has = ⊎_elim
    (λ e. record { path = []; leads = tt; is = sym e ∙ ap (λ p. subobject s.root p) (sym (append-nil s.path)) })
    (λ r.
    let m = from_flat_map (own_below h n s) (bases_of h c) t r in
    let base = m.0 in
    let listed = contains_from_has (bases_of h c) base m.1 in
    split base.is_virtual (λ b. Has (if b then [] else own_tree h n base.class (base_subobject s base)) t → IsDown h c s t)
    (λ e there. absurd there)
    (λ e there.
    let b = own_sound h n base.class (base_subobject s base) t there in
    record {
      path = base.class ∷ b.path;
      leads = (edge h c base false listed e, b.leads);
      is = b.is ∙ ap (λ (x : Subobject). subobject x.root (x.path ++ b.path)) (base_down s base e) ∙ ap (λ p. subobject s.root p) (append_assoc s.path (base.class ∷ []) b.path);
    })
    m.2)
    has

own_complete : (h : Classes) → IsHierarchy h → (n : ℕ) (c : ClassId) (s : Subobject) (path : List ClassId) → c.0 < n → Leads h c path → Has (own_tree h n c s) (subobject s.root (s.path ++ path))
own_complete h keeps zero c s path lt leads = absurd (omega arith)
own_complete h keeps (suc n) c s [] lt leads = inl (ap (λ p. subobject s.root p) (sym (append-nil s.path)))
own_complete h keeps (suc n) c s (b ∷ path) lt leads =
    let d = leads.0 in
    let before = keeps.bases c d.base d.listed in
    let same = d.class in
    let further_down : Leads h d.base.class path = subst (λ (x : ClassId). Leads h x path) (sym same) leads.1 in
    let inner = own_complete h keeps n d.base.class (subobject s.root (s.path ++ d.base.class ∷ [])) path (omega arith) further_down in
    let is : subobject s.root ((s.path ++ d.base.class ∷ []) ++ path) ≡ subobject s.root (s.path ++ b ∷ path) = ap (λ p. subobject s.root p) (append_assoc s.path (d.base.class ∷ []) path ∙ ap (λ (x : ClassId). s.path ++ x ∷ path) same) in
    let there : Has (own_below h n s d.base) (subobject s.root ((s.path ++ d.base.class ∷ []) ++ path)) = rw d.way inner in
    inr (subst (λ x. Has (flat_map (own_below h n s) (bases_of h c)) x) is (has_flat_map (own_below h n s) (bases_of h c) d.base (subobject s.root ((s.path ++ d.base.class ∷ []) ++ path)) (has_from_contains (bases_of h c) d.base d.listed) there))

place_in : (xs : List (Base ClassId)) (y : Base ClassId) → Has xs y → (i : ℕ) × (slice_get xs i ≡ Some y)
place_in [] y has = absurd has
place_in (z ∷ xs) y has = ⊎_elim (λ e. (zero, ap (λ w. Some w) e)) (λ k. let r = place_in xs y k in (suc r.0, r.1)) has

-- two bases of a class head are of two classes
bases_apart : (f : Base ClassId → List Subobject) (bases : List (Base ClassId)) → ((i j : ℕ) (x y : Base ClassId) → slice_get bases i ≡ Some x → slice_get bases j ≡ Some y → x.class ≡ y.class → i ≡ j) →
    ((x y : Base ClassId) → (x.class ≡ y.class → ⊥) → Has bases x → Has bases y → AreApart (f x) (f y)) → EachApart f bases
bases_apart f [] once each = tt
bases_apart f (x ∷ bases) once each = (
  λ y has. each x y (λ s. let p = place_in bases y has in let e = once zero (suc p.0) x y refl p.1 s in absurd (omega arith)) (inl refl) (inr has),
  bases_apart f bases (λ i j a b e g s. let r = once (suc i) (suc j) a b e g s in omega arith) (λ a b d p q. each a b d (inr p) (inr q)),
)

own_found : (h : Classes) (n : ℕ) (c : ClassId) (s : Subobject) (base : Base ClassId) (t : Subobject) → Has (bases_of h c) base → Has (own_below h n s base) t → (path : List ClassId) × (t ≡ subobject s.root (s.path ++ base.class ∷ path))
own_found h n c s base t has there =
    split base.is_virtual (λ b. Has (if b then [] else own_tree h n base.class (base_subobject s base)) t → (path : List ClassId) × (t ≡ subobject s.root (s.path ++ base.class ∷ path)))
    (λ e k. absurd k)
    (λ e k.
    let b = own_sound h n base.class (base_subobject s base) t k in
    (b.path, b.is ∙ ap (λ (x : Subobject). subobject x.root (x.path ++ b.path)) (base_down s base e) ∙ ap (λ p. subobject s.root p) (append_assoc s.path (base.class ∷ []) b.path)))
    there

own_apart : (h : Classes) (n : ℕ) (c : ClassId) (s : Subobject) (x y : Base ClassId) → (x.class ≡ y.class → ⊥) → Has (bases_of h c) x → Has (bases_of h c) y → AreApart (own_below h n s x) (own_below h n s y)
own_apart h n c s x y differ a b = record {
  none = λ t p q.
      let f = own_found h n c s x t a p in
      let g = own_found h n c s y t b q in
      let e : s.path ++ x.class ∷ f.0 ≡ s.path ++ y.class ∷ g.0 = ap (λ (z : Subobject). z.path) (sym f.1 ∙ g.1) in
      let r = append_cancel_left s.path (x.class ∷ f.0) (y.class ∷ g.0) e in
      differ (let same : x.class ≡ y.class = cc in same);
}

own_once : (h : Classes) → IsHierarchy h → (n : ℕ) (c : ClassId) (s : Subobject) → EachOnce (own_tree h n c s)
own_once h keeps zero c s = tt
own_once h keeps (suc n) c s = (
  λ has.
      let m = from_flat_map (own_below h n s) (bases_of h c) s has in
      let f = own_found h n c s m.0 s m.1 m.2 in
      not_longer s.path f.0 m.0.class (ap (λ (x : Subobject). x.path) f.1),
  once_flat_map (own_below h n s) (bases_of h c)
      (λ base has. split base.is_virtual (λ b. EachOnce (if b then [] else own_tree h n base.class (base_subobject s base))) (λ e. tt) (λ e. own_once h keeps n base.class (base_subobject s base)))
      (bases_apart (own_below h n s) (bases_of h c) (keeps.once c) (own_apart h n c s)),
)

-- the subobjects, by their roots
abbrev pub by_roots : Classes → ClassId → List ClassId → List Subobject
by_roots h c vs = own_tree h (c.0 + 1) c (whole_of c) ++ flat_map (λ (v : ClassId). own_tree h (v.0 + 1) v (shared_base v)) vs

pub roots_have : (h : Classes) → IsHierarchy h → (c : ClassId) (vs : List ClassId) → ListsVirtualBases h c c.0 vs → (t : Subobject) → IsSubobject h c t → Has (by_roots h c vs) t
roots_have h keeps c vs lists _ (whole path l) = has_left _ _ (subobject Whole (c ∷ path)) (own_complete h keeps (c.0 + 1) c (whole_of c) path (omega arith) l)
roots_have h keeps c vs lists _ (shared v path has l) =
    has_right (own_tree h (c.0 + 1) c (whole_of c)) _ (subobject (Shared v) (v ∷ path))
    (has_flat_map (λ (x : ClassId). own_tree h (x.0 + 1) x (shared_base x)) vs v (subobject (Shared v) (v ∷ path)) (has_from_contains vs v (lists.listed v has (virtual_below h keeps c v has)))
    (own_complete h keeps (v.0 + 1) v (shared_base v) path (omega arith) l))

pub have_roots : (h : Classes) (c : ClassId) (vs : List ClassId) → ListsVirtualBases h c c.0 vs → (t : Subobject) → Has (by_roots h c vs) t → IsSubobject h c t
have_roots h c vs lists t has = ⊎_elim
    (λ a. let d = own_sound h (c.0 + 1) c (whole_of c) t a in subst (λ x. IsSubobject h c x) (sym d.is) (whole d.path d.leads))
    (λ a.
    let m = from_flat_map (λ (x : ClassId). own_tree h (x.0 + 1) x (shared_base x)) vs t a in
    let d = own_sound h (m.0.0 + 1) m.0 (shared_base m.0) t m.2 in
    subst (λ x. IsSubobject h c x) (sym d.is) (shared m.0 d.path (lists.valid m.0 (contains_from_has vs m.0 m.1)) d.leads))
    (has_cases (own_tree h (c.0 + 1) c (whole_of c)) _ t has)

-- the trees of two virtual bases have no subobject in common
apart_roots : (h : Classes) (v w : ClassId) → (v ≡ w → ⊥) → AreApart (own_tree h (v.0 + 1) v (shared_base v)) (own_tree h (w.0 + 1) w (shared_base w))
apart_roots h v w differ = record {
  none = λ t p q.
      let a = own_sound h (v.0 + 1) v (shared_base v) t p in
      let b = own_sound h (w.0 + 1) w (shared_base w) t q in
      let roots : Shared v ≡ Shared w = ap (λ (x : Subobject). x.root) (sym a.is ∙ b.is) in
      differ (let same : v ≡ w = cc in same);
}

each_apart : (h : Classes) (vs : List ClassId) → ((i j : ℕ) (v : ClassId) → slice_get vs i ≡ Some v → slice_get vs j ≡ Some v → i ≡ j) → EachApart (λ (v : ClassId). own_tree h (v.0 + 1) v (shared_base v)) vs
each_apart h [] once = tt
each_apart h (v ∷ vs) once = (
  λ w has. apart_roots h v w (λ same. let p = id_place vs w has in let e = once zero (suc p.0) v refl (p.1 ∙ ap (λ (x : ClassId). Some x) (sym same)) in absurd (omega arith)),
  each_apart h vs (λ i j w a b. let r = once (suc i) (suc j) w a b in omega arith),
)
  where
    id_place : (xs : List ClassId) (y : ClassId) → Has xs y → (i : ℕ) × (slice_get xs i ≡ Some y)
    id_place [] y has = absurd has
    id_place (z ∷ xs) y has = ⊎_elim (λ e. (zero, ap (λ w. Some w) e)) (λ k. let r = id_place xs y k in (suc r.0, r.1)) has

pub roots_once : (h : Classes) → IsHierarchy h → (c : ClassId) (vs : List ClassId) → ListsVirtualBases h c c.0 vs → EachOnce (by_roots h c vs)
roots_once h keeps c vs lists = once_append _ _ (own_once h keeps (c.0 + 1) c (whole_of c))
    (once_flat_map (λ (v : ClassId). own_tree h (v.0 + 1) v (shared_base v)) vs (λ v has. own_once h keeps (v.0 + 1) v (shared_base v)) (each_apart h vs lists.once))
    (record {
      none = λ t p q.
          let a = own_sound h (c.0 + 1) c (whole_of c) t p in
          let m = from_flat_map (λ (x : ClassId). own_tree h (x.0 + 1) x (shared_base x)) vs t q in
          let b = own_sound h (m.0.0 + 1) m.0 (shared_base m.0) t m.2 in
          let roots : Whole ≡ Shared m.0 = ap (λ (x : Subobject). x.root) (sym a.is ∙ b.is) in cc;
    })
