-- A sum over the subobjects of a class, where what a subobject weighs is told by its class and the one that derives it.
use Rattle.std.proofs.Common.{◌≡◌, ℕ, zero, suc, ◌+◌, ◌<◌, false, List, [], ◌∷◌, ◌++◌, refl, ap, subst, sym, ◌∙◌, arith}
use Rattle.std.specs.Prelude.{Some, Bool, ◌||◌, if◌then◌else◌, filter}
use Rattle.std.specs.List.{sum_by, flat_map}
use Rattle.std.proofs.lemmas.List.Sums.{sum_by-cons, sum_by-append}
use Rattle.cxx_hierarchy.specs.declared.records.ClassId.{ClassId}
use Rattle.cxx_hierarchy.specs.declared.records.Base.{Base}
use Rattle.cxx_hierarchy.specs.Classes.{Classes, bases_of}
use Rattle.cxx_hierarchy.specs.Hierarchies.{IsHierarchy}
use Rattle.cxx_subobject.specs.declared.Root.{Root}
use Rattle.cxx_subobject.specs.declared.Root.TheVariants.{Whole, Shared}
use Rattle.cxx_subobject.specs.declared.Subobject.{Subobject}
use Rattle.cxx_subobject.specs.Subobjects.{IsSubobject, whole, shared, subobject, shared_base, whole_of, base_subobject, class_of}
use Rattle.cxx_subobject.specs.VirtualBases.{virtual_bases}
use Rattle.cxx_subobject.specs.invariants.Counts.{own_within, ListsVirtualBases}
use Rattle.cxx_subobject.proofs.SumLemmas.{sum_same, sum_flat, same_sum}
use Rattle.cxx_subobject.proofs.TreeLemmas.{base_down, edge}
use Rattle.cxx_subobject.proofs.TestLemmas.{base_class}
use Rattle.cxx_subobject.proofs.VirtualBaseLemmas.{virtual_listed, listed_virtual, listed_below, virtual_places, virtual_has}
use Rattle.foundation.proofs.Truth.{split}
use Rattle.foundation.proofs.Members.{Has, EachOnce, contains_from_has}
use Rattle.abi_sound.specs.Places.{Places}
use Rattle.abi_primary.specs.PrimaryBase.{is_direct_primary}
use Rattle.abi_slots.proofs.Chains.{down_valid}
use Rattle.abi_tables.specs.invariants.Weights.{side, sides, sides_of}
use Rattle.cxx_subobject.proofs.OwnTrees.{own_tree, own_below, by_roots, roots_have, have_roots, roots_once}

-- the sum of sums
pub sum_two : {X : Type 0} (f g : X → ℕ) (xs : List X) → sum_by (λ x. f x + g x) xs ≡ sum_by f xs + sum_by g xs
sum_two f g [] = refl
sum_two {X} f g (x ∷ xs) =
    let a = sum_by-cons (λ (y : X). f y + g y) x xs in
    let b = sum_by-cons f x xs in
    let c = sum_by-cons g x xs in
    let d = sum_two f g xs in
    omega arith

-- what does not pass a test weighs nothing
pub sum_filter : {X : Type 0} (f : X → ℕ) (p : X → Bool) (xs : List X) → sum_by f (filter p xs) ≡ sum_by (λ x. if p x then f x else 0) xs
sum_filter f p [] = refl
sum_filter {X} f p (x ∷ xs) = split (p x) (λ b. sum_by f (if b then x ∷ filter p xs else filter p xs) ≡ (if b then f x else 0) + sum_by (λ (y : X). if p y then f y else 0) xs)
    (λ e. sum_by-cons f x (filter p xs) ∙ ap (λ n. f x + n) (sum_filter f p xs))
    (λ e. let r = sum_filter f p xs in omega arith)
    ∙ sym (sum_by-cons (λ (y : X). if p y then f y else 0) x xs)

pub lists_virtual : (h : Classes) → IsHierarchy h → (c : ClassId) → ListsVirtualBases h c c.0 (virtual_bases h c)
lists_virtual h keeps c = record {
  listed = λ v has lt. virtual_listed h keeps c v has;
  valid = λ v has. listed_virtual h c v has;
  before = λ v has. listed_below h keeps c v has;
  once = virtual_places h c;
}

-- of a root, each subobject that is a base within it weighs what its edge does
pub record WeighsEdges (h : Classes) (l : Places) (c : ClassId) (root : Root) (f : Subobject → ℕ) (w : ClassId → ℕ) : Type 0 where
  pub each : (t : Subobject) (k : ClassId) (base : Base ClassId) → t.root ≡ root → IsSubobject h c t → class_of t ≡ Some k → base.is_virtual ≡ false → f (subobject t.root (t.path ++ base.class ∷ [])) ≡ side l w k base

module _ (h : Classes) (keeps : IsHierarchy h) (l : Places) (top : ClassId) (root : Root) (f : Subobject → ℕ) (w : ClassId → ℕ) (weighs : WeighsEdges h l top root f w) where
  down_sum : (n : ℕ) (c : ClassId) (s : Subobject) → c.0 < n → s.root ≡ root → IsSubobject h top s → class_of s ≡ Some c → sum_by f (own_tree h n c s) ≡ f s + own_within (sides h l w) h n c
  down_sum zero c s lt at valid class = absurd (omega arith)
  down_sum (suc n) c s lt at valid class =
      sum_by-cons f s (flat_map (own_below h n s) (bases_of h c))
      ∙ ap (λ k. f s + k) (sum_flat f (own_below h n s) (bases_of h c) ∙ sum_same _ (λ (base : Base ClassId). side l w c base + (if base.is_virtual then 0 else own_within (sides h l w) h n base.class)) (bases_of h c) (λ base has.
      let listed = contains_from_has (bases_of h c) base has in
      let less = keeps.bases c base listed in
      split base.is_virtual (λ b. base.is_virtual ≡ b → sum_by f (if b then [] else own_tree h n base.class (base_subobject s base)) ≡ (if b || is_direct_primary (l.primary c) base.class then 0 else w base.class) + (if b then 0 else own_within (sides h l w) h n base.class))
      (λ e same. refl)
      (λ e same.
      let down = base_down s base same in
      let here : f (base_subobject s base) ≡ side l w c base = ap f down ∙ weighs.each s c base at valid class same in
      let there : IsSubobject h top (base_subobject s base) = subst (λ t. IsSubobject h top t) (sym down) (down_valid h top c base.class s valid class (edge h c base false listed same)) in
      down_sum n base.class (base_subobject s base) (omega arith) (ap (λ (t : Subobject). t.root) down ∙ at) there (base_class s c base class)
      ∙ ap (λ k. k + own_within (sides h l w) h n base.class) (here ∙ ap (λ b. if b || is_direct_primary (l.primary c) base.class then 0 else w base.class) same))
      refl)
      ∙ sum_two (side l w c) (λ (base : Base ClassId). if base.is_virtual then 0 else own_within (sides h l w) h n base.class) (bases_of h c))

-- the whole, what lies in it, each virtual base, and what lies in that
pub all_sum : (h : Classes) → IsHierarchy h → (l : Places) (c : ClassId) (f : Subobject → ℕ) (w u : ClassId → ℕ) → WeighsEdges h l c Whole f w → ((v : ClassId) → WeighsEdges h l c (Shared v) f u) →
    (xs : List Subobject) → EachOnce xs → ((t : Subobject) → IsSubobject h c t → Has xs t) → ((t : Subobject) → Has xs t → IsSubobject h c t) →
    sum_by f xs ≡ (f (whole_of c) + sides_of h l w c) + sum_by (λ (v : ClassId). f (shared_base v) + sides_of h l u v) (virtual_bases h c)
all_sum h keeps l c f w u at_whole at_shared xs once has valid =
    let vs = virtual_bases h c in
    let lists = lists_virtual h keeps c in
    same_sum f xs (by_roots h c vs) once (roots_once h keeps c vs lists)
    (λ t there. roots_have h keeps c vs lists t (valid t there))
    (λ t there. has t (have_roots h c vs lists t there))
    ∙ sum_by-append f (own_tree h (c.0 + 1) c (whole_of c)) (flat_map (λ (v : ClassId). own_tree h (v.0 + 1) v (shared_base v)) vs)
    ∙ ap (λ n. n + sum_by f (flat_map (λ (v : ClassId). own_tree h (v.0 + 1) v (shared_base v)) vs)) (down_sum h keeps l c Whole f w at_whole (c.0 + 1) c (whole_of c) (omega arith) refl (whole [] tt) refl)
    ∙ ap (λ n. (f (whole_of c) + sides_of h l w c) + n) (sum_flat f (λ (v : ClassId). own_tree h (v.0 + 1) v (shared_base v)) vs
    ∙ sum_same _ _ vs (λ v there. down_sum h keeps l c (Shared v) f u (at_shared v) (v.0 + 1) v (shared_base v) (omega arith) refl (shared v [] (virtual_has h c v there) tt) refl))
