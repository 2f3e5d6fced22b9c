-- The views of a sub-VTT, base by base.
use Rattle.std.proofs.Common.{◌≡◌, ℕ, zero, suc, ◌+◌, ◌<◌, ◌≤◌, Bool, true, false, Option, Some, None, List, [], ◌∷◌, ◌++◌, length, drop, get_or, refl, ap, sym, ◌∙◌, arith, append_assoc}
use Rattle.std.specs.Prelude.{◌&&◌, not, if◌then◌else◌}
use Rattle.std.specs.List.{filter, filter_map, flat_map}
use Rattle.std.proofs.lemmas.List.{append-nil}
use Rattle.cxx_hierarchy.specs.declared.records.ClassId.{ClassId}
use Rattle.cxx_hierarchy.specs.declared.records.Base.{Base}
use Rattle.cxx_hierarchy.specs.Classes.{Classes, bases_of}
use Rattle.cxx_hierarchy.specs.Hierarchies.{IsHierarchy}
use Rattle.cxx_subobject.specs.declared.Root.TheVariants.{Shared}
use Rattle.cxx_subobject.specs.declared.Subobject.{Subobject}
use Rattle.cxx_subobject.specs.Subobjects.{subobject, whole_of}
use Rattle.cxx_subobject.specs.Preorder.{preorder}
use Rattle.cxx_subobject.specs.VirtualBases.{shared_class}
use Rattle.cxx_subobject.proofs.TreeLemmas.{base_listed}
use Rattle.abi_slots.proofs.Loops.{pushed_more, pushed_all}
use Rattle.abi_vtt.specs.Vtts.{has_vtt, is_built_base, extended_by, sub_views, shared_views, views}
use Rattle.abi_vtt.specs.invariants.Marks.{marked, AreVirtualMarks}
use Rattle.foundation.proofs.Places.{any_default}

-- what a list of bases gives, of which some are taken
pub taken_opens : {A B : Type 0} (p : A → Bool) (go : A → List B) (x : A) (xs : List A) (b : Bool) → p x ≡ b → flat_map go (filter p (x ∷ xs)) ≡ (if b then go x else []) ++ flat_map go (filter p xs)
taken_opens p go x xs true e = rw e refl
taken_opens p go x xs false e = rw e refl

abbrev pub base_view : Classes → ℕ → Subobject → Base ClassId → List Subobject
base_view h n x base = sub_views h n (extended_by x base.class) base.class

abbrev pub base_views : Classes → ℕ → Subobject → List (Base ClassId) → List Subobject
base_views h n x bases = flat_map (base_view h n x) (filter (is_built_base h) bases)

abbrev pub no_base : Base ClassId
no_base = record { class = record { 0 = 0 }; is_virtual = false; is_public = false; at = 0 }

abbrev pub nth : List (Base ClassId) → ℕ → Base ClassId
nth bases i = get_or bases i no_base

-- a base in the list of its class is of a class before
pub nth_before : (h : Classes) → IsHierarchy h → (c : ClassId) (bases : List (Base ClassId)) (i : ℕ) → bases ≡ bases_of h c → i < length bases → (nth bases i).class.0 < c.0
nth_before h keeps c bases i is lt = keeps.bases c (nth bases i) (base_listed h c bases i no_base is lt)

-- the test of a base by the marks
pub built_is : (h : Classes) (marks : List Bool) (base : Base ClassId) (b : Bool) → AreVirtualMarks h (length h) marks → base.class.0 < length h → b ≡ (not base.is_virtual && marked marks base.class) → is_built_base h base ≡ b
built_is h marks base b are lt e = ap (λ a. not base.is_virtual && a) (sym (are.each base.class lt)) ∙ sym e

pub views_start : (h : Classes) (x itself : Subobject) (c : ClassId) (bases : List (Base ClassId)) (old new : List Subobject) → itself ≡ subobject x.root (x.path ++ []) → new ≡ old ++ itself ∷ [] → bases ≡ bases_of h c →
    (n : ℕ) → new ++ base_views h n x bases ≡ old ++ sub_views h (suc n) x c
views_start h x itself c bases old new copied pushed is n =
    let same : itself ≡ x = copied ∙ ap (subobject x.root) (append-nil x.path) in
    ap (λ a. a ++ base_views h n x bases) (pushed ∙ ap (λ a. old ++ a ∷ []) same) ∙ append_assoc old (x ∷ []) (base_views h n x bases) ∙ ap (λ bs. old ++ x ∷ base_views h n x bs) is

-- one base more
pub views_more : (h : Classes) (n : ℕ) (x : Subobject) (bases : List (Base ClassId)) (i : ℕ) (b : Bool) (done new all : List Subobject) → i < length bases → is_built_base h (nth bases i) ≡ b → new ≡ done ++ (if b then base_view h n x (nth bases i) else []) →
    done ++ base_views h n x (drop i bases) ≡ all → new ++ base_views h n x (drop (i + 1) bases) ≡ all
views_more h n x bases i b done new all lt test pushed inv =
    pushed_more (base_views h n x) bases i (nth bases i) (if b then base_view h n x (nth bases i) else []) done new all lt (any_default bases i no_base (nth bases i) lt) (taken_opens (is_built_base h) (base_view h n x) (nth bases i) (drop (i + 1) bases) b test) pushed inv

pub views_all : (h : Classes) (x : Subobject) (c : ClassId) (bases : List (Base ClassId)) (i : ℕ) (old list : List Subobject) → length bases ≤ i → ((n : ℕ) → c.0 < suc n → list ++ base_views h n x (drop i bases) ≡ old ++ sub_views h (suc n) x c) → (n : ℕ) → c.0 < n → list ≡ old ++ sub_views h n x c
views_all h x c bases i old list le inv zero lt = absurd (omega arith)
views_all h x c bases i old list le inv (suc n) lt = pushed_all (base_views h n x) refl bases i list (old ++ sub_views h (suc n) x c) le (inv n lt)

-- the virtual bases among these subobjects
abbrev pub shared_rest : Classes → List Subobject → List Subobject
shared_rest h list = flat_map (shared_views h) (filter (has_vtt h) (filter_map shared_class list))

abbrev pub of_shared : Classes → Option ClassId → List Subobject
of_shared h None = []
of_shared h (Some v) = flat_map (shared_views h) (filter (has_vtt h) (v ∷ []))

pub one_taken : {A B : Type 0} (p : A → Bool) (go : A → List B) (x : A) (b : Bool) → p x ≡ b → flat_map go (filter p (x ∷ [])) ≡ (if b then go x else [])
one_taken p go x true e = rw e (append-nil (go x))
one_taken p go x false e = rw e refl

pub shared_opens : (h : Classes) (s : Subobject) (rest : List Subobject) (o : Option ClassId) → o ≡ shared_class s → (piece : List Subobject) → piece ≡ of_shared h o → shared_rest h (s ∷ rest) ≡ piece ++ shared_rest h rest
shared_opens h s rest None e piece is = rw (← e, is) refl
shared_opens h s rest (Some v) e piece is = rw (← e) (taken_opens (has_vtt h) (shared_views h) v (filter_map shared_class rest) (has_vtt h v) refl ∙ ap (λ a. a ++ shared_rest h rest) (sym (one_taken (has_vtt h) (shared_views h) v (has_vtt h v) refl) ∙ sym is))

-- one subobject more, which is a virtual base or none
pub shared_more : (h : Classes) (list : List Subobject) (i : ℕ) (s : Subobject) (o : Option ClassId) (done new all : List Subobject) → i < length list → s ≡ get_or list i s → o ≡ shared_class s → new ≡ done ++ of_shared h o → done ++ shared_rest h (drop i list) ≡ all → new ++ shared_rest h (drop (i + 1) list) ≡ all
shared_more h list i s o done new all lt there e pushed inv = pushed_more (shared_rest h) list i s (of_shared h o) done new all lt there (shared_opens h s (drop (i + 1) list) o e (of_shared h o) refl) pushed inv

pub shared_all : (h : Classes) (c : ClassId) (list all : List Subobject) (i : ℕ) (done : List Subobject) → length list ≤ i → done ++ shared_rest h (drop i list) ≡ all → done ≡ all
shared_all h c list all i done le inv = pushed_all (shared_rest h) refl list i done all le inv

pub shared_start : (h : Classes) (c : ClassId) (whole : Subobject) (list old first : List Subobject) → whole ≡ whole_of c → list ≡ preorder h c → old ≡ [] → first ≡ old ++ sub_views h (c.0 + 1) whole c → first ++ shared_rest h list ≡ views h c
shared_start h c whole list old first is lists none pushed =
    ap (λ a. a ++ shared_rest h list) (pushed ∙ ap (λ a. a ++ sub_views h (c.0 + 1) whole c) none ∙ ap (λ s. sub_views h (c.0 + 1) s c) is) ∙ ap (λ a. sub_views h (c.0 + 1) (whole_of c) c ++ shared_rest h a) lists

pub nothing_shared : (h : Classes) (marks : List Bool) (v : ClassId) (list : List Subobject) (b : Bool) → AreVirtualMarks h (length h) marks → v.0 < length h → b ≡ marked marks v → b ≡ false → list ≡ list ++ of_shared h (Some v)
nothing_shared h marks v list b are lt tested off =
    let test : has_vtt h v ≡ false = sym (are.each v lt) ∙ sym tested ∙ off in
    sym (append-nil list) ∙ ap (λ a. list ++ a) (sym (one_taken (has_vtt h) (shared_views h) v false test))

pub base_shared : (h : Classes) (marks : List Bool) (v : ClassId) (list new : List Subobject) (b : Bool) (path : List ClassId) → AreVirtualMarks h (length h) marks → v.0 < length h → b ≡ marked marks v → b ≡ true → path ≡ v ∷ [] →
    ((n : ℕ) → v.0 < n → new ≡ list ++ sub_views h n (subobject (Shared v) path) v) → new ≡ list ++ of_shared h (Some v)
base_shared h marks v list new b path are lt tested on is pushed =
    let test : has_vtt h v ≡ true = sym (are.each v lt) ∙ sym tested ∙ on in
    pushed (v.0 + 1) (omega arith) ∙ ap (λ p. list ++ sub_views h (v.0 + 1) (subobject (Shared v) p) v) is ∙ ap (λ a. list ++ a) (sym (one_taken (has_vtt h) (shared_views h) v true test))
