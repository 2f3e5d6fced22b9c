-- Sums along paths, one place after the other.
use Rattle.std.proofs.Common.{◌≡◌, ◌∙◌, ℕ, zero, suc, ◌+◌, ◌-◌, ◌<◌, ◌≤◌, ⊎_elim, Bool, false, Option, Some, None, List, [], ◌∷◌, length, take, filter, refl, sym, ap, subst, arith, ◌==◌}
use Rattle.std.specs.Prelude.{◌↔◌, IsTrue, slice_get, nat_eq, position}
use Rattle.std.proofs.lemmas.Bool.{cases_lt, eqb-true, eq-eqb}
use Rattle.std.proofs.lemmas.List.{take_all}
use Rattle.std.proofs.lemmas.Option.{slice_get_past}
use Rattle.foundation.proofs.Truth.{never}
use Rattle.cxx_hierarchy.specs.declared.records.ClassId.{ClassId}
use Rattle.cxx_hierarchy.specs.declared.records.Base.{Base}
use Rattle.cxx_hierarchy.specs.Classes.{Classes, bases_of}
use Rattle.cxx_hierarchy.specs.Declarations.{is_plain_base}
use Rattle.cxx_subobject.specs.declared.Subobject.{Subobject}
use Rattle.abi_sound.specs.declared.class_layout.ClassLayout.{ClassLayout}
use Rattle.abi_sound.specs.Places.{base_places_in, nth_place, direct_base_place, place_along, place_from, root_place, place_in_class}
use Rattle.abi_foreign.specs.invariants.Sums.{AreSumsOf}

no_place : (number : Option ℕ) → nth_place [] number ≡ 0
no_place None = refl
no_place (Some n) = refl

-- past the last class no base has a place
pub no_base_place : (h : Classes) (rows : List ClassLayout) (c b : ClassId) → length rows ≡ length h → length h ≤ c.0 → direct_base_place h rows c b ≡ 0
no_base_place h rows c b count past =
    ap (λ (row : Option ClassLayout). nth_place (base_places_in row) (position (λ (base : Base ClassId). nat_eq base.class.0 b.0) (filter is_plain_base (bases_of h c)))) (slice_get_past rows c.0 (omega arith))
    ∙ no_place (position (λ (base : Base ClassId). nat_eq base.class.0 b.0) (filter is_plain_base (bases_of h c)))

-- a number that begins with another one
sum_more : (first more sum : ℕ) (r : Bool) → first ≤ sum → IsTrue r ↔ (sum - first ≡ more) → IsTrue r ↔ (sum ≡ first + more)
sum_more first more sum r le told = (λ t. let e = told.0 t in omega arith, λ e. told.1 (omega arith))

sum_less : (first more sum : ℕ) → sum < first → IsTrue false ↔ (sum ≡ first + more)
sum_less first more sum less = never (λ e. omega arith)

sum_none : (sum : ℕ) → IsTrue (sum == 0) ↔ (sum ≡ 0)
sum_none sum = (λ t. eqb-true sum 0 t, λ e. eq-eqb sum 0 e)

-- a path with a class more
module _ (h : Classes) (rows : List ClassLayout) (c b : ClassId) (path rest : List ClassId) (first sum : ℕ) (is : path ≡ b ∷ rest) (place : first ≡ direct_base_place h rows c b) where
  pub along_more : (r : Bool) → first ≤ sum → IsTrue r ↔ (sum - first ≡ place_along h rows b rest) → IsTrue r ↔ (sum ≡ place_along h rows c path)
  along_more r le told = subst (λ (p : List ClassId). IsTrue r ↔ (sum ≡ place_along h rows c p)) (sym is)
      (subst (λ (n : ℕ). IsTrue r ↔ (sum ≡ n + place_along h rows b rest)) place (sum_more first (place_along h rows b rest) sum r le told))

  pub along_less : sum < first → IsTrue false ↔ (sum ≡ place_along h rows c path)
  along_less less = subst (λ (p : List ClassId). IsTrue false ↔ (sum ≡ place_along h rows c p)) (sym is)
      (subst (λ (n : ℕ). IsTrue false ↔ (sum ≡ n + place_along h rows b rest)) place (sum_less first (place_along h rows b rest) sum less))

pub along_none : (h : Classes) (rows : List ClassLayout) (c : ClassId) (path : List ClassId) (sum : ℕ) → path ≡ [] → IsTrue (sum == 0) ↔ (sum ≡ place_along h rows c path)
along_none h rows c path sum is = subst (λ (p : List ClassId). IsTrue (sum == 0) ↔ (sum ≡ place_along h rows c p)) (sym is) (sum_none sum)

pub from_first : (h : Classes) (rows : List ClassLayout) (d : ClassId) (path rest : List ClassId) (sum : ℕ) (r : Bool) → path ≡ d ∷ rest → IsTrue r ↔ (sum ≡ place_along h rows d rest) → IsTrue r ↔ (sum ≡ place_from h rows path)
from_first h rows d path rest sum r is told = subst (λ (p : List ClassId). IsTrue r ↔ (sum ≡ place_from h rows p)) (sym is) told

pub from_none : (h : Classes) (rows : List ClassLayout) (path : List ClassId) (sum : ℕ) → path ≡ [] → IsTrue (sum == 0) ↔ (sum ≡ place_from h rows path)
from_none h rows path sum is = subst (λ (p : List ClassId). IsTrue (sum == 0) ↔ (sum ≡ place_from h rows p)) (sym is) (sum_none sum)

-- a place behind that of the root, and before it
pub behind_root : (h : Classes) (rows : List ClassLayout) (c : ClassId) (s : Subobject) (root place : ℕ) (r : Bool) → root ≡ root_place rows c s.root → root ≤ place → IsTrue r ↔ (place - root ≡ place_from h rows s.path) → IsTrue r ↔ (place ≡ place_in_class h rows c s)
behind_root h rows c s root place r is le told = subst (λ (n : ℕ). IsTrue r ↔ (place ≡ n + place_from h rows s.path)) is (sum_more root (place_from h rows s.path) place r le told)

pub before_root : (h : Classes) (rows : List ClassLayout) (c : ClassId) (s : Subobject) (root place : ℕ) → root ≡ root_place rows c s.root → place < root → IsTrue false ↔ (place ≡ place_in_class h rows c s)
before_root h rows c s root place is less = subst (λ (n : ℕ). IsTrue false ↔ (place ≡ n + place_from h rows s.path)) is (sum_less root (place_from h rows s.path) place less)

taken : {X : Type 0} (xs : List X) (n i : ℕ) (x : X) → slice_get (take n xs) i ≡ Some x → (i < n) × (slice_get xs i ≡ Some x)
taken xs zero i x e = absurd (cc)
taken [] (suc n) i x e = absurd (cc)
taken (y ∷ xs) (suc n) zero x e = (omega arith, e)
taken (y ∷ xs) (suc n) (suc i) x e = let more = taken xs n i x e in (let low = more.0 in omega arith, more.1)

take_at : {X : Type 0} (xs : List X) (n i : ℕ) (x : X) → i < n → slice_get xs i ≡ Some x → slice_get (take n xs) i ≡ Some x
take_at xs zero i x low e = absurd (omega arith)
take_at [] (suc n) i x low e = absurd (cc)
take_at (y ∷ xs) (suc n) zero x low e = e
take_at (y ∷ xs) (suc n) (suc i) x low e = take_at xs n i x (omega arith) e

pub no_sums : (h : Classes) (rows : List ClassLayout) (c : ClassId) (list : List Subobject) (places : List ℕ) → AreSumsOf h rows c (take 0 list) (take 0 places)
no_sums h rows c list places = record { each = λ i s place e f. let low = (taken list 0 i s e).0 in absurd (omega arith) }

-- one place more
pub sums_next : (h : Classes) (rows : List ClassLayout) (c : ClassId) (list : List Subobject) (places : List ℕ) (n : ℕ) (s : Subobject) (place : ℕ) → AreSumsOf h rows c (take n list) (take n places) →
    slice_get list n ≡ Some s → slice_get places n ≡ Some place → place ≡ place_in_class h rows c s → AreSumsOf h rows c (take (n + 1) list) (take (n + 1) places)
sums_next h rows c list places n s place old there said same = record {
  each = λ i t at e f.
      let one = taken list (n + 1) i t e in
      let two = taken places (n + 1) i at f in
      let low = one.0 in
      ⊎_elim
      (λ less. old.each i t at (take_at list n i t less one.1) (take_at places n i at less two.1))
      (λ more.
      let is : i ≡ n = omega arith in
      let a : Some t ≡ Some s = sym one.1 ∙ ap (slice_get list) is ∙ there in
      let b : Some at ≡ Some place = sym two.1 ∙ ap (slice_get places) is ∙ said in
      let sa : s ≡ t = cc in
      let sb : at ≡ place = cc in
      sb ∙ same ∙ ap (place_in_class h rows c) sa)
      (cases_lt i n);
}

pub sums_all : (h : Classes) (rows : List ClassLayout) (c : ClassId) (list : List Subobject) (places : List ℕ) (n : ℕ) → length places ≡ length list → length list ≤ n → AreSumsOf h rows c (take n list) (take n places) → AreSumsOf h rows c list places
sums_all h rows c list places n each past all =
    subst (λ (ps : List ℕ). AreSumsOf h rows c list ps) (take_all n places (omega arith)) (subst (λ (ss : List Subobject). AreSumsOf h rows c ss (take n places)) (take_all n list (omega arith)) all)
