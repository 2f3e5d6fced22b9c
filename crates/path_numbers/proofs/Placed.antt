-- The offset of a base or of a virtual base by its class, and how far a path leads.
use Rattle.std.proofs.Common.{◌≡◌, ℕ, zero, suc, ◌+◌, ◌<◌, ◌≤◌, Bool, true, false, ⊎_elim, List, [], ◌∷◌, length, get_or, refl, ap, subst, sym, ◌∙◌, arith}
use Rattle.std.specs.Prelude.{Option, Some, None, nat_eq, if◌then◌else◌, slice_get}
use Rattle.std.proofs.lemmas.Bool.{eqb-true, eq-eqb, cases_lt}
use Rattle.std.proofs.lemmas.List.{get_or_past}
use Rattle.std.proofs.lemmas.Option.{slice_get-get_or, slice_get_past}
use Rattle.cxx_hierarchy.specs.declared.records.ClassId.{ClassId}
use Rattle.cxx_hierarchy.specs.declared.records.Base.{Base}
use Rattle.cxx_hierarchy.specs.Classes.{Classes, bases_in, bases_of}
use Rattle.cxx_hierarchy.specs.Hierarchies.{IsHierarchy}
use Rattle.cxx_hierarchy.specs.VirtualBases.{HasVirtualBase, IsDirectBase}
use Rattle.cxx_subobject.specs.Subobjects.{Leads}
use Rattle.cxx_subobject.proofs.PathLemmas.{same_id, virtual_below}
use Rattle.foundation.proofs.Truth.{split, not_both, is_false, or_left, or_right}
use Rattle.foundation.proofs.Members.{Has, has_from_contains, index_of, once_by_place}
use Rattle.foundation.proofs.Places.{place_of}
use Rattle.path_plan.specs.declared.form.Form.TheVariants.{InFull, AsBase}
use Rattle.path_plan.specs.Plans.{is_among, virtual_order}
use Rattle.path_plan.proofs.Order.{order_has, order_virtual, among_has}
use Rattle.path_numbers.specs.declared.numbers.ClassNumbers.{ClassNumbers}
use Rattle.path_numbers.specs.Sizes.{before, base_size, sizes_of, base_offset, shared_offset}
use Rattle.path_numbers.specs.Numbers.{before_first, base_number, shared_number, path_number, IsSharedAt, HasClassNumbers}
use Rattle.path_numbers.proofs.Intervals.{before_within, base_size_is, size_some}
use Rattle.path_numbers.proofs.Sized.{sizes_are}
use Rattle.path_numbers.proofs.Ways.{orders_once}

abbrev pub or_zero : Option ℕ → ℕ
or_zero None = 0
or_zero (Some n) = n

-- the first that is meant is number i
first_at : {X : Type 0} (f : X → ℕ) (is : X → Bool) (xs : List X) (i : ℕ) (x : X) → slice_get xs i ≡ Some x → is x ≡ true → ((j : ℕ) (y : X) → j < i → slice_get xs j ≡ Some y → is y ≡ false) → before_first f is xs ≡ before f i xs
first_at f is [] i x at e others = absurd (cc)
first_at f is (y ∷ xs) zero x at e others = let s : y ≡ x = cc in let t : is y ≡ true = ap is s ∙ e in rw t refl
first_at f is (y ∷ xs) (suc i) x at e others =
    let t : is y ≡ false = others 0 y (omega arith) refl in
    ap (λ b. if b then 0 else f y + before_first f is xs) t ∙ ap (λ n. f y + n) (first_at f is xs i x at e (λ j z lt k. others (suc j) z (omega arith) k))

pub base_number_at : (h : Classes) → IsHierarchy h → (c : ClassId) (i : ℕ) (base : Base ClassId) → slice_get (bases_of h c) i ≡ Some base → base_number h c base.class ≡ base_offset h (sizes_of h) c i
unfolding base_number base_offset
base_number_at h keeps c i base at = ap (λ n. 1 + n) (first_at (base_size (sizes_of h)) (λ b. nat_eq b.class.0 base.class.0) (bases_of h c) i base at (eq-eqb base.class.0 base.class.0 refl)
    (λ j y lt k. is_false (nat_eq y.class.0 base.class.0) (λ e. let s : j ≡ i = keeps.once c j i y base k at (same_id y.class base.class (eqb-true y.class.0 base.class.0 e)) in absurd (omega arith))))

pub shared_number_at : (h : Classes) (c v : ClassId) (j : ℕ) → slice_get (virtual_order h c) j ≡ Some v → shared_number h c v ≡ shared_offset h (sizes_of h) c j
unfolding shared_number shared_offset
shared_number_at h c v j at = ap (λ n. sizes_of h AsBase c + n) (first_at (sizes_of h AsBase) (λ w. nat_eq w.0 v.0) (virtual_order h c) j v at (eq-eqb v.0 v.0 refl)
    (λ k w lt e. is_false (nat_eq w.0 v.0) (λ t. let s : k ≡ j = once_by_place (virtual_order h c) ((orders_once h).once c) k j v (e ∙ ap (λ (u : ClassId). Some u) (same_id w v (eqb-true w.0 v.0 t))) at in absurd (omega arith))))

pub has_among : (met : List ClassId) (v : ClassId) → Has met v → is_among met v ≡ true
has_among [] v h = absurd h
has_among (w ∷ met) v h = ⊎_elim (λ same. or_left (nat_eq w.0 v.0) (is_among met v) (eq-eqb w.0 v.0 (ap (λ (x : ClassId). x.0) same))) (λ more. or_right (nat_eq w.0 v.0) (is_among met v) (has_among met v more)) h

-- a virtual base stands behind the part that has it
pub shared_some : (h : Classes) → IsHierarchy h → (c v : ClassId) → 1 ≤ shared_number h c v
unfolding shared_number
shared_some h keeps c v = let a = size_some h (sizes_of h) (sizes_are h keeps) AsBase c in omega arith

-- what the table of a row tells of a class
pub shared_told : (h : Classes) → IsHierarchy h → (c v : ClassId) (row : ClassNumbers) → HasClassNumbers h c row → (offset : ℕ) (result : Option ℕ) → offset ≡ get_or row.shared v.0 0 → result ≡ (if nat_eq offset 0 then None else Some offset) → IsSharedAt h c v result
shared_told h keeps c v row is offset result e r = ⊎_elim
    (λ a. split (is_among (virtual_order h c) v) (λ b. is_among (virtual_order h c) v ≡ b → offset ≡ (if b then shared_number h c v else 0) → IsSharedAt h c v result)
    (λ _ t k.
    let some = shared_some h keeps c v in
    let n : nat_eq offset 0 ≡ false = is_false (nat_eq offset 0) (λ z. let q = eqb-true offset 0 z in absurd (omega arith)) in
    subst (IsSharedAt h c v) (sym (r ∙ ap (λ (b : Bool). if b then None else Some offset) n)) (order_virtual h keeps c v (among_has (virtual_order h c) v t), k))
    (λ _ t k. subst (IsSharedAt h c v) (sym (r ∙ ap (λ (b : Bool). if b then None else Some offset) (eq-eqb offset 0 k)))
    (λ (has : HasVirtualBase h c v). not_both (has_among (virtual_order h c) v (order_has h keeps c v has)) t))
    refl (e ∙ is.shared v a))
    (λ a. let z : offset ≡ 0 = e ∙ get_or_past row.shared v.0 0 (let k = is.shared_count in omega arith) in
    subst (IsSharedAt h c v) (sym (r ∙ ap (λ (b : Bool). if b then None else Some offset) (eq-eqb offset 0 z)))
    (λ (has : HasVirtualBase h c v). let l = virtual_below h keeps c v has in absurd (omega arith)))
    (cases_lt v.0 c.0)

-- where a direct base stands
pub record IsPlaced (h : Classes) (c b : ClassId) : Type 0 where
  pub index : ℕ
  pub base : Base ClassId
  pub at : slice_get (bases_of h c) index ≡ Some base
  pub own : base.is_virtual ≡ false
  pub class : base.class ≡ b

pub placed : (h : Classes) (c b : ClassId) → IsDirectBase h c false b → IsPlaced h c b
placed h c b d = let p = place_of (bases_of h c) d.base d.listed in record { index = p.0; base = d.base; at = p.1; own = d.way; class = d.class }

pub base_opened : (h : Classes) (c : ClassId) (i : ℕ) → base_offset h (sizes_of h) c i ≡ 1 + before (base_size (sizes_of h)) i (bases_of h c)
unfolding base_offset
base_opened h c i = refl

offset_opened : (h : Classes) (c : ClassId) (j : ℕ) → shared_offset h (sizes_of h) c j ≡ sizes_of h AsBase c + before (sizes_of h AsBase) j (virtual_order h c)
unfolding shared_offset
offset_opened h c j = refl

-- a base lies within the part
pub base_within : (h : Classes) → IsHierarchy h → (c b : ClassId) → IsDirectBase h c false b → base_number h c b + sizes_of h AsBase b ≤ sizes_of h AsBase c
base_within h keeps c b d =
    let p = placed h c b d in
    let n : base_number h c b ≡ base_offset h (sizes_of h) c p.index = ap (base_number h c) (sym p.class) ∙ base_number_at h keeps c p.index p.base p.at in
    let o : base_offset h (sizes_of h) c p.index ≡ 1 + before (base_size (sizes_of h)) p.index (bases_of h c) = base_opened h c p.index in
    let w = before_within (base_size (sizes_of h)) p.index (bases_of h c) p.base p.at in
    let s : base_size (sizes_of h) p.base ≡ sizes_of h AsBase b = base_size_is (sizes_of h) p.base p.own ∙ ap (sizes_of h AsBase) p.class in
    let t = (sizes_are h keeps).own c in
    omega arith

-- a path leads to what lies within the part
pub path_within : (h : Classes) → IsHierarchy h → (c : ClassId) (path : List ClassId) → Leads h c path → path_number h c path + 1 ≤ sizes_of h AsBase c
path_within h keeps c [] leads = let a = size_some h (sizes_of h) (sizes_are h keeps) AsBase c in omega arith
path_within h keeps c (b ∷ path) leads = let a = base_within h keeps c b leads.0 in let r = path_within h keeps b path leads.1 in omega arith

-- a virtual base lies within the complete object
pub shared_within : (h : Classes) → IsHierarchy h → (c v : ClassId) → HasVirtualBase h c v → shared_number h c v + sizes_of h AsBase v ≤ sizes_of h InFull c
shared_within h keeps c v has =
    let p = index_of (virtual_order h c) v (order_has h keeps c v has) in
    let n = shared_number_at h c v p.0 p.1 in
    let o = offset_opened h c p.0 in
    let w = before_within (sizes_of h AsBase) p.0 (virtual_order h c) v p.1 in
    let t = (sizes_are h keeps).full c in
    omega arith

-- one base more is of another class
pub none_more : (bases : List (Base ClassId)) (b : ClassId) (i : ℕ) (d : Base ClassId) → i < length bases → ((j : ℕ) (x : Base ClassId) → j < i → slice_get bases j ≡ Some x → x.class ≡ b → ⊥) → ((get_or bases i d).class ≡ b → ⊥)
    → (j : ℕ) (x : Base ClassId) → j < i + 1 → slice_get bases j ≡ Some x → x.class ≡ b → ⊥
none_more bases b i d lt none this j x less at e = ⊎_elim (λ a. none j x a at e)
    (λ a. let s : j ≡ i = omega arith in let t : Some (get_or bases i d) ≡ Some x = sym (slice_get-get_or bases i d lt) ∙ (ap (slice_get bases) (sym s) ∙ at) in let u : get_or bases i d ≡ x = cc in this (ap (λ (y : Base ClassId). y.class) u ∙ e))
    (cases_lt j i)

-- some base is of the class
pub some_base : (h : Classes) (c b : ClassId) (i : ℕ) → IsDirectBase h c false b → length (bases_of h c) ≤ i → ((j : ℕ) (x : Base ClassId) → j < i → slice_get (bases_of h c) j ≡ Some x → x.class ≡ b → ⊥) → ⊥
some_base h c b i d le none =
    let p = placed h c b d in
    ⊎_elim (λ a. none p.index p.base (omega arith) p.at p.class) (λ a. let k = slice_get_past (bases_of h c) p.index a in let q = p.at in absurd (cc)) (cases_lt p.index (length (bases_of h c)))

-- the place that a row tells of a virtual base
pub told_is : (h : Classes) (c v : ClassId) (told : Option ℕ) (n : ℕ) → IsSharedAt h c v told → HasVirtualBase h c v → n ≡ or_zero told → n ≡ shared_number h c v
told_is h c v None n t has e = absurd (t has)
told_is h c v (Some k) n t has e = e ∙ t.1

-- a class that has a base is one of the hierarchy
pub base_past : (h : Classes) (c b : ClassId) (way : _) → IsDirectBase h c way b → length h ≤ c.0 → ⊥
base_past h c b way d past = subst (λ l. Has l d.base) (ap bases_in (slice_get_past h c.0 past)) (has_from_contains (bases_of h c) d.base d.listed)
