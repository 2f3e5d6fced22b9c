-- What a value that is read, followed and guarded breaks.
use Rattle.std.proofs.Common.{arith, ◌<◌, ◌≤◌, ◌≡◌, Bool, true, false, Option, Some, None, List, [], ◌∷◌, refl, ap, sym, subst, ◌∙◌}
use Rattle.std.specs.Prelude.{ℕ, ℤ, if◌then◌else◌, not}
use Rattle.cxx_hierarchy.specs.declared.records.ClassId.{ClassId}
use Rattle.cxx_hierarchy.specs.Classes.{Classes}
use Rattle.cxx_subobject.specs.Locations.{ObjectPart}
use Rattle.path_rules.specs.declared.Undefined.{Undefined}
use Rattle.path_rules.specs.declared.Undefined.TheVariants.{Dangling, NotReady, OutsideView, Overflow}
use Rattle.path_model.specs.Values.{Value, Unset, Number, Null, Pointer, Objects}
use Rattle.path_model.specs.Uses.{StatementUse, Reads, Guards, Passes, Views, Overflows, uses_of_view, arrow}
use Rattle.path_model.specs.Rules.{refused, names, is_unready, is_outside, overflows}
use Rattle.std.proofs.Common.{ltb}
use Rattle.std.proofs.lemmas.Bool.{ltb-true, ltb-false}
use Rattle.cxx_hierarchy.specs.declared.records.Scalar.{Scalar}
use Rattle.cxx_program.specs.declared.statement.Arithmetic.{Arithmetic as Operator}
use Rattle.path_model.proofs.Ranks.{first_place, rank, rank_append}
use Rattle.path_model.proofs.Single.{none_rank, guard_rank, guard_late, view_late, views_none}
use Rattle.path_model.proofs.Conversions.{is_pointer, off_unready, off_outside, read_rank, read_then}
use Rattle.path_model.proofs.Places.{arrow_unready}
use Rattle.path_plan.specs.Phases.{is_ready}
use Rattle.foundation.proofs.Truth.{split, is_false}
use Rattle.path_refusals.proofs.Refused.{refused_alike, clear_rank, goes_on}
use Rattle.path_heap.specs.declared.state.Value.{Value as ValueCode}
use Rattle.path_heap.specs.declared.state.Value.TheVariants.{Unset as UnsetCode, Number as NumberCode, Null as NullCode, Pointer as PointerCode}
use Rattle.path_heap.specs.Points.{Points}
use Rattle.path_heap.specs.Stands.{Means, HasBegun}

-- parts

pub read_is : (h : Classes) (s : Objects) (p : ObjectPart) (b : Bool) → s.is_closed p.object ≡ b → refused h s (Reads (Pointer p) ∷ []) ≡ (if b then Some Dangling else None)
unfolding refused
read_is h s p true e = rw e refl
read_is h s p false e = rw e refl

pub guard_is : (h : Classes) (s : Objects) (p : ObjectPart) (b : Bool) → is_unready s p ≡ b → refused h s (Guards (Pointer p) ∷ []) ≡ (if b then Some NotReady else None)
unfolding refused
guard_is h s p true e = rw e refl
guard_is h s p false e = rw e refl

pub pass_is : (h : Classes) (s : Objects) (p : ObjectPart) (b : Bool) → is_unready s p ≡ b → refused h s (Passes p ∷ []) ≡ (if b then Some NotReady else None)
unfolding refused
pass_is h s p true e = rw e refl
pass_is h s p false e = rw e refl

pub closed_is : (h : Classes) (s : Objects) (p : ObjectPart) → s.is_closed p.object ≡ true → (refused h s (Reads (Pointer p) ∷ Guards (Pointer p) ∷ []) ≡ Some Dangling) × (refused h s (arrow (Pointer p)) ≡ Some Dangling)
unfolding refused
closed_is h s p e = (rw e refl, rw e refl)

pub open_is : (h : Classes) (s : Objects) (p : ObjectPart) → s.is_closed p.object ≡ false
    → (refused h s (Reads (Pointer p) ∷ Guards (Pointer p) ∷ []) ≡ refused h s (Guards (Pointer p) ∷ [])) × (refused h s (arrow (Pointer p)) ≡ refused h s (Guards (Pointer p) ∷ []))
unfolding refused
open_is h s p e = (rw e refl, rw e refl)

pub view_is : (h : Classes) (s : Objects) (p : ObjectPart) (b : Bool) → is_outside h s p ≡ b → refused h s (Views (Pointer p) ∷ []) ≡ (if b then Some OutsideView else None)
unfolding refused
view_is h s p true e = rw e refl
view_is h s p false e = rw e refl

pub unready_first : (h : Classes) (s : Objects) (p : ObjectPart) (b : Bool) → is_unready s p ≡ true → Some NotReady ≡ refused h s (Guards (Pointer p) ∷ uses_of_view b (Pointer p))
unfolding refused
unready_first h s p true e = rw e refl
unready_first h s p false e = rw e refl

pub ready_then : (h : Classes) (s : Objects) (p : ObjectPart) (us : List StatementUse) (x : Option Undefined) → is_unready s p ≡ false → x ≡ refused h s us → x ≡ refused h s (Guards (Pointer p) ∷ us)
ready_then h s p us x e f = goes_on h s (Guards (Pointer p) ∷ []) us x (sym (guard_is h s p false e)) f

pub begun_of : (s : Objects) (p : ObjectPart) → is_unready s p ≡ false → HasBegun s p
begun_of s p e raw = let f : true ≡ false = ap (λ x. not (is_ready x)) (sym raw) ∙ e in absurd (cc)

-- values

pub nothing : (h : Classes) (s : Objects) → None ≡ refused h s []
unfolding refused
nothing h s = refl

pub full_none : (h : Classes) (s : Objects) (us : List StatementUse) → rank h s us ≡ 12 → None ≡ refused h s us
full_none h s us e = sym (refused_alike h s us [] (e ∙ sym (none_rank h s)) ∙ sym (nothing h s))

pub off_guard : (h : Classes) (s : Objects) (x : Value) (b : Bool) → is_pointer x ≡ false → None ≡ refused h s (Guards x ∷ uses_of_view b x)
off_guard h s x b e = full_none h s (Guards x ∷ uses_of_view b x)
    (let r = rank_append h s (Guards x ∷ []) (uses_of_view b x) in
    let g = guard_rank h s x false (off_unready s x e) in
    let v = views_none h s b x (off_outside h s x e) in
    omega (arith, r, g, v))

pub off_view : (h : Classes) (s : Objects) (x : Value) (b : Bool) → is_pointer x ≡ false → None ≡ refused h s (uses_of_view b x)
off_view h s x b e = full_none h s (uses_of_view b x) (views_none h s b x (off_outside h s x e))

closed_rank : (h : Classes) (s : Objects) (p : ObjectPart) → s.is_closed p.object ≡ true → rank h s (arrow (Pointer p)) ≡ 1
unfolding rank first_place
closed_rank h s p e = rw e refl

open_rank : (h : Classes) (s : Objects) (p : ObjectPart) (b : Bool) → s.is_closed p.object ≡ false → is_unready s p ≡ b → rank h s (arrow (Pointer p)) ≡ (if b then 2 else 12)
unfolding rank first_place
open_rank h s p true e f = rw (e, f) refl
open_rank h s p false e f = rw (e, f) refl

-- what rests on a pointer comes behind its arrow
pub arrow_then : (h : Classes) (s : Objects) (x : Value) (us : List StatementUse) → (is_pointer x ≡ false → rank h s us ≡ 12) → 2 ≤ rank h s us → rank h s (arrow x) < 12 → rank h s (arrow x) ≤ rank h s us
arrow_then h s Unset us off late less = let o = off refl in omega (arith, o, less)
arrow_then h s (Number z) us off late less = let o = off refl in omega (arith, o, less)
arrow_then h s Null us off late less = let o = off refl in omega (arith, o, less)
arrow_then h s (Pointer p) us off late less = split (s.is_closed p.object) (λ a. s.is_closed p.object ≡ a → rank h s (arrow (Pointer p)) ≤ rank h s us)
    (λ _ e. let r = closed_rank h s p e in omega (arith, r, late))
    (λ _ e. split (is_unready s p) (λ b. is_unready s p ≡ b → rank h s (arrow (Pointer p)) ≤ rank h s us)
    (λ _ f. let r = open_rank h s p true e f in omega (arith, r, late))
    (λ _ f. let r = open_rank h s p false e f in omega (arith, r, less)) refl) refl

-- behind an arrow that breaks nothing
pub arrow_clear : (h : Classes) (s : Objects) (x : Value) → None ≡ refused h s (arrow x) → names (is_unready s) x ≡ false
arrow_clear h s Unset e = refl
arrow_clear h s (Number z) e = refl
arrow_clear h s Null e = refl
arrow_clear h s (Pointer p) e = is_false (is_unready s p) (λ f. let r = clear_rank h s (arrow (Pointer p)) e in let l = arrow_unready h s p f in omega (arith, r, l))

-- what rests on a value that is read comes behind the reading
pub read_first : (h : Classes) (s : Objects) (x : Value) (us : List StatementUse) → (is_pointer x ≡ false → rank h s us ≡ 12) → 2 ≤ rank h s us → rank h s (Reads x ∷ []) < 12 → rank h s (Reads x ∷ []) ≤ rank h s us
read_first h s x us off late less = read_then h s x [] us off late (λ l. let n = none_rank h s in omega (arith, n, l)) less

pub read_guard : (h : Classes) (s : Objects) (x : Value) (b : Bool) → rank h s (Reads x ∷ []) < 12 → rank h s (Reads x ∷ []) ≤ rank h s (Guards x ∷ uses_of_view b x)
read_guard h s x b less =
    let r = rank_append h s (Guards x ∷ []) (uses_of_view b x) in
    let g = guard_late h s x in
    let v = view_late h s b x in
    read_first h s x (Guards x ∷ uses_of_view b x)
    (λ e. let o = guard_rank h s x false (off_unready s x e) in let t = views_none h s b x (off_outside h s x e) in omega (arith, r, o, t))
    (omega (arith, r, g, v)) less

pub arrow_views : (h : Classes) (s : Objects) (x : Value) (b : Bool) → rank h s (arrow x) < 12 → rank h s (arrow x) ≤ rank h s (uses_of_view b x)
arrow_views h s x b less = arrow_then h s x (uses_of_view b x) (λ e. views_none h s b x (off_outside h s x e)) (let v = view_late h s b x in omega (arith, v)) less

-- what is so of each value that the code's means
pub unset_case : (h : Classes) (classes : List ClassId) (P : Value → Type 0) → P Unset → (v : ValueCode) → v ≡ UnsetCode → (x : Value) → Means h classes v x → P x
unset_case h classes P a v e x m = by_value x (subst (λ (w : ValueCode). Means h classes w x) e m)
  where
    by_value : (x : Value) → Means h classes UnsetCode x → P x
    by_value Unset m = a
    by_value (Number z) m = absurd m
    by_value Null m = absurd m
    by_value (Pointer p) m = absurd m

pub null_case : (h : Classes) (classes : List ClassId) (P : Value → Type 0) → P Null → (v : ValueCode) → v ≡ NullCode → (x : Value) → Means h classes v x → P x
null_case h classes P a v e x m = by_value x (subst (λ (w : ValueCode). Means h classes w x) e m)
  where
    by_value : (x : Value) → Means h classes NullCode x → P x
    by_value Unset m = absurd m
    by_value (Number z) m = absurd m
    by_value Null m = a
    by_value (Pointer p) m = absurd m

pub number_case : (h : Classes) (classes : List ClassId) (P : Value → Type 0) → ((z : ℤ) → P (Number z)) → (v : ValueCode) (a : ℤ) → v ≡ NumberCode a → (x : Value) → Means h classes v x → P x
number_case h classes P each v a e x m = by_value x (subst (λ (w : ValueCode). Means h classes w x) e m)
  where
    by_value : (x : Value) → Means h classes (NumberCode a) x → P x
    by_value Unset m = absurd m
    by_value (Number z) m = each z
    by_value Null m = absurd m
    by_value (Pointer p) m = absurd m

pub pointer_case : (h : Classes) (classes : List ClassId) (P : Value → Type 0) (n : ℕ) → ((p : ObjectPart) → Points h classes n p → P (Pointer p)) → (v : ValueCode) → v ≡ PointerCode n → (x : Value) → Means h classes v x → P x
pointer_case h classes P n each v e x m = by_value x (subst (λ (w : ValueCode). Means h classes w x) e m)
  where
    by_value : (x : Value) → Means h classes (PointerCode n) x → P x
    by_value Unset m = absurd m
    by_value (Number z) m = absurd m
    by_value Null m = absurd m
    by_value (Pointer p) m = each p m

-- what is calculated

pub over_is : (h : Classes) (s : Objects) (op : Operator) (t : Scalar) (a b : Value) (x : Bool) → overflows op t a b ≡ x → refused h s (Overflows op t a b ∷ []) ≡ (if x then Some Overflow else None)
unfolding refused
over_is h s op t a b true e = rw e refl
over_is h s op t a b false e = rw e refl

over_rank : (h : Classes) (s : Objects) (op : Operator) (t : Scalar) (a b : Value) (x : Bool) → overflows op t a b ≡ x → rank h s (Overflows op t a b ∷ []) ≡ (if x then 11 else 12)
unfolding rank first_place
over_rank h s op t a b true e = rw e refl
over_rank h s op t a b false e = rw e refl

over_late : (h : Classes) (s : Objects) (op : Operator) (t : Scalar) (a b : Value) → 11 ≤ rank h s (Overflows op t a b ∷ [])
over_late h s op t a b = split (overflows op t a b) (λ x. overflows op t a b ≡ x → 11 ≤ rank h s (Overflows op t a b ∷ []))
    (λ _ e. let r = over_rank h s op t a b true e in omega (arith, r)) (λ _ e. let r = over_rank h s op t a b false e in omega (arith, r)) refl

unset_rank : (h : Classes) (s : Objects) → rank h s (Reads Unset ∷ []) ≡ 4
unfolding rank first_place
unset_rank h s = refl

number_rank : (h : Classes) (s : Objects) (z : ℤ) → rank h s (Reads (Number z) ∷ []) ≡ 12
unfolding rank first_place
number_rank h s z = refl

null_rank : (h : Classes) (s : Objects) → rank h s (Reads Null ∷ []) ≡ 12
unfolding rank first_place
null_rank h s = refl

-- a value that is read breaks no rule behind U5
pub read_early : (h : Classes) (s : Objects) (x : Value) → rank h s (Reads x ∷ []) < 12 → rank h s (Reads x ∷ []) ≤ 4
read_early h s Unset l = let r = unset_rank h s in omega (arith, r)
read_early h s (Number z) l = let r = number_rank h s z in omega (arith, r, l)
read_early h s Null l = let r = null_rank h s in omega (arith, r, l)
read_early h s (Pointer p) l = split (s.is_closed p.object) (λ x. s.is_closed p.object ≡ x → rank h s (Reads (Pointer p) ∷ []) ≤ 4)
    (λ _ e. let r = read_rank h s p true e in omega (arith, r)) (λ _ e. let r = read_rank h s p false e in omega (arith, r, l)) refl

pub reads_over : (h : Classes) (s : Objects) (a b : Value) (op : Operator) (t : Scalar) → rank h s (Reads a ∷ Reads b ∷ []) < 12 → rank h s (Reads a ∷ Reads b ∷ []) ≤ rank h s (Overflows op t a b ∷ [])
reads_over h s a b op t less =
    let r = rank_append h s (Reads a ∷ []) (Reads b ∷ []) in
    let o = over_late h s op t a b in
    split (ltb (rank h s (Reads a ∷ [])) 12) (λ x. ltb (rank h s (Reads a ∷ [])) 12 ≡ x → rank h s (Reads a ∷ Reads b ∷ []) ≤ rank h s (Overflows op t a b ∷ []))
    (λ _ e. let l = read_early h s a (ltb-true (rank h s (Reads a ∷ [])) 12 e) in omega (arith, r, o, l))
    (λ _ e. let f = ltb-false (rank h s (Reads a ∷ [])) 12 e in let l : rank h s (Reads b ∷ []) ≤ 4 = read_early h s b (omega (arith, r, f, less)) in omega (arith, r, o, l)) refl
