-- Where nothing refuses, all is typed.
use Rattle.std.proofs.Common.{◌≡◌, ℕ, ◌≤◌, ◌<◌, Bool, true, false, if◌then◌else◌, Result, Ok, Err, IsOk, List, [], ◌∷◌, length, length-append, refl, arith}
use Rattle.cxx_expression.specs.Checked.{Checked, pure, fail, warn, ◌>>=◌, then_typed, then_faults, with_second, pair_of, both, with_outcome, beside, kept, noted}
use Rattle.cxx_hierarchy.specs.declared.stop.Rule.{Rule}
use Rattle.cxx_expression.specs.declared.faults.Fault.{Fault}
use Rattle.cxx_expression.specs.Laws.{IsComplete}

pub complete_pure : {X : Type 0} (x : X) → IsComplete (pure x)
complete_pure x = record { grows = λ b. omega arith; typed = λ b h. absurd (h refl) }

grown : (rule : Rule) (at : ℕ) (b : List Fault) → length b < length (noted rule at b)
grown rule at b = omega (arith, length-append b ((record { rule = rule; at = at }) ∷ []))

pub complete_fail : {X : Type 0} (rule : Rule) (at : ℕ) → IsComplete (fail {X = X} rule at)
complete_fail rule at = record { grows = λ b. omega (arith, grown rule at b); typed = λ b h. grown rule at b }

pub complete_warn : {X : Type 0} (rule : Rule) (at : ℕ) (x : X) → IsComplete (warn rule at x)
complete_warn rule at x = record { grows = λ b. omega (arith, grown rule at b); typed = λ b h. grown rule at b }

bind_grows : {X Y : Type 0} (o : Result X Fault) (next : X → Checked Y) → ((x : X) → IsComplete (next x)) → (b : List Fault) → length b ≤ length (then_faults o next b)
bind_grows (Err e) next c b = omega arith
bind_grows (Ok x) next c b = (c x).grows b

bind_typed : {X Y : Type 0} (o : Result X Fault) (next : X → Checked Y) → ((x : X) → IsComplete (next x)) → (b new : List Fault) → length b ≤ length new →
    ((IsOk o → ⊥) → length b < length new) → (IsOk (then_typed o next) → ⊥) → length b < length (then_faults o next new)
bind_typed (Err e) next c b new le lt n = lt n
bind_typed (Ok x) next c b new le lt n = omega (arith, (c x).typed new n)

pub complete_bind : {X Y : Type 0} (p : Checked X) (next : X → Checked Y) → IsComplete p → ((x : X) → IsComplete (next x)) → IsComplete (p >>= next)
complete_bind p next h c = record {
  grows = λ b. omega (arith, h.grows b, bind_grows p.typed next c (p.faults b));
  typed = λ b n. bind_typed p.typed next c b (p.faults b) (h.grows b) (h.typed b) n;
}

pair_typed : {X Y : Type 0} (o : Result X Fault) (q : Result Y Fault) (b new last : List Fault) → length b ≤ length new → length new ≤ length last →
    ((IsOk o → ⊥) → length b < length new) → ((IsOk q → ⊥) → length new < length last) → (IsOk (pair_of o q) → ⊥) → length b < length last
pair_typed (Err e) q b new last le le2 lt lt2 n = omega (arith, lt n)
pair_typed (Ok x) (Err e) b new last le le2 lt lt2 n = omega (arith, lt2 n)
pair_typed (Ok x) (Ok y) b new last le le2 lt lt2 n = absurd (n refl)

pub complete_both : {X Y : Type 0} (p : Checked X) (q : Checked Y) → IsComplete p → IsComplete q → IsComplete (both p q)
complete_both p q h g = record {
  grows = λ b. omega (arith, h.grows b, g.grows (p.faults b));
  typed = λ b n. pair_typed p.typed q.typed b (p.faults b) (q.faults (p.faults b)) (h.grows b) (g.grows (p.faults b)) (h.typed b) (g.typed (p.faults b)) n;
}

-- three pieces in a row, put together from either end

nested_typed : {X Y Z : Type 0} (o : Result X Fault) (f : X → Checked Y) (g : Y → Checked Z) → IsOk (then_typed o (λ x. f x >>= g)) → IsOk (then_typed (then_typed o f) g)
nested_typed (Err e) f g is = is
nested_typed (Ok x) f g is = is

nested_faults : {X Y Z : Type 0} (o : Result X Fault) (f : X → Checked Y) (g : Y → Checked Z) (b : List Fault) → length (then_faults (then_typed o f) g (then_faults o f b)) ≡ length (then_faults o (λ x. f x >>= g) b)
nested_faults (Err e) f g b = refl
nested_faults (Ok x) f g b = refl

pub complete_nested : {X Y Z : Type 0} (p : Checked X) (f : X → Checked Y) (g : Y → Checked Z) → IsComplete (p >>= (λ x. f x >>= g)) → IsComplete (p >>= f >>= g)
complete_nested p f g h = record {
  grows = λ b. omega (arith, nested_faults p.typed f g (p.faults b), h.grows b);
  typed = λ b n. omega (arith, nested_faults p.typed f g (p.faults b), h.typed b (λ is. n (nested_typed p.typed f g is)));
}

-- a piece that has a fault, or a part that is there

whole_faults : {X Y : Type 0} (o : Result X Fault) (part : X → Result Y Fault) (b : List Fault) → length (then_faults o (λ x. kept (part x)) b) ≡ length b
whole_faults (Err e) part b = refl
whole_faults (Ok x) part b = refl

part_typed : {Y Z : Type 0} (o : Result Y Fault) (next : Checked Z) (b new : List Fault) → length b ≤ length new → ((IsOk o → ⊥) → length b < length new) → ((c : List Fault) → length c ≤ length (next.faults c)) →
    ((y : Y) → o ≡ Ok y → IsComplete next) → (IsOk next.typed → ⊥) → length b < length (next.faults new)
part_typed {Y = Y} (Err e) next b new le lt grows c n = let few : length b < length new = lt (λ (t : IsOk {T = Y} (Err e)). cc) in omega (arith, grows new)
part_typed (Ok y) next b new le lt grows c n = omega (arith, (c y refl).typed new n)

whole_typed : {X Y Z : Type 0} (o : Result X Fault) (part : X → Result Y Fault) (next : X → Checked Z) (b new : List Fault) → length b ≤ length new → ((IsOk (then_typed o (λ x. kept (part x))) → ⊥) → length b < length new) →
    ((x : X) (c : List Fault) → length c ≤ length ((next x).faults c)) → ((x : X) (y : Y) → part x ≡ Ok y → IsComplete (next x)) → (IsOk (then_typed o next) → ⊥) → length b < length (then_faults o next new)
whole_typed (Err e) part next b new le lt grows c n = lt n
whole_typed (Ok x) part next b new le lt grows c n = part_typed (part x) (next x) b new le lt (grows x) (c x) n

pub whole_grows : {X Z : Type 0} (o : Result X Fault) (next : X → Checked Z) → ((x : X) (c : List Fault) → length c ≤ length ((next x).faults c)) → (b : List Fault) → length b ≤ length (then_faults o next b)
whole_grows (Err e) next grows b = omega arith
whole_grows (Ok x) next grows b = grows x b

with_typed : {X Y : Type 0} (o : Result X Fault) (q : Result Y Fault) → IsOk o → IsOk (with_outcome o q)
with_typed (Err e) q is = is
with_typed (Ok x) q is = refl

pub complete_beside : {X Y : Type 0} (p : Checked X) (next : Result X Fault → Checked Y) → IsComplete p → ((o : Result X Fault) → IsComplete (next o)) → IsComplete (beside p next)
complete_beside p next h c = record {
  grows = λ b. omega (arith, h.grows b, (c p.typed).grows (p.faults b));
  typed = λ b n. omega (arith, h.typed b (λ is. n (with_typed p.typed (next p.typed).typed is)), (c p.typed).grows (p.faults b));
}

-- what rests on such a piece is refused or typed where the part is there
pub complete_whole : {X Y Z : Type 0} (p : Checked X) (part : X → Result Y Fault) (next : X → Checked Z) → IsComplete (p >>= (λ x. kept (part x))) → ((x : X) (c : List Fault) → length c ≤ length ((next x).faults c)) →
    ((x : X) (y : Y) → part x ≡ Ok y → IsComplete (next x)) → IsComplete (p >>= next)
complete_whole p part next h grows c = record {
  grows = λ b. omega (arith, h.grows b, whole_faults p.typed part (p.faults b), whole_grows p.typed next grows (p.faults b));
  typed = λ b n. whole_typed p.typed part next b (p.faults b) (omega (arith, h.grows b, whole_faults p.typed part (p.faults b))) (λ none. omega (arith, h.typed b none, whole_faults p.typed part (p.faults b))) grows c n;
}

first_typed : {X Y : Type 0} (o : Result X Fault) (part : X → Result Y Fault) → IsOk (then_typed o (λ x. kept (part x))) → IsOk o
first_typed (Err e) part is = is
first_typed (Ok x) part is = refl

-- it has a fault or is typed, whatever becomes of the part
pub complete_first : {X Y : Type 0} (p : Checked X) (part : X → Result Y Fault) → IsComplete (p >>= (λ x. kept (part x))) → IsComplete p
complete_first p part h = record {
  grows = λ b. omega (arith, h.grows b, whole_faults p.typed part (p.faults b));
  typed = λ b n. omega (arith, h.typed b (λ is. n (first_typed p.typed part is)), whole_faults p.typed part (p.faults b));
}

with_second_typed : {X Z : Type 0} (x : X) (o : Result Z Fault) → IsOk (with_second x o) → IsOk o
with_second_typed x (Err e) is = is
with_second_typed x (Ok z) is = refl

second_typed : {X Y Z : Type 0} (o : Result X Fault) (q : Result Y Fault) (part : Y → Result Z Fault) → IsOk (pair_of o (then_typed q (λ y. kept (part y)))) → IsOk (then_typed (pair_of o q) (λ r. kept (part r.1)))
second_typed (Err e) q part is = is
second_typed (Ok x) (Err e) part is = is
second_typed (Ok x) (Ok y) part is = with_second_typed x (part y) is

-- another piece before it changes nothing in that
pub complete_second : {X Y Z : Type 0} (p : Checked X) (q : Checked Y) (part : Y → Result Z Fault) → IsComplete p → IsComplete (q >>= (λ y. kept (part y))) → IsComplete (both p q >>= (λ r. kept (part r.1)))
complete_second p q part h g =
    let all = complete_both p (q >>= (λ y. kept (part y))) h g in
    let same = λ (b : List Fault). whole_faults q.typed part (q.faults (p.faults b)) in
    let last = λ (b : List Fault). whole_faults (pair_of p.typed q.typed) (λ r. part r.1) (q.faults (p.faults b)) in
    record {
      grows = λ b. omega (arith, all.grows b, same b, last b);
      typed = λ b n. omega (arith, all.typed b (λ is. n (second_typed p.typed q.typed part is)), same b, last b);
    }

beside_typed : {X Y V Z : Type 0} (o : Result X Fault) (q : Result Y Fault) (made : X → Result Y Fault → V) (part : V → Result Z Fault) → ((x : X) (y : Y) → IsOk (part (made x (Ok y)))) → IsOk (pair_of o q) →
    IsOk (then_typed (with_outcome o q) (λ r. kept (part (made r.0 r.1))))
beside_typed (Err e) q made part c is = is
beside_typed (Ok x) (Err e) made part c is = absurd (cc)
beside_typed (Ok x) (Ok y) made part c is = c x y

beside_faults : {X Y V Z : Type 0} (o : Result (X × Result Y Fault) Fault) (made : X → Result Y Fault → V) (part : V → Result Z Fault) (b : List Fault) → length (then_faults o (λ r. kept (part (made r.0 r.1))) b) ≡ length b
beside_faults (Err e) made part b = refl
beside_faults (Ok r) made part b = refl

pub beside_whole : {X Y V Z : Type 0} (p : Checked X) (next : Result X Fault → Checked Y) (made : X → Result Y Fault → V) (part : V → Result Z Fault) → ((x : X) (y : Y) → IsOk (part (made x (Ok y)))) → IsComplete p → ((o : Result X Fault) → IsComplete (next o)) →
    IsComplete (beside p next >>= (λ r. kept (part (made r.0 r.1))))
beside_whole p next made part there h c =
    let q = next p.typed in
    let all = complete_both p q h (c p.typed) in
    record {
      grows = λ b. omega (arith, all.grows b, beside_faults (with_outcome p.typed q.typed) made part (q.faults (p.faults b)));
      typed = λ b n. omega (arith, all.typed b (λ is. n (beside_typed p.typed q.typed made part there is)), beside_faults (with_outcome p.typed q.typed) made part (q.faults (p.faults b)));
    }

pub complete_if : {X : Type 0} (t : Bool) (p q : Checked X) → IsComplete p → IsComplete q → IsComplete (if t then p else q)
complete_if true p q h g = h
complete_if false p q h g = g
