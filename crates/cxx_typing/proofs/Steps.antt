-- A piece that rests on others is typed where each of them is.
use Rattle.std.proofs.Common.{◌≡◌, ◌⊎◌, ◌≤◌, Bool, true, false, Result, Ok, Err, IsOk, List, [], ◌∷◌, length, inl, inr, refl, sym, ◌∙◌, ap, subst, arith}
use Rattle.std.specs.Prelude.{if◌then◌else◌}
use Rattle.cxx_expression.specs.declared.faults.Fault.{Fault}
use Rattle.cxx_expression.specs.Checked.{Checked, then_typed, then_faults, ◌>>=◌, pair_of, both, with_outcome, beside}
use Rattle.cxx_expression.specs.Faults.{least, settled}
use Rattle.cxx_resolve.specs.Settled.{settle}
use Rattle.cxx_expression.specs.Laws.{IsComplete}

-- the first piece is typed, and the second that rests on it
pub then_both : {X Y : Type 0} (o : Result X Fault) (next : X → Checked Y) (y : Y) → then_typed o next ≡ Ok y → (x : X) × (o ≡ Ok x) × ((next x).typed ≡ Ok y)
then_both (Err f) next y e = absurd (cc)
then_both (Ok x) next y e = (x, refl, e)

-- two pieces of which none rests on the other
pub pair_both : {X Y : Type 0} (o : Result X Fault) (q : Result Y Fault) (r : X × Y) → pair_of o q ≡ Ok r → (o ≡ Ok r.0) × (q ≡ Ok r.1)
pair_both (Err f) q r e = absurd (cc)
pair_both (Ok x) (Err f) r e = absurd (cc)
pair_both {X = X} {Y = Y} (Ok x) (Ok y) r e = let f : (x, y) ≡ r = cc in (ap (λ (p : X × Y). Ok p.0) f, ap (λ (p : X × Y). Ok p.1) f)

pub choice : {X : Type 0} (t : Bool) (p q : Checked X) (x : X) → (if t then p else q).typed ≡ Ok x → ((t ≡ true) × (p.typed ≡ Ok x)) ⊎ ((t ≡ false) × (q.typed ≡ Ok x))
choice true p q x e = inl (refl, e)
choice false p q x e = inr (refl, e)

-- the piece is typed, and adds no fault to those before it
pub record IsClean {X : Type 0} (p : Checked X) (x : X) : Type 0 where
  pub typed : p.typed ≡ Ok x
  pub before : List Fault
  pub none : length (p.faults before) ≤ length before

clean_first : {X Y : Type 0} (o : Result X Fault) (next : X → Checked Y) (y : Y) (old new : List Fault) → ((x : X) (b : List Fault) → length b ≤ length ((next x).faults b)) → length old ≤ length new →
    then_typed o next ≡ Ok y → length (then_faults o next new) ≤ length old → (x : X) × (o ≡ Ok x) × IsClean (next x) y × (length new ≤ length old)
clean_first (Err f) next y old new c grows e few = absurd (cc)
clean_first (Ok x) next y old new c grows e few =
    let more = c x new in
    let fewer : length ((next x).faults new) ≤ length new = omega arith in
    (x, refl, record { typed = e; before = new; none = fewer }, omega arith)

-- the second piece adds faults at most
pub clean_rest : {X Y : Type 0} (p : Checked X) (next : X → Checked Y) (y : Y) → IsComplete p → ((x : X) (b : List Fault) → length b ≤ length ((next x).faults b)) → IsClean (p >>= next) y →
    (x : X) × IsClean p x × IsClean (next x) y
clean_rest p next y h c i =
    let r = clean_first p.typed next y i.before (p.faults i.before) c (h.grows i.before) i.typed i.none in
    (r.0, record { typed = r.1; before = i.before; none = r.3 }, r.2)

pub clean_both : {X Y : Type 0} (p : Checked X) (next : X → Checked Y) (y : Y) → IsComplete p → ((x : X) → IsComplete (next x)) → IsClean (p >>= next) y →
    (x : X) × IsClean p x × IsClean (next x) y
clean_both p next y h c i = clean_rest p next y h (λ x b. (c x).grows b) i

-- two pieces of which none rests on the other
pub clean_pair : {X Y : Type 0} (p : Checked X) (q : Checked Y) (r : X × Y) → IsComplete p → IsComplete q → IsClean (both p q) r → IsClean p r.0 × IsClean q r.1
clean_pair p q r h g i =
    let b = pair_both p.typed q.typed r i.typed in
    let more = h.grows i.before in
    let last = g.grows (p.faults i.before) in
    let few = i.none in
    let first : length (p.faults i.before) ≤ length i.before = omega arith in
    let second : length (q.faults (p.faults i.before)) ≤ length (p.faults i.before) = omega arith in
    (record { typed = b.0; before = i.before; none = first }, record { typed = b.1; before = p.faults i.before; none = second })

with_first : {X Y : Type 0} (o : Result X Fault) (q : Result Y Fault) (r : X × Result Y Fault) → with_outcome o q ≡ Ok r → (o ≡ Ok r.0) × (q ≡ r.1)
with_first (Err f) q r e = absurd (cc)
with_first {X = X} {Y = Y} (Ok x) q r e = let f : (x, q) ≡ r = cc in (ap (λ (p : X × Result Y Fault). Ok p.0) f, ap (λ (p : X × Result Y Fault). p.1) f)

typed_there : {Y : Type 0} (o : Result Y Fault) → ((IsOk o → ⊥) → ⊥) → (y : Y) × (o ≡ Ok y)
typed_there {Y = Y} (Err f) n = absurd (n (λ (is : IsOk {T = Y} (Err f)). cc))
typed_there (Ok y) n = (y, refl)

-- the second piece looks at the first; where neither has a fault, both are typed
pub clean_beside : {X Y : Type 0} (p : Checked X) (next : Result X Fault → Checked Y) (r : X × Result Y Fault) → IsComplete p → ((o : Result X Fault) → IsComplete (next o)) → IsClean (beside p next) r →
    IsClean p r.0 × ((y : Y) × (r.1 ≡ Ok y) × IsClean (next (Ok r.0)) y)
clean_beside {X = X} {Y = Y} p next r h c i =
    let b = with_first p.typed (next p.typed).typed r i.typed in
    let more = h.grows i.before in
    let last = (c p.typed).grows (p.faults i.before) in
    let few = i.none in
    let first : length (p.faults i.before) ≤ length i.before = omega arith in
    let second : length ((next p.typed).faults (p.faults i.before)) ≤ length (p.faults i.before) = omega arith in
    let t = typed_there (next p.typed).typed (λ n. let lost = (c p.typed).typed (p.faults i.before) n in omega arith) in (
      record { typed = b.0; before = i.before; none = first },
      (t.0, sym b.1 ∙ t.1, subst (λ (o : Result X Fault). IsClean (next o) t.0) b.0 (record { typed = t.1; before = p.faults i.before; none = second })),
    )

clean_by : {X : Type 0} (fs : List Fault) (o : Result X Fault) (x : X) → settled (least fs) o ≡ Ok x → (o ≡ Ok x) × (fs ≡ [])
clean_by [] (Err f) x e = absurd (cc)
clean_by [] (Ok y) x e = (cc, refl)
clean_by (f ∷ fs) o x e = absurd (cc)

-- a piece that comes to a value is typed to it without a fault
pub settled_clean : {X : Type 0} (p : Checked X) (x : X) → settle p ≡ Ok x → IsClean p x
settled_clean p x e =
    let r = clean_by (p.faults []) p.typed x e in
    let none = ap (λ (fs : List Fault). length fs) r.1 in
    record { typed = r.0; before = []; none = omega (arith, none) }
