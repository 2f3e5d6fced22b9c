-- Returns of overriding functions.
use Rattle.std.proofs.Common.{◌≡◌, ℕ, ◌+◌, ◌<◌, ◌↔◌, ⊎_elim, Bool, true, false, Option, Some, None, MatchOption, length, refl, ap, subst, sym, ◌∙◌, arith}
use Rattle.std.specs.Prelude.{◌||◌, nat_lt, not}
use Rattle.foundation.proofs.Truth.{or_left, or_right}
use Rattle.std.proofs.lemmas.Bool.{or_cases, ltb-true, lt-ltb, cases_lt}
use Rattle.cxx_hierarchy.specs.declared.records.ClassId.{ClassId}
use Rattle.cxx_hierarchy.specs.declared.records.ReturnType.{ReturnType}
use Rattle.cxx_hierarchy.specs.declared.stop.Rule.TheVariants.{ReturnMismatch, IncompleteClass, AmbiguousCovariant}
use Rattle.cxx_hierarchy.specs.Classes.{Classes}
use Rattle.cxx_hierarchy.specs.Hierarchies.{IsHierarchy}
use Rattle.cxx_subobject.specs.Subobjects.{class_of, join}
use Rattle.cxx_subobject.proofs.InsideLemmas.{join_valid, join_class}
use Rattle.cxx_subobject.proofs.PathLemmas.{same_id, smaller}
use Rattle.cxx_overrider.specs.declared.FunctionId.{FunctionId}
use Rattle.cxx_overrider.specs.declared.tables.Tables.{Tables}
use Rattle.cxx_overrider.specs.declared.covariance.ReturnFaults.{ReturnFaults}
use Rattle.cxx_overrider.specs.Functions.{Signature, signature_of, return_of}
use Rattle.cxx_overrider.specs.Overriding.{HasPart, HasVirtual}
use Rattle.cxx_overrider.specs.invariants.Numbers.{number_of, IsNumberOf}
use Rattle.cxx_overrider.specs.invariants.Marks.{mark_of, HasMarkedBase}
use Rattle.cxx_overrider.specs.invariants.Tables.{AreTables}
use Rattle.cxx_overrider.specs.Covariance.{pointer_to, Overrides, IsCovariant, HasMismatch, HasIncompleteReturn, HasAmbiguousReturn, IsAmbiguousBase, IsMismatch, IsIncompleteReturn, IsAmbiguousReturn, HasOverridden}
use Rattle.cxx_overrider.specs.invariants.ReturnFlags.{no_faults, merged_faults, AreFaultsBetween, HasOverriddenIn, AreFaults, HasFineReturn, IsReturnFault, mismatch, incomplete, ambiguous}
use Rattle.cxx_overrider.proofs.Numbering.{same_function}
use Rattle.cxx_overrider.proofs.MarkLemmas.{number_says, says_number, PartBelow, part_down}

-- two returns
pub same_pointee : (t : ReturnType ClassId) (x y : ClassId) → t ≡ pointer_to x → t ≡ pointer_to y → x ≡ y
same_pointee t x y a b = cc

pub covariant_faults : (h : Classes) (c : ClassId) (t u : ReturnType ClassId) (x y : ClassId) (b : Bool) → IsCovariant h t u x y → (b ≡ true) ↔ IsAmbiguousBase h x y → AreFaultsBetween h c t u (record { mismatch = false; incomplete = nat_lt c.0 x.0; ambiguous = b })
covariant_faults h c t u x y b k is = record {
  mismatch = (λ e. cc, λ m. absurd (m.unrelated x y k));
  incomplete = (
    λ e. record { x = x; y = y; covariant = k; late = ltb-true c.0 x.0 e },
    λ l. let same : l.x ≡ x = same_pointee t l.x x l.covariant.derived k.derived in lt-ltb c.0 x.0 (subst (λ (z : ClassId). c.0 < z.0) same l.late),
  );
  ambiguous = (
    λ e. record { x = x; y = y; covariant = k; ambiguous = is.0 e },
    λ a.
        let sx : a.x ≡ x = same_pointee t a.x x a.covariant.derived k.derived in
        let sy : a.y ≡ y = same_pointee u a.y y a.covariant.base k.base in
        is.1 (subst (λ (z : ClassId). IsAmbiguousBase h x z) sy (subst (λ (z : ClassId). IsAmbiguousBase h z a.y) sx a.ambiguous)),
  );
}

pub other_faults : (h : Classes) (c : ClassId) (t u : ReturnType ClassId) (b : Bool) → ((x y : ClassId) → IsCovariant h t u x y → ⊥) → (b ≡ true) ↔ (t ≡ u) → AreFaultsBetween h c t u (record { mismatch = not b; incomplete = false; ambiguous = false })
other_faults h c t u true none is = record {
  mismatch = (λ e. cc, λ m. absurd (m.differ (is.0 refl)));
  incomplete = (λ e. cc, λ l. absurd (none l.x l.y l.covariant));
  ambiguous = (λ e. cc, λ a. absurd (none a.x a.y a.covariant));
}
other_faults h c t u false none is = record {
  mismatch = (λ e. record { differ = λ same. let f : false ≡ true = is.1 same in cc; unrelated = none }, λ m. refl);
  incomplete = (λ e. cc, λ l. absurd (none l.x l.y l.covariant));
  ambiguous = (λ e. cc, λ a. absurd (none a.x a.y a.covariant));
}

-- a base of a base is a base
pub part_part : (h : Classes) (c d e : ClassId) → HasPart h c d → HasPart h d e → HasPart h c e
part_part h c d e a b = record {
  part = join a.part b.part;
  valid = join_valid h c d a.part b.part a.valid a.class b.valid;
  class = join_class h d a.part b.part a.class b.valid ∙ b.class;
}

pub virtual_part : (h : Classes) (c d : ClassId) (s : Signature) → HasPart h c d → HasVirtual h d s → HasVirtual h c s
virtual_part h c d s a v = record { source = v.source; same = v.same; says = v.says; base = part_part h c d v.source.class a v.base }

pub part_before : (h : Classes) → IsHierarchy h → (c d : ClassId) → HasPart h c d → (d ≡ c → ⊥) → d.0 < c.0
part_before h keeps c d k differ = ⊎_elim
    (λ e. absurd (let f : Some c ≡ Some d = sym (ap class_of e) ∙ k.class in differ (let g : d ≡ c = cc in g)))
    (λ lt. lt)
    (smaller h keeps c d k.part k.valid k.class)

-- overridden functions
overridden_virtual : (h : Classes) (f g : FunctionId) → (o : Overrides h f g) → HasVirtual h g.class o.signature
overridden_virtual h f g o =
    let same : o.is_virtual.signature ≡ o.signature = let a = o.is_virtual.is in let b = o.of_g in cc in
    subst (λ (x : Signature). HasVirtual h g.class x) same o.is_virtual.source

module _ (h : Classes) (keeps : IsHierarchy h) (tables : Tables) (are : AreTables h tables) (f : FunctionId) (known : f.class.0 < length h) (n : ℕ) (number : number_of tables.numbering.rows.items f ≡ Some n) where
  number_is : (g : FunctionId) → (o : Overrides h f g) → IsNumberOf h tables.numbering.rows.items n o.signature
  number_is g o = record { function = f; number = number; is = o.of_f }

  marked_there : (g : FunctionId) → (o : Overrides h f g) → g.class.0 < f.class.0 → mark_of tables.virtuals.items g.class n ≡ true
  marked_there g o lt = let all = are.all_virtuals in (are.virtuals.each g.class n o.signature (omega arith) (number_is g o)).1 (overridden_virtual h f g o)

  pub before_class : (g : FunctionId) → Overrides h f g → g.class.0 < f.class.0
  before_class g o = part_before h keeps f.class g.class o.base o.proper

  pub unmarked : (d : ClassId) (b : Bool) → b ≡ mark_of tables.virtuals.items d n → b ≡ false → (g : FunctionId) → g.class ≡ d → Overrides h f g → ⊥
  unmarked d b is no_mark g class o =
      let marked = marked_there g o (before_class g o) in
      let same : mark_of tables.virtuals.items g.class n ≡ mark_of tables.virtuals.items d n = ap (λ (x : ClassId). mark_of tables.virtuals.items x n) class in cc

  pub no_part : (d : ClassId) (b : Bool) → (b ≡ true) ↔ HasPart h f.class d → b ≡ false → (g : FunctionId) → g.class ≡ d → Overrides h f g → ⊥
  no_part d b is out g class o = let there : b ≡ true = is.1 (subst (λ (x : ClassId). HasPart h f.class x) class o.base) in cc

  pub own_overridden : (d : ClassId) (own : Option FunctionId) → d.0 < f.class.0 → mark_of tables.virtuals.items d n ≡ true → HasPart h f.class d → MatchOption own ((g : FunctionId) → g.class ≡ d → number_of tables.numbering.rows.items g ≡ Some n → ⊥) (λ g. (g.class ≡ d) × (number_of tables.numbering.rows.items g ≡ Some n)) → MatchOption own ((g : FunctionId) → g.class ≡ d → Overrides h f g → ⊥) (λ g. (g.class ≡ d) × Overrides h f g)
  own_overridden d None before marked part none = λ g class o. none g class (says_number h tables.numbering.rows.items tables.numbering.count n o.signature g are.numbering (number_is g o) o.of_g)
  own_overridden d (Some g) before marked part has =
      let s = are.numbering.known f n number in
      let k : IsNumberOf h tables.numbering.rows.items n s.0 = record { function = f; number = number; is = s.1 } in
      let same = number_says h tables.numbering.rows.items tables.numbering.count n s.0 g are.numbering k has.1 in
      let all = are.all_virtuals in
      let v = (are.virtuals.each d n s.0 (omega arith) k).0 marked in (
        has.0,
        record {
          signature = s.0;
          of_f = s.1;
          of_g = same;
          base = subst (λ (x : ClassId). HasPart h f.class x) (sym has.0) part;
          proper = λ e. let i : g.class.0 ≡ d.0 = ap (λ (x : ClassId). x.0) has.0 in let j : g.class.0 ≡ f.class.0 = ap (λ (x : ClassId). x.0) e in omega arith;
          is_virtual = record { signature = s.0; is = same; source = subst (λ (x : ClassId). HasVirtual h x s.0) (sym has.0) v };
        },
      )

  pub no_base : (b : Bool) → (b ≡ true) ↔ HasMarkedBase h tables.virtuals.items f.class n → b ≡ false → (g : FunctionId) → Overrides h f g → ⊥
  no_base b is out g o = ⊎_elim
      (λ e. o.proper (sym e))
      (λ (p : PartBelow h f.class g.class).
      let lt = keeps.bases f.class p.0 p.1 in
      let all = are.all_virtuals in
      let v = virtual_part h p.0.class g.class o.signature p.2 (overridden_virtual h f g o) in
      let marked = (are.virtuals.each p.0.class n o.signature (omega arith) (number_is g o)).1 v in
      let there : b ≡ true = is.1 (record { base = p.0; listed = p.1; marked = marked }) in cc)
      (part_down h f.class g.class o.base)

-- flags
pub none_faults : (h : Classes) (f : FunctionId) (Among : ClassId → Type 0) → ((g : FunctionId) → Overrides h f g → Among g.class → ⊥) → AreFaults h f Among no_faults
none_faults h f Among none = record { mismatch = flag (IsMismatch h); incomplete = flag (IsIncompleteReturn h f.class); ambiguous = flag (IsAmbiguousReturn h) }
  where
    flag : (P : ReturnType ClassId → ReturnType ClassId → Type 0) → (false ≡ true) ↔ HasOverriddenIn h f Among P
    flag P = (λ e. cc, λ k. absurd (none k.has.overridden k.has.overrides k.among))

-- the one function of the class
one_flag : (h : Classes) → IsHierarchy h → (f g : FunctionId) (t u : ReturnType ClassId) (d : ClassId) (P : ReturnType ClassId → ReturnType ClassId → Type 0) (b : Bool) → g.class ≡ d → Overrides h f g → return_of h f ≡ Some t → return_of h g ≡ Some u → (b ≡ true) ↔ P t u → (b ≡ true) ↔ HasOverriddenIn h f (λ x. x ≡ d) P
one_flag h keeps f g t u d P b class o et eu is = (
  λ e. record { has = record { overridden = g; overrides = o; t = t; u = u; returns = et; returned = eu; is = is.0 e }; among = class },
  λ found.
      let k = found.has in
      let sig : k.overrides.signature ≡ o.signature = let x = k.overrides.of_f in let y = o.of_f in cc in
      let own : signature_of h k.overridden ≡ Some o.signature = k.overrides.of_g ∙ ap (λ x. Some x) sig in
      let one : k.overridden ≡ g = same_function h keeps k.overridden g o.signature (found.among ∙ sym class) own o.of_g in
      let st : k.t ≡ t = let x = k.returns in cc in
      let su : k.u ≡ u = let x = k.returned in let y : return_of h k.overridden ≡ return_of h g = ap (return_of h) one in cc in
      is.1 (subst (λ (x : ReturnType ClassId). P t x) su (subst (λ (x : ReturnType ClassId). P x k.u) st k.is)),
)

pub one_faults : (h : Classes) → IsHierarchy h → (f g : FunctionId) (t u : ReturnType ClassId) (d : ClassId) (r : ReturnFaults) → g.class ≡ d → Overrides h f g → return_of h f ≡ Some t → return_of h g ≡ Some u → AreFaultsBetween h f.class t u r → AreFaults h f (λ x. x ≡ d) r
one_faults h keeps f g t u d r class o et eu is = record {
  mismatch = one_flag h keeps f g t u d (IsMismatch h) r.mismatch class o et eu is.mismatch;
  incomplete = one_flag h keeps f g t u d (IsIncompleteReturn h f.class) r.incomplete class o et eu is.incomplete;
  ambiguous = one_flag h keeps f g t u d (IsAmbiguousReturn h) r.ambiguous class o et eu is.ambiguous;
}

-- one more class
more_flag : (h : Classes) (f : FunctionId) (count : ℕ) (d : ClassId) (P : ReturnType ClassId → ReturnType ClassId → Type 0) (a b : Bool) → d.0 ≡ count → (a ≡ true) ↔ HasOverriddenIn h f (λ x. x.0 < count) P → (b ≡ true) ↔ HasOverriddenIn h f (λ x. x ≡ d) P → ((a || b) ≡ true) ↔ HasOverriddenIn h f (λ x. x.0 < count + 1) P
more_flag h f count d P a b at so_far more = (
  λ e. ⊎_elim
      (λ x. let k = so_far.0 x in let lt = k.among in record { has = k.has; among = omega arith })
      (λ x. let k = more.0 x in let same : k.has.overridden.class.0 ≡ d.0 = ap (λ (y : ClassId). y.0) k.among in record { has = k.has; among = omega arith })
      (or_cases a b e),
  λ k. let lt = k.among in ⊎_elim
      (λ small. or_left a b (so_far.1 (record { has = k.has; among = small })))
      (λ past. or_right a b (more.1 (record { has = k.has; among = same_id k.has.overridden.class d (omega arith) })))
      (cases_lt k.has.overridden.class.0 count),
)

pub more_faults : (h : Classes) (f : FunctionId) (count : ℕ) (d : ClassId) (a b : ReturnFaults) → d.0 ≡ count → AreFaults h f (λ x. x.0 < count) a → AreFaults h f (λ x. x ≡ d) b → AreFaults h f (λ x. x.0 < count + 1) (merged_faults a b)
more_faults h f count d a b at so_far more = record {
  mismatch = more_flag h f count d (IsMismatch h) a.mismatch b.mismatch at so_far.mismatch more.mismatch;
  incomplete = more_flag h f count d (IsIncompleteReturn h f.class) a.incomplete b.incomplete at so_far.incomplete more.incomplete;
  ambiguous = more_flag h f count d (IsAmbiguousReturn h) a.ambiguous b.ambiguous at so_far.ambiguous more.ambiguous;
}

-- from the flags to the rule
module _ (h : Classes) (keeps : IsHierarchy h) (f : FunctionId) (faults : ReturnFaults) (are : AreFaults h f (λ x. x.0 < f.class.0) faults) where
  before : (g : FunctionId) → Overrides h f g → g.class.0 < f.class.0
  before g o = part_before h keeps f.class g.class o.base o.proper

  no_flag : (P : ReturnType ClassId → ReturnType ClassId → Type 0) (b : Bool) → (b ≡ true) ↔ HasOverriddenIn h f (λ x. x.0 < f.class.0) P → b ≡ false → HasOverridden h f P → ⊥
  no_flag P b is not k = let there : b ≡ true = is.1 (record { has = k; among = before k.overridden k.overrides }) in cc

  no_mismatch_at : faults.mismatch ≡ false → HasMismatch h f → ⊥
  no_mismatch_at = no_flag (IsMismatch h) faults.mismatch are.mismatch

  no_incomplete_at : faults.incomplete ≡ false → HasIncompleteReturn h f → ⊥
  no_incomplete_at = no_flag (IsIncompleteReturn h f.class) faults.incomplete are.incomplete

  no_ambiguous_at : faults.ambiguous ≡ false → HasAmbiguousReturn h f → ⊥
  no_ambiguous_at = no_flag (IsAmbiguousReturn h) faults.ambiguous are.ambiguous

  pub first_mismatch : faults.mismatch ≡ true → IsReturnFault h f ReturnMismatch
  first_mismatch a = mismatch (are.mismatch.0 a).has

  pub first_incomplete : faults.mismatch ≡ false → faults.incomplete ≡ true → IsReturnFault h f IncompleteClass
  first_incomplete a b = incomplete (no_mismatch_at a) (are.incomplete.0 b).has

  pub first_ambiguous : faults.mismatch ≡ false → faults.incomplete ≡ false → faults.ambiguous ≡ true → IsReturnFault h f AmbiguousCovariant
  first_ambiguous a b d = ambiguous (no_mismatch_at a) (no_incomplete_at b) (are.ambiguous.0 d).has

  pub fine_return : faults.mismatch ≡ false → faults.incomplete ≡ false → faults.ambiguous ≡ false → HasFineReturn h f
  fine_return a b d = record { no_mismatch = no_mismatch_at a; complete = no_incomplete_at b; unambiguous = no_ambiguous_at d }
