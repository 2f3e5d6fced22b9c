-- Whether a class is sound is decided, and which rule is the first that it does not keep.
use Rattle.std.proofs.Common.{◌≡◌, ◌∙◌, ℕ, zero, suc, ◌+◌, ◌<◌, ◌≤◌, ◌⊎◌, ⊎_elim, inl, inr, Bool, true, false, Option, Some, None, List, [], ◌∷◌, ◌++◌, length, refl, sym, ap, subst, arith}
use Rattle.std.specs.Prelude.{◌↔◌, IsTrue, slice_get, Contains}
use Rattle.std.specs.List.{list_all, filter_map}
use Rattle.std.proofs.lemmas.Bool.{cases_lt}
use Rattle.std.proofs.lemmas.Option.{slice_get_within}
use Rattle.foundation.proofs.Truth.{never, always, not_both}
use Rattle.foundation.proofs.Deciding.{Decided, HasSome, HasBelow, decide_flag, decide_number, decide_any, decide_below, decide_has_below, decide_both}
use Rattle.foundation.proofs.Members.{Has, has_from_contains, contains_from_has}
use Rattle.foundation.proofs.Places.{get_within, get_none}
use Rattle.cxx_hierarchy.specs.declared.records.ClassId.{ClassId}
use Rattle.cxx_hierarchy.specs.declared.records.Base.{Base}
use Rattle.cxx_hierarchy.specs.Classes.{Class, Classes, class_at, bases_of}
use Rattle.cxx_hierarchy.specs.Declarations.{has_virtual_function}
use Rattle.cxx_hierarchy.specs.Hierarchies.{IsHierarchy}
use Rattle.cxx_hierarchy.specs.VirtualBases.{IsDirectBase, HasVirtualBase}
use Rattle.cxx_subobject.specs.declared.Subobject.{Subobject}
use Rattle.cxx_subobject.specs.Subobjects.{IsSubobject}
use Rattle.cxx_subobject.specs.Preorder.{preorder}
use Rattle.cxx_subobject.proofs.DecidingLemmas.{decide_class, decide_virtual_base}
use Rattle.cxx_subobject.proofs.TreeLemmas.{preorder_has, has_preorder}
use Rattle.abi_primary.specs.declared.Primary.{Primary}
use Rattle.abi_primary.specs.declared.Primary.TheVariants.{None as NoPrimary, Direct, Virtual}
use Rattle.abi_primary.specs.Kinds.{IsDynamic, declares, shares, inherits, TellDynamicTo, TellDynamic}
use Rattle.abi_primary.proofs.FlagLemmas.{flags_none, flags_push}
use Rattle.abi_sound.specs.declared.class_layout.ClassLayout.{ClassLayout}
use Rattle.abi_sound.specs.Places.{Places, places_of, size_in_row}
use Rattle.abi_sound.specs.Chains.{primary_part}
use Rattle.abi_judge.specs.declared.rules.SoundRule.{SoundRule}
use Rattle.abi_judge.specs.declared.rules.SoundRule.TheVariants.{Primary as PrimaryRule, Place, Align, Inside, Overlap, Twice}
use Rattle.abi_judge.specs.declared.apart.BitSpan.{BitSpan}
use Rattle.abi_judge.specs.declared.things.Thing.{Thing}
use Rattle.abi_judge.specs.Rules.{HasFirstHolders, KeepsPrimary, KeepsPlace, IsFault, MayBeJudged}
use Rattle.abi_judge.specs.invariants.Apart.{EachTwo, LieApart, Differ}
use Rattle.abi_judge.specs.invariants.Things.{Setting, is_fit, fits_in_size, span_in, key_in}
use Rattle.abi_judge.specs.invariants.Places.{LiesAtPrimary, AreWellPlaced, AreInside, ShareNone, LieOnce, IsFaultOfThings}
use Rattle.abi_judge.proofs.Fits.{all_things}
use Rattle.abi_judge.proofs.Judged.{dynamic_known, no_primary, direct_primary, virtual_primary, fails_primary, fails_place, from_things, known_to}

-- whether a class is dynamic

-- a base that makes its class dynamic
abbrev MakesDynamic : Classes → Base ClassId → Type 0
MakesDynamic h base = (base.is_virtual ≡ true) ⊎ IsDynamic h base.class

by_base : (h : Classes) (c : ClassId) (base : Base ClassId) → Contains (bases_of h c) base → MakesDynamic h base → IsDynamic h c
by_base h c base listed (inl way) = shares c base.class (record { base = base; listed = listed; class = refl; way = way })
by_base h c base listed (inr inner) = inherits c base.class base.is_virtual (record { base = base; listed = listed; class = refl; way = refl }) inner

not_dynamic : (h : Classes) (c : ClassId) (class : Class) → class_at h c ≡ Some class → has_virtual_function class ≡ false → ((base : Base ClassId) → Has (bases_of h c) base → MakesDynamic h base → ⊥) → IsDynamic h c → ⊥
not_dynamic h _ class e off none (declares c other there virtual) =
    let both : Some class ≡ Some other = sym e ∙ there in
    let same : class ≡ other = cc in
    not_both virtual (ap has_virtual_function (sym same) ∙ off)
not_dynamic h _ class e off none (shares c b edge) = none edge.base (has_from_contains (bases_of h c) edge.base edge.listed) (inl edge.way)
not_dynamic h _ class e off none (inherits c b way edge inner) = none edge.base (has_from_contains (bases_of h c) edge.base edge.listed) (inr (subst (λ (d : ClassId). IsDynamic h d) (sym edge.class) inner))

pub dynamic_decided : (h : Classes) → IsHierarchy h → (n : ℕ) (c : ClassId) → c.0 < n → Decided (IsDynamic h c)
dynamic_decided h keeps zero c low = absurd (omega arith)
dynamic_decided h keeps (suc n) c low = by_class (class_at h c) refl (λ d less. dynamic_decided h keeps n d less)
  where
    by_flag : (class : Class) → class_at h c ≡ Some class → ((d : ClassId) → d.0 < n → Decided (IsDynamic h d)) → (flag : Bool) → has_virtual_function class ≡ flag → Decided (IsDynamic h c)
    by_flag class e inner true on = inl (declares c class e on)
    by_flag class e inner false off = ⊎_elim
        (λ k. inl (by_base h c k.item (contains_from_has (bases_of h c) k.item k.listed) k.is))
        (λ none. inr (not_dynamic h c class e off none))
        (decide_any (MakesDynamic h) (bases_of h c) (λ base has.
        let less = keeps.bases c base (contains_from_has (bases_of h c) base has) in
        ⊎_elim
        (λ on. inl (inl on))
        (λ off. ⊎_elim (λ is. inl (inr is)) (λ not. inr (λ makes. ⊎_elim off not makes)) (inner base.class (omega arith)))
        (decide_flag base.is_virtual)))

    by_class : (class : Option Class) → class_at h c ≡ class → ((d : ClassId) → d.0 < n → Decided (IsDynamic h d)) → Decided (IsDynamic h c)
    by_class None e inner = inr (λ is. let known = dynamic_known h c is in let past = get_none h c.0 e in absurd (omega arith))
    by_class (Some class) e inner = by_flag class e inner (has_virtual_function class) refl

flag_for : {P : Type 0} → Decided P → (flag : Bool) × (IsTrue flag ↔ P)
flag_for (inl is) = (true, always is)
flag_for (inr not) = (false, never not)

-- there are flags that tell which classes are dynamic
flags_to : (h : Classes) → IsHierarchy h → (n : ℕ) → (flags : List Bool) × TellDynamicTo n h flags
flags_to h keeps zero = ([], flags_none h [] refl)
flags_to h keeps (suc n) =
    let before = flags_to h keeps n in
    let flag = flag_for (dynamic_decided h keeps (suc n) (record { 0 = n }) (omega arith)) in
    let one : n + 1 ≡ suc n = omega arith in
    (before.0 ++ flag.0 ∷ [], subst (λ (k : ℕ). TellDynamicTo k h (before.0 ++ flag.0 ∷ [])) one (flags_push n h before.0 (before.0 ++ flag.0 ∷ []) flag.0 flag.1 refl before.1))

-- the two first rules

direct_decided : (h : Classes) (c b : ClassId) → Decided (IsDirectBase h c false b)
direct_decided h c b = ⊎_elim
    (λ k. inl (record { base = k.item; listed = contains_from_has (bases_of h c) k.item k.listed; class = k.is.0; way = k.is.1 }))
    (λ none. inr (λ edge. none edge.base (has_from_contains (bases_of h c) edge.base edge.listed) (edge.class, edge.way)))
    (decide_any (λ (base : Base ClassId). (base.class ≡ b) × (base.is_virtual ≡ false)) (bases_of h c) (λ base has. decide_both (decide_class base.class b) (decide_off base.is_virtual)))
  where
    decide_off : (flag : Bool) → Decided (flag ≡ false)
    decide_off true = inr (λ e. cc)
    decide_off false = inl refl

primary_decided : (h : Classes) → IsHierarchy h → (l : Places) (c : ClassId) → HasFirstHolders h l c → Decided (KeepsPrimary h l c)
primary_decided h keeps l c held = by_primary (l.primary c) refl
  where
    by_primary : (primary : Primary) → l.primary c ≡ primary → Decided (KeepsPrimary h l c)
    by_primary NoPrimary e = inl (no_primary h l c held e)
    by_primary (Direct b) e = ⊎_elim
        (λ both. inl (direct_primary h l c b held e both.0 both.1))
        (λ not. inr (λ k. not (k.direct b e)))
        (decide_both (direct_decided h c b) (dynamic_decided h keeps (suc b.0) b (omega arith)))
    by_primary (Virtual v) e = ⊎_elim
        (λ both. inl (virtual_primary h l c v held e both.0 both.1))
        (λ not. inr (λ k. not (k.virtual v e)))
        (decide_both (decide_virtual_base h keeps c v) (dynamic_decided h keeps (suc v.0) v (omega arith)))

-- all items of a list are so, or one is not
all_decided : {X : Type 0} (P : X → Type 0) (xs : List X) → ((x : X) → Has xs x → Decided (P x)) → ((x : X) → Has xs x → P x) ⊎ HasSome (λ (x : X). P x → ⊥) xs
all_decided P [] decide = inl (λ x has. absurd has)
all_decided {X} P (y ∷ ys) decide = ⊎_elim
    (λ is. ⊎_elim
    (λ each. inl (λ x has. ⊎_elim (λ e. subst (λ (z : X). P z) e is) (λ rest. each x rest) has))
    (λ k. inr (record { item = k.item; listed = inr k.listed; is = k.is }))
    (all_decided P ys (λ x has. decide x (inr has))))
    (λ not. inr (record { item = y; listed = inl refl; is = not }))
    (decide y (inl refl))

lies_decided : (l : Places) (c : ClassId) (s : Subobject) → Decided (LiesAtPrimary l c s)
lies_decided l c s = by_part (primary_part l c s) refl
  where
    by_part : (part : Option Subobject) → primary_part l c s ≡ part → Decided (LiesAtPrimary l c s)
    by_part None e = inl (record { same = λ t step. let none : None ≡ Some t = sym e ∙ step in absurd (cc) })
    by_part (Some u) e = ⊎_elim
        (λ at. inl (record {
          same = λ t step.
              let both : Some u ≡ Some t = sym e ∙ step in
              let one : u ≡ t = cc in
              subst (λ (x : Subobject). l.place c x ≡ l.place c s) one at;
        }))
        (λ not. inr (λ lies. not (lies.same u e)))
        (decide_number (l.place c u) (l.place c s))

place_decided : (h : Classes) → IsHierarchy h → (l : Places) (c : ClassId) → Decided (KeepsPlace h l c)
place_decided h keeps l c = ⊎_elim
    (λ none. inr (λ k. let some = k.positive in absurd (omega arith)))
    (λ some. ⊎_elim
    (λ each. inl (record { positive = positive (l.size c) some; one_place = λ s t valid step. (each s (preorder_has h c keeps s valid)).same t step }))
    (λ k. inr (λ rule. k.is (record { same = λ t step. rule.one_place k.item t (has_preorder h c k.item k.listed) step })))
    (all_decided (LiesAtPrimary l c) (preorder h c) (λ s has. lies_decided l c s)))
    (decide_number (l.size c) 0)
  where
    positive : (n : ℕ) → (n ≡ 0 → ⊥) → 1 ≤ n
    positive zero some = absurd (some refl)
    positive (suc n) some = omega arith

-- the rules on things

-- two items of a list that are not in a relation
record IsBroken {X : Type 0} (R : X → X → Type 0) (xs : List X) (i j : ℕ) : Type 0 where
  first : X
  second : X
  differs : i ≡ j → ⊥
  at_first : slice_get xs i ≡ Some first
  at_second : slice_get xs j ≡ Some second
  broken : R first second → ⊥

broken_decided : {X : Type 0} (R : X → X → Type 0) → ((x y : X) → Decided (R x y)) → (xs : List X) (i j : ℕ) → i < length xs → j < length xs → Decided (IsBroken R xs i j)
broken_decided {X} R decide xs i j low less = ⊎_elim
    (λ same. inr (λ b. b.differs same))
    (λ differs.
    let x = get_within xs i low in
    let y = get_within xs j less in
    ⊎_elim
    (λ is. inr (λ b.
    let ex : Some x.0 ≡ Some b.first = sym x.1 ∙ b.at_first in
    let ey : Some y.0 ≡ Some b.second = sym y.1 ∙ b.at_second in
    let sx : x.0 ≡ b.first = cc in
    let sy : y.0 ≡ b.second = cc in
    b.broken (subst (λ (z : X). R b.first z) sy (subst (λ (z : X). R z y.0) sx is))))
    (λ not. inl (record { first = x.0; second = y.0; differs = differs; at_first = x.1; at_second = y.1; broken = not }))
    (decide x.0 y.0))
    (decide_number i j)

each_two_decided : {X : Type 0} (R : X → X → Type 0) → ((x y : X) → Decided (R x y)) → (xs : List X) → Decided (EachTwo R xs)
each_two_decided {X} R decide xs = ⊎_elim
    (λ k. inr (λ all. let b = k.is.is in b.broken (all.each k.number k.is.number b.first b.second b.differs b.at_first b.at_second)))
    (λ none. inl (record {
      each = λ i j x y differs e f.
          let low = slice_get_within xs i x e in
          let less = slice_get_within xs j y f in
          ⊎_elim (λ is. is) (λ not. absurd (none i low (record { number = j; below = less; is = record { first = x; second = y; differs = differs; at_first = e; at_second = f; broken = not } }))) (decide x y);
    }))
    (decide_below (λ i. HasBelow (λ j. IsBroken R xs i j) (length xs)) (length xs) (λ i low. decide_has_below (λ j. IsBroken R xs i j) (length xs) (λ j less. broken_decided R decide xs i j low less)))

less_decided : (m n : ℕ) → Decided (m ≤ n)
less_decided m n = ⊎_elim (λ less. inr (λ more. omega arith)) (λ more. inl more) (cases_lt n m)

apart_decided : (a b : BitSpan) → Decided (LieApart a b)
apart_decided a b = ⊎_elim
    (λ before. inl (inl before))
    (λ not. ⊎_elim (λ after. inl (inr after)) (λ neither. inr (λ either. ⊎_elim not neither either)) (less_decided (b.start + b.length) a.start))
    (less_decided (a.start + a.length) b.start)

pair_equal : (x y : ℕ × ℕ) → x.0 ≡ y.0 → x.1 ≡ y.1 → x ≡ y
pair_equal x y e f =
    let make : ℕ → ℕ → ℕ × ℕ = λ a b. (a, b) in
    ap (λ (n : ℕ). make n x.1) e ∙ ap (make y.0) f

differ_decided : (x y : ℕ × ℕ) → Decided (Differ x y)
differ_decided x y = ⊎_elim
    (λ first. ⊎_elim
    (λ second. inr (λ differ. differ (pair_equal x y first second)))
    (λ not. inl (λ same. not (ap (λ (p : ℕ × ℕ). p.1) same)))
    (decide_number x.1 y.1))
    (λ not. inl (λ same. not (ap (λ (p : ℕ × ℕ). p.0) same)))
    (decide_number x.0 y.0)

-- what the first rule is that the things in an object do not keep
things_fault : (size : ℕ) (things : List Thing) → (fault : Option SoundRule) × IsFaultOfThings size things fault
things_fault size things = ⊎_elim
    (λ fit. ⊎_elim
    (λ inside. ⊎_elim
    (λ apart. ⊎_elim
    (λ once. (None, (fit, inside, apart, once)))
    (λ twice. (Some Twice, (fit, inside, apart, twice)))
    (each_two_decided Differ differ_decided (filter_map key_in things)))
    (λ shared. (Some Overlap, (fit, inside, shared)))
    (each_two_decided LieApart apart_decided (filter_map span_in things)))
    (λ outside. (Some Inside, (fit, outside)))
    (decide_flag (list_all (fits_in_size size) things)))
    (λ unfit. (Some Align, unfit))
    (decide_flag (list_all is_fit things))

-- a class that is next has a first rule that it does not keep, or none
pub some_fault : (h : Classes) → IsHierarchy h → (rows : List ClassLayout) (c : ClassId) → MayBeJudged h rows c → (fault : Option SoundRule) × IsFault h (places_of h rows) c fault
some_fault h keeps rows c next = ⊎_elim
    (λ primary. ⊎_elim
    (λ place.
    let flags = flags_to h keeps (length h) in
    let x : Setting = record { h = h; l = places_of h rows; dynamic = flags.0 } in
    let long = next.full.one_each in
    let low = next.known in
    let row = get_within rows c.0 (omega arith) in
    let few : (places_of h rows).size c ≤ 1048576 = subst (λ (o : Option ClassLayout). size_in_row o ≤ 1048576) (sym row.1) (next.small c.0 row.0 row.1).size in
    let of = things_fault ((places_of h rows).size c) (all_things x c) in
    (of.0, from_things x c (known_to h (places_of h rows) c keeps next.before primary place) flags.1 few of.0 of.1))
    (λ broken. (Some Place, fails_place h (places_of h rows) c primary broken))
    (place_decided h keeps (places_of h rows) c))
    (λ broken. (Some PrimaryRule, fails_primary h (places_of h rows) c broken))
    (primary_decided h keeps (places_of h rows) c next.held)
