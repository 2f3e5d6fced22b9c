-- The first fault of a class, and of a hierarchy, or that there is none.
use Rattle.std.proofs.Common.{◌≡◌, ℕ, zero, suc, ◌+◌, ◌<◌, ◌⊎◌, inl, inr, ⊎_elim, Option, Some, None, length, refl, ap, subst, sym, arith}
use Rattle.std.specs.List.{slice_get}
use Rattle.cxx_hierarchy.specs.declared.records.ClassId.{ClassId}
use Rattle.cxx_hierarchy.specs.declared.records.Function.{Function}
use Rattle.cxx_hierarchy.specs.declared.records.Member.{Member}
use Rattle.cxx_hierarchy.specs.declared.records.FieldType.{FieldType}
use Rattle.cxx_hierarchy.specs.declared.records.FieldType.TheVariants.{Value, Object}
use Rattle.cxx_hierarchy.specs.declared.stop.Stop.{Stop}
use Rattle.cxx_hierarchy.specs.declared.stop.Stop.TheVariants.{Refused, Limit}
use Rattle.cxx_hierarchy.specs.declared.stop.Rule.TheVariants.{ReturnMismatch, IncompleteClass, AmbiguousCovariant, TwoFinalOverriders, Abstract}
use Rattle.cxx_hierarchy.specs.declared.stop.LimitNo.TheVariants.{L5}
use Rattle.cxx_hierarchy.specs.Classes.{Class, Classes, class_at, members_of, functions_of, class_by_number}
use Rattle.cxx_hierarchy.specs.Hierarchies.{IsHierarchy}
use Rattle.cxx_subobject.specs.Parts.{IsWithinLimits}
use Rattle.cxx_overrider.specs.declared.FunctionId.{FunctionId}
use Rattle.cxx_overrider.specs.Overriding.{HasTwoFinalOverriders, IsAbstract}
use Rattle.cxx_overrider.specs.Covariance.{HasMismatch, HasIncompleteReturn, HasAmbiguousReturn}
use Rattle.cxx_overrider.specs.Virtuals.{function_at}
use Rattle.cxx_overrider.specs.Faults.{Spot, spot, IsBefore, Fault, too_large, mismatch, incomplete, ambiguous, two_overriders, abstract_member, IsFirstFault, HasNoFault, IsFirstFaultIn, HasNoFaultIn}
use Rattle.std.proofs.lemmas.Option.{slice_get_within}
use Rattle.std.proofs.lemmas.Bool.{cases_lt}
use Rattle.cxx_overrider.proofs.PassLemmas.{before_cases, HasAbstractMember, fault_known}
use Rattle.foundation.proofs.Deciding.{Decided, HasBelow, decide_has_below, first_below, decide_as, decide_number}
use Rattle.cxx_overrider.proofs.MeaningDecisions.{decide_within, decide_has_mismatch, decide_has_incomplete, decide_has_ambiguous, decide_two, decide_abstract}

-- what is asked at a spot of a class
record IsTooLarge (h : Classes) (c : ClassId) (item test : ℕ) : Type 0 where
  first_item : item ≡ 0
  first_test : test ≡ 0
  known : c.0 < length h
  large : IsWithinLimits h c → ⊥

record HasFunctionFault (h : Classes) (c : ClassId) (item : ℕ) (P : FunctionId → Type 0) : Type 0 where
  function : Function ClassId
  at : slice_get (functions_of h c) item ≡ Some function
  is : P (function_at c item)

record HasTwoAt (h : Classes) (c : ClassId) (item test : ℕ) : Type 0 where
  first_item : item ≡ 0
  first_test : test ≡ 0
  class : Class
  at : class_at h c ≡ Some class
  two : HasTwoFinalOverriders h c

record HasMemberFault (h : Classes) (c : ClassId) (item test : ℕ) : Type 0 where
  first_test : test ≡ 0
  member : HasAbstractMember h c item

abbrev FaultAt : Classes → ClassId → (part item test : ℕ) → Type 0
FaultAt h c zero item test = IsTooLarge h c item test
FaultAt h c (suc zero) item zero = HasFunctionFault h c item (HasMismatch h)
FaultAt h c (suc zero) item (suc zero) = HasFunctionFault h c item (HasIncompleteReturn h)
FaultAt h c (suc zero) item (suc (suc zero)) = HasFunctionFault h c item (HasAmbiguousReturn h)
FaultAt h c (suc zero) item (suc (suc (suc test))) = ⊥
FaultAt h c (suc (suc zero)) item test = HasTwoAt h c item test
FaultAt h c (suc (suc (suc zero))) item test = HasMemberFault h c item test
FaultAt h c (suc (suc (suc (suc part)))) item test = ⊥

fault_at : (h : Classes) (b : Spot) (stop : Stop) → Fault h b stop → FaultAt h b.class b.part b.item b.test
fault_at h _ _ (too_large c lt k) = record { first_item = refl; first_test = refl; known = lt; large = k }
fault_at h _ _ (mismatch c i f e k) = record { function = f; at = e; is = k }
fault_at h _ _ (incomplete c i f e k) = record { function = f; at = e; is = k }
fault_at h _ _ (ambiguous c i f e k) = record { function = f; at = e; is = k }
fault_at h _ _ (two_overriders c class e k) = record { first_item = refl; first_test = refl; class = class; at = e; two = k }
fault_at h _ _ (abstract_member c d i m e t k) = record { first_test = refl; member = record { member = m; at = e; class = d; of_class = t; is_abstract = k } }

-- a stop at the spot
record HasStop (h : Classes) (c : ClassId) (part item test : ℕ) : Type 0 where
  stop : Stop
  fault : Fault h (spot c part item test) stop

moved : (h : Classes) (c : ClassId) (part item test i t : ℕ) (stop : Stop) → item ≡ i → test ≡ t → Fault h (spot c part i t) stop → HasStop h c part item test
moved h c part item test i t stop e f fault = record { stop = stop; fault = subst (λ (x : ℕ). Fault h (spot c part x test) stop) (sym e) (subst (λ (x : ℕ). Fault h (spot c part i x) stop) (sym f) fault) }

at_fault : (h : Classes) (c : ClassId) (part item test : ℕ) → FaultAt h c part item test → HasStop h c part item test
at_fault h c zero item test k = moved h c 0 item test 0 0 (Limit L5) k.first_item k.first_test (too_large c k.known k.large)
at_fault h c (suc zero) item zero k = record { stop = Refused ReturnMismatch k.function.at; fault = mismatch c item k.function k.at k.is }
at_fault h c (suc zero) item (suc zero) k = record { stop = Refused IncompleteClass k.function.at; fault = incomplete c item k.function k.at k.is }
at_fault h c (suc zero) item (suc (suc zero)) k = record { stop = Refused AmbiguousCovariant k.function.at; fault = ambiguous c item k.function k.at k.is }
at_fault h c (suc zero) item (suc (suc (suc test))) k = absurd k
at_fault h c (suc (suc zero)) item test k = moved h c 2 item test 0 0 (Refused TwoFinalOverriders k.class.at) k.first_item k.first_test (two_overriders c k.class k.at k.two)
at_fault h c (suc (suc (suc zero))) item test k = let m = k.member in moved h c 3 item test item 0 (Refused Abstract m.member.at) refl k.first_test (abstract_member c m.class item m.member m.at m.of_class m.is_abstract)
at_fault h c (suc (suc (suc (suc part)))) item test k = absurd k

-- each is decided
decide_function_fault : (h : Classes) (c : ClassId) (item : ℕ) (P : FunctionId → Type 0) → ((f : FunctionId) → Decided (P f)) → Decided (HasFunctionFault h c item P)
decide_function_fault h c item P decide = by_place (slice_get (functions_of h c) item) refl
  where
    by_place : (o : Option (Function ClassId)) → slice_get (functions_of h c) item ≡ o → Decided (HasFunctionFault h c item P)
    by_place None e = inr (λ k. let a = k.at in cc)
    by_place (Some f) e = decide_as (decide (function_at c item)) (λ is. record { function = f; at = e; is = is }) (λ k. k.is)

decide_large : (h : Classes) (c : ClassId) (item test : ℕ) → Decided (IsTooLarge h c item test)
decide_large h c item test = ⊎_elim
    (λ a. ⊎_elim
    (λ b. ⊎_elim
    (λ lt. ⊎_elim (λ within. inr (λ k. k.large within)) (λ large. inl (record { first_item = a; first_test = b; known = lt; large = large })) (decide_within h c))
    (λ past. inr (λ k. let lt = k.known in omega arith))
    (cases_lt c.0 (length h)))
    (λ not. inr (λ k. not k.first_test))
    (decide_number test 0))
    (λ not. inr (λ k. not k.first_item))
    (decide_number item 0)

decide_two_at : (h : Classes) → IsHierarchy h → (c : ClassId) (item test : ℕ) → Decided (HasTwoAt h c item test)
decide_two_at h keeps c item test = ⊎_elim
    (λ a. ⊎_elim (λ b. by_class (class_at h c) refl a b) (λ not. inr (λ k. not k.first_test)) (decide_number test 0))
    (λ not. inr (λ k. not k.first_item))
    (decide_number item 0)
  where
    by_class : (o : Option Class) → class_at h c ≡ o → item ≡ 0 → test ≡ 0 → Decided (HasTwoAt h c item test)
    by_class None e a b = inr (λ k. let x = k.at in cc)
    by_class (Some class) e a b = decide_as (decide_two h keeps c) (λ two. record { first_item = a; first_test = b; class = class; at = e; two = two }) (λ k. k.two)

decide_abstract_member : (h : Classes) → IsHierarchy h → (c : ClassId) (item : ℕ) → Decided (HasAbstractMember h c item)
decide_abstract_member h keeps c item = by_place (slice_get (members_of h c) item) refl
  where
    by_type : (m : Member ClassId) (ty : FieldType ClassId) → slice_get (members_of h c) item ≡ Some m → m.ty ≡ ty → Decided (HasAbstractMember h c item)
    by_type m (Value v) e is = inr (λ k. let a = k.at in let b = k.of_class in let same : k.member ≡ m = cc in let f : k.member.ty ≡ m.ty = ap (λ (x : Member ClassId). x.ty) same in cc)
    by_type m (Object d) e is = decide_as (decide_abstract h keeps d)
        (λ a. record { member = m; at = e; class = d; of_class = is; is_abstract = a })
        (λ k.
        let same : k.member ≡ m = let a = k.at in cc in
        let ty : k.member.ty ≡ m.ty = ap (λ (x : Member ClassId). x.ty) same in
        let one : k.class ≡ d = let a = k.of_class in cc in
        subst (λ (x : ClassId). IsAbstract h x) one k.is_abstract)

    by_place : (o : Option (Member ClassId)) → slice_get (members_of h c) item ≡ o → Decided (HasAbstractMember h c item)
    by_place None e = inr (λ k. let a = k.at in cc)
    by_place (Some m) e = by_type m m.ty e refl

decide_member_fault : (h : Classes) → IsHierarchy h → (c : ClassId) (item test : ℕ) → Decided (HasMemberFault h c item test)
decide_member_fault h keeps c item test = ⊎_elim
    (λ a. decide_as (decide_abstract_member h keeps c item) (λ m. record { first_test = a; member = m }) (λ k. k.member))
    (λ not. inr (λ k. not k.first_test))
    (decide_number test 0)

decide_fault_at : (h : Classes) → IsHierarchy h → (c : ClassId) (part item test : ℕ) → Decided (FaultAt h c part item test)
decide_fault_at h keeps c zero item test = decide_large h c item test
decide_fault_at h keeps c (suc zero) item zero = decide_function_fault h c item (HasMismatch h) (decide_has_mismatch h keeps)
decide_fault_at h keeps c (suc zero) item (suc zero) = decide_function_fault h c item (HasIncompleteReturn h) (decide_has_incomplete h keeps)
decide_fault_at h keeps c (suc zero) item (suc (suc zero)) = decide_function_fault h c item (HasAmbiguousReturn h) (decide_has_ambiguous h keeps)
decide_fault_at h keeps c (suc zero) item (suc (suc (suc test))) = inr (λ k. k)
decide_fault_at h keeps c (suc (suc zero)) item test = decide_two_at h keeps c item test
decide_fault_at h keeps c (suc (suc (suc zero))) item test = decide_member_fault h keeps c item test
decide_fault_at h keeps c (suc (suc (suc (suc part)))) item test = inr (λ k. k)

-- how far they go
abbrev item_bound : Classes → ClassId → ℕ
item_bound h c = length (functions_of h c) + length (members_of h c) + 1

within_bounds : (h : Classes) (c : ClassId) (part item test : ℕ) → FaultAt h c part item test → (part < 4) × (item < item_bound h c) × (test < 3)
within_bounds h c zero item test k = let a = k.first_item in let b = k.first_test in (omega arith, omega arith, omega arith)
within_bounds h c (suc zero) item zero k = let lt = slice_get_within (functions_of h c) item k.function k.at in (omega arith, omega arith, omega arith)
within_bounds h c (suc zero) item (suc zero) k = let lt = slice_get_within (functions_of h c) item k.function k.at in (omega arith, omega arith, omega arith)
within_bounds h c (suc zero) item (suc (suc zero)) k = let lt = slice_get_within (functions_of h c) item k.function k.at in (omega arith, omega arith, omega arith)
within_bounds h c (suc zero) item (suc (suc (suc test))) k = absurd k
within_bounds h c (suc (suc zero)) item test k = let a = k.first_item in let b = k.first_test in (omega arith, omega arith, omega arith)
within_bounds h c (suc (suc (suc zero))) item test k = let b = k.first_test in let lt = slice_get_within (members_of h c) item k.member.member k.member.at in (omega arith, omega arith, omega arith)
within_bounds h c (suc (suc (suc (suc part)))) item test k = absurd k

-- the first of three numbers in turn
record IsFirstAt (Q : ℕ → ℕ → ℕ → Type 0) : Type 0 where
  part : ℕ
  item : ℕ
  test : ℕ
  is : Q part item test
  before_part : (p i t : ℕ) → p < part → Q p i t → ⊥
  before_item : (i t : ℕ) → i < item → Q part i t → ⊥
  before_test : (t : ℕ) → t < test → Q part item t → ⊥

module _ (Q : ℕ → ℕ → ℕ → Type 0) (decide : (p i t : ℕ) → Decided (Q p i t)) (parts items tests : ℕ) (within : (p i t : ℕ) → Q p i t → (p < parts) × (i < items) × (t < tests)) where
  decide_item : (p i : ℕ) → Decided (HasBelow (Q p i) tests)
  decide_item p i = decide_has_below (Q p i) tests (λ t lt. decide p i t)

  decide_part : (p : ℕ) → Decided (HasBelow (λ i. HasBelow (Q p i) tests) items)
  decide_part p = decide_has_below (λ i. HasBelow (Q p i) tests) items (λ i lt. decide_item p i)

  in_item : (p i t : ℕ) → Q p i t → HasBelow (Q p i) tests
  in_item p i t k = record { number = t; below = (within p i t k).2; is = k }

  in_part : (p i t : ℕ) → Q p i t → HasBelow (λ j. HasBelow (Q p j) tests) items
  in_part p i t k = record { number = i; below = (within p i t k).1; is = in_item p i t k }

  first_at : IsFirstAt Q ⊎ ((p i t : ℕ) → Q p i t → ⊥)
  first_at = ⊎_elim
      (λ k. ⊎_elim
      (λ m. ⊎_elim
      (λ n. inl (record {
        part = k.number;
        item = m.number;
        test = n.number;
        is = n.is;
        before_part = λ p i t lt q. k.before p lt (in_part p i t q);
        before_item = λ i t lt q. m.before i lt (in_item k.number i t q);
        before_test = λ t lt q. n.before t lt q;
      }))
      (λ none. absurd (none m.is.number m.is.below m.is.is))
      (first_below (Q k.number m.number) tests (λ t lt. decide k.number m.number t)))
      (λ none. absurd (none k.is.number k.is.below k.is.is))
      (first_below (λ i. HasBelow (Q k.number i) tests) items (λ i lt. decide_item k.number i)))
      (λ none. inr (λ p i t q. none p (within p i t q).0 (in_part p i t q)))
      (first_below (λ p. HasBelow (λ i. HasBelow (Q p i) tests) items) parts (λ p lt. decide_part p))

-- of one class
abbrev pub HasFirst : Classes → ClassId → Type 0
HasFirst h c = (stop : Stop) × IsFirstFaultIn h c stop

pub class_answer : (h : Classes) → IsHierarchy h → (c : ClassId) → HasFirst h c ⊎ HasNoFaultIn h c
class_answer h keeps c = ⊎_elim
    (λ k.
    let s = at_fault h c k.part k.item k.test k.is in
    inl (
      s.stop,
      record {
        part = k.part;
        item = k.item;
        test = k.test;
        fault = s.fault;
        first = λ p i t other fault before.
            let there = fault_at h (spot c p i t) other fault in
            ⊎_elim (λ x. omega arith)
            (λ r. ⊎_elim (λ x. k.before_part p i t x.1 there)
            (λ q. ⊎_elim
            (λ x. k.before_item i t x.2 (subst (λ (y : ℕ). FaultAt h c y i t) x.1 there))
            (λ x. k.before_test t x.3 (subst (λ (y : ℕ). FaultAt h c k.part y t) x.2 (subst (λ (y : ℕ). FaultAt h c y i t) x.1 there)))
            q) r)
            (before_cases (spot c p i t) (spot c k.part k.item k.test) before);
      },
    ))
    (λ none. inr (record { none = λ p i t stop fault. none p i t (fault_at h (spot c p i t) stop fault) }))
    (first_at (FaultAt h c) (decide_fault_at h keeps c) 4 (item_bound h c) 3 (within_bounds h c))

decide_first : (h : Classes) → IsHierarchy h → (c : ClassId) → Decided (HasFirst h c)
decide_first h keeps c = ⊎_elim (λ k. inl k) (λ none. inr (λ k. none.none k.1.part k.1.item k.1.test k.0 k.1.fault)) (class_answer h keeps c)

none_in : (h : Classes) → IsHierarchy h → (c : ClassId) → (HasFirst h c → ⊥) → (b : Spot) (stop : Stop) → Fault h b stop → b.class ≡ c → ⊥
none_in h keeps c not b stop fault e = ⊎_elim not
    (λ none. none.none b.part b.item b.test stop (subst (λ (x : ClassId). Fault h (spot x b.part b.item b.test) stop) e fault))
    (class_answer h keeps c)

pub some_answer : (h : Classes) → IsHierarchy h → ((c : ClassId) × (stop : Stop) × IsFirstFault h c stop) ⊎ HasNoFault h
some_answer h keeps = ⊎_elim
    (λ k.
    let c = class_by_number k.number in
    let f = k.is.1 in
    inl (
      c,
      k.is.0,
      record {
        part = f.part;
        item = f.item;
        test = f.test;
        fault = f.fault;
        first = λ b other fault before.
            let same_class : b.class ≡ c → ⊥ = λ e. f.first b.part b.item b.test other (subst (λ (x : ClassId). Fault h (spot x b.part b.item b.test) other) e fault)
            (subst (λ (x : ClassId). IsBefore (spot x b.part b.item b.test) (spot c f.part f.item f.test)) e before) in
            ⊎_elim (λ lt. none_in h keeps b.class (k.before b.class.0 lt) b other fault refl)
            (λ r. ⊎_elim (λ x. same_class x.0) (λ q. ⊎_elim (λ x. same_class x.0) (λ x. same_class x.0) q) r)
            (before_cases b (spot c f.part f.item f.test) before);
      },
    ))
    (λ none. inr (record { none = λ b stop fault. none_in h keeps b.class (none b.class.0 (fault_known h b stop fault)) b stop fault refl }))
    (first_below (λ n. HasFirst h (class_by_number n)) (length h) (λ n lt. decide_first h keeps (class_by_number n)))
