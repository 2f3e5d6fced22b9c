-- The class-meaning pass, step by step: no condition refuses the hierarchy before a spot.
use Rattle.std.proofs.Common.{◌≡◌, ℕ, ◌+◌, ◌<◌, ◌≤◌, ◌⊎◌, ◌↔◌, inl, inr, ⊎_elim, Bool, true, false, get_or, Option, Some, None, List, [], ◌∷◌, ◌++◌, length, refl, ap, subst, sym, ◌∙◌, arith, length-append}
use Rattle.std.specs.List.{slice_get}
use Rattle.cxx_hierarchy.specs.declared.records.ClassId.{ClassId}
use Rattle.cxx_hierarchy.specs.declared.records.Function.{Function}
use Rattle.cxx_hierarchy.specs.declared.records.Member.{Member}
use Rattle.cxx_hierarchy.specs.declared.records.FieldType.{FieldType}
use Rattle.cxx_hierarchy.specs.declared.records.FieldType.TheVariants.{Value, Object}
use Rattle.cxx_hierarchy.specs.declared.stop.Stop.{Stop}
use Rattle.cxx_hierarchy.specs.declared.stop.Stop.TheVariants.{Refused}
use Rattle.cxx_hierarchy.specs.declared.stop.Rule.{Rule}
use Rattle.cxx_hierarchy.specs.declared.stop.Rule.TheVariants.{ReturnMismatch, IncompleteClass, AmbiguousCovariant, Abstract}
use Rattle.cxx_hierarchy.specs.Classes.{Class, Classes, class_at, members_in, functions_in, members_of, functions_of}
use Rattle.cxx_hierarchy.specs.Hierarchies.{IsHierarchy}
use Rattle.cxx_subobject.specs.Parts.{IsWithinLimits}
use Rattle.cxx_subobject.proofs.PathLemmas.{same_id}
use Rattle.cxx_overrider.specs.declared.FunctionId.{FunctionId}
use Rattle.cxx_overrider.specs.Overriding.{HasTwoFinalOverriders, IsAbstract}
use Rattle.cxx_overrider.specs.Covariance.{HasMismatch, HasIncompleteReturn}
use Rattle.cxx_overrider.specs.invariants.ReturnFlags.{HasFineReturn, IsReturnFault, mismatch as is_mismatch, incomplete as is_incomplete, ambiguous as is_ambiguous}
use Rattle.cxx_overrider.specs.Virtuals.{function_at}
use Rattle.cxx_overrider.specs.Faults.{Spot, spot, limit_part, function_part, overrider_part, member_part, size_part, IsBefore, by_class, by_part, by_item, by_test, Fault, too_large, mismatch, incomplete, ambiguous, two_overriders, abstract_member, HasNoFault, StopsIn}
use Rattle.cxx_overrider.specs.invariants.Pass.{TellsAbstract, IsFineTo, is_abstract_object, class_after}
use Rattle.cxx_overrider.proofs.Lists.{or_front, or_last}
use Rattle.std.proofs.lemmas.Option.{slice_get_within}
use Rattle.foundation.proofs.Places.{contains_at}
use Rattle.std.proofs.lemmas.Bool.{cases_lt}

-- the ways in which one spot comes before another
abbrev pub Before : Spot → Spot → Type 0
Before a b = (a.class.0 < b.class.0) ⊎ (((a.class ≡ b.class) × (a.part < b.part)) ⊎ (((a.class ≡ b.class) × (a.part ≡ b.part) × (a.item < b.item)) ⊎ ((a.class ≡ b.class) × (a.part ≡ b.part) × (a.item ≡ b.item) × (a.test < b.test))))

pub before_cases : (a b : Spot) → IsBefore a b → Before a b
before_cases _ _ (by_class a b lt) = inl lt
before_cases _ _ (by_part a b e lt) = inr (inl (e, lt))
before_cases _ _ (by_item a b e f lt) = inr (inr (inl (e, f, lt)))
before_cases _ _ (by_test a b e f g lt) = inr (inr (inr (e, f, g, lt)))

pub fine_start : (h : Classes) (c : ClassId) → c.0 ≡ 0 → IsFineTo h (spot c limit_part 0 0)
fine_start h c first = record {
  none = λ b stop fault before. ⊎_elim (λ x. omega arith)
      (λ r. ⊎_elim (λ x. let y = x.1 in omega arith) (λ s. ⊎_elim (λ x. let y = x.2 in omega arith) (λ x. let y = x.3 in omega arith) s) r)
      (before_cases b (spot c limit_part 0 0) before);
}

-- one test of an item more
pub tests_more : (h : Classes) (c : ClassId) (part item test : ℕ) → ((b : Spot) (stop : Stop) → Fault h b stop → b.class ≡ c → b.part ≡ part → b.item ≡ item → b.test ≡ test → ⊥) → IsFineTo h (spot c part item test) → IsFineTo h (spot c part item (test + 1))
tests_more h c part item test none fine = record {
  none = λ b stop fault before. ⊎_elim (λ x. fine.none b stop fault (by_class b (spot c part item test) x))
      (λ r. ⊎_elim (λ x. fine.none b stop fault (by_part b (spot c part item test) x.0 x.1))
      (λ s. ⊎_elim (λ x. fine.none b stop fault (by_item b (spot c part item test) x.0 x.1 x.2))
      (λ x. ⊎_elim (λ lt. fine.none b stop fault (by_test b (spot c part item test) x.0 x.1 x.2 lt))
      (λ ge. let lt = x.3 in none b stop fault x.0 x.1 x.2 (omega arith))
      (cases_lt b.test test)) s) r)
      (before_cases b (spot c part item (test + 1)) before);
}

-- one item of a part more
pub items_more : (h : Classes) (c : ClassId) (part item : ℕ) → ((b : Spot) (stop : Stop) → Fault h b stop → b.class ≡ c → b.part ≡ part → b.item ≡ item → ⊥) → IsFineTo h (spot c part item 0) → IsFineTo h (spot c part (item + 1) 0)
items_more h c part item none fine = record {
  none = λ b stop fault before. ⊎_elim (λ x. fine.none b stop fault (by_class b (spot c part item 0) x))
      (λ r. ⊎_elim (λ x. fine.none b stop fault (by_part b (spot c part item 0) x.0 x.1))
      (λ s. ⊎_elim (λ x. ⊎_elim (λ lt. fine.none b stop fault (by_item b (spot c part item 0) x.0 x.1 lt))
      (λ ge. let lt = x.2 in none b stop fault x.0 x.1 (omega arith)) (cases_lt b.item item))
      (λ x. let y = x.3 in omega arith) s) r)
      (before_cases b (spot c part (item + 1) 0) before);
}

-- no item of the part from there on
pub part_more : (h : Classes) (c : ClassId) (part item : ℕ) → ((b : Spot) (stop : Stop) → Fault h b stop → b.class ≡ c → b.part ≡ part → item ≤ b.item → ⊥) → IsFineTo h (spot c part item 0) → IsFineTo h (spot c (part + 1) 0 0)
part_more h c part item none fine = record {
  none = λ b stop fault before. ⊎_elim (λ x. fine.none b stop fault (by_class b (spot c part item 0) x))
      (λ r. ⊎_elim
      (λ x. ⊎_elim (λ lt. fine.none b stop fault (by_part b (spot c part item 0) x.0 lt))
      (λ ge. let lt = x.1 in let same : b.part ≡ part = omega arith in
      ⊎_elim (λ small. fine.none b stop fault (by_item b (spot c part item 0) x.0 same small)) (λ from. none b stop fault x.0 same from) (cases_lt b.item item))
      (cases_lt b.part part))
      (λ s. ⊎_elim (λ x. let y = x.2 in omega arith) (λ x. let y = x.3 in omega arith) s) r)
      (before_cases b (spot c (part + 1) 0 0) before);
}

few_parts : (h : Classes) (b : Spot) (stop : Stop) → Fault h b stop → b.part < size_part
few_parts h _ _ (too_large c lt k) = omega arith
few_parts h _ _ (mismatch c i f e k) = omega arith
few_parts h _ _ (incomplete c i f e k) = omega arith
few_parts h _ _ (ambiguous c i f e k) = omega arith
few_parts h _ _ (two_overriders c class e k) = omega arith
few_parts h _ _ (abstract_member c d i m e t k) = omega arith

-- one class more
pub class_more : (h : Classes) (c : ClassId) → IsFineTo h (spot c size_part 0 0) → IsFineTo h (spot (class_after c) limit_part 0 0)
class_more h c fine = record {
  none = λ b stop fault before. ⊎_elim
      (λ x. ⊎_elim (λ lt. fine.none b stop fault (by_class b (spot c size_part 0 0) lt))
      (λ ge. fine.none b stop fault (by_part b (spot c size_part 0 0) (same_id b.class c (omega arith)) (few_parts h b stop fault)))
      (cases_lt b.class.0 c.0))
      (λ r. ⊎_elim (λ x. let y = x.1 in omega arith) (λ s. ⊎_elim (λ x. let y = x.2 in omega arith) (λ x. let y = x.3 in omega arith) s) r)
      (before_cases b (spot (class_after c) limit_part 0 0) before);
}

-- what is asked in each part
limit_only : (h : Classes) (b : Spot) (stop : Stop) → Fault h b stop → b.part ≡ limit_part → IsWithinLimits h b.class → ⊥
limit_only h _ _ (too_large c lt k) e within = k within
limit_only h _ _ (mismatch c i f at k) e within = omega arith
limit_only h _ _ (incomplete c i f at k) e within = omega arith
limit_only h _ _ (ambiguous c i f at k) e within = omega arith
limit_only h _ _ (two_overriders c class at k) e within = omega arith
limit_only h _ _ (abstract_member c d i m at t k) e within = omega arith

pub limit_fine : (h : Classes) (c : ClassId) → IsWithinLimits h c → IsFineTo h (spot c limit_part 0 0) → IsFineTo h (spot c function_part 0 0)
limit_fine h c within = part_more h c limit_part 0 (λ b stop fault same part from. limit_only h b stop fault part (subst (λ (x : ClassId). IsWithinLimits h x) (sym same) within))

mismatch_only : (h : Classes) (b : Spot) (stop : Stop) → Fault h b stop → b.part ≡ function_part → b.test ≡ 0 → HasMismatch h (function_at b.class b.item)
mismatch_only h _ _ (too_large c lt k) e t = absurd (omega arith)
mismatch_only h _ _ (mismatch c i f at k) e t = k
mismatch_only h _ _ (incomplete c i f at k) e t = absurd (omega arith)
mismatch_only h _ _ (ambiguous c i f at k) e t = absurd (omega arith)
mismatch_only h _ _ (two_overriders c class at k) e t = absurd (omega arith)
mismatch_only h _ _ (abstract_member c d i m at ty k) e t = absurd (omega arith)

incomplete_only : (h : Classes) (b : Spot) (stop : Stop) → Fault h b stop → b.part ≡ function_part → b.test ≡ 1 → HasIncompleteReturn h (function_at b.class b.item)
incomplete_only h _ _ (too_large c lt k) e t = absurd (omega arith)
incomplete_only h _ _ (mismatch c i f at k) e t = absurd (omega arith)
incomplete_only h _ _ (incomplete c i f at k) e t = k
incomplete_only h _ _ (ambiguous c i f at k) e t = absurd (omega arith)
incomplete_only h _ _ (two_overriders c class at k) e t = absurd (omega arith)
incomplete_only h _ _ (abstract_member c d i m at ty k) e t = absurd (omega arith)

function_only : (h : Classes) (b : Spot) (stop : Stop) → Fault h b stop → b.part ≡ function_part → HasFineReturn h (function_at b.class b.item) → ⊥
function_only h _ _ (too_large c lt k) e fine = omega arith
function_only h _ _ (mismatch c i f at k) e fine = fine.no_mismatch k
function_only h _ _ (incomplete c i f at k) e fine = fine.complete k
function_only h _ _ (ambiguous c i f at k) e fine = fine.unambiguous k
function_only h _ _ (two_overriders c class at k) e fine = omega arith
function_only h _ _ (abstract_member c d i m at t k) e fine = omega arith

few_functions : (h : Classes) (b : Spot) (stop : Stop) → Fault h b stop → b.part ≡ function_part → b.item < length (functions_of h b.class)
few_functions h _ _ (too_large c lt k) e = absurd (omega arith)
few_functions h _ _ (mismatch c i f at k) e = slice_get_within (functions_of h c) i f at
few_functions h _ _ (incomplete c i f at k) e = slice_get_within (functions_of h c) i f at
few_functions h _ _ (ambiguous c i f at k) e = slice_get_within (functions_of h c) i f at
few_functions h _ _ (two_overriders c class at k) e = absurd (omega arith)
few_functions h _ _ (abstract_member c d i m at t k) e = absurd (omega arith)

same_spot : (b : Spot) (c : ClassId) (i : ℕ) → b.class ≡ c → b.item ≡ i → function_at b.class b.item ≡ function_at c i
same_spot b c i e f = ap (λ (x : ClassId). function_at x b.item) e ∙ ap (λ (x : ℕ). function_at c x) f

pub function_fine : (h : Classes) (c : ClassId) (i : ℕ) → HasFineReturn h (function_at c i) → IsFineTo h (spot c function_part i 0) → IsFineTo h (spot c function_part (i + 1) 0)
function_fine h c i fine = items_more h c function_part i (λ b stop fault same part item. function_only h b stop fault part (subst (λ (x : FunctionId). HasFineReturn h x) (sym (same_spot b c i same item)) fine))

pub functions_fine : (h : Classes) (c : ClassId) (i : ℕ) → length (functions_of h c) ≤ i → IsFineTo h (spot c function_part i 0) → IsFineTo h (spot c overrider_part 0 0)
functions_fine h c i all = part_more h c function_part i
    (λ b stop fault same part from. let lt = subst (λ (x : ClassId). b.item < length (functions_of h x)) same (few_functions h b stop fault part) in omega arith)

-- the first fault
pub first_fault : (h : Classes) (c : ClassId) (part item test : ℕ) (stop : Stop) → Fault h (spot c part item test) stop → IsFineTo h (spot c part item test) → StopsIn h c stop
first_fault h c part item test stop fault fine = inr (record { part = part; item = item; test = test; fault = fault; first = fine.none })

pub function_fault : (h : Classes) (c : ClassId) (i : ℕ) (f : Function ClassId) (rule : Rule) → slice_get (functions_of h c) i ≡ Some f → IsReturnFault h (function_at c i) rule → IsFineTo h (spot c function_part i 0) → StopsIn h c (Refused rule f.at)
function_fault h c i f _ at (is_mismatch m) fine = first_fault h c function_part i 0 (Refused ReturnMismatch f.at) (mismatch c i f at m) fine
function_fault h c i f _ at (is_incomplete not m) fine = first_fault h c function_part i 1 (Refused IncompleteClass f.at) (incomplete c i f at m)
    (tests_more h c function_part i 0 (λ b stop fault same part item test. not (subst (λ (x : FunctionId). HasMismatch h x) (same_spot b c i same item) (mismatch_only h b stop fault part test))) fine)
function_fault h c i f _ at (is_ambiguous not late m) fine = first_fault h c function_part i 2 (Refused AmbiguousCovariant f.at) (ambiguous c i f at m)
    (tests_more h c function_part i 1 (λ b stop fault same part item test. late (subst (λ (x : FunctionId). HasIncompleteReturn h x) (same_spot b c i same item) (incomplete_only h b stop fault part test)))
    (tests_more h c function_part i 0 (λ b stop fault same part item test. not (subst (λ (x : FunctionId). HasMismatch h x) (same_spot b c i same item) (mismatch_only h b stop fault part test))) fine))

overrider_only : (h : Classes) (b : Spot) (stop : Stop) → Fault h b stop → b.part ≡ overrider_part → HasTwoFinalOverriders h b.class
overrider_only h _ _ (too_large c lt k) e = absurd (omega arith)
overrider_only h _ _ (mismatch c i f at k) e = absurd (omega arith)
overrider_only h _ _ (incomplete c i f at k) e = absurd (omega arith)
overrider_only h _ _ (ambiguous c i f at k) e = absurd (omega arith)
overrider_only h _ _ (two_overriders c class at k) e = k
overrider_only h _ _ (abstract_member c d i m at t k) e = absurd (omega arith)

pub overrider_fine : (h : Classes) (c : ClassId) → (HasTwoFinalOverriders h c → ⊥) → IsFineTo h (spot c overrider_part 0 0) → IsFineTo h (spot c member_part 0 0)
overrider_fine h c none = part_more h c overrider_part 0 (λ b stop fault same part from. none (subst (λ (x : ClassId). HasTwoFinalOverriders h x) same (overrider_only h b stop fault part)))

-- a member of which the class is abstract
pub record HasAbstractMember (h : Classes) (c : ClassId) (i : ℕ) : Type 0 where
  pub member : Member ClassId
  pub at : slice_get (members_of h c) i ≡ Some member
  pub class : ClassId
  pub of_class : member.ty ≡ Object class
  pub is_abstract : IsAbstract h class

member_only : (h : Classes) (b : Spot) (stop : Stop) → Fault h b stop → b.part ≡ member_part → HasAbstractMember h b.class b.item
member_only h _ _ (too_large c lt k) e = absurd (omega arith)
member_only h _ _ (mismatch c i f at k) e = absurd (omega arith)
member_only h _ _ (incomplete c i f at k) e = absurd (omega arith)
member_only h _ _ (ambiguous c i f at k) e = absurd (omega arith)
member_only h _ _ (two_overriders c class at k) e = absurd (omega arith)
member_only h _ _ (abstract_member c d i m at t k) e = record { member = m; at = at; class = d; of_class = t; is_abstract = k }

pub member_fine : (h : Classes) (c : ClassId) (i : ℕ) → (HasAbstractMember h c i → ⊥) → IsFineTo h (spot c member_part i 0) → IsFineTo h (spot c member_part (i + 1) 0)
member_fine h c i none = items_more h c member_part i
    (λ b stop fault same part item. none (subst (λ (x : ℕ). HasAbstractMember h c x) item (subst (λ (x : ClassId). HasAbstractMember h x b.item) same (member_only h b stop fault part))))

pub members_fine : (h : Classes) (c : ClassId) (i : ℕ) → length (members_of h c) ≤ i → IsFineTo h (spot c member_part i 0) → IsFineTo h (spot c size_part 0 0)
members_fine h c i all = part_more h c member_part i
    (λ b stop fault same part from. let m = member_only h b stop fault part in let lt = slice_get_within (members_of h b.class) b.item m.member m.at in let moved = subst (λ (x : ClassId). b.item < length (members_of h x)) same lt in omega arith)

-- the marks of abstract classes
marked_object : (h : Classes) (list : List Bool) (ty : FieldType ClassId) (d : ClassId) → TellsAbstract h list → ty ≡ Object d → d.0 < length list → (is_abstract_object list ty ≡ true) ↔ IsAbstract h d
marked_object h list ty d tells e lt = subst (λ (x : FieldType ClassId). (is_abstract_object list x ≡ true) ↔ IsAbstract h d) (sym e) (tells.each d lt)

-- a marked member is an object of an abstract class
pub record IsMarkedObject (h : Classes) (ty : FieldType ClassId) : Type 0 where
  pub class : ClassId
  pub is : ty ≡ Object class
  pub is_abstract : IsAbstract h class

pub object_there : (h : Classes) (list : List Bool) (ty : FieldType ClassId) → TellsAbstract h list → ((d : ClassId) → ty ≡ Object d → d.0 < length list) → is_abstract_object list ty ≡ true → IsMarkedObject h ty
object_there h list (Value t) tells known e = cc
object_there h list (Object d) tells known e = record { class = d; is = refl; is_abstract = (tells.each d (known d refl)).0 e }

pub member_unmarked : (h : Classes) → IsHierarchy h → (list : List Bool) (c : ClassId) (i : ℕ) (m : Member ClassId) (b : Bool) → TellsAbstract h list → length list ≡ c.0 → slice_get (members_of h c) i ≡ Some m → b ≡ is_abstract_object list m.ty → b ≡ false → HasAbstractMember h c i → ⊥
member_unmarked h keeps list c i m b tells size at is not k =
    let same : k.member ≡ m = let x = k.at in cc in
    let ty : m.ty ≡ Object k.class = sym (ap (λ (x : Member ClassId). x.ty) same) ∙ k.of_class in
    let lt = keeps.objects c k.class m (contains_at (members_of h c) i m at) ty in
    let t = (marked_object h list m.ty k.class tells ty (omega arith)).1 k.is_abstract in
    cc

pub member_fault : (h : Classes) → IsHierarchy h → (list : List Bool) (c : ClassId) (i : ℕ) (m : Member ClassId) (b : Bool) → TellsAbstract h list → length list ≡ c.0 → slice_get (members_of h c) i ≡ Some m → b ≡ is_abstract_object list m.ty → b ≡ true → IsFineTo h (spot c member_part i 0) → StopsIn h c (Refused Abstract m.at)
member_fault h keeps list c i m b tells size at is yet fine =
    let k = object_there h list m.ty tells (λ d ty. let lt = keeps.objects c d m (contains_at (members_of h c) i m at) ty in omega arith) (sym is ∙ yet) in
    first_fault h c member_part i 0 (Refused Abstract m.at) (abstract_member c k.class i m at k.is k.is_abstract) fine

pub no_abstracts : (h : Classes) → TellsAbstract h []
no_abstracts h = record { each = λ c lt. absurd (omega arith) }

pub abstracts_more : (h : Classes) (list : List Bool) (c : ClassId) (b : Bool) → TellsAbstract h list → length list ≡ c.0 → (b ≡ true) ↔ IsAbstract h c → TellsAbstract h (list ++ b ∷ [])
abstracts_more h list c b tells size is = record {
  each = λ x lt. ⊎_elim
      (λ small. subst (λ (v : Bool). (v ≡ true) ↔ IsAbstract h x) (sym (or_front list (b ∷ []) x.0 false small)) (tells.each x small))
      (λ past.
      let at : x.0 ≡ length list = let l : length (list ++ b ∷ []) ≡ length list + 1 = length-append list (b ∷ []) in omega arith in
      let value : get_or (list ++ b ∷ []) x.0 false ≡ b = ap (λ i. get_or (list ++ b ∷ []) i false) at ∙ or_last list b false in
      subst (λ (v : Bool). (v ≡ true) ↔ IsAbstract h x) (sym value) (subst (λ (y : ClassId). (b ≡ true) ↔ IsAbstract h y) (same_id c x (sym size ∙ sym at)) is))
      (cases_lt x.0 (length list));
}

-- the end
known_functions : (h : Classes) (c : ClassId) (i : ℕ) (f : Function ClassId) (class : Option Class) → slice_get (functions_in class) i ≡ Some f → class_at h c ≡ class → c.0 < length h
known_functions h c i f None e at = cc
known_functions h c i f (Some class) e at = slice_get_within h c.0 class at

known_members : (h : Classes) (c : ClassId) (i : ℕ) (m : Member ClassId) (class : Option Class) → slice_get (members_in class) i ≡ Some m → class_at h c ≡ class → c.0 < length h
known_members h c i m None e at = cc
known_members h c i m (Some class) e at = slice_get_within h c.0 class at

pub fault_known : (h : Classes) (b : Spot) (stop : Stop) → Fault h b stop → b.class.0 < length h
fault_known h _ _ (too_large c lt k) = lt
fault_known h _ _ (mismatch c i f at k) = known_functions h c i f (class_at h c) at refl
fault_known h _ _ (incomplete c i f at k) = known_functions h c i f (class_at h c) at refl
fault_known h _ _ (ambiguous c i f at k) = known_functions h c i f (class_at h c) at refl
fault_known h _ _ (two_overriders c class at k) = slice_get_within h c.0 class at
fault_known h _ _ (abstract_member c d i m at t k) = known_members h c i m (class_at h c) at refl

pub fine_end : (h : Classes) (c : ClassId) → length h ≤ c.0 → IsFineTo h (spot c limit_part 0 0) → HasNoFault h
fine_end h c all fine = record { none = λ b stop fault. fine.none b stop fault (by_class b (spot c limit_part 0 0) (let lt = fault_known h b stop fault in omega arith)) }
