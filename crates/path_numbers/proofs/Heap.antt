-- Over all objects a number names one part, a part has one number, and a number is an own one of one part.
use Rattle.std.proofs.Common.{◌≡◌, ℕ, zero, suc, ◌+◌, ◌<◌, ◌≤◌, ⊎_elim, Some, List, [], ◌∷◌, ◌++◌, refl, ap, subst, sym, ◌∙◌, arith}
use Rattle.std.specs.Prelude.{slice_get}
use Rattle.cxx_hierarchy.specs.declared.records.ClassId.{ClassId}
use Rattle.cxx_hierarchy.specs.Classes.{Classes}
use Rattle.cxx_hierarchy.specs.Hierarchies.{IsHierarchy}
use Rattle.path_plan.specs.Places.{ObjectPart}
use Rattle.path_plan.specs.declared.form.Form.TheVariants.{InFull}
use Rattle.path_numbers.specs.Sizes.{Sizes, IsSizes, total, before}
use Rattle.path_numbers.specs.Nodes.{Node, Under, IsGood}
use Rattle.path_numbers.specs.Heap.{start_of, root_at, IsAt}
use Rattle.path_numbers.proofs.Intervals.{before_within, before_apart, size_of, size_some, under_lies, order, one_part}
use Rattle.path_numbers.proofs.Naming.{one_number, under_good}
use Rattle.path_numbers.proofs.Ways.{orders_once, same_object}
use Rattle.path_numbers.proofs.Leaves.{IsOwn, one_owner}

pub root_good : (size : Sizes) (classes : List ClassId) (k : ℕ) (c : ClassId) → IsGood (root_at size classes k c)
root_good size classes k c = record { class = refl; whole = λ f. refl }

pub at_good : (h : Classes) (size : Sizes) (classes : List ClassId) (y : Node) → IsAt h size classes y → IsGood y
at_good h size classes y a = under_good h size y (root_at size classes a.object a.class) (root_good size classes a.object a.class) a.under

pub at_object : (h : Classes) (size : Sizes) (classes : List ClassId) (y : Node) → (a : IsAt h size classes y) → y.part.object ≡ a.object
at_object h size classes y a = same_object h size y (root_at size classes a.object a.class) a.under

-- what lies in a part of an object is a part of it
pub record InRange (size : Sizes) (classes : List ClassId) (k : ℕ) (c : ClassId) (y : Node) : Type 0 where
  pub low : start_of size classes k ≤ y.number
  pub high : y.number + size_of size y ≤ start_of size classes k + size InFull c

pub at_range : (h : Classes) (size : Sizes) → IsSizes h size → (classes : List ClassId) (y : Node) → (a : IsAt h size classes y) → InRange size classes a.object a.class y
at_range h size is classes y a = let l = under_lies h size is y (root_at size classes a.object a.class) a.under in record { low = l.low; high = l.high }

pub at_within : (h : Classes) (size : Sizes) → IsSizes h size → (classes : List ClassId) (y : Node) → IsAt h size classes y → y.number + size_of size y ≤ total (size InFull) classes
at_within h size is classes y a = let r = at_range h size is classes y a in let l = r.high in let b = before_within (size InFull) a.object classes a.class a.listed in omega arith

-- two objects whose numbers meet are one
objects_one : (size : Sizes) (classes : List ClassId) (k k' : ℕ) (c c' : ClassId) (n : ℕ) → slice_get classes k ≡ Some c → slice_get classes k' ≡ Some c'
    → start_of size classes k ≤ n → n < start_of size classes k + size InFull c → start_of size classes k' ≤ n → n < start_of size classes k' + size InFull c' → k ≡ k'
objects_one size classes k k' c c' n at at' low high low' high' = ⊎_elim
    (λ lt. absurd (let b = before_apart (size InFull) k k' classes c at lt in omega arith))
    (λ r. ⊎_elim (λ e. e) (λ gt. absurd (let b = before_apart (size InFull) k' k classes c' at' gt in omega arith)) r)
    (order k k')

pub at_one : (h : Classes) (size : Sizes) (classes : List ClassId) (y : Node) (a : IsAt h size classes y) (k : ℕ) (c : ClassId) → slice_get classes k ≡ Some c → a.object ≡ k → Under h size y (root_at size classes k c)
at_one h size classes y a k c at e =
    let f : a.class ≡ c = cc (a.listed, at, e) in
    subst (λ (t : ClassId). Under h size y (root_at size classes k t)) f (subst (λ j. Under h size y (root_at size classes j a.class)) e a.under)

pub heap_owner : (h : Classes) (size : Sizes) → IsSizes h size → (classes : List ClassId) (n : ℕ) (y z : Node) → IsAt h size classes y → IsAt h size classes z → IsOwn h size y n → IsOwn h size z n → y ≡ z
heap_owner h size is classes n y z a b o p =
    let r = at_range h size is classes y a in let t = at_range h size is classes z b in
    let u = r.low in let u' = r.high in let w = t.low in let w' = t.high in let v = o.low in let v' = o.high in let q = p.low in let q' = p.high in
    let e : a.object ≡ b.object = objects_one size classes a.object b.object a.class b.class n a.listed b.listed (omega arith) (omega arith) (omega arith) (omega arith) in
    one_owner h size is n y z (root_at size classes b.object b.class) (at_one h size classes y a b.object b.class b.listed e) b.under o p

pub heap_part : (h : Classes) (size : Sizes) → IsSizes h size → (classes : List ClassId) (y z : Node) → IsAt h size classes y → IsAt h size classes z → y.number ≡ z.number → y ≡ z
heap_part h size is classes y z a b n =
    let r = at_range h size is classes y a in let t = at_range h size is classes z b in
    let u = r.low in let u' = r.high in let w = t.low in let w' = t.high in
    let s = size_some h size is y.form y.class in let s' = size_some h size is z.form z.class in
    let e : a.object ≡ b.object = objects_one size classes a.object b.object a.class b.class y.number a.listed b.listed (omega arith) (omega arith) (omega arith) (omega arith) in
    one_part h size is y z (root_at size classes b.object b.class) (at_one h size classes y a b.object b.class b.listed e) b.under n

pub heap_number : (h : Classes) (size : Sizes) → IsHierarchy h → (classes : List ClassId) (y z : Node) → IsAt h size classes y → IsAt h size classes z → y.part ≡ z.part → y ≡ z
heap_number h size keeps classes y z a b p =
    let e : a.object ≡ b.object = sym (at_object h size classes y a) ∙ (ap (λ (t : ObjectPart). t.object) p ∙ at_object h size classes z b) in
    one_number h size keeps (orders_once h) y z (root_at size classes b.object b.class) (root_good size classes b.object b.class) (at_one h size classes y a b.object b.class b.listed e) b.under p

-- one more object leaves the numbers as they are
pub before_more : {X : Type 0} (f : X → ℕ) (k : ℕ) (xs : List X) (x y : X) → slice_get xs k ≡ Some x → before f k (xs ++ y ∷ []) ≡ before f k xs
before_more f zero xs x y e = refl
before_more f (suc k) [] x y e = absurd (cc)
before_more f (suc k) (z ∷ xs) x y e = ap (λ n. f z + n) (before_more f k xs x y e)

pub get_more : {X : Type 0} (k : ℕ) (xs : List X) (x y : X) → slice_get xs k ≡ Some x → slice_get (xs ++ y ∷ []) k ≡ Some x
get_more zero [] x y e = absurd (cc)
get_more (suc k) [] x y e = absurd (cc)
get_more zero (z ∷ xs) x y e = e
get_more (suc k) (z ∷ xs) x y e = get_more k xs x y e

pub at_more : (h : Classes) (size : Sizes) (classes : List ClassId) (c : ClassId) (y : Node) → IsAt h size classes y → IsAt h size (classes ++ c ∷ []) y
at_more h size classes c y a = record {
  object = a.object;
  class = a.class;
  listed = get_more a.object classes a.class c a.listed;
  under = subst (λ n. Under h size y (record { form = InFull; class = a.class; part = (root_at size classes a.object a.class).part; number = n })) (sym (before_more (size InFull) a.object classes a.class c a.listed)) a.under;
}
