-- What values of the code mean, by cases.
use Rattle.std.proofs.Common.{◌≡◌, ℕ, true, false, List, refl, ap, subst, sym, ◌∙◌}
use Rattle.std.specs.Prelude.{ℤ, nat_eq}
use Rattle.std.proofs.lemmas.Bool.{eqb-true, eq-eqb}
use Rattle.foundation.proofs.Truth.{split}
use Rattle.cxx_hierarchy.specs.declared.records.ClassId.{ClassId}
use Rattle.cxx_hierarchy.specs.declared.records.Scalar.{Scalar}
use Rattle.cxx_hierarchy.specs.Classes.{Classes}
use Rattle.cxx_hierarchy.specs.Hierarchies.{IsHierarchy}
use Rattle.cxx_hierarchy.specs.Scalars.{wrapped}
use Rattle.cxx_program.specs.declared.statement.Arithmetic.{Arithmetic as Operator}
use Rattle.path_plan.specs.Places.{ObjectPart, same_part}
use Rattle.path_plan.proofs.Same.{part_same, part_itself}
use Rattle.path_numbers.specs.Sizes.{sizes_of}
use Rattle.path_numbers.specs.Nodes.{Node}
use Rattle.path_numbers.proofs.Heap.{heap_part, heap_number}
use Rattle.path_numbers.proofs.Sized.{sizes_are}
use Rattle.path_model.specs.Values.{Value, Unset, Number, Null, Pointer}
use Rattle.path_model.specs.Effects.{calculated_value, arithmetic_value, is_same_pointer}
use Rattle.path_heap.specs.declared.state.Value.{Value as ValueCode}
use Rattle.path_heap.specs.declared.state.Value.TheVariants.{Number as NumberCode, Pointer as PointerCode}
use Rattle.path_heap.specs.Points.{Points}
use Rattle.path_heap.specs.Stands.{Means}

number_meant : (h : Classes) (classes : List ClassId) (x : ℤ) (v : Value) → Means h classes (NumberCode x) v → v ≡ Number x
number_meant h classes x Unset m = absurd m
number_meant h classes x (Number z) m = ap Number (sym m)
number_meant h classes x Null m = absurd m
number_meant h classes x (Pointer p) m = absurd m

pub means_number : (h : Classes) (classes : List ClassId) (a : ValueCode) (x : ℤ) → a ≡ NumberCode x → (v : Value) → Means h classes a v → v ≡ Number x
means_number h classes a x is v m = number_meant h classes x v (subst (λ (t : ValueCode). Means h classes t v) is m)

-- two numbers
pub numbers_meant : (h : Classes) (classes : List ClassId) (op : Operator) (t : Scalar) (a b : ValueCode) (x y : ℤ) → a ≡ NumberCode x → b ≡ NumberCode y → (v w : Value) → Means h classes a v → Means h classes b w
    → (i j : ℤ) → i ≡ wrapped t x → j ≡ wrapped t y → (r : ValueCode) → Means h classes r (calculated_value op t i j) → Means h classes r (arithmetic_value op t v w)
numbers_meant h classes op t a b x y a_is b_is v w m n i j i_is j_is r told =
    let e : arithmetic_value op t v w ≡ calculated_value op t (wrapped t x) (wrapped t y) = ap (λ k. arithmetic_value op t k w) (means_number h classes a x a_is v m) ∙ ap (λ k. arithmetic_value op t (Number x) k) (means_number h classes b y b_is w n) in
    subst (λ k. Means h classes r k) (sym e) (subst (λ k. Means h classes r (calculated_value op t (wrapped t x) k)) j_is (subst (λ k. Means h classes r (calculated_value op t k j)) i_is told))

-- two numbers of parts are one where the parts are
points_same : (h : Classes) (classes : List ClassId) → IsHierarchy h → (n m : ℕ) (p q : ObjectPart) → Points h classes n p → Points h classes m q → nat_eq n m ≡ same_part p q
points_same h classes keeps n m p q a b = split (nat_eq n m) (λ t. t ≡ same_part p q)
    (λ e.
    let f : a.node.number ≡ b.node.number = a.is_number ∙ (eqb-true n m e ∙ sym b.is_number) in
    let g : a.node ≡ b.node = heap_part h (sizes_of h) (sizes_are h keeps) classes a.node b.node a.at b.at f in
    let same : p ≡ q = sym a.is_part ∙ (ap (λ (t : Node). t.part) g ∙ b.is_part) in
    sym (subst (λ (t : ObjectPart). same_part p t ≡ true) same (part_itself p)))
    (λ e. split (same_part p q) (λ t. false ≡ t)
    (λ s. absurd (
    let f : a.node.part ≡ b.node.part = a.is_part ∙ (part_same p q s ∙ sym b.is_part) in
    let g : a.node ≡ b.node = heap_number h (sizes_of h) keeps classes a.node b.node a.at b.at f in
    let same : n ≡ m = sym a.is_number ∙ (ap (λ (t : Node). t.number) g ∙ b.is_number) in
    let k : nat_eq n m ≡ true = eq-eqb n m same in cc))
    (λ s. refl))

pointers_meant : (h : Classes) (classes : List ClassId) → IsHierarchy h → (n m : ℕ) (v w : Value) → Means h classes (PointerCode n) v → Means h classes (PointerCode m) w → nat_eq n m ≡ is_same_pointer v w
pointers_meant h classes keeps n m Unset w a b = absurd a
pointers_meant h classes keeps n m (Number z) w a b = absurd a
pointers_meant h classes keeps n m Null w a b = absurd a
pointers_meant h classes keeps n m (Pointer p) Unset a b = absurd b
pointers_meant h classes keeps n m (Pointer p) (Number z) a b = absurd b
pointers_meant h classes keeps n m (Pointer p) Null a b = absurd b
pointers_meant h classes keeps n m (Pointer p) (Pointer q) a b = points_same h classes keeps n m p q a b

pub same_meant : (h : Classes) (classes : List ClassId) → IsHierarchy h → (x y : ValueCode) (n m : ℕ) → x ≡ PointerCode n → y ≡ PointerCode m → (v w : Value) → Means h classes x v → Means h classes y w → nat_eq n m ≡ is_same_pointer v w
same_meant h classes keeps x y n m x_is y_is v w a b = pointers_meant h classes keeps n m v w (subst (λ (t : ValueCode). Means h classes t v) x_is a) (subst (λ (t : ValueCode). Means h classes t w) y_is b)
