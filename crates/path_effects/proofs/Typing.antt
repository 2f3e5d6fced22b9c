-- What a typed statement of one kind has.
use Rattle.std.proofs.Common.{◌≡◌, subst}
use Rattle.cxx_hierarchy.specs.declared.records.ClassId.{ClassId}
use Rattle.cxx_hierarchy.specs.declared.records.ValueType.{ValueType}
use Rattle.cxx_hierarchy.specs.declared.records.ValueType.TheVariants.{Pointer as PointerType}
use Rattle.cxx_hierarchy.specs.declared.records.FieldType.TheVariants.{Value as ValueField}
use Rattle.cxx_hierarchy.specs.Classes.{Classes}
use Rattle.cxx_program.specs.declared.operand.Argument.{Argument}
use Rattle.cxx_program.specs.declared.operand.TypedOperand.{TypedOperand}
use Rattle.cxx_program.specs.declared.statement.TypedPlace.{TypedPlace}
use Rattle.cxx_program.specs.declared.statement.TypedKind.{TypedKind}
use Rattle.cxx_program.specs.declared.statement.TypedKind.TheVariants.{Write, Copy, Delete}
use Rattle.cxx_program.specs.Typed.{Scope, HasType, IsKept, IsPlace, place_width, IsTyped, declares, begins, assigns, writes, copies, calls, deletes, branches, repeats, returns_nothing, returns_value, prints, prints_type, prints_view, dumps}

-- a place and what it keeps
pub record Writes (h : Classes) (e : Scope) (place : TypedPlace) (x : Argument) : Type 0 where
  pub type : ValueType ClassId
  pub is_place : IsPlace h e place (ValueField type)
  pub is_value : IsKept h e (place_width h place) x type

pub write_typed : (h : Classes) (e : Scope) (kind : TypedKind) → IsTyped h e kind → (to : TypedPlace) (v : Argument) → kind ≡ Write to v → Writes h e to v
write_typed h e _ (declares n t is) to v same = absurd (cc)
write_typed h e _ (begins n y t is fits) to v same = absurd (cc)
write_typed h e _ (assigns variable y t is fits) to v same = absurd (cc)
write_typed h e _ (writes place x t p fits) to v same =
    let a : place ≡ to = cc in
    let b : x ≡ v = cc in
    record { type = t; is_place = subst (λ (y : TypedPlace). IsPlace h e y (ValueField t)) a p; is_value = subst (λ (q : TypedPlace). IsKept h e (place_width h q) v t) a (subst (λ (y : Argument). IsKept h e (place_width h place) y t) b fits) }
write_typed h e _ (copies a b c has_to has_from) to v same = absurd (cc)
write_typed h e _ (calls call d c) to v same = absurd (cc)
write_typed h e _ (deletes y c has) to v same = absurd (cc)
write_typed h e _ (branches y t other behind has) to v same = absurd (cc)
write_typed h e _ (repeats y t behind has) to v same = absurd (cc)
write_typed h e _ (returns_nothing is) to v same = absurd (cc)
write_typed h e _ (returns_value y t is fits) to v same = absurd (cc)
write_typed h e _ (prints y t has) to v same = absurd (cc)
write_typed h e _ (prints_type y c has poly) to v same = absurd (cc)
write_typed h e _ (prints_view y c has poly) to v same = absurd (cc)
write_typed h e _ (dumps y c has) to v same = absurd (cc)

-- two pointers to the class
pub record Copies (e : Scope) (to from : TypedOperand) (c : ClassId) : Type 0 where
  pub target : HasType e to (PointerType c)
  pub source : HasType e from (PointerType c)

pub copy_typed : (h : Classes) (e : Scope) (kind : TypedKind) → IsTyped h e kind → (a b : TypedOperand) (k : ClassId) → kind ≡ Copy a b k → Copies e a b k
copy_typed h e _ (declares n t is) a b k same = absurd (cc)
copy_typed h e _ (begins n y t is fits) a b k same = absurd (cc)
copy_typed h e _ (assigns variable y t is fits) a b k same = absurd (cc)
copy_typed h e _ (writes place x t p fits) a b k same = absurd (cc)
copy_typed h e _ (copies to from c has_to has_from) a b k same =
    let r : to ≡ a = cc in
    let t : from ≡ b = cc in
    let u : c ≡ k = cc in
    subst (λ (j : ClassId). Copies e a b j) u
    (record { target = subst (λ (y : TypedOperand). HasType e y (PointerType c)) r has_to; source = subst (λ (y : TypedOperand). HasType e y (PointerType c)) t has_from })
copy_typed h e _ (calls call d c) a b k same = absurd (cc)
copy_typed h e _ (deletes y c has) a b k same = absurd (cc)
copy_typed h e _ (branches y t other behind has) a b k same = absurd (cc)
copy_typed h e _ (repeats y t behind has) a b k same = absurd (cc)
copy_typed h e _ (returns_nothing is) a b k same = absurd (cc)
copy_typed h e _ (returns_value y t is fits) a b k same = absurd (cc)
copy_typed h e _ (prints y t has) a b k same = absurd (cc)
copy_typed h e _ (prints_type y c has poly) a b k same = absurd (cc)
copy_typed h e _ (prints_view y c has poly) a b k same = absurd (cc)
copy_typed h e _ (dumps y c has) a b k same = absurd (cc)

-- a pointer to the class
pub delete_typed : (h : Classes) (e : Scope) (kind : TypedKind) → IsTyped h e kind → (x : TypedOperand) (k : ClassId) → kind ≡ Delete x k → HasType e x (PointerType k)
delete_typed h e _ (declares n t is) x k same = absurd (cc)
delete_typed h e _ (begins n y t is fits) x k same = absurd (cc)
delete_typed h e _ (assigns variable y t is fits) x k same = absurd (cc)
delete_typed h e _ (writes place z t p fits) x k same = absurd (cc)
delete_typed h e _ (copies to from c has_to has_from) x k same = absurd (cc)
delete_typed h e _ (calls call d c) x k same = absurd (cc)
delete_typed h e _ (deletes y c has) x k same =
    let r : y ≡ x = cc in
    let u : c ≡ k = cc in
    subst (λ (j : ClassId). HasType e x (PointerType j)) u (subst (λ (z : TypedOperand). HasType e z (PointerType c)) r has)
delete_typed h e _ (branches y t other behind has) x k same = absurd (cc)
delete_typed h e _ (repeats y t behind has) x k same = absurd (cc)
delete_typed h e _ (returns_nothing is) x k same = absurd (cc)
delete_typed h e _ (returns_value y t is fits) x k same = absurd (cc)
delete_typed h e _ (prints y t has) x k same = absurd (cc)
delete_typed h e _ (prints_type y c has poly) x k same = absurd (cc)
delete_typed h e _ (prints_view y c has poly) x k same = absurd (cc)
delete_typed h e _ (dumps y c has) x k same = absurd (cc)
