-- What a typed statement is of each kind.
use Rattle.std.proofs.Common.{◌≡◌, Some, subst}
use Rattle.std.specs.Prelude.{ℕ}
use Rattle.cxx_hierarchy.specs.declared.records.ClassId.{ClassId}
use Rattle.cxx_hierarchy.specs.declared.records.Function.{Function}
use Rattle.cxx_hierarchy.specs.declared.records.ValueType.{ValueType}
use Rattle.cxx_hierarchy.specs.declared.records.ValueType.TheVariants.{Pointer as PointerType}
use Rattle.cxx_hierarchy.specs.declared.records.FieldType.TheVariants.{Value as ValueField}
use Rattle.cxx_hierarchy.specs.declared.records.ReturnType.TheVariants.{Value as ValueReturn}
use Rattle.cxx_hierarchy.specs.Classes.{Classes}
use Rattle.cxx_program.specs.declared.operand.Variable.{Variable}
use Rattle.cxx_program.specs.declared.operand.TypedOperand.{TypedOperand}
use Rattle.cxx_program.specs.declared.operand.Argument.{Argument}
use Rattle.cxx_program.specs.declared.statement.TypedPlace.{TypedPlace}
use Rattle.cxx_program.specs.declared.statement.TypedCall.{TypedCall}
use Rattle.cxx_program.specs.declared.statement.Converted.{Converted}
use Rattle.cxx_program.specs.declared.statement.TypedKind.{TypedKind}
use Rattle.cxx_program.specs.declared.statement.TypedKind.TheVariants.{Declare, Assign, Write, Copy, Call, Return}
use Rattle.cxx_program.specs.Typed.{Scope, HasType, IsArgument, IsPlace, IsCall, HasRight, IsConverted, IsTyped, declares, begins, assigns, writes, copies, calls, deletes, branches, repeats, returns_nothing, returns_value, prints, prints_type, prints_view, dumps}
use Rattle.path_model.proofs.TypedRights.{converted_type}

pub record RightGiven (h : Classes) (e : Scope) (x : Converted) : Type 0 where
  pub type : ValueType ClassId
  pub right : HasRight h e x.right type

given : (h : Classes) (e : Scope) (x : Converted) (t : ValueType ClassId) → IsConverted h e x t → RightGiven h e x
given h e x t a = let r = converted_type h e x t a in record { type = r.0; right = r.1 }

pub declared_given : (h : Classes) (e : Scope) (r : TypedKind) (m : ℕ) (y : Converted) → r ≡ Declare m (Some y) → IsTyped h e r → RightGiven h e y
declared_given h e _ m y same (declares n t is) = absurd (cc)
declared_given h e _ m y same (begins n x t is a) = let one : x ≡ y = cc in subst (λ (z : Converted). RightGiven h e z) one (given h e x t a)
declared_given h e _ m y same (assigns variable x t is a) = absurd (cc)
declared_given h e _ m y same (writes place x t a b) = absurd (cc)
declared_given h e _ m y same (copies to from c a b) = absurd (cc)
declared_given h e _ m y same (calls call f a) = absurd (cc)
declared_given h e _ m y same (deletes x c a) = absurd (cc)
declared_given h e _ m y same (branches x t other behind a) = absurd (cc)
declared_given h e _ m y same (repeats x t behind a) = absurd (cc)
declared_given h e _ m y same (returns_nothing is) = absurd (cc)
declared_given h e _ m y same (returns_value a t is b) = absurd (cc)
declared_given h e _ m y same (prints x t a) = absurd (cc)
declared_given h e _ m y same (prints_type x c a b) = absurd (cc)
declared_given h e _ m y same (prints_view x c a b) = absurd (cc)
declared_given h e _ m y same (dumps x c a) = absurd (cc)

pub assigned_given : (h : Classes) (e : Scope) (r : TypedKind) (k : Variable) (y : Converted) → r ≡ Assign k y → IsTyped h e r → RightGiven h e y
assigned_given h e _ k y same (declares n t is) = absurd (cc)
assigned_given h e _ k y same (begins n x t is a) = absurd (cc)
assigned_given h e _ k y same (assigns variable x t is a) = let one : x ≡ y = cc in subst (λ (z : Converted). RightGiven h e z) one (given h e x t a)
assigned_given h e _ k y same (writes place x t a b) = absurd (cc)
assigned_given h e _ k y same (copies to from c a b) = absurd (cc)
assigned_given h e _ k y same (calls call f a) = absurd (cc)
assigned_given h e _ k y same (deletes x c a) = absurd (cc)
assigned_given h e _ k y same (branches x t other behind a) = absurd (cc)
assigned_given h e _ k y same (repeats x t behind a) = absurd (cc)
assigned_given h e _ k y same (returns_nothing is) = absurd (cc)
assigned_given h e _ k y same (returns_value a t is b) = absurd (cc)
assigned_given h e _ k y same (prints x t a) = absurd (cc)
assigned_given h e _ k y same (prints_type x c a b) = absurd (cc)
assigned_given h e _ k y same (prints_view x c a b) = absurd (cc)
assigned_given h e _ k y same (dumps x c a) = absurd (cc)

pub written_given : (h : Classes) (e : Scope) (r : TypedKind) (z : TypedPlace) (y : Argument) → r ≡ Write z y → IsTyped h e r → (u : ValueType ClassId) × IsPlace h e z (ValueField u)
written_given h e _ z y same (declares n t is) = absurd (cc)
written_given h e _ z y same (begins n x t is a) = absurd (cc)
written_given h e _ z y same (assigns variable x t is a) = absurd (cc)
written_given h e _ z y same (writes place x t a b) = let one : place ≡ z = cc in (t, subst (λ (q : TypedPlace). IsPlace h e q (ValueField t)) one a)
written_given h e _ z y same (copies to from c a b) = absurd (cc)
written_given h e _ z y same (calls call f a) = absurd (cc)
written_given h e _ z y same (deletes x c a) = absurd (cc)
written_given h e _ z y same (branches x t other behind a) = absurd (cc)
written_given h e _ z y same (repeats x t behind a) = absurd (cc)
written_given h e _ z y same (returns_nothing is) = absurd (cc)
written_given h e _ z y same (returns_value a t is b) = absurd (cc)
written_given h e _ z y same (prints x t a) = absurd (cc)
written_given h e _ z y same (prints_type x c a b) = absurd (cc)
written_given h e _ z y same (prints_view x c a b) = absurd (cc)
written_given h e _ z y same (dumps x c a) = absurd (cc)

pub copied_given : (h : Classes) (e : Scope) (r : TypedKind) (l m : TypedOperand) (k : ClassId) → r ≡ Copy l m k → IsTyped h e r → HasType e l (PointerType k) × HasType e m (PointerType k)
copied_given h e _ l m k same (declares n t is) = absurd (cc)
copied_given h e _ l m k same (begins n x t is a) = absurd (cc)
copied_given h e _ l m k same (assigns variable x t is a) = absurd (cc)
copied_given h e _ l m k same (writes place x t a b) = absurd (cc)
copied_given h e _ l m k same (copies to from c a b) = let one : to ≡ l = cc in let two : from ≡ m = cc in let class : c ≡ k = cc in
    subst (λ (j : ClassId). HasType e l (PointerType j) × HasType e m (PointerType j)) class (subst (λ (q : TypedOperand). HasType e q (PointerType c)) one a, subst (λ (q : TypedOperand). HasType e q (PointerType c)) two b)
copied_given h e _ l m k same (calls call f a) = absurd (cc)
copied_given h e _ l m k same (deletes x c a) = absurd (cc)
copied_given h e _ l m k same (branches x t other behind a) = absurd (cc)
copied_given h e _ l m k same (repeats x t behind a) = absurd (cc)
copied_given h e _ l m k same (returns_nothing is) = absurd (cc)
copied_given h e _ l m k same (returns_value a t is b) = absurd (cc)
copied_given h e _ l m k same (prints x t a) = absurd (cc)
copied_given h e _ l m k same (prints_type x c a b) = absurd (cc)
copied_given h e _ l m k same (prints_view x c a b) = absurd (cc)
copied_given h e _ l m k same (dumps x c a) = absurd (cc)

pub called_given : (h : Classes) (e : Scope) (r : TypedKind) (k : TypedCall) → r ≡ Call k → IsTyped h e r → (g : Function ClassId) × IsCall h e k g
called_given h e _ k same (declares n t is) = absurd (cc)
called_given h e _ k same (begins n x t is a) = absurd (cc)
called_given h e _ k same (assigns variable x t is a) = absurd (cc)
called_given h e _ k same (writes place x t a b) = absurd (cc)
called_given h e _ k same (copies to from c a b) = absurd (cc)
called_given h e _ k same (calls call f a) = let one : call ≡ k = cc in (f, subst (λ (q : TypedCall). IsCall h e q f) one a)
called_given h e _ k same (deletes x c a) = absurd (cc)
called_given h e _ k same (branches x t other behind a) = absurd (cc)
called_given h e _ k same (repeats x t behind a) = absurd (cc)
called_given h e _ k same (returns_nothing is) = absurd (cc)
called_given h e _ k same (returns_value a t is b) = absurd (cc)
called_given h e _ k same (prints x t a) = absurd (cc)
called_given h e _ k same (prints_type x c a b) = absurd (cc)
called_given h e _ k same (prints_view x c a b) = absurd (cc)
called_given h e _ k same (dumps x c a) = absurd (cc)

pub result_given : (h : Classes) (e : Scope) (r : TypedKind) (k : Argument) → r ≡ Return (Some k) → IsTyped h e r → (u : ValueType ClassId) × (e.returns ≡ Some (ValueReturn u)) × IsArgument h e k u
result_given h e _ k same (declares n t is) = absurd (cc)
result_given h e _ k same (begins n x t is a) = absurd (cc)
result_given h e _ k same (assigns variable x t is a) = absurd (cc)
result_given h e _ k same (writes place x t a b) = absurd (cc)
result_given h e _ k same (copies to from c a b) = absurd (cc)
result_given h e _ k same (calls call f a) = absurd (cc)
result_given h e _ k same (deletes x c a) = absurd (cc)
result_given h e _ k same (branches x t other behind a) = absurd (cc)
result_given h e _ k same (repeats x t behind a) = absurd (cc)
result_given h e _ k same (returns_nothing is) = absurd (cc)
result_given h e _ k same (returns_value a t is b) = let one : a ≡ k = cc in (t, is, subst (λ (q : Argument). IsArgument h e q t) one b)
result_given h e _ k same (prints x t a) = absurd (cc)
result_given h e _ k same (prints_type x c a b) = absurd (cc)
result_given h e _ k same (prints_view x c a b) = absurd (cc)
result_given h e _ k same (dumps x c a) = absurd (cc)
