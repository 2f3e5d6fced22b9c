-- Laws of the pieces of a statement.
use Rattle.std.specs.Prelude.{◌≡◌, ℕ, ◌≤◌, ◌<◌, Bool, false, Option, Some, None, Result, Ok, Err, IsOk, List, length}
use Rattle.cxx_hierarchy.specs.declared.records.ClassId.{ClassId}
use Rattle.cxx_hierarchy.specs.declared.records.ValueType.{ValueType}
use Rattle.cxx_hierarchy.specs.declared.records.ReturnType.{ReturnType}
use Rattle.cxx_hierarchy.specs.declared.records.ReturnType.TheVariants as returns
use Rattle.cxx_hierarchy.specs.declared.stop.Rule.TheVariants as rule
use Rattle.cxx_hierarchy.specs.Classes.{Classes}
use Rattle.cxx_hierarchy.specs.NameTables.{Text}
use Rattle.cxx_syntax.specs.declared.tree.Spot.{Spot}
use Rattle.cxx_syntax.specs.declared.tree.Operand.{Operand}
use Rattle.cxx_syntax.specs.declared.tree.PointerText.{PointerText}
use Rattle.cxx_syntax.specs.declared.tree.PlaceText.{PlaceText}
use Rattle.cxx_syntax.specs.declared.tree.CallText.{CallText}
use Rattle.cxx_syntax.specs.declared.tree.Right.{Right}
use Rattle.cxx_syntax.specs.declared.tree.Right.TheVariants as right
use Rattle.cxx_expression.specs.declared.faults.Fault.{Fault}
use Rattle.cxx_expression.specs.declared.scene.Scene.{Scene}
use Rattle.cxx_expression.specs.declared.scene.Setting.{Setting}
use Rattle.cxx_expression.specs.declared.typed.Pointer.{Pointer}
use Rattle.cxx_expression.specs.declared.typed.FoundFunction.{FoundFunction}
use Rattle.cxx_expression.specs.Checked.{Checked, noted, where_typed}
use Rattle.cxx_expression.specs.Values.{class_named, class_of_spot, type_of, variable_of, operand_of, pointer_of, number_operand, class_conversion, conversion_of, converted_operand}
use Rattle.cxx_expression.specs.Places.{leaf_of}
use Rattle.cxx_expression.specs.Calls.{function_of, whole_call}
use Rattle.cxx_expression.specs.Casts.{polymorphic_pointer}
use Rattle.cxx_expression.specs.Rights.{whole_right, converted_right}

-- faults are only added to those before, and where none is added the piece is typed
pub record IsComplete {X : Type 0} (p : Checked X) : Type 0 where
  pub grows : (before : List Fault) → length before ≤ length (p.faults before)
  pub typed : (before : List Fault) → (IsOk p.typed → ⊥) → length before < length (p.faults before)

-- each piece of a statement is refused, or typed
pub record PiecesAreComplete : Type 0 where
  pub class_named : (h : Classes) (name : Text) (at : ℕ) → IsComplete (class_named h name at)
  pub class_of : (h : Classes) (x : Spot) → IsComplete (class_of_spot h x)
  pub type_of : (h : Classes) (ty : ValueType Text) (at : ℕ) → IsComplete (type_of h ty at)
  pub variable : (e : Setting) (s : Scene) (x : Spot) → IsComplete (variable_of e s x)
  pub operand : (e : Setting) (s : Scene) (at : ℕ) (x : Operand) → IsComplete (operand_of e s at x)
  pub pointer : (e : Setting) (s : Scene) (at : ℕ) (x : PointerText) → IsComplete (pointer_of e s at x)
  pub number : (e : Setting) (s : Scene) (at : ℕ) (x : Operand) → IsComplete (number_operand e s at x)
  pub class_conversion : (h : Classes) (at : ℕ) (c d : ClassId) → IsComplete (class_conversion h at c d)
  pub conversion : (h : Classes) (at : ℕ) (t : ValueType ClassId) (is_null : Bool) (u : ValueType ClassId) → IsComplete (conversion_of h at t is_null u)
  pub converted_operand : (h : Classes) (e : Setting) (s : Scene) (at : ℕ) (t : ValueType ClassId) (x : Operand) → IsComplete (converted_operand h e s at t x)
  pub leaf : (h : Classes) (e : Setting) (s : Scene) (at : ℕ) (text : PlaceText) → IsComplete (leaf_of h e s at text)
  pub call : (h : Classes) (e : Setting) (s : Scene) (at : ℕ) (text : CallText) → IsComplete (whole_call h e s at text)
  pub polymorphic : (h : Classes) (e : Setting) (s : Scene) (at : ℕ) (x : PointerText) → IsComplete (polymorphic_pointer h e s at x)
  pub right_of : (h : Classes) (e : Setting) (s : Scene) (at : ℕ) (r : Right) → IsComplete (whole_right h e s at r)
  pub right : (h : Classes) (e : Setting) (s : Scene) (at : ℕ) (t : ValueType ClassId) (r : Right) → IsComplete (converted_right h e s at t r)

-- the class in which a call looks its function up: the one before `::`, or else that of the pointer
abbrev pub class_asked : Classes → Setting → Scene → ℕ → PointerText → Option Spot → Result ClassId Fault
class_asked h e s at pointer None = where_typed (λ (p : Pointer). p.class) (pointer_of e s at pointer).typed
class_asked h e s at pointer (Some x) = (class_of_spot h x).typed

-- what the function of a name in a class returns
abbrev pub result_in : Classes → ℕ → Spot → Result ClassId Fault → Result (ReturnType ClassId) Fault
result_in h at name (Err f) = Err f
result_in h at name (Ok c) = where_typed (λ (f : FoundFunction). f.returns) (function_of h at c name).typed

-- what the function of a call returns, where it is found: that rests on the class and the name, and on nothing else of the call
abbrev pub result_known : Classes → Setting → Scene → ℕ → CallText → Result (ReturnType ClassId) Fault
result_known h e s at text = result_in h at text.name (class_asked h e s at text.pointer text.class)

-- E19: a void result used; else those of the conversion of the result to the type of what takes it
abbrev pub result_faults : Classes → ℕ → ReturnType ClassId → ValueType ClassId → List Fault → List Fault
result_faults h at returns.Void to before = noted rule.TypeMismatch at before
result_faults h at (returns.Value from) to before = (conversion_of h at from false to).faults before

-- where the function of a call is found, the faults of its result stand behind those of the call: also where the receiver or an
-- argument is refused
pub record ResultsAreAsked : Type 0 where
  pub asked : (h : Classes) (e : Setting) (s : Scene) (at : ℕ) (text : CallText) (returned : ReturnType ClassId) (to : ValueType ClassId) (before : List Fault) → result_known h e s at text ≡ Ok returned →
      (converted_right h e s at to (right.Call text)).faults before ≡ result_faults h at returned to ((whole_call h e s at text).faults before)
