-- Statements that take the result of a call.
use Rattle.std.specs.Prelude.{◌≡◌, ℕ, Some, Ok, List}
use Rattle.cxx_hierarchy.specs.declared.records.ClassId.{ClassId}
use Rattle.cxx_hierarchy.specs.declared.records.ValueType.{ValueType}
use Rattle.cxx_hierarchy.specs.declared.records.ReturnType.{ReturnType}
use Rattle.cxx_hierarchy.specs.NameTables.{Text}
use Rattle.cxx_hierarchy.specs.Classes.{Classes}
use Rattle.cxx_syntax.specs.declared.tree.Spot.{Spot}
use Rattle.cxx_syntax.specs.declared.tree.CallText.{CallText}
use Rattle.cxx_syntax.specs.declared.tree.Right.TheVariants as right
use Rattle.cxx_program.specs.declared.operand.Variable.{Variable}
use Rattle.cxx_expression.specs.declared.faults.Fault.{Fault}
use Rattle.cxx_expression.specs.declared.scene.Scene.{Scene}
use Rattle.cxx_expression.specs.declared.scene.Setting.{Setting}
use Rattle.cxx_expression.specs.Scenes.{with_variable as scene_with}
use Rattle.cxx_expression.specs.Values.{variable_of}
use Rattle.cxx_expression.specs.Calls.{whole_call}
use Rattle.cxx_expression.specs.Laws.{result_known, result_faults}
use Rattle.cxx_resolve.specs.Statements.{new_variable, declare_of, assign_of}

-- where the function of a call is found, the faults of its result stand behind those of the variable and of the call: also where
-- the receiver or an argument is refused
pub record ResultsAreTaken : Type 0 where
  -- by a variable that is known
  pub assigned : (h : Classes) (e : Setting) (s : Scene) (at : ℕ) (x : Spot) (text : CallText) (before : List Fault) (v : Variable × ValueType ClassId) (returned : ReturnType ClassId) →
      (variable_of e s x).typed ≡ Ok v → result_known h e s at text ≡ Ok returned →
      (assign_of h e s at x (right.Call text)).faults before ≡ result_faults h at returned v.1 ((whole_call h e s at text).faults ((variable_of e s x).faults before))
  -- by a new variable, whose name is in scope
  pub declared : (h : Classes) (e : Setting) (s : Scene) (at : ℕ) (ty : ValueType Text) (ty_at : ℕ) (x : Spot) (text : CallText) (before : List Fault) (t : ValueType ClassId) (returned : ReturnType ClassId) →
      (new_variable h s ty ty_at x).typed ≡ Ok t → result_known h e (scene_with s x.name t) at text ≡ Ok returned →
      (declare_of h e s at ty ty_at x (Some (right.Call text))).faults before ≡ result_faults h at returned t ((whole_call h e (scene_with s x.name t) at text).faults ((new_variable h s ty ty_at x).faults before))
