-- A result of two numbers that their type holds.
use Rattle.std.specs.Prelude.{◌≡◌, ℤ, List, false}
use Rattle.cxx_hierarchy.specs.declared.records.ClassId.{ClassId}
use Rattle.cxx_hierarchy.specs.declared.records.Scalar.{Scalar}
use Rattle.cxx_hierarchy.specs.Classes.{Classes}
use Rattle.cxx_program.specs.declared.statement.Arithmetic.{Arithmetic as Operator}
use Rattle.path_model.specs.Values.{Value, Number}
use Rattle.path_model.specs.Effects.{arithmetic_value}
use Rattle.path_model.specs.Rules.{overflows}
use Rattle.path_heap.specs.declared.state.Value.{Value as ValueCode}
use Rattle.path_heap.specs.Stands.{Means}

-- v and w are numbers, their result does not pass their type, and the code's value means it
pub record HoldsResult (h : Classes) (classes : List ClassId) (op : Operator) (t : Scalar) (v w : Value) (code : ValueCode) : Type 0 where
  pub first : ℤ
  pub second : ℤ
  pub first_is : v ≡ Number first
  pub second_is : w ≡ Number second
  pub fits : overflows op t v w ≡ false
  pub means : Means h classes code (arithmetic_value op t v w)
