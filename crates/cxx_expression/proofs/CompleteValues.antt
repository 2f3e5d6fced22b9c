-- Operands, pointers and conversions are refused, or typed.
use Rattle.std.proofs.Common.{ℕ, Bool, true, false, nat_eq, Option, Some, None}
use Rattle.cxx_hierarchy.specs.declared.records.ClassId.{ClassId}
use Rattle.cxx_hierarchy.specs.declared.records.ValueType.{ValueType}
use Rattle.cxx_hierarchy.specs.declared.records.ValueType.TheVariants as type
use Rattle.cxx_hierarchy.specs.Classes.{Classes}
use Rattle.cxx_hierarchy.specs.NameTables.{Text}
use Rattle.cxx_syntax.specs.declared.tree.Spot.{Spot}
use Rattle.cxx_syntax.specs.declared.tree.PointerText.{PointerText}
use Rattle.cxx_syntax.specs.declared.tree.PointerText.TheVariants as pointer
use Rattle.cxx_syntax.specs.declared.tree.Operand.{Operand}
use Rattle.cxx_syntax.specs.declared.tree.Operand.TheVariants as operand
use Rattle.cxx_program.specs.declared.operand.TypedOperand.{TypedOperand}
use Rattle.cxx_expression.specs.declared.look_up.Based.{Based}
use Rattle.cxx_expression.specs.declared.look_up.Based.TheVariants as based
use Rattle.cxx_expression.specs.declared.scene.Entry.{Entry}
use Rattle.cxx_expression.specs.declared.scene.Scene.{Scene}
use Rattle.cxx_expression.specs.declared.scene.Setting.{Setting}
use Rattle.cxx_expression.specs.Lookups.{find_class, base_up}
use Rattle.cxx_expression.specs.Scenes.{innermost_entry}
use Rattle.cxx_expression.specs.Values.{as_class, class_named, class_of_spot, type_of, named_global, local_of, variable_of, named_value, this_pointer_value, operand_of, pointer_value, as_pointer, pointer_of, as_number, number_operand, as_base, path_to, class_conversion, conversion_of, converted_operand}
use Rattle.cxx_expression.specs.Laws.{IsComplete}
use Rattle.cxx_expression.proofs.Complete.{complete_pure, complete_fail, complete_bind, complete_if}

c_as_class : (at : ℕ) (o : Option ClassId) → IsComplete (as_class at o)
c_as_class at None = complete_fail _ _
c_as_class at (Some c) = complete_pure _

pub c_class_named : (h : Classes) (name : Text) (at : ℕ) → IsComplete (class_named h name at)
unfolding class_named
c_class_named h name at = c_as_class at (find_class h name)

pub c_class_of : (h : Classes) (x : Spot) → IsComplete (class_of_spot h x)
unfolding class_of_spot
c_class_of h x = c_class_named h x.name x.at

pub c_type : (h : Classes) (ty : ValueType Text) (at : ℕ) → IsComplete (type_of h ty at)
unfolding type_of
c_type h (type.Number t) at = complete_pure _
c_type h (type.Pointer name) at = complete_bind _ _ (c_class_named h name at) (λ c. complete_pure _)

c_global : (at : ℕ) (o : Option Entry) → IsComplete (named_global at o)
c_global at None = complete_fail _ _
c_global at (Some entry) = complete_pure _

c_local : (e : Setting) (x : Spot) (o : Option Entry) → IsComplete (local_of e x o)
c_local e x None = c_global x.at (innermost_entry e.globals x.name)
c_local e x (Some entry) = complete_pure _

pub c_variable : (e : Setting) (s : Scene) (x : Spot) → IsComplete (variable_of e s x)
unfolding variable_of
c_variable e s x = c_local e x (innermost_entry s.entries x.name)

c_named : (e : Setting) (s : Scene) (x : Spot) → IsComplete (named_value e s x)
unfolding named_value
c_named e s x = complete_bind _ _ (c_variable e s x) (λ v. complete_pure _)

c_this : (at : ℕ) (o : Option ClassId) → IsComplete (this_pointer_value at o)
c_this at None = complete_fail _ _
c_this at (Some c) = complete_pure _

pub c_operand : (e : Setting) (s : Scene) (at : ℕ) (x : Operand) → IsComplete (operand_of e s at x)
unfolding operand_of
c_operand e s at (operand.Name x) = c_named e s x
c_operand e s at (operand.This place) = c_this at e.this_class
c_operand e s at (operand.Constant c) = complete_pure _

c_pointer_value : (e : Setting) (s : Scene) (at : ℕ) (x : PointerText) → IsComplete (pointer_value e s at x)
unfolding pointer_value
c_pointer_value e s at (pointer.Name x) = c_named e s x
c_pointer_value e s at (pointer.This place) = c_this at e.this_class

c_as_pointer : (at : ℕ) (v : TypedOperand) (t : ValueType ClassId) → IsComplete (as_pointer at v t)
c_as_pointer at v (type.Number t) = complete_fail _ _
c_as_pointer at v (type.Pointer c) = complete_pure _

c_as_number : (at : ℕ) (v : TypedOperand) (t : ValueType ClassId) → IsComplete (as_number at v t)
c_as_number at v (type.Number t) = complete_pure _
c_as_number at v (type.Pointer c) = complete_fail _ _

pub c_pointer : (e : Setting) (s : Scene) (at : ℕ) (x : PointerText) → IsComplete (pointer_of e s at x)
unfolding pointer_of
c_pointer e s at x = complete_bind _ _ (c_pointer_value e s at x) (λ v. c_as_pointer at v.operand v.ty)

pub c_number : (e : Setting) (s : Scene) (at : ℕ) (x : Operand) → IsComplete (number_operand e s at x)
unfolding number_operand
c_number e s at x = complete_bind _ _ (c_operand e s at x) (λ v. c_as_number at v.operand v.ty)

c_base : (at : ℕ) (b : Based) → IsComplete (as_base at b)
c_base at based.NotBase = complete_fail _ _
c_base at based.TwoBases = complete_fail _ _
c_base at (based.Base s) = complete_pure _

pub c_path : (h : Classes) (at : ℕ) (c d : ClassId) → IsComplete (path_to h at c d)
unfolding path_to
c_path h at c d = complete_if (nat_eq c.0 d.0) _ _ (complete_pure _) (c_base at (base_up h c d))

pub c_class_conversion : (h : Classes) (at : ℕ) (c d : ClassId) → IsComplete (class_conversion h at c d)
unfolding class_conversion
c_class_conversion h at c d = complete_bind _ _ (c_path h at c d) (λ path. complete_pure _)

pub c_conversion : (h : Classes) (at : ℕ) (t : ValueType ClassId) (is_null : Bool) (u : ValueType ClassId) → IsComplete (conversion_of h at t is_null u)
unfolding conversion_of
c_conversion h at (type.Number t) is_null (type.Number u) = complete_pure _
c_conversion h at (type.Number t) true (type.Pointer d) = complete_pure _
c_conversion h at (type.Number t) false (type.Pointer d) = complete_fail _ _
c_conversion h at (type.Pointer c) is_null (type.Number u) = complete_fail _ _
c_conversion h at (type.Pointer c) is_null (type.Pointer d) = c_class_conversion h at c d

pub c_converted_operand : (h : Classes) (e : Setting) (s : Scene) (at : ℕ) (t : ValueType ClassId) (x : Operand) → IsComplete (converted_operand h e s at t x)
unfolding converted_operand
c_converted_operand h e s at t x = complete_bind _ _ (c_operand e s at x) (λ v. complete_bind _ _ (c_conversion h at v.ty v.is_null t) (λ c. complete_pure _))
