-- The tests of a block: what its statement uses, by registers, and the checks of each rule.
use Rattle.std.specs.Prelude.{ℕ, Bool, true, false, Option, Some, None, List, [], ◌∷◌, ◌++◌, map}
use Rattle.std.specs.List.{flat_map}
use Rattle.cxx_hierarchy.specs.declared.records.ClassId.{ClassId}
use Rattle.cxx_program.specs.declared.operand.TypedOperand.{TypedOperand}
use Rattle.cxx_program.specs.declared.operand.TypedOperand.TheVariants.{Variable as VariableOperand, This, Number as NumberOperand}
use Rattle.cxx_program.specs.declared.operand.Conversion.{Conversion}
use Rattle.cxx_program.specs.declared.operand.Conversion.TheVariants.{Number as ToNumber, Bits as ToBits, Null as ToNull, Same as ToSame, Base as ToBase}
use Rattle.path_rules.specs.declared.Undefined.{Undefined}
use Rattle.path_rules.specs.declared.Undefined.TheVariants.{NullUse, Dangling, NotReady, OutsideView, Unset, PureCall, BadDowncast, NonVirtualDelete, NotHeapObject, NotComplete, Overflow}
use Rattle.path_model.specs.Rules.{rules}
use Rattle.path_model.specs.Uses.{is_shared}
use Rattle.path_model.specs.Outs.{class_or_first}
use Rattle.cxx_program.specs.Typed.{Scope}
use Rattle.byte_code.specs.declared.op.Check.{Check}
use Rattle.byte_code.specs.declared.op.Check.TheVariants.{NotNull, Open, Ready, InView, SetRegister, HasCode, Derived, Whole, HeapObject, Complete, Fits}
use Rattle.byte_code.specs.declared.op.Finish.TheVariants.{Check as CheckOp}
use Rattle.byte_code.specs.declared.op.Finish.{Finish}
use Rattle.byte_code.specs.declared.op.Op.{Op}
use Rattle.byte_code.specs.declared.op.Op.TheVariants.{Does}
use Rattle.code_ops.specs.declared.uses.Used.{Used}
use Rattle.code_ops.specs.declared.uses.Used.TheVariants.{ReadsNumber, ReadsPointer, Follows, Guards, Views, Takes, Downs, Deletes, Dumps, Overflows}
use Rattle.code_ops.specs.Operands.{operand_class, operand_register}

-- the check of a rule, where the use can break it
abbrev pub checks_of : Undefined → Used → List Check
checks_of NullUse (Follows r) = NotNull r ∷ []
checks_of Dangling (ReadsPointer r) = Open r ∷ []
checks_of NotReady (Guards r offset class) = Ready r offset class ∷ []
checks_of OutsideView (Views r offset class) = InView r offset class ∷ []
checks_of Unset (ReadsNumber r) = SetRegister r ∷ []
checks_of Unset (ReadsPointer r) = SetRegister r ∷ []
checks_of PureCall (Takes r entry) = HasCode r entry ∷ []
checks_of BadDowncast (Downs r offset class) = Derived r offset class ∷ []
checks_of NonVirtualDelete (Deletes r class false) = Whole r class ∷ []
checks_of NotHeapObject (Deletes r class is_virtual) = HeapObject r class ∷ []
checks_of NotComplete (Deletes r class is_virtual) = Complete r ∷ []
checks_of NotComplete (Dumps r) = Complete r ∷ []
checks_of Overflow (Overflows kind width left right) = Fits kind width left right ∷ []
checks_of rule other = []

-- the checks of some uses, sorted by rule
unfoldable pub sorted_checks : List Used → List Check
sorted_checks used = flat_map (λ rule. flat_map (checks_of rule) used) rules

-- as ops that may follow a return
abbrev pub check_list : List Used → List Finish
check_list used = map CheckOp (sorted_checks used)

-- as ops of a block
abbrev pub check_ops : List Used → List Op
check_ops used = map Does (check_list used)

-- a variable or `this` is read; a number is always there
abbrev pub reads_by : Option ClassId → ℕ → List Used
reads_by None r = ReadsNumber r ∷ []
reads_by (Some c) r = ReadsPointer r ∷ []

abbrev pub reads : Scope → ℕ → TypedOperand → List Used
reads e r (NumberOperand z) = []
reads e r (VariableOperand v) = reads_by (operand_class e (VariableOperand v)) (operand_register r (VariableOperand v))
reads e r This = reads_by (operand_class e This) 0

abbrev pub views_if : Bool → ℕ → ℕ → ClassId → List Used
views_if true r offset c = Views r offset c.0 ∷ []
views_if false r offset c = []

-- a pointer to class c, converted
abbrev pub convert_used : Option ClassId → Conversion → ℕ → List Used
convert_used class (ToNumber t) r = []
convert_used class (ToBits t n) r = []
convert_used class ToNull r = []
convert_used class ToSame r = []
convert_used class (ToBase i) r = Guards r 0 (class_or_first class).0 ∷ views_if (is_shared i) r 0 (class_or_first class)

-- `p->`, `*p` or `typeid(*p)`, of a pointer to class c
abbrev pub arrow_used : Scope → ℕ → TypedOperand → ClassId → List Used
arrow_used e r p c = reads e r p ++ (Follows (operand_register r p) ∷ Guards (operand_register r p) 0 c.0 ∷ [])
