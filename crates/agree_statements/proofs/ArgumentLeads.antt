-- An argument that was read is converted into another register.
use Rattle.std.proofs.Common.{◌≡◌, ℕ, ◌<◌, false, Option, List, ◌++◌, length, inl, inr, refl, sym, subst}
use Rattle.foundation.proofs.Members.{Has}
use Rattle.cxx_hierarchy.specs.declared.records.ClassId.{ClassId}
use Rattle.cxx_hierarchy.specs.declared.records.ValueType.{ValueType}
use Rattle.cxx_hierarchy.specs.declared.records.ValueType.TheVariants.{Number as NumberType}
use Rattle.cxx_program.specs.declared.operand.Argument.{Argument}
use Rattle.cxx_program.specs.declared.operand.Conversion.{Conversion}
use Rattle.cxx_program.specs.declared.operand.Conversion.TheVariants.{Number as ToNumber, Bits as ToBits, Null as ToNull, Same as ToSame, Base as ToBase}
use Rattle.cxx_program.specs.declared.statement.TypedStatement.{TypedStatement}
use Rattle.cxx_program.specs.Typed.{Scope, HasType, IsArgument, a_value, a_null, IsKept, whole, in_bits}
use Rattle.path_rules.specs.declared.Undefined.{Undefined}
use Rattle.path_rules.specs.declared.Undefined.TheVariants.{Dangling}
use Rattle.path_model.specs.Values.{Value, Unset, Number, Null, Pointer, Objects, Sight, value_of_operand, converted_to, argument_value}
use Rattle.path_model.specs.Uses.{StatementUse, Reads, argument_uses}
use Rattle.path_model.specs.Rules.{is_broken, is_unset}
use Rattle.path_model.specs.TypedStates.{IsValue}
use Rattle.path_model.proofs.TypedValues.{IsTypedSight, operand_typed}
use Rattle.byte_machine.specs.Frames.{register_of}
use Rattle.byte_code.specs.declared.op.Op.{Op}
use Rattle.byte_machine.specs.Leads.{OpsLead}
use Rattle.byte_machine.specs.Running.{Running, Stop}
use Rattle.code_ops.specs.Arguments.{argument_ops}
use Rattle.code_ops.specs.Operands.{operand_class, operand_register, ops_of, converted_ops}
use Rattle.agree_relation.specs.Worlds.{World, IsProgramWorld, world_classes, fixed}
use Rattle.agree_relation.specs.Words.{heap_of, register_word}
use Rattle.agree_relation.specs.Columns.{ColumnsStand}
use Rattle.agree_relation.proofs.LeafWidths.{MayHaveWidth}
use Rattle.agree_statements.specs.Registers.{at_registers, Wrote}
use Rattle.agree_statements.proofs.Tests.{unbroken}
use Rattle.agree_statements.proofs.Useds.{class_of_type}
use Rattle.agree_statements.proofs.Conversions.{IsSure, leads_converted, leads_kept, leads_null}
use Rattle.agree_statements.proofs.Scenes.{Scene, here, scope, block, sight_with}
use Rattle.agree_statements.proofs.Finish.{Reaches}
use Rattle.agree_statements.proofs.Rights.{sure}

-- what is set stays so when it is converted
set_converted : (c : Conversion) (v : Value) → is_unset v ≡ false → is_unset (converted_to v c) ≡ false
set_converted (ToNumber k) Unset f = f
set_converted (ToNumber k) (Number z) f = refl
set_converted (ToNumber k) Null f = refl
set_converted (ToNumber k) (Pointer p) f = refl
set_converted (ToBits k n) Unset f = f
set_converted (ToBits k n) (Number z) f = refl
set_converted (ToBits k n) Null f = refl
set_converted (ToBits k n) (Pointer p) f = refl
set_converted ToNull v f = refl
set_converted ToSame v f = f
set_converted (ToBase i) Unset f = f
set_converted (ToBase i) (Number z) f = refl
set_converted (ToBase i) Null f = refl
set_converted (ToBase i) (Pointer p) f = refl

pub argument_set : (see : Sight) (a : Argument) → is_unset (value_of_operand see a.operand) ≡ false → is_unset (argument_value see a) ≡ false
argument_set see a set = set_converted a.conversion (value_of_operand see a.operand) set

module _ (w : World) (s : Objects) (b : Running) (world : IsProgramWorld w) (columns : ColumnsStand w s b.memory b.objects b.heap b.notes) (P : Running → Stop → Type 0) where
  -- where its operand has a value of each type that it has
  pub leads_argument_sure : {ops : List Op} (e : Scope) (see : Sight) (a : Argument) (t : ValueType ClassId) (to from : ℕ) (old : List (Option ℕ)) → ((u : ValueType ClassId) → HasType e a.operand u → IsValue (world_classes w) s.classes (value_of_operand see a.operand) u) → IsArgument (world_classes w) e a t
      → IsSure w s b (value_of_operand see a.operand) a.conversion → register_of old (operand_register from a.operand) ≡ register_word w (heap_of s.classes b.memory.regions) (value_of_operand see a.operand) → to < length old
      → ((new : List (Option ℕ)) → Wrote to old new → register_of new to ≡ register_word w (heap_of s.classes b.memory.regions) (argument_value see a) → OpsLead (fixed w) ops (at_registers b new) P)
      → OpsLead (fixed w) (ops_of (converted_ops w.setup (operand_class e a.operand) a.conversion to (operand_register from a.operand)) ++ ops) (at_registers b old) P
  leads_argument_sure {ops} e see _ _ to from old typed (a_value a u t has conversion) sure_there word inside rest =
      subst (λ (k : Option ClassId). OpsLead (fixed w) (ops_of (converted_ops w.setup k a.conversion to (operand_register from a.operand)) ++ ops) (at_registers b old) P) (sym (class_of_type e a.operand u has))
      (leads_converted w s b world columns P (value_of_operand see a.operand) u t a.conversion to (operand_register from a.operand) old conversion sure_there (typed u has) word inside rest)
  leads_argument_sure e see _ _ to from old typed (a_null d) sure_there word inside rest = leads_null w s b world columns P to from old word inside rest

  -- and what a leaf of some width keeps of it
  pub leads_kept_sure : {ops : List Op} (e : Scope) (see : Sight) (width : Option ℕ) (a : Argument) (t : ValueType ClassId) (to from : ℕ) (old : List (Option ℕ)) → ((u : ValueType ClassId) → HasType e a.operand u → IsValue (world_classes w) s.classes (value_of_operand see a.operand) u) → MayHaveWidth width t
      → IsKept (world_classes w) e width a t → IsSure w s b (value_of_operand see a.operand) a.conversion → register_of old (operand_register from a.operand) ≡ register_word w (heap_of s.classes b.memory.regions) (value_of_operand see a.operand) → to < length old
      → ((new : List (Option ℕ)) → Wrote to old new → register_of new to ≡ register_word w (heap_of s.classes b.memory.regions) (argument_value see a) → OpsLead (fixed w) ops (at_registers b new) P)
      → OpsLead (fixed w) (ops_of (converted_ops w.setup (operand_class e a.operand) a.conversion to (operand_register from a.operand)) ++ ops) (at_registers b old) P
  leads_kept_sure e see _ _ _ to from old typed may (whole a t is) sure_there word inside rest = leads_argument_sure e see a t to from old typed is sure_there word inside rest
  leads_kept_sure {ops} e see _ _ _ to from old typed may (in_bits a n u t has is) sure_there word inside rest =
      subst (λ (c : Conversion). ((new : List (Option ℕ)) → Wrote to old new → register_of new to ≡ register_word w (heap_of s.classes b.memory.regions) (converted_to (value_of_operand see a.operand) c) → OpsLead (fixed w) ops (at_registers b new) P)
      → OpsLead (fixed w) (ops_of (converted_ops w.setup (operand_class e a.operand) c to (operand_register from a.operand)) ++ ops) (at_registers b old) P) (sym is)
      (λ goes. leads_kept w s b world columns P (value_of_operand see a.operand) u t n to (operand_register from a.operand) old may.0 may.1 (typed (NumberType u) has) word inside goes) rest

module _ {statement : TypedStatement} (scene : Scene statement) (locals : List Value) where
  open scene use {w, at, s, f, below, body, b}

  -- where its tests passed, among those of other uses
  pub leads_argument : {ops : List Op} (us : List StatementUse) (width : Option ℕ) (a : Argument) (t : ValueType ClassId) (to from : ℕ) (old : List (Option ℕ)) → IsTypedSight (world_classes w) (scope scene) (sight_with scene locals) → MayHaveWidth width t → IsKept (world_classes w) (scope scene) width a t
      → ((u : StatementUse) → Has (argument_uses (sight_with scene locals) a) u → Has us u) → ((r : Undefined) → is_broken (world_classes w) s.objects us r ≡ false) → register_of old (operand_register from a.operand) ≡ register_word w (here scene) (value_of_operand (sight_with scene locals) a.operand) → to < length old
      → ((new : List (Option ℕ)) → Wrote to old new → register_of new to ≡ register_word w (here scene) (argument_value (sight_with scene locals) a) → OpsLead (fixed w) ops (at_registers b new) (Reaches scene))
      → OpsLead (fixed w) (ops_of (argument_ops (block scene) a to from) ++ ops) (at_registers b old) (Reaches scene)
  leads_argument us width a t to from old sees may typed within none word inside rest =
      let h = world_classes w in
      let v = value_of_operand (sight_with scene locals) a.operand in
      let open_there = unbroken (fixed w) b (Reaches scene) h s.objects us (Reads v) Dangling (none Dangling) (within (Reads v) (inl refl)) in
      leads_kept_sure w s.objects b scene.world scene.begins.stands.columns (Reaches scene) (scope scene) (sight_with scene locals) width a t to from old (λ u has. operand_typed h (scope scene) (sight_with scene locals) sees a.operand u has) may typed
      (sure scene v a.conversion us none (λ q there. within q (inr there)) open_there) word inside rest
