-- Assignments and declarations, by what their right sides do.
use Rattle.std.proofs.Common.{◌≡◌, ℕ, ◌+◌, ◌<◌, Option, Some, None, List, [], ◌∷◌, length, length-set, set, refl, ap, sym, ◌∙◌, subst, arith}
use Rattle.std.specs.Prelude.{slice_get}
use Rattle.std.proofs.lemmas.Option.{slice_get_within}
use Rattle.cxx_hierarchy.specs.declared.records.ClassId.{ClassId}
use Rattle.cxx_hierarchy.specs.declared.records.ValueType.{ValueType}
use Rattle.cxx_hierarchy.specs.Classes.{Classes}
use Rattle.cxx_program.specs.declared.operand.Variable.{Variable}
use Rattle.cxx_program.specs.declared.operand.Variable.TheVariants.{Local}
use Rattle.cxx_program.specs.declared.statement.Converted.{Converted}
use Rattle.cxx_program.specs.declared.statement.TypedKind.TheVariants.{Declare, Assign}
use Rattle.cxx_program.specs.declared.statement.TypedStatement.{TypedStatement}
use Rattle.cxx_program.specs.Typed.{Scope, variable_type, IsConverted, IsTyped, declares, begins, assigns}
use Rattle.path_model.specs.Values.{Value, Unset, Objects}
use Rattle.path_model.specs.Order.{first_broken, sorted}
use Rattle.path_model.specs.States.{sight}
use Rattle.path_model.specs.Runs.{asks_nothing, right_demand}
use Rattle.path_model.proofs.TypedValues.{IsTypedSight, values_set}
use Rattle.byte_machine.specs.Frames.{register_of}
use Rattle.byte_code.specs.declared.op.Op.{Op}
use Rattle.byte_code.specs.declared.op.Op.TheVariants.{Does}
use Rattle.byte_code.specs.declared.op.Finish.TheVariants.{Move}
use Rattle.code_blocks.specs.Blocks.{statement_ops}
use Rattle.code_ops.specs.Setups.{local_register, spare_register}
use Rattle.byte_machine.specs.Leads.{OpsLead, LeadsBlock}
use Rattle.byte_machine.proofs.Leads.{leads_end}
use Rattle.byte_machine.proofs.ValueLeads.{leads_move}
use Rattle.byte_machine.proofs.ControlLeads.{leads_jump}
use Rattle.agree_relation.specs.Worlds.{world_classes, fixed}
use Rattle.agree_relation.specs.Frames.{HasVariables}
use Rattle.agree_relation.specs.Agrees.{Agrees}
use Rattle.agree_statements.specs.Registers.{at_registers, body_on}
use Rattle.agree_statements.specs.Tests.{nothing}
use Rattle.agree_statements.proofs.Tests.{leads_checks}
use Rattle.agree_statements.proofs.Moves.{move_in, move_fine, move_refused}
use Rattle.agree_statements.proofs.Scenes.{Scene, top, here, scope, sees, variables, kind_typed, locals_count, registers_enough}
use Rattle.agree_statements.proofs.Finish.{Reaches, to_next, finished}
use Rattle.agree_statements.proofs.Taken.{variables_set, silent}
use Rattle.agree_statements.proofs.Givens.{converted_given}
use Rattle.agree_statements.proofs.Rights.{Taking, DoesRight}

-- what the type of an assignment says
record IsAssigned (h : Classes) (e : Scope) (variable : Variable) (x : Converted) : Type 0 where
  type : ValueType ClassId
  there : variable_type e variable ≡ Some type
  typed : IsConverted h e x type

assigned_typed : (h : Classes) (e : Scope) (variable : Variable) (x : Converted) → IsTyped h e (Assign variable x) → IsAssigned h e variable x
assigned_typed h e _ _ (assigns variable x t there typed) = record { type = t; there = there; typed = typed }

declared_typed : (h : Classes) (e : Scope) (n : ℕ) (x : Converted) → IsTyped h e (Declare n (Some x)) → IsAssigned h e (Local n) x
declared_typed h e _ _ (begins n x t there typed) = record { type = t; there = there; typed = typed }

local_typed : (h : Classes) (e : Scope) (n : ℕ) → IsTyped h e (Declare n None) → (t : ValueType ClassId) × (slice_get e.locals n ≡ Some t)
local_typed h e _ (declares n t there) = (t, there)

module _ (variable : Variable) (x : Converted) (line next : ℕ) (scene : Scene (record { kind = Assign variable x; line = line; next = next })) where
  open scene use {w, at, s, f, below, body, b}

  abbrev assignment : TypedStatement
  assignment = record { kind = Assign variable x; line = line; next = next }

  pub assign_takes : right_demand x.right ≡ asks_nothing → Taking scene f.locals variable x
  assign_takes asks =
      let k = assigned_typed (world_classes w) (scope scene) variable x (kind_typed scene) in
      let given = converted_given (world_classes w) (scope scene) (sight s f) x k.type (sees scene) k.typed in
      record {
        count = locals_count scene;
        sees = sees scene;
        target = k.type;
        there = k.there;
        typed = k.typed;
        refused = λ rule broken. move_refused w s f below body assignment scene.world scene.next rule given broken;
        fine = λ fine. move_fine w s f below body assignment scene.world scene.next given fine asks;
      }

  pub assign_does : DoesRight scene f.locals variable x → LeadsBlock (fixed w) (statement_ops w.setup at (top scene).on.routine body f.next (record { kind = Assign variable x; line = line; next = next })) b (Agrees w at (move_in w s))
  assign_does does = does b.top.registers (variables scene)

-- a local is unset before its right side is read
module _ {statement : TypedStatement} (scene : Scene statement) (n : ℕ) (t : ValueType ClassId) (there : slice_get scene.body.locals n ≡ Some t) where
  open scene use {w, at, s, f, below, body, b}

  -- the locals then
  abbrev pub unset : List Value
  unset = set f.locals n Unset

  pub sees_unset : IsTypedSight (world_classes w) (scope scene) (sight s (body_on f unset f.next))
  sees_unset =
      let a = sees scene in
      record { globals = a.globals; locals = values_set (world_classes w) s.objects.classes f.locals body.locals n t Unset a.locals there tt; this = a.this; leaves = a.leaves }

  pub count_unset : length unset ≡ length body.locals
  count_unset = length-set f.locals n Unset ∙ locals_count scene

  -- the first op of a declaration
  leads_unset_local : {ops : List Op} (next : ℕ) → ((new : List (Option ℕ)) → HasVariables w (here scene) (body_on f unset next) new → OpsLead (fixed w) ops (at_registers b new) (Reaches scene)) → OpsLead (fixed w) (Does (Move (local_register n) (spare_register (Some body))) ∷ ops) b (Reaches scene)
  leads_unset_local next rest =
      let a = variables scene in
      let count = locals_count scene in
      let within = slice_get_within body.locals n t there in
      let enough = registers_enough scene in
      let inside : n + 1 < length b.top.registers = omega (arith, a.size) in
      let spare : register_of b.top.registers (length body.locals + 1) ≡ None = ap (λ (m : ℕ). register_of b.top.registers (m + 1)) (sym count) ∙ a.spare in
      let set_variables = variables_set w (here scene) f b f.locals f.next next n Unset b.top.registers a (omega arith) inside in
      leads_move (fixed w) (n + 1) (length body.locals + 1) inside
      (rest (set b.top.registers (n + 1) (register_of b.top.registers (length body.locals + 1))) (subst (λ (o : Option ℕ). HasVariables w (here scene) (body_on f unset next) (set b.top.registers (n + 1) o)) (sym spare) set_variables))

-- nothing is asked of no use
pub none_asked : (h : Classes) (s : Objects) → first_broken h s (sorted []) ≡ None
unfolding sorted
none_asked h s = refl

module _ (n : ℕ) (x : Converted) (line next : ℕ) (scene : Scene (record { kind = Declare n (Some x); line = line; next = next })) where
  open scene use {w, at, s, f, below, body, b}

  abbrev declaration : TypedStatement
  declaration = record { kind = Declare n (Some x); line = line; next = next }

  pub declare_takes : right_demand x.right ≡ asks_nothing → Taking scene (set f.locals n Unset) (Local n) x
  declare_takes asks =
      let k = declared_typed (world_classes w) (scope scene) n x (kind_typed scene) in
      let seen = sees_unset scene n k.type k.there in
      let given = converted_given (world_classes w) (scope scene) (sight s (body_on f (set f.locals n Unset) f.next)) x k.type seen k.typed in
      record {
        count = count_unset scene n k.type k.there;
        sees = seen;
        target = k.type;
        there = k.there;
        typed = k.typed;
        refused = λ rule broken. move_refused w s f below body declaration scene.world scene.next rule given broken;
        fine = λ fine. move_fine w s f below body declaration scene.world scene.next given fine asks;
      }

  pub declare_does : DoesRight scene (set f.locals n Unset) (Local n) x → LeadsBlock (fixed w) (statement_ops w.setup at (top scene).on.routine body f.next (record { kind = Declare n (Some x); line = line; next = next })) b (Agrees w at (move_in w s))
  declare_does does =
      let k = declared_typed (world_classes w) (scope scene) n x (kind_typed scene) in
      leads_unset_local scene n k.type k.there f.next (λ new variables. does new variables)

module _ (n line next : ℕ) (scene : Scene (record { kind = Declare n None; line = line; next = next })) where
  open scene use {w, at, s, f, below, body, b}

  abbrev plain : TypedStatement
  plain = record { kind = Declare n None; line = line; next = next }

  pub plain_declare_does : LeadsBlock (fixed w) (statement_ops w.setup at (top scene).on.routine body f.next (record { kind = Declare n None; line = line; next = next })) b (Agrees w at (move_in w s))
  plain_declare_does =
      let k = local_typed (world_classes w) (scope scene) n (kind_typed scene) in
      leads_unset_local scene n k.0 k.1 next
      (λ new variables. leads_checks (fixed w) (at_registers b new) (Reaches scene) (world_classes w) s.objects [] [] nothing
      (λ fine none. leads_jump (fixed w) (to_next scene next) (leads_end (fixed w)
      (finished scene s.objects b.memory s.globals b.globals (set f.locals n Unset) next new b.outs [] (record { classes = refl; phases = refl }) refl scene.begins.stands.columns scene.begins.stands.globals variables (silent scene f.locals)
      (move_fine w s f below body plain scene.world scene.next tt refl refl))))
      (λ rule broken. absurd (let no_rule : None ≡ Some rule = sym (none_asked (world_classes w) s.objects) ∙ broken in cc)))
