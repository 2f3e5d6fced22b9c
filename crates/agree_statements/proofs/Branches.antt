-- `if (x)` and `while (x)`
use Rattle.std.proofs.Common.{◌≡◌, ℕ, ◌+◌, Bool, true, false, Option, Some, None, List, [], ◌∷◌, ◌++◌, inl, refl, ap, ◌∙◌, arith}
use Rattle.std.specs.Prelude.{nat_eq, if◌then◌else◌}
use Rattle.std.proofs.lemmas.Bool.Decides.{nat_tests}
use Rattle.cxx_hierarchy.specs.declared.records.Scalar.{Scalar}
use Rattle.cxx_hierarchy.specs.declared.records.ValueType.TheVariants.{Number as NumberType}
use Rattle.cxx_hierarchy.specs.Classes.{Classes}
use Rattle.cxx_program.specs.declared.operand.TypedOperand.{TypedOperand}
use Rattle.cxx_program.specs.declared.statement.TypedKind.TheVariants.{If, While}
use Rattle.cxx_program.specs.declared.statement.TypedStatement.{TypedStatement}
use Rattle.cxx_program.specs.Typed.{Scope, HasType, IsTyped, branches, repeats}
use Rattle.path_rules.specs.declared.Undefined.{Undefined}
use Rattle.path_rules.specs.declared.Undefined.TheVariants.{Unset as UnsetUse}
use Rattle.path_model.specs.Values.{Value, value_of_operand}
use Rattle.path_model.specs.Uses.{StatementUse, Reads}
use Rattle.path_model.specs.Order.{first_broken, sorted}
use Rattle.path_model.specs.States.{sight}
use Rattle.path_model.specs.Effects.{branched, block_at, is_number_zero}
use Rattle.path_model.specs.Runs.{Moves, IsRefused, move_by}
use Rattle.path_model.proofs.TypedValues.{operand_typed}
use Rattle.byte_machine.specs.Frames.{register_of}
use Rattle.byte_code.specs.declared.op.Op.TheVariants.{Jump, JumpIf}
use Rattle.byte_code.specs.Numbers.{word_of}
use Rattle.byte_machine.specs.Effects.{jumping}
use Rattle.byte_machine.specs.Leads.{OpsLead, LeadsBlock}
use Rattle.byte_machine.proofs.Leads.{leads_end}
use Rattle.byte_machine.proofs.ControlLeads.{leads_jump, leads_jump_if, leads_jump_if_not}
use Rattle.code_blocks.specs.Blocks.{statement_ops}
use Rattle.code_ops.specs.Arguments.{free}
use Rattle.code_ops.specs.Operands.{operand_ops, operand_register}
use Rattle.code_ops.specs.Uses.{check_ops, reads}
use Rattle.agree_relation.specs.Worlds.{world_classes, fixed}
use Rattle.agree_relation.specs.Words.{register_word}
use Rattle.agree_relation.specs.Frames.{HasVariables}
use Rattle.agree_relation.specs.Agrees.{Agrees}
use Rattle.agree_statements.specs.Registers.{at_registers, body_on}
use Rattle.agree_statements.proofs.Numbers.{zero_test}
use Rattle.agree_statements.proofs.Registers.{variables_kept, variables_on}
use Rattle.agree_statements.proofs.Operands.{leads_operand}
use Rattle.agree_statements.proofs.Tests.{leads_checks, unbroken}
use Rattle.agree_statements.proofs.Useds.{along_reads}
use Rattle.agree_statements.proofs.After.{state_on}
use Rattle.agree_statements.proofs.Moves.{move_in, move_fine, move_refused}
use Rattle.agree_statements.proofs.Scenes.{Scene, top, here, scope, block, sees, variables, kind_typed, is_free}
use Rattle.agree_statements.proofs.Finish.{Reaches, to_next, refused, finished}
use Rattle.agree_statements.proofs.Taken.{silent}
use Rattle.agree_statements.proofs.Rights.{free_in}
use Rattle.agree_statements.proofs.NumberRights.{IsNumber, set_number}

is_zero : (n : ℕ) → nat_eq n 0 ≡ true → n ≡ 0
is_zero n e = grind (arith, nat_tests)

no_zero : (n : ℕ) → nat_eq n 0 ≡ false → n ≡ 0 → ⊥
no_zero n e = grind (arith, nat_tests)

-- a condition on a number operand: where control goes on
module _ {statement : TypedStatement} (scene : Scene statement) (x : TypedOperand) (yes_at no_at : ℕ) where
  open scene use {w, at, s, f, below, body, b}

  abbrev v : Value
  v = value_of_operand (sight s f) x

  abbrev uses : List StatementUse
  uses = Reads v ∷ []

  abbrev r : ℕ
  r = operand_register (free (block scene) 0) x

  on_at : (n : ℕ) (new : List (Option ℕ)) → HasVariables w (here scene) f new → move_in w s ≡ Moves (state_on s s.objects s.globals (body_on f f.locals n) below) [] → OpsLead (fixed w) [] (jumping (to_next scene n) (at_registers b new)) (Reaches scene)
  on_at n new variables moves = leads_end (fixed w)
      (finished scene s.objects b.memory s.globals b.globals f.locals n new b.outs [] (record { classes = refl; phases = refl }) refl scene.begins.stands.columns scene.begins.stands.globals (variables_on w (here scene) f n new variables) (silent scene f.locals) moves)

  jumps : (new : List (Option ℕ)) (t : Scalar) → IsNumber v t → register_of new r ≡ register_word w (here scene) v → HasVariables w (here scene) f new
      → move_in w s ≡ move_by (branched (state_on s s.objects s.globals f below) v yes_at no_at) None
      → OpsLead (fixed w) (Jump (to_next scene no_at) ∷ JumpIf r (to_next scene yes_at) ∷ []) (at_registers b new) (Reaches scene)
  jumps new t m has variables moves = leads_jump (fixed w) (to_next scene no_at) (by_zero (is_number_zero m.number) refl)
    where
      word : register_of new r ≡ Some (word_of m.number)
      word = has ∙ ap (register_word w (here scene)) m.is

      goes : (zero_number : Bool) → is_number_zero m.number ≡ zero_number → move_in w s ≡ Moves (state_on s s.objects s.globals (body_on f f.locals (if zero_number then no_at else yes_at)) below) []
      goes zero_number e = moves ∙ ap (λ (y : Value). move_by (branched (state_on s s.objects s.globals f below) y yes_at no_at) None) m.is ∙ ap (λ (q : Bool). Moves (state_on s s.objects s.globals (body_on f f.locals (if q then no_at else yes_at)) below) []) e

      test : (zero_number : Bool) → is_number_zero m.number ≡ zero_number → nat_eq (word_of m.number) 0 ≡ zero_number
      test zero_number e = zero_test t m.number m.range ∙ e

      by_zero : (zero_number : Bool) → is_number_zero m.number ≡ zero_number → OpsLead (fixed w) (JumpIf r (to_next scene yes_at) ∷ []) (jumping (to_next scene no_at) (at_registers b new)) (Reaches scene)
      by_zero true e =
          let none : word_of m.number ≡ 0 = is_zero (word_of m.number) (test true e) in
          leads_jump_if_not (fixed w) r (to_next scene yes_at) (word ∙ ap (λ (k : ℕ). Some k) none) (on_at no_at new variables (goes true e))
      by_zero false e = leads_jump_if (fixed w) r (to_next scene yes_at) (word_of m.number) word (no_zero (word_of m.number) (test false e)) (on_at yes_at new variables (goes false e))

  pub branch_does : (t : Scalar) → HasType (scope scene) x (NumberType t) → ((rule : Undefined) → first_broken (world_classes w) s.objects (sorted uses) ≡ Some rule → move_in w s ≡ IsRefused rule statement.line)
      → (first_broken (world_classes w) s.objects (sorted uses) ≡ None → move_in w s ≡ move_by (branched (state_on s s.objects s.globals f below) v yes_at no_at) None)
      → OpsLead (fixed w) (operand_ops (free (block scene) 0) x ++ (check_ops (reads (scope scene) (free (block scene) 0) x) ++ (Jump (to_next scene no_at) ∷ JumpIf r (to_next scene yes_at) ∷ []))) b (Reaches scene)
  branch_does t has refuses goes =
      let h = world_classes w in
      let e = scope scene in
      let first = free (block scene) 0 in
      let stands = variables scene in
      let typed = operand_typed h e (sight s f) (sees scene) x (NumberType t) has in
      leads_operand (fixed w) w (here scene) s f e b x (NumberType t) first b.top.registers (sees scene) scene.begins.stands.globals stands has (free_in scene f.locals b.top.registers 0 (omega arith) stands)
      (λ new read. leads_checks (fixed w) (at_registers b new) (Reaches scene) h s.objects uses (reads e first x)
      (along_reads w (sight s f) (at_registers b new) (Reaches scene) scene.world scene.begins.stands.columns uses e first x (NumberType t) (sees scene) has read.word)
      (λ fine none. jumps new t (set_number h s.objects.classes v t typed (unbroken (fixed w) b (Reaches scene) h s.objects uses (Reads v) UnsetUse (none UnsetUse) (inl refl))) read.word
      (variables_kept w (here scene) f first b.top.registers new (is_free scene 0) stands read.wrote) (goes fine))
      (λ rule broken. refused scene rule (at_registers b new) refl (refuses rule broken)))

condition_typed : (h : Classes) (e : Scope) (x : TypedOperand) (other behind : ℕ) → IsTyped h e (If x other behind) → (t : Scalar) × HasType e x (NumberType t)
condition_typed h e x other behind (branches _ t _ _ has) = (t, has)

loop_typed : (h : Classes) (e : Scope) (x : TypedOperand) (behind : ℕ) → IsTyped h e (While x behind) → (t : Scalar) × HasType e x (NumberType t)
loop_typed h e x behind (repeats _ t _ has) = (t, has)

pub if_does : (x : TypedOperand) (other behind line next : ℕ) (scene : Scene (record { kind = If x other behind; line = line; next = next })) →
    LeadsBlock (fixed scene.w) (statement_ops scene.w.setup scene.at (top scene).on.routine scene.body scene.f.next (record { kind = If x other behind; line = line; next = next })) scene.b (Agrees scene.w scene.at (move_in scene.w scene.s))
if_does x other behind line next scene =
    let typed = condition_typed (world_classes scene.w) (scope scene) x other behind (kind_typed scene) in
    branch_does scene x (block_at (scene.f.next + 1) other next) (block_at other behind next) typed.0 typed.1
    (λ rule broken. move_refused scene.w scene.s scene.f scene.below scene.body _ scene.world scene.next rule tt broken)
    (λ fine. move_fine scene.w scene.s scene.f scene.below scene.body _ scene.world scene.next tt fine refl)

pub while_does : (x : TypedOperand) (behind line next : ℕ) (scene : Scene (record { kind = While x behind; line = line; next = next })) →
    LeadsBlock (fixed scene.w) (statement_ops scene.w.setup scene.at (top scene).on.routine scene.body scene.f.next (record { kind = While x behind; line = line; next = next })) scene.b (Agrees scene.w scene.at (move_in scene.w scene.s))
while_does x behind line next scene =
    let typed = loop_typed (world_classes scene.w) (scope scene) x behind (kind_typed scene) in
    branch_does scene x (block_at (scene.f.next + 1) behind scene.f.next) next typed.0 typed.1
    (λ rule broken. move_refused scene.w scene.s scene.f scene.below scene.body _ scene.world scene.next rule tt broken)
    (λ fine. move_fine scene.w scene.s scene.f scene.below scene.body _ scene.world scene.next tt fine refl)
