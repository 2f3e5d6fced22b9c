-- A right side whose value a variable takes: what all of them share.
use Rattle.std.proofs.Common.{◌≡◌, ℕ, ◌<◌, Bool, false, Option, Some, None, List, [], ◌∷◌, ◌++◌, length, inl, inr, refl, ap, sym, subst, arith}
use Rattle.foundation.proofs.Members.{Has}
use Rattle.cxx_hierarchy.specs.declared.records.ClassId.{ClassId}
use Rattle.cxx_hierarchy.specs.declared.records.ValueType.{ValueType}
use Rattle.cxx_program.specs.declared.operand.Variable.{Variable}
use Rattle.cxx_program.specs.declared.operand.Conversion.{Conversion}
use Rattle.cxx_program.specs.declared.statement.Converted.{Converted}
use Rattle.cxx_program.specs.declared.statement.TypedStatement.{TypedStatement}
use Rattle.cxx_program.specs.Typed.{variable_type, Converts, IsConverted}
use Rattle.path_rules.specs.declared.Undefined.{Undefined}
use Rattle.path_rules.specs.declared.Undefined.TheVariants.{NotReady, OutsideView}
use Rattle.path_model.specs.Values.{Value, converted_to}
use Rattle.path_model.specs.Uses.{StatementUse, Guards, Views, convert, uses_of_view}
use Rattle.path_model.specs.Rules.{is_broken, names, is_unready, is_outside}
use Rattle.path_model.specs.Order.{first_broken, right_order}
use Rattle.path_model.specs.States.{ProgramState, sight, assigned}
use Rattle.path_model.specs.Effects.{taken}
use Rattle.path_model.specs.Runs.{IsRefused, Moves, move_by}
use Rattle.path_model.specs.TypedStates.{IsValue}
use Rattle.path_model.proofs.TypedValues.{IsTypedSight}
use Rattle.byte_machine.specs.Frames.{register_of}
use Rattle.byte_code.specs.declared.op.Finish.{Finish}
use Rattle.byte_code.specs.declared.op.Op.{Op}
use Rattle.byte_code.specs.declared.op.Op.TheVariants.{Does, Jump}
use Rattle.byte_machine.specs.Leads.{OpsLead}
use Rattle.code_blocks.specs.Blocks.{routine_start}
use Rattle.code_ops.specs.Arguments.{free, taken_ops}
use Rattle.code_ops.specs.Operands.{pointed, ops_of, converted_ops, assign_op}
use Rattle.code_ops.specs.Uses.{check_ops}
use Rattle.code_statements.specs.Rights.{right_front, right_used, right_ops}
use Rattle.agree_relation.specs.Worlds.{world_classes, fixed}
use Rattle.agree_relation.specs.Words.{register_word}
use Rattle.agree_relation.specs.Frames.{HasVariables}
use Rattle.agree_statements.specs.Registers.{at_registers, body_on}
use Rattle.agree_statements.proofs.Registers.{IsFree, variables_kept}
use Rattle.agree_statements.proofs.Tests.{unbroken}
use Rattle.agree_statements.proofs.Useds.{TellsViews, shared_dynamic}
use Rattle.agree_statements.proofs.Seen.{in_sight, tells_views}
use Rattle.agree_statements.proofs.Bases.{under, seen_from}
use Rattle.agree_statements.proofs.Conversions.{IsSure, leads_converted}
use Rattle.agree_statements.proofs.After.{state_on}
use Rattle.agree_statements.proofs.Moves.{move_in}
use Rattle.agree_statements.proofs.Scenes.{Scene, top, here, scope, block, has_free}
use Rattle.agree_statements.proofs.Finish.{Reaches, to_next}
use Rattle.agree_statements.proofs.Taken.{leads_given}

pub ops_append : (xs ys : List Finish) (rest : List Op) → ops_of (xs ++ ys) ++ rest ≡ ops_of xs ++ (ops_of ys ++ rest)
ops_append [] ys rest = refl
ops_append (x ∷ xs) ys rest = ap (λ (ops : List Op). Does x ∷ ops) (ops_append xs ys rest)

module _ {statement : TypedStatement} (scene : Scene statement) where
  open scene use {w, at, s, f, below, body, b}

  pub tells : (registers : List (Option ℕ)) → TellsViews w s.objects (at_registers b registers)
  tells registers = tells_views w s.objects (top scene).goings (at_registers b registers) scene.world scene.begins.stands.columns (top scene).planned scene.next.settled scene.next.seen

  -- a pointer whose tests passed is sure to be moved well
  pub sure : (v : Value) (c : Conversion) (us : List StatementUse) → ((r : Undefined) → is_broken (world_classes w) s.objects us r ≡ false) → ((u : StatementUse) → Has (convert v c) u → Has us u) → names (λ p. s.objects.is_closed p.object) v ≡ false → IsSure w s.objects b v c
  sure v c us none within open_there p k i is to through made valid =
      let h = world_classes w in
      let asked : Has (convert v c) (Views v) = subst (λ (x : Conversion). Has (convert v x) (Views v)) (sym to) (subst (λ (x : Bool). Has (Guards v ∷ uses_of_view x v) (Views v)) (sym through) (inr (inl refl))) in
      let guards : Has (convert v c) (Guards v) = subst (λ (x : Conversion). Has (convert v x) (Guards v)) (sym to) (inl refl) in
      let outside = unbroken (fixed w) b (Reaches scene) h s.objects us (Views v) OutsideView (none OutsideView) (within (Views v) asked) in
      let ready = unbroken (fixed w) b (Reaches scene) h s.objects us (Guards v) NotReady (none NotReady) (within (Guards v) guards) in
      let fine = subst (λ (x : Value). names (is_unready s.objects) x ≡ false) is ready in
      seen_from w s.objects b p k (under w s.objects b scene.world scene.begins.stands.columns p k (in_sight w s.objects (top scene).goings p k (top scene).planned scene.next.settled scene.next.seen made fine) made
      (subst (λ (x : Value). names (λ q. s.objects.is_closed q.object) x ≡ false) is open_there) (subst (λ (x : Value). names (is_outside h s.objects) x ≡ false) is outside) (shared_dynamic h k i valid through))

  -- a variable takes a right side; the locals are those that the right side sees
  pub record Taking (locals : List Value) (variable : Variable) (x : Converted) : Type 0 where
    pub count : length locals ≡ length body.locals
    pub sees : IsTypedSight (world_classes w) (scope scene) (sight s (body_on f locals f.next))
    pub target : ValueType ClassId
    pub there : variable_type (scope scene) variable ≡ Some target
    pub typed : IsConverted (world_classes w) (scope scene) x target
    pub refused : (rule : Undefined) → first_broken (world_classes w) s.objects (right_order (world_classes w) (sight s (body_on f locals f.next)) x.right x.conversion) ≡ Some rule → move_in w s ≡ IsRefused rule statement.line
    pub fine : first_broken (world_classes w) s.objects (right_order (world_classes w) (sight s (body_on f locals f.next)) x.right x.conversion) ≡ None
        → move_in w s ≡ move_by (taken (world_classes w) w.setup.program (sight s (body_on f locals f.next)) (state_on s s.objects s.globals (body_on f locals statement.next) below) variable x.right x.conversion) None

  -- the state behind
  abbrev pub took : List Value → Variable → Value → ProgramState
  took locals variable v = assigned (state_on s s.objects s.globals (body_on f locals statement.next) below) variable v

  abbrev pub DoesRight : List Value → Variable → Converted → Type 0
  DoesRight locals variable x = (old : List (Option ℕ)) → HasVariables w (here scene) (body_on f locals f.next) old
      → OpsLead (fixed w) (right_front (block scene) x.right ++ (check_ops (right_used (block scene) x.right x.conversion) ++ (right_ops (block scene) (λ routine. at (routine_start w.setup routine)) variable x.right x.conversion ++ (Jump (to_next scene statement.next) ∷ [])))) (at_registers b old) (Reaches scene)

  -- free registers behind other locals
  pub free_of : (locals : List Value) (n : ℕ) → length locals ≡ length body.locals → IsFree (body_on f locals f.next) (free (block scene) n)
  free_of locals n count = omega arith

  pub free_in : (locals : List Value) (old : List (Option ℕ)) (n : ℕ) → n < 7 → HasVariables w (here scene) (body_on f locals f.next) old → free (block scene) n < length old
  free_in locals old n few variables = subst (λ (m : ℕ). free (block scene) n < m) (sym variables.size) (has_free scene n few)

  -- a value in a register is converted into a free one, and taken
  pub leads_taken : (locals : List Value) (variable : Variable) (x : Converted) (take : Taking locals variable x) (v : Value) (a : ValueType ClassId) (c : Conversion) (n from : ℕ) (old : List (Option ℕ)) → n < 7 → Converts (world_classes w) a c take.target → IsSure w s.objects b v c → IsValue (world_classes w) s.objects.classes v a
      → register_of old from ≡ register_word w (here scene) v → HasVariables w (here scene) (body_on f locals f.next) old → move_in w s ≡ Moves (took locals variable (converted_to v c)) []
      → OpsLead (fixed w) (ops_of (taken_ops (block scene) variable (pointed a) c (free (block scene) n) from) ++ (Jump (to_next scene statement.next) ∷ [])) (at_registers b old) (Reaches scene)
  leads_taken locals variable x take v a c n from old few converts sure_there typed has variables moves =
      let to = free (block scene) n in
      subst (λ (ops : List Op). OpsLead (fixed w) ops (at_registers b old) (Reaches scene)) (sym (ops_append (converted_ops w.setup (pointed a) c to from) (assign_op variable to ∷ []) (Jump (to_next scene statement.next) ∷ [])))
      (leads_converted w s.objects b scene.world scene.begins.stands.columns (Reaches scene) v a take.target c to from old converts sure_there typed has (free_in locals old n few variables)
      (λ new wrote is. leads_given scene locals variable take.target (converted_to v c) to new take.there take.count is (variables_kept w (here scene) (body_on f locals f.next) to old new (free_of locals n take.count) variables wrote) moves))
