-- `return x;` in a function: the result is given to who waits for it, or the least rule refuses it.
use Rattle.agree_calls.proofs.CallBlocks.{none_broken}
use Rattle.agree_calls.proofs.Calling.{shows}
use Rattle.agree_calls.proofs.Left.{given_to, nothing_left, variable_left}
use Rattle.agree_calls.proofs.ReturnGivens.{return_given, returns_are}
use Rattle.agree_calls.proofs.ReturnedFront.{leads_returned}
use Rattle.agree_calls.proofs.Waiting.{IsCalled, is_called}
use Rattle.agree_calls.proofs.Conversions.{leads_argument}
use Rattle.agree_calls.proofs.Returns.{IsDone, MovesResult, leads_result}
use Rattle.agree_calls.proofs.TakenResults.{variable_set}
use Rattle.agree_calls.specs.Shown.{NamesOpen}
use Rattle.code_ops.specs.Arguments.{block_in, free}
use Rattle.code_ops.specs.Operands.{pointed}
use Rattle.code_ops.specs.Setups.{FunctionCode}
use Rattle.code_ops.specs.Uses.{check_ops}
use Rattle.agree_relation.specs.Agrees.{Agrees}
use Rattle.agree_relation.specs.Frames.{call_kept}
use Rattle.agree_relation.specs.Words.{register_word}
use Rattle.agree_relation.specs.Worlds.{world_classes, fixed}
use Rattle.code_statements.specs.Statements.{class_number, returned_front, returned_ops, returned_used}
use Rattle.agree_statements.proofs.Finish.{Reaches, refused}
use Rattle.agree_statements.proofs.Moves.{move_fine, move_in, move_refused}
use Rattle.agree_statements.proofs.Registers.{variables_kept, wrote_set}
use Rattle.agree_statements.proofs.Rights.{free_in}
use Rattle.agree_statements.proofs.Scenes.{Scene, block, here, scope, sees, top}
use Rattle.agree_statements.proofs.Seen.{tells_views}
use Rattle.agree_statements.proofs.Tests.{unbroken}
use Rattle.agree_statements.proofs.Useds.{TellsViews}
use Rattle.agree_statements.specs.Registers.{at_registers}
use Rattle.byte_code.specs.declared.op.Op.TheVariants.{Return as ReturnOp}
use Rattle.byte_machine.specs.Frames.{MachineFrame, register_of}
use Rattle.byte_machine.specs.Leads.{OpsLead}
use Rattle.byte_machine.specs.declared.turn.MachineTurn.TheVariants.{Went}
use Rattle.cxx_hierarchy.specs.declared.records.ClassId.{ClassId}
use Rattle.cxx_hierarchy.specs.declared.records.ReturnType.TheVariants.{Value as ValueReturn}
use Rattle.cxx_hierarchy.specs.declared.records.ValueType.{ValueType}
use Rattle.cxx_hierarchy.specs.declared.records.ValueType.TheVariants.{Number as NumberType, Pointer as PointerType}
use Rattle.cxx_overrider.specs.Functions.{return_of, pointee}
use Rattle.cxx_overrider.specs.declared.FunctionId.{FunctionId}
use Rattle.cxx_program.specs.Typed.{Converts, IsArgument, returns_of}
use Rattle.cxx_program.specs.declared.operand.Argument.{Argument}
use Rattle.cxx_program.specs.declared.operand.Conversion.{Conversion}
use Rattle.cxx_program.specs.declared.operand.Conversion.TheVariants.{Base as ToBase, Null as ToNull, Number as ToNumber, Bits as ToBits, Same as ToSame}
use Rattle.cxx_program.specs.declared.program.Owner.{Owner}
use Rattle.cxx_program.specs.declared.program.Owner.TheVariants.{Function}
use Rattle.cxx_program.specs.declared.statement.TypedKind.TheVariants.{Return}
use Rattle.cxx_program.specs.declared.statement.TypedStatement.{TypedStatement}
use Rattle.path_model.proofs.Sorted.{broken_append}
use Rattle.path_model.proofs.TypedValues.{argument_typed}
use Rattle.path_model.specs.Effects.{given_to_target, left_by}
use Rattle.path_model.specs.Order.{first_broken, return_order, sorted}
use Rattle.path_model.specs.Runs.{IsRefused, Move, Moves, move_by}
use Rattle.path_model.specs.States.{Target, sight, target_conversion, wanted_result, with_frames}
use Rattle.path_model.specs.Typed.{IsReturn}
use Rattle.path_model.specs.TypedStates.{FitsTarget}
use Rattle.path_model.specs.Uses.{Reads, argument_uses, convert}
use Rattle.path_model.specs.Values.{Null, Number, Objects, Pointer, Unset, Value, argument_value, converted_to, value_of_operand}
use Rattle.path_rules.specs.declared.Undefined.{Undefined}
use Rattle.path_rules.specs.declared.Undefined.TheVariants.{Dangling}
use Rattle.std.proofs.Common.{◌≡◌, ℕ, inl, inr, Option, Some, None, List, [], ◌∷◌, ◌++◌, refl, ap, sym, subst, ◌∙◌, arith}
use Rattle.std.specs.Option.{option_or}
use Rattle.std.specs.Prelude.{slice_set}

-- a value that was converted leads to the same object
open_converted : (s : Objects) (v : Value) (c : Conversion) → NamesOpen s v → NamesOpen s (converted_to v c)
open_converted s Unset (ToNumber t) e = refl
open_converted s (Number z) (ToNumber t) e = refl
open_converted s Null (ToNumber t) e = refl
open_converted s (Pointer p) (ToNumber t) e = e
open_converted s Unset (ToBits t n) e = refl
open_converted s (Number z) (ToBits t n) e = refl
open_converted s Null (ToBits t n) e = refl
open_converted s (Pointer p) (ToBits t n) e = e
open_converted s v ToNull e = refl
open_converted s v ToSame e = e
open_converted s Unset (ToBase i) e = refl
open_converted s (Number z) (ToBase i) e = refl
open_converted s Null (ToBase i) e = refl
open_converted s (Pointer p) (ToBase i) e = e

-- the class to which the result of a type points
pointee_of : (t : ValueType ClassId) → pointee (Some (ValueReturn t)) ≡ pointed t
pointee_of (NumberType t) = refl
pointee_of (PointerType c) = refl

-- a result
module _ (a : Argument) (line next : ℕ) (scene : Scene (record { kind = Return (Some a); line = line; next = next })) (n : FunctionId) (owned : scene.f.owner ≡ Function n) (moves : MovesResult scene.f.found)
    (t : ValueType ClassId) (typed : IsArgument (world_classes scene.w) (scope scene) a t) (returns : returns_of (world_classes scene.w) (Function n) ≡ Some (ValueReturn t)) where
  open scene use {w, at, s, f, below, body, b}

  abbrev statement : TypedStatement
  statement = record { kind = Return (Some a); line = line; next = next }

  abbrev v : Value
  v = argument_value (sight s f) a

  k : IsCalled w at s f below b scene.begins n
  k = is_called w at s f below body b scene.world scene.next.frames scene.next.typed scene.begins n owned

  fits : (u : ValueType ClassId) × Converts (world_classes w) t f.found u × FitsTarget (world_classes w) w.setup.program.globals k.waits.waiting u f.target
  fits = k.waits.fits_it.result t returns

  given_classes : IsReturn (world_classes w) (sight s f) (wanted_result f) (Some a)
  given_classes = return_given (world_classes w) (scope scene) (sight s f) a t fits.0 f.found f.target w.setup.program.globals k.waits.waiting (sees scene) typed fits.1 fits.2

  -- the state behind
  moved : first_broken (world_classes w) s.objects (return_order (sight s f) (wanted_result f) (Some a)) ≡ None → move_in w s ≡ Moves (given_to_target (with_frames s below) (converted_to v f.found) f.target) []
  moved e = move_fine w s f below body statement scene.world scene.next given_classes e refl ∙ ap (λ (o : Owner). move_by (left_by o (given_to_target (with_frames s below) (converted_to v f.found) f.target)) None) owned

  refuses : (rule : Undefined) → first_broken (world_classes w) s.objects (return_order (sight s f) (wanted_result f) (Some a)) ≡ Some rule → move_in w s ≡ IsRefused rule line
  refuses rule e = move_refused w s f below body statement scene.world scene.next rule given_classes e

  tell : (last : List (Option ℕ)) (first : MachineFrame) (rest : List MachineFrame) (calls : ℕ) → TellsViews w s.objects (record (at_registers b last) { top = first; below = rest; calls = calls })
  tell last first rest calls = tells_views w s.objects (top scene).goings (record (at_registers b last) { top = first; below = rest; calls = calls }) scene.world scene.begins.stands.columns (top scene).planned scene.next.settled scene.next.seen

  -- who waits takes the result
  takes : (target : Option Target) (x : Value) (last : List (Option ℕ)) → FitsTarget (world_classes w) w.setup.program.globals k.waits.waiting fits.0 target
      → IsDone w s.objects (at_registers b last) (Agrees w at (Moves (given_to_target (with_frames s below) x target) [])) scene.world scene.begins.stands.columns (shows scene f.locals) (tell last) k.waits.waiting target x k.waits.under k.waits.rest
  takes None x last fit = nothing_left w at s f below b scene.next.typed scene.begins n k
  takes (Some target) x last fit = λ new wrote is.
      let g = here scene in
      let block_below = block_in w.setup k.waits.waiting in
      let old = k.waits.under.registers in
      let count = k.waits.count in
      let first = slice_set old (free block_below 2) (register_word w g x) in
      let kept = variables_kept w g k.waits.caller (free block_below 2) old first (omega (arith, count)) k.waits.variables (wrote_set b old (free block_below 2) (register_word w g x)) in
      let variables = variables_kept w g k.waits.caller (free block_below 3) first new (omega (arith, count)) kept wrote in
      let done = variable_left w at s f below b scene.next.typed scene.begins n k target.variable fit.0 (converted_to x target.conversion) first new fit.1 variables in
      (done.0, subst (λ (word : Option ℕ). Agrees w at (Moves (given_to_target (with_frames s below) x (Some target)) []) (variable_set (given_to w at s f below b scene.next.typed scene.begins n k first) new target.variable word) Went) (sym is) done.1)

  first_stage : (o : Option Undefined) → first_broken (world_classes w) s.objects (sorted (argument_uses (sight s f) a)) ≡ o
      → first_broken (world_classes w) s.objects (return_order (sight s f) (wanted_result f) (Some a)) ≡ option_or o (first_broken (world_classes w) s.objects (sorted (convert v f.found) ++ sorted (convert (converted_to v f.found) (target_conversion f.target))))
  first_stage o e = broken_append (world_classes w) s.objects (sorted (argument_uses (sight s f) a)) (sorted (convert v f.found) ++ sorted (convert (converted_to v f.found) (target_conversion f.target)))
      ∙ ap (λ (x : Option Undefined). option_or x (first_broken (world_classes w) s.objects (sorted (convert v f.found) ++ sorted (convert (converted_to v f.found) (target_conversion f.target))))) e

  -- the return itself
  leads_given_back : (last : List (Option ℕ)) → register_of last (free (block scene) 1) ≡ register_word w (here scene) v → NamesOpen s.objects v → first_broken (world_classes w) s.objects (sorted (argument_uses (sight s f) a)) ≡ None
      → OpsLead (fixed w) (ReturnOp (Some (free (block scene) 1)) (class_number (pointee (return_of (world_classes w) n))) ∷ []) (at_registers b last) (Reaches scene)
  leads_given_back last is unclosed clear =
      let h = world_classes w in
      let x = converted_to v f.found in
      let room = k.waits.room in
      let class : pointee (return_of h n) ≡ pointed t = ap pointee (sym (returns_are h n) ∙ returns) ∙ pointee_of t in
      subst (λ (o : Option ClassId). OpsLead (fixed w) (ReturnOp (Some (free (block scene) 1)) (class_number o) ∷ []) (at_registers b last) (Reaches scene)) (sym class)
      (leads_result w s.objects (at_registers b last) (Agrees w at (move_in w s)) scene.world scene.begins.stands.columns (shows scene f.locals) (tell last) k.waits.waiting t fits.0 f.found f.target (free (block scene) 1) v k.waits.under k.waits.rest
      moves fits.1 fits.2 (argument_typed h (scope scene) (sight s f) (sees scene) a t typed) unclosed
      (record {
        kept = k.kept ∙ ap (λ (o : Option ClassId). call_kept w k.waits.waiting o f.found f.target) class;
        opened = scene.begins.opened;
        last = k.last;
        word_is = is;
        below = k.waits.stack_is;
        room = omega (arith, room);
      })
      (λ none. subst (λ (m : Move). IsDone w s.objects (at_registers b last) (Agrees w at m) scene.world scene.begins.stands.columns (shows scene f.locals) (tell last) k.waits.waiting f.target x k.waits.under k.waits.rest) (sym (moved (first_stage None clear ∙ none))) (takes f.target x last fits.2))
      (λ rule new same_line broken. refused scene rule new same_line (refuses rule (first_stage None clear ∙ broken))))

  pub function_returns : OpsLead (fixed w) (returned_front (block scene) (Some a) ++ (check_ops (returned_used (block scene) (Some a)) ++ returned_ops (block scene) (FunctionCode n) (Some a))) b (Reaches scene)
  function_returns =
      let h = world_classes w in
      let uses = argument_uses (sight s f) a in
      leads_returned scene a t typed
      (λ rule broken. refuses rule (first_stage (Some rule) broken))
      (λ new variables word clear none.
      let unclosed = unbroken (fixed w) b (Reaches scene) h s.objects uses (Reads (value_of_operand (sight s f) a.operand)) Dangling (none Dangling) (inl refl) in
      leads_argument w s.objects b (Reaches scene) scene.world scene.begins.stands.columns (shows scene f.locals) (block scene) (sight s f) a t (free (block scene) 1) (free (block scene) 0) new refl refl (sees scene) typed word (free_in scene f.locals new 1 (omega arith) variables) unclosed
      (λ r. none_broken h s.objects (convert (value_of_operand (sight s f) a.operand) a.conversion) r (λ u has. unbroken (fixed w) b (Reaches scene) h s.objects uses u r (none r) (inr has)))
      (λ last wrote is. leads_given_back last is (open_converted s.objects (value_of_operand (sight s f) a.operand) a.conversion unclosed) clear))
