-- A return and what follows it: the result becomes one of the declaration that was found, and is given to who waits for it; or the least rule refuses it.
use Rattle.std.proofs.Common.{◌≡◌, ℕ, ◌<◌, Option, Some, None, List, [], ◌∷◌, ◌++◌, length, refl, ap, sym, subst, ◌∙◌, arith, slice_set}
use Rattle.agree_calls.proofs.Results.{leads_same, leads_to_base, taking}
use Rattle.agree_calls.proofs.TakenResults.{HasPlace, leads_checked_taken, variable_set}
use Rattle.agree_calls.specs.Shown.{NamesOpen, ShowsViews}
use Rattle.code_ops.specs.Arguments.{block_in, checked_taken, free}
use Rattle.code_ops.specs.Operands.{pointed}
use Rattle.code_statements.specs.Statements.{class_number}
use Rattle.agree_parts.specs.Heaps.{Heap}
use Rattle.agree_relation.specs.Columns.{ColumnsStand}
use Rattle.agree_relation.specs.Frames.{call_kept, constant_added, found_class, vbase_added}
use Rattle.agree_relation.specs.Words.{heap_of, register_word}
use Rattle.agree_relation.specs.Worlds.{IsProgramWorld, World, world_classes, fixed}
use Rattle.agree_statements.proofs.Registers.{set_here, wrote_set}
use Rattle.agree_statements.proofs.Useds.{TellsViews}
use Rattle.agree_statements.specs.Registers.{Wrote}
use Rattle.byte_code.specs.declared.op.Op.TheVariants.{Return as ReturnOp}
use Rattle.byte_machine.proofs.Leads.{leads_end}
use Rattle.byte_machine.specs.Calls.{left_calls}
use Rattle.byte_machine.specs.Frames.{MachineFrame, Kept, register_of}
use Rattle.byte_machine.specs.Leads.{HoldsOfAnswer, OpsLead}
use Rattle.byte_machine.specs.Running.{Returned, Running, register}
use Rattle.byte_machine.specs.declared.turn.MachineTurn.{MachineTurn}
use Rattle.byte_machine.specs.declared.turn.MachineTurn.TheVariants.{Refused, Went}
use Rattle.cxx_hierarchy.specs.Classes.{Classes}
use Rattle.cxx_hierarchy.specs.declared.records.ClassId.{ClassId}
use Rattle.cxx_hierarchy.specs.declared.records.ValueType.{ValueType}
use Rattle.cxx_hierarchy.specs.declared.records.ValueType.TheVariants.{Pointer as PointerType}
use Rattle.cxx_program.specs.Typed.{Converts, to_base as to_base_of, to_number, to_same}
use Rattle.cxx_program.specs.declared.operand.Conversion.{Conversion}
use Rattle.cxx_program.specs.declared.operand.Conversion.TheVariants.{Base as ToBase, Null as ToNull, Number as ToNumber, Bits as ToBits, Same as ToSame}
use Rattle.cxx_program.specs.declared.program.TypedBody.{TypedBody}
use Rattle.path_model.proofs.Sorted.{broken_append}
use Rattle.path_model.proofs.TypedValues.{converted_value}
use Rattle.path_model.specs.Order.{Asked, first_broken, order, sorted}
use Rattle.path_model.specs.States.{Target, target_conversion}
use Rattle.path_model.specs.TypedStates.{FitsTarget, IsValue}
use Rattle.path_model.specs.Uses.{convert}
use Rattle.path_model.specs.Values.{Null, Number, Objects, Pointer, Unset, Value, converted_to, to_base}
use Rattle.path_rules.specs.Rules.{undefined_no}
use Rattle.path_rules.specs.declared.Undefined.{Undefined}
use Rattle.std.specs.Option.{option_or}
use Rattle.std.proofs.lemmas.List.{append-nil}

-- a result keeps its number, or its pointer is moved
abbrev pub MovesResult : Conversion → Type 0
MovesResult (ToNumber t) = ⊥
MovesResult (ToBits t n) = ⊥
MovesResult ToNull = ⊥
MovesResult ToSame = Unit {0}
MovesResult (ToBase i) = Unit {0}

found_same : (o : Option ClassId) → found_class o ToSame ≡ o
found_same None = refl
found_same (Some c) = refl

vbase_same : (w : World) (o : Option ClassId) → vbase_added w o ToSame ≡ 0
vbase_same w None = refl
vbase_same w (Some c) = refl

constant_same : (w : World) (o : Option ClassId) → constant_added w o ToSame ≡ 0
constant_same w None = refl
constant_same w (Some c) = refl

kept_class : (w : World) (body : TypedBody) (c : Option ClassId) (found : Conversion) (target : Option Target) → (call_kept w body c found target).class ≡ class_number (found_class c found)
kept_class w body c found None = refl
kept_class w body c found (Some target) = refl

kept_vbase : (w : World) (body : TypedBody) (c : Option ClassId) (found : Conversion) (target : Option Target) → (call_kept w body c found target).vbase ≡ vbase_added w c found
kept_vbase w body c found None = refl
kept_vbase w body c found (Some target) = refl

kept_add : (w : World) (body : TypedBody) (c : Option ClassId) (found : Conversion) (target : Option Target) → (call_kept w body c found target).add ≡ constant_added w c found
kept_add w body c found None = refl
kept_add w body c found (Some target) = refl

nothing_sorted : (h : Classes) (s : Objects) (rest : List Asked) → first_broken h s (sorted [] ++ rest) ≡ first_broken h s rest
unfolding sorted
nothing_sorted h s rest = refl

then_none : (h : Classes) (s : Objects) (first rest : List Asked) → first_broken h s first ≡ None → first_broken h s (first ++ rest) ≡ first_broken h s rest
then_none h s first rest e = broken_append h s first rest ∙ ap (λ o. option_or o (first_broken h s rest)) e

then_some : (h : Classes) (s : Objects) (first rest : List Asked) (rule : Undefined) → first_broken h s first ≡ Some rule → first_broken h s (first ++ rest) ≡ Some rule
then_some h s first rest rule e = broken_append h s first rest ∙ ap (λ o. option_or o (first_broken h s rest)) e

module _ (w : World) (s : Objects) (b : Running) (Q : Running → MachineTurn → Type 0) (world : IsProgramWorld w) (columns : ColumnsStand w s b.memory b.objects b.heap b.notes) (shows : ShowsViews w s b.memory)
    (tells : (top : MachineFrame) (below : List MachineFrame) (calls : ℕ) → TellsViews w s (record b { top = top; below = below; calls = calls })) where
  abbrev g : Heap
  g = heap_of s.classes b.memory.regions

  -- the rules that are asked of the result, in their order
  abbrev pub result_order : Value → Conversion → Option Target → List Asked
  result_order v found target = sorted (convert v found) ++ sorted (convert (converted_to v found) (target_conversion target))

  -- a function returns v, of type t, from a register, to a frame of a body that waits
  pub record IsReturning (waiting : TypedBody) (t : ValueType ClassId) (found : Conversion) (target : Option Target) (r : ℕ) (v : Value) (under : MachineFrame) (rest : List MachineFrame) : Type 0 where
    pub kept : b.top.kept ≡ call_kept w waiting (pointed t) found target
    pub opened : b.opened ≡ []
    pub last : b.top.again ≡ 0
    pub word_is : register b r ≡ register_word w (heap_of s.classes b.memory.regions) v
    pub below : b.below ≡ under ∷ rest
    pub room : free (block_in w.setup waiting) 3 < length under.registers

  -- the frame below with the result
  abbrev pub after : TypedBody → Value → MachineFrame → List MachineFrame → Running
  after waiting v under rest = record b { top = record under { registers = slice_set under.registers (free (block_in w.setup waiting) 2) (register_word w (heap_of s.classes b.memory.regions) v) }; below = rest; calls = left_calls b }

  -- who waits takes the result, which was moved to v
  abbrev pub IsDone : TypedBody → Option Target → Value → MachineFrame → List MachineFrame → Type 0
  IsDone waiting None v under rest = Q (record b { top = under; below = rest; calls = left_calls b }) Went
  IsDone waiting (Some target) v under rest = (new : List (Option ℕ)) → Wrote (free (block_in w.setup waiting) 3) (slice_set under.registers (free (block_in w.setup waiting) 2) (register_word w (heap_of s.classes b.memory.regions) v)) new
      → register_of new (free (block_in w.setup waiting) 3) ≡ register_word w (heap_of s.classes b.memory.regions) (converted_to v target.conversion)
      → HasPlace (after waiting v under rest) new target.variable × Q (variable_set (after waiting v under rest) new target.variable (register_of new (free (block_in w.setup waiting) 3))) Went

  -- the rule, at the line of the return
  abbrev pub Refuses : List Asked → Type 0
  Refuses order = (rule : Undefined) (new : Running) → new.line ≡ b.line → first_broken (world_classes w) s order ≡ Some rule → Q new (Refused (undefined_no rule) new.line)

  -- the moved result is given
  leads_given : (waiting : TypedBody) (t u : ValueType ClassId) (found : Conversion) (target : Option Target) (v : Value) (under : MachineFrame) (rest : List MachineFrame) → IsValue (world_classes w) s.classes v u → NamesOpen s v → pointed u ≡ found_class (pointed t) found
      → FitsTarget (world_classes w) w.setup.program.globals waiting u target → free (block_in w.setup waiting) 3 < length under.registers
      → (first_broken (world_classes w) s (sorted (convert v (target_conversion target))) ≡ None → IsDone waiting target v under rest) → Refuses (sorted (convert v (target_conversion target)))
      → HoldsOfAnswer (fixed w) Q (record b { top = taking (call_kept w waiting (pointed t) found target).to (register_word w (heap_of s.classes b.memory.regions) v) under; below = rest; calls = left_calls b }) (Returned (call_kept w waiting (pointed t) found target).finish)
  leads_given waiting t u found None v under rest typed unclosed class fits room goes refuses = leads_end (fixed w) (goes (nothing_broken (world_classes w) s))
    where
      nothing_broken : (h : Classes) (x : Objects) → first_broken h x (sorted []) ≡ None
      nothing_broken h x = ap (first_broken h x) (sym (append-nil (sorted []))) ∙ nothing_sorted h x []
  leads_given waiting t u found (Some target) v under rest typed unclosed class fits room goes refuses =
      subst (λ (o : Option ClassId). HoldsOfAnswer (fixed w) Q (after waiting v under rest) (Returned (checked_taken (block_in w.setup waiting) target.variable o target.conversion (free (block_in w.setup waiting) 3) (free (block_in w.setup waiting) 2)))) class
      (leads_checked_taken w s (after waiting v under rest) _ world columns shows (block_in w.setup waiting) target.variable u fits.0 target.conversion (free (block_in w.setup waiting) 3) (free (block_in w.setup waiting) 2) v
      (slice_set under.registers (free (block_in w.setup waiting) 2) (register_word w g v)) refl
      (λ words. tells (record under { registers = words }) rest (left_calls b)) fits.2 typed
      (set_here b under.registers (free (block_in w.setup waiting) 2) (register_word w g v) (omega (arith, room)))
      (let size = (wrote_set b under.registers (free (block_in w.setup waiting) 2) (register_word w g v)).size in omega (arith, size, room)) unclosed goes
      (λ rule e. refuses rule _ refl e))

  pub leads_result : (waiting : TypedBody) (t u : ValueType ClassId) (found : Conversion) (target : Option Target) (r : ℕ) (v : Value) (under : MachineFrame) (rest : List MachineFrame) → MovesResult found → Converts (world_classes w) t found u → FitsTarget (world_classes w) w.setup.program.globals waiting u target
      → IsValue (world_classes w) s.classes v t → NamesOpen s v → IsReturning waiting t found target r v under rest
      → (first_broken (world_classes w) s (result_order v found target) ≡ None → IsDone waiting target (converted_to v found) under rest) → Refuses (result_order v found target)
      → OpsLead (fixed w) (ReturnOp (Some r) (class_number (pointed t)) ∷ []) b (HoldsOfAnswer (fixed w) Q)
  leads_result waiting _ _ _ target r v under rest moves (to_number a t) fits typed unclosed a' goes refuses = absurd moves
  leads_result waiting _ _ _ target r v under rest moves (to_same t) fits typed unclosed a goes refuses =
      let kept_is = a.kept in
      leads_same w s b (HoldsOfAnswer (fixed w) Q) world columns shows (tells b.top b.below b.calls) r t v under rest typed
      (record { opened = a.opened; last = a.last; word_is = a.word_is; below = a.below; room = has_room target kept_is })
      (ap (λ (k : Kept). k.class) kept_is ∙ kept_class w waiting (pointed t) ToSame target ∙ ap class_number (found_same (pointed t)))
      (ap (λ (k : Kept). k.vbase) kept_is ∙ kept_vbase w waiting (pointed t) ToSame target ∙ vbase_same w (pointed t))
      (ap (λ (k : Kept). k.add) kept_is ∙ kept_add w waiting (pointed t) ToSame target ∙ constant_same w (pointed t))
      (subst (λ (k : Kept). HoldsOfAnswer (fixed w) Q (record b { top = taking k.to (register_word w g v) under; below = rest; calls = left_calls b }) (Returned k.finish)) (sym kept_is)
      (leads_given waiting t t ToSame target v under rest typed unclosed (sym (found_same (pointed t))) fits a.room
      (λ none. goes (nothing_sorted (world_classes w) s (sorted (convert v (target_conversion target))) ∙ none)) (λ rule new line e. refuses rule new line (nothing_sorted (world_classes w) s (sorted (convert v (target_conversion target))) ∙ e))))
    where
      has_room : (o : Option Target) → b.top.kept ≡ call_kept w waiting (pointed t) ToSame o → (to : ℕ) → b.top.kept.to ≡ Some to → to < length under.registers
      has_room None is to e = absurd (let f : None ≡ Some to = sym (ap (λ (k : Kept). k.to) is) ∙ e in cc)
      has_room (Some x) is to e = let f : Some (free (block_in w.setup waiting) 2) ≡ Some to = sym (ap (λ (k : Kept). k.to) is) ∙ e in let same_to : free (block_in w.setup waiting) 2 ≡ to = cc in let enough = a.room in omega (arith, same_to, enough)
  leads_result waiting _ _ _ target r v under rest moves (to_base_of c d i proper) fits typed unclosed a goes refuses =
      let kept_is = a.kept in
      leads_to_base w s b (HoldsOfAnswer (fixed w) Q) world columns shows (tells b.top b.below b.calls) c d i r v under rest proper typed unclosed
      (record { opened = a.opened; last = a.last; word_is = a.word_is; below = a.below; room = has_room target kept_is })
      (record {
        class = ap (λ (k : Kept). k.class) kept_is ∙ kept_class w waiting (Some c) (ToBase i) target ∙ ap class_number proper.class;
        vbase = ap (λ (k : Kept). k.vbase) kept_is ∙ kept_vbase w waiting (Some c) (ToBase i) target;
        add = ap (λ (k : Kept). k.add) kept_is ∙ kept_add w waiting (Some c) (ToBase i) target;
      })
      (λ none. subst (λ (k : Kept). HoldsOfAnswer (fixed w) Q (record b { top = taking k.to (register_word w g (to_base i v)) under; below = rest; calls = left_calls b }) (Returned k.finish)) (sym kept_is)
      (leads_given waiting (PointerType c) (PointerType d) (ToBase i) target (to_base i v) under rest (converted_value (world_classes w) s.classes (PointerType c) (PointerType d) (ToBase i) (to_base_of c d i proper) v typed) (still_open v unclosed) (sym proper.class) fits a.room
      (λ fine. goes (then_none (world_classes w) s (sorted (convert v (ToBase i))) (sorted (convert (to_base i v) (target_conversion target))) none ∙ fine))
      (λ rule new line e. refuses rule new line (then_none (world_classes w) s (sorted (convert v (ToBase i))) (sorted (convert (to_base i v) (target_conversion target))) none ∙ e))))
      (λ rule e. refuses rule b refl (then_some (world_classes w) s (sorted (convert v (ToBase i))) (sorted (convert (to_base i v) (target_conversion target))) rule e))
    where
      has_room : (o : Option Target) → b.top.kept ≡ call_kept w waiting (Some c) (ToBase i) o → (to : ℕ) → b.top.kept.to ≡ Some to → to < length under.registers
      has_room None is to e = absurd (let f : None ≡ Some to = sym (ap (λ (k : Kept). k.to) is) ∙ e in cc)
      has_room (Some x) is to e = let f : Some (free (block_in w.setup waiting) 2) ≡ Some to = sym (ap (λ (k : Kept). k.to) is) ∙ e in let same_to : free (block_in w.setup waiting) 2 ≡ to = cc in let enough = a.room in omega (arith, same_to, enough)

      still_open : (x : Value) → NamesOpen s x → NamesOpen s (to_base i x)
      still_open Unset e = refl
      still_open (Number z) e = refl
      still_open Null e = refl
      still_open (Pointer p) e = e
