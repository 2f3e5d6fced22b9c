-- Each kind of statement leads from a typed state to a typed one, and is not wrong.
use Rattle.std.proofs.Common.{◌≡◌, ℕ, ◌+◌, ◌≤◌, arith, inl, inr, Some, None, List, ◌∷◌, length, refl, ap, subst, sym, ◌∙◌}
use Rattle.foundation.proofs.Members.{Has}
use Rattle.cxx_hierarchy.specs.declared.records.ClassId.{ClassId}
use Rattle.cxx_hierarchy.specs.declared.records.ValueType.{ValueType}
use Rattle.cxx_hierarchy.specs.declared.records.ValueType.TheVariants.{Number as NumberType, Pointer as PointerType}
use Rattle.cxx_hierarchy.specs.declared.records.ReturnType.TheVariants.{Void, Value as ValueReturn}
use Rattle.cxx_hierarchy.specs.Classes.{Classes}
use Rattle.cxx_hierarchy.specs.Hierarchies.{IsHierarchy}
use Rattle.cxx_overrider.specs.Faults.{HasNoFault}
use Rattle.cxx_program.specs.declared.operand.TypedOperand.{TypedOperand}
use Rattle.cxx_program.specs.declared.operand.Variable.TheVariants.{Local}
use Rattle.cxx_program.specs.declared.statement.TypedKind.{TypedKind}
use Rattle.cxx_program.specs.declared.statement.TypedKind.TheVariants.{Write, Copy, Delete, If, While, Print, PrintType, PrintView, Dump}
use Rattle.cxx_program.specs.declared.program.TypedBody.{TypedBody}
use Rattle.cxx_program.specs.declared.program.TypedProgram.{TypedProgram}
use Rattle.cxx_program.specs.Typed.{Scope, scope_of, HasType, returns_of, width_within, place_width, IsTyped, declares, begins, assigns, writes, copies, calls, deletes, branches, repeats, returns_nothing, returns_value, prints, prints_type, prints_view, dumps, IsWithin, IsTypedProgram}
use Rattle.path_model.specs.Values.{Value, Objects, Sight, value_of_operand, argument_value}
use Rattle.path_model.specs.Uses.{Wanted, Views}
use Rattle.path_model.specs.Rules.{statement_refusal, uses_of}
use Rattle.path_model.specs.States.{RunningBody, Frame, InBody, ProgramState, owned_body, at_statement}
use Rattle.path_model.specs.Effects.{kind_effect, block_at, value_out, view_out, type_out, dump_out}
use Rattle.path_model.specs.TypedStates.{IsValue}
use Rattle.path_model.proofs.TypedValues.{IsTypedSight, operand_typed, argument_typed}
use Rattle.path_model.proofs.TypedBits.{HasRoom, member_room, kept_typed, kept_held}
use Rattle.path_model.proofs.TypedFrames.{IsSound, IsSoundNext, sight_typed}
use Rattle.path_model.proofs.TypedBodies.{body_typed}
use Rattle.path_model.proofs.TypedUses.{is_set, followed, has_view, viewed}
use Rattle.path_model.proofs.TypedCalls.{called_sound}
use Rattle.path_model.proofs.TypedCopies.{copied_sound}
use Rattle.path_model.proofs.TypedKinds.{taken_sound}
use Rattle.path_model.proofs.TypedSimple.{written_sound, deleted_sound, at_sound, branched_sound, block_within, returned_sound, told_sound, value_told, view_told, type_told, dump_told}

-- the frame f is at statement n of its body, and control goes on at `next`
module _ (h : Classes) (keeps : IsHierarchy h) (fine : HasNoFault h) (program : TypedProgram) (a : IsTypedProgram h program) (x : Objects) (globals : List Value) (f : RunningBody) (below : List Frame) (body : TypedBody) (there : owned_body program f.owner ≡ Some body)
    (w : Wanted) (n next : ℕ) (le : next ≤ length body.statements) (b : IsSound h program (record { objects = x; globals = globals; frames = InBody f ∷ below })) where
  abbrev See : Sight
  See = record { objects = x; globals = globals; this = f.this; locals = f.locals }

  abbrev On : ProgramState
  On = record { objects = x; globals = globals; frames = InBody (at_statement f next) ∷ below }

  abbrev E : Scope
  E = scope_of h program.globals body

  on_sound : IsSound h program On
  on_sound = at_sound h program (record { objects = x; globals = globals; frames = InBody f ∷ below }) f below body next there le b

  sees : IsTypedSight h E See
  sees = sight_typed h program (record { objects = x; globals = globals; frames = InBody f ∷ below }) f below body refl there (body_typed h program a f.owner body there).0 b.typed

  has_value : (y : TypedOperand) (t : ValueType ClassId) → HasType E y t → IsValue h x.classes (value_of_operand See y) t
  has_value y t has = operand_typed h E See sees y t has

  pub kind_sound : (kind : TypedKind) → IsTyped h E kind → IsWithin (length body.statements) n kind → statement_refusal h See w kind ≡ None → IsSoundNext h program (kind_effect h program See On f below n next kind)
  kind_sound _ (declares m t is) within clear = on_sound
  kind_sound _ (begins m y t is fits) within clear = taken_sound h keeps fine program a See globals (InBody (at_statement f next) ∷ below) body there sees on_sound (Local m) t is y.right y.conversion fits clear
  kind_sound _ (assigns variable y t is fits) within clear = taken_sound h keeps fine program a See globals (InBody (at_statement f next) ∷ below) body there sees on_sound variable t is y.right y.conversion fits clear
  kind_sound _ (writes place y t p fits) within clear =
      let v = value_of_operand See place.pointer in
      let names = followed h x (uses_of h See w (Write place y)) clear v (inl refl) (inr (inl refl)) place.class (has_value place.pointer (PointerType place.class) p.pointer) in
      let room = subst (λ o. HasRoom (width_within h o place.member) t) (sym p.of_class) (member_room h keeps p.class place.member place.index t p.element) in
      let typed = kept_typed h x.classes E (value_of_operand See) has_value y t (place_width h place) room fits in
      written_sound h program On E place t p (argument_value See y) v typed (kept_held h x.classes E (value_of_operand See) has_value y t (place_width h place) fits) names on_sound
  kind_sound _ (copies to from c has_to has_from) within clear =
      let us = uses_of h See w (Copy to from c) in
      copied_sound h program On c (value_of_operand See to) (value_of_operand See from)
      (followed h x us clear (value_of_operand See to) (inl refl) (inr (inl refl)) c (has_value to (PointerType c) has_to))
      (followed h x us clear (value_of_operand See from) (inr (inr (inr (inl refl)))) (inr (inr (inr (inr (inl refl))))) c (has_value from (PointerType c) has_from)) on_sound
  kind_sound _ (calls call d c) within clear = called_sound h keeps fine program a E See sees on_sound.runs globals (InBody (at_statement f next) ∷ below) body there call d c None (record { value = λ t e. tt; nothing = λ none. refl }) clear on_sound
  kind_sound _ (deletes y c has) within clear = deleted_sound h program On body there (value_of_operand See y) c (has_value y (PointerType c) has) (is_set h x (uses_of h See w (Delete y c)) clear (value_of_operand See y) (inl refl)) on_sound
  kind_sound _ (branches y t other behind has) within clear =
      let size = length body.statements in
      let first : n + 1 ≤ size = omega (arith, within.0, within.1, within.2) in
      let second : other ≤ size = omega (arith, within.1, within.2) in
      branched_sound h program x globals (at_statement f next) below body there (value_of_operand See y) t (has_value y (NumberType t) has) (is_set h x (uses_of h See w (If y other behind)) clear (value_of_operand See y) (inl refl))
      (block_at (n + 1) other next) (block_at other behind next) (block_within (n + 1) other next size first le) (block_within other behind next size second le) on_sound
  kind_sound _ (repeats y t behind has) within clear =
      let size = length body.statements in
      let first : n + 1 ≤ size = omega (arith, within.0, within.1) in
      let here : n ≤ size = omega (arith, within.0, within.1) in
      branched_sound h program x globals (at_statement f next) below body there (value_of_operand See y) t (has_value y (NumberType t) has) (is_set h x (uses_of h See w (While y behind)) clear (value_of_operand See y) (inl refl))
      (block_at (n + 1) behind n) next (block_within (n + 1) behind n size first here) le on_sound
  kind_sound _ (returns_nothing is) within clear = returned_sound h program On f below None Void (sym (ap (returns_of h) (body_typed h program a f.owner body there).0) ∙ is) tt b
  kind_sound _ (returns_value y t is fits) within clear =
      returned_sound h program On f below (Some (argument_value See y)) (ValueReturn t) (sym (ap (returns_of h) (body_typed h program a f.owner body there).0) ∙ is) (argument_typed h E See sees y t fits) b
  kind_sound _ (prints y t has) within clear = told_sound h program On (value_out x (value_of_operand See y)) (value_told x (value_of_operand See y) (is_set h x (uses_of h See w (Print y)) clear (value_of_operand See y) (inl refl))) on_sound
  kind_sound _ (prints_type y c has poly) within clear =
      let us = uses_of h See w (PrintType y c) in
      let v = value_of_operand See y in
      let names = followed h x us clear v (inl refl) (inr (inl refl)) c (has_value y (PointerType c) has) in
      let view = has_view h x names.part (viewed h x us clear names.part (subst (λ (z : Value). Has us (Views z)) names.is (inr (inr (inr (inl refl)))))) in
      told_sound h program On (type_out h x v) (type_told h x on_sound.runs v c names view) on_sound
  kind_sound _ (prints_view y c has poly) within clear =
      let us = uses_of h See w (PrintView y c) in
      let v = value_of_operand See y in
      told_sound h program On (view_out h x v)
      (view_told h x v c (has_value y (PointerType c) has) (is_set h x us clear v (inl refl)) (λ p e. has_view h x p (viewed h x us clear p (subst (λ (z : Value). Has us (Views z)) e (inr (inr (inl refl)))))))
      on_sound
  kind_sound _ (dumps y c has) within clear =
      let us = uses_of h See w (Dump y c) in
      let v = value_of_operand See y in
      told_sound h program On (dump_out h x v) (dump_told h x v c (followed h x us clear v (inl refl) (inr (inl refl)) c (has_value y (PointerType c) has))) on_sound
