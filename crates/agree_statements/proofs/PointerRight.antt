-- `v = p == q;` and `v = p != q;`, of pointers to one class
use Rattle.std.proofs.Common.{◌≡◌, ℕ, ◌<◌, ◌^◌, Bool, true, false, Option, Some, None, List, [], ◌∷◌, ◌++◌, pos, inl, refl, ap, ◌∙◌, arith}
use Rattle.std.specs.Prelude.{if◌then◌else◌, nat_eq, not, ◌&&◌, int_lt, slice_set}
use Rattle.std.proofs.lemmas.Bool.Decides.{nat_tests}
use Rattle.foundation.proofs.Members.{Has, has_left, has_right}
use Rattle.cxx_hierarchy.specs.declared.records.ClassId.{ClassId}
use Rattle.cxx_hierarchy.specs.declared.records.Scalar.TheVariants.{Bool as TheBool}
use Rattle.cxx_hierarchy.specs.declared.records.ValueType.{ValueType}
use Rattle.cxx_hierarchy.specs.declared.records.ValueType.TheVariants.{Number as NumberType, Pointer as PointerType}
use Rattle.cxx_hierarchy.specs.Classes.{Classes}
use Rattle.cxx_program.specs.declared.operand.Argument.{Argument}
use Rattle.cxx_program.specs.declared.operand.Conversion.{Conversion}
use Rattle.cxx_program.specs.declared.operand.Variable.{Variable}
use Rattle.cxx_program.specs.declared.statement.TypedRight.TheVariants.{SamePointer}
use Rattle.cxx_program.specs.declared.statement.TypedStatement.{TypedStatement}
use Rattle.cxx_program.specs.Typed.{Scope, Converts, IsArgument, whole, IsConverted, a_comparison, a_right}
use Rattle.path_rules.specs.declared.Undefined.TheVariants.{Unset as UnsetUse}
use Rattle.path_model.specs.Values.{Value, Unset, Number, Null, Pointer, value_of_operand, converted_to, argument_value}
use Rattle.path_model.specs.Uses.{StatementUse, Reads, argument_uses}
use Rattle.path_model.specs.Rules.{is_unset}
use Rattle.path_model.specs.Effects.{is_same_pointer, truth_as_number}
use Rattle.path_model.specs.Runs.{Moves}
use Rattle.path_model.specs.TypedStates.{IsValue}
use Rattle.path_model.proofs.TypedRanges.{bit_in_range}
use Rattle.path_model.proofs.TypedValues.{argument_typed}
use Rattle.byte_machine.specs.Frames.{register_of}
use Rattle.byte_code.specs.declared.op.ArithKind.TheVariants.{Equal as EqualKind, NotEqual as NotEqualKind}
use Rattle.byte_code.specs.declared.op.Op.{Op}
use Rattle.byte_code.specs.declared.op.Op.TheVariants.{Arith, Jump}
use Rattle.byte_code.specs.Numbers.{word_of, number_of_word}
use Rattle.byte_machine.specs.Values.{calculated_word, truth_word}
use Rattle.byte_machine.specs.Leads.{OpsLead}
use Rattle.byte_machine.proofs.ValueLeads.{leads_arith}
use Rattle.code_ops.specs.Arguments.{free, argument_front, argument_used, argument_ops, taken_ops}
use Rattle.code_ops.specs.Operands.{operand_register, ops_of}
use Rattle.code_ops.specs.Setups.{word_width}
use Rattle.code_statements.specs.Rights.{right_used}
use Rattle.agree_parts.specs.Addresses.{address}
use Rattle.agree_parts.specs.Heaps.{Heap}
use Rattle.agree_parts.specs.Placed.{AreObjectsLaid}
use Rattle.agree_parts.proofs.Apart.{part_test}
use Rattle.agree_parts.proofs.Inside.{part_positive, part_limit}
use Rattle.agree_relation.specs.Worlds.{World, world_classes, places_in, fixed}
use Rattle.agree_relation.specs.Words.{register_word}
use Rattle.agree_relation.specs.Frames.{HasVariables}
use Rattle.agree_relation.proofs.Objects.{objects_laid}
use Rattle.agree_statements.specs.Registers.{at_registers, body_on}
use Rattle.agree_statements.proofs.Numbers.{equal_words, truth_result}
use Rattle.agree_statements.proofs.Registers.{leads_grouped, set_here, wrote_set, variables_kept}
use Rattle.agree_statements.proofs.Operands.{leads_operand, operand_kept, operand_apart}
use Rattle.agree_statements.proofs.Tests.{leads_checks, along_append, unbroken}
use Rattle.agree_statements.proofs.Useds.{along_argument}
use Rattle.agree_statements.proofs.Moves.{move_in}
use Rattle.agree_statements.proofs.Scenes.{Scene, here, scope, block, free_apart, sight_with}
use Rattle.agree_statements.proofs.Finish.{Reaches, to_next, refused}
use Rattle.agree_statements.proofs.Rights.{Taking, DoesRight, took, tells, free_of, free_in, leads_taken}
use Rattle.agree_statements.proofs.OperandRight.{argument_type}
use Rattle.agree_statements.proofs.ArgumentLeads.{argument_set, leads_argument}

-- two pointers as words, which are equal exactly where the pointers are
record AreWords (w : World) (g : Heap) (x y : Value) : Type 0 where
  left : ℕ
  right : ℕ
  left_is : register_word w g x ≡ Some left
  right_is : register_word w g y ≡ Some right
  left_fits : left < 2 ^ 64
  right_fits : right < 2 ^ 64
  same : nat_eq left right ≡ is_same_pointer x y

-- no part lies at address 0
above_null : (n : ℕ) → 0 < n → nat_eq 0 n ≡ false
above_null n some = grind (arith, nat_tests)

not_null : (n : ℕ) → 0 < n → nat_eq n 0 ≡ false
not_null n some = grind (arith, nat_tests)

pointer_words : (w : World) (g : Heap) (x y : Value) (c : ClassId) → AreObjectsLaid (world_classes w) w.setup.rows g → IsValue (world_classes w) g.classes x (PointerType c) → IsValue (world_classes w) g.classes y (PointerType c) → is_unset x ≡ false → is_unset y ≡ false → AreWords w g x y
pointer_words w g Unset y c laid typed typed' set set' = absurd (let f : true ≡ false = set in cc)
pointer_words w g (Number z) y c laid typed typed' set set' = absurd typed
pointer_words w g Null Unset c laid typed typed' set set' = absurd (let f : true ≡ false = set' in cc)
pointer_words w g Null (Number z) c laid typed typed' set set' = absurd typed'
pointer_words w g Null Null c laid typed typed' set set' = record { left = 0; right = 0; left_is = refl; right_is = refl; left_fits = omega arith; right_fits = omega arith; same = refl }
pointer_words w g Null (Pointer q) c laid typed typed' set set' =
    let there = address (world_classes w) (places_in w) g q in
    let some = part_positive (world_classes w) w.setup.rows g q c laid typed' in
    let low = part_limit (world_classes w) w.setup.rows g q c laid typed' in
    record { left = 0; right = there; left_is = refl; right_is = refl; left_fits = omega arith; right_fits = omega arith; same = above_null there some }
pointer_words w g (Pointer p) Unset c laid typed typed' set set' = absurd (let f : true ≡ false = set' in cc)
pointer_words w g (Pointer p) (Number z) c laid typed typed' set set' = absurd typed'
pointer_words w g (Pointer p) Null c laid typed typed' set set' =
    let there = address (world_classes w) (places_in w) g p in
    let some = part_positive (world_classes w) w.setup.rows g p c laid typed in
    let low = part_limit (world_classes w) w.setup.rows g p c laid typed in
    record { left = there; right = 0; left_is = refl; right_is = refl; left_fits = omega arith; right_fits = omega arith; same = not_null there some }
pointer_words w g (Pointer p) (Pointer q) c laid typed typed' set set' =
    let low = part_limit (world_classes w) w.setup.rows g p c laid typed in
    let low' = part_limit (world_classes w) w.setup.rows g q c laid typed' in
    record {
      left = address (world_classes w) (places_in w) g p;
      right = address (world_classes w) (places_in w) g q;
      left_is = refl;
      right_is = refl;
      left_fits = omega arith;
      right_fits = omega arith;
      same = part_test (world_classes w) w.setup.rows g p q c laid typed typed';
    }

one_truth : (x y : Bool) → truth_word x ≡ truth_word y → x ≡ y
one_truth true true e = refl
one_truth true false e = absurd (omega arith)
one_truth false true e = absurd (omega arith)
one_truth false false e = refl

-- two words are compared, for `==` or for `!=`
compared_words : (differ : Bool) (a b : ℕ) → a < 2 ^ 64 → b < 2 ^ 64 → calculated_word (if differ then NotEqualKind else EqualKind) word_width (number_of_word word_width a) (number_of_word word_width b) ≡ word_of (if (if differ then not (nat_eq a b) else nat_eq a b) then pos 1 else pos 0)
compared_words false a b fits fits' = equal_words a b fits fits' ∙ truth_result (nat_eq a b)
compared_words true a b fits fits' =
    let x = number_of_word word_width a in
    let y = number_of_word word_width b in
    let same = one_truth (not (int_lt x y) && not (int_lt y x)) (nat_eq a b) (equal_words a b fits fits') in
    ap (λ (t : Bool). truth_word (not t)) same ∙ truth_result (not (nat_eq a b))

-- what the types of two pointers that are compared say
record ArePointers (h : Classes) (e : Scope) (p q : Argument) (c : Conversion) (target : ValueType ClassId) : Type 0 where
  class : ClassId
  left : IsArgument h e p (PointerType class)
  right : IsArgument h e q (PointerType class)
  converts : Converts h (NumberType TheBool) c target

pointers_typed : (h : Classes) (e : Scope) (differ : Bool) (p q : Argument) (c : Conversion) (target : ValueType ClassId) → IsConverted h e (record { right = SamePointer differ p q; conversion = c }) target → ArePointers h e p q c target
pointers_typed h e differ p q c target (a_right _ _ _ (a_comparison _ _ _ k x y) to) = record { class = k; left = x; right = y; converts = to }

module _ {statement : TypedStatement} (scene : Scene statement) (locals : List Value) (variable : Variable) (differ : Bool) (p q : Argument) (c : Conversion) (take : Taking scene locals variable (record { right = SamePointer differ p q; conversion = c })) where
  open scene use {w, at, s, f, below, body, b}

  abbrev x : Value
  x = argument_value (sight_with scene locals) p

  abbrev y : Value
  y = argument_value (sight_with scene locals) q

  abbrev uses : List StatementUse
  uses = argument_uses (sight_with scene locals) p ++ argument_uses (sight_with scene locals) q

  abbrev holds : Bool
  holds = if differ then not (is_same_pointer x y) else is_same_pointer x y

  abbrev jump : List Op
  jump = Jump (to_next scene statement.next) ∷ []

  abbrev compared : List Op
  compared = Arith (if differ then NotEqualKind else EqualKind) word_width (free (block scene) 4) (free (block scene) 2) (free (block scene) 3) ∷ ops_of (taken_ops (block scene) variable None c (free (block scene) 5) (free (block scene) 4))

  -- both words are compared, and the result is taken
  compares : (new : List (Option ℕ)) → Converts (world_classes w) (NumberType TheBool) c take.target → AreWords w (here scene) x y → register_of new (free (block scene) 2) ≡ register_word w (here scene) x → register_of new (free (block scene) 3) ≡ register_word w (here scene) y
      → HasVariables w (here scene) (body_on f locals f.next) new → move_in w s ≡ Moves (took scene locals variable (converted_to (truth_as_number holds) c)) [] → OpsLead (fixed w) (compared ++ jump) (at_registers b new) (Reaches scene)
  compares new to k has_left_word has_right_word variables moves =
      let g = here scene in
      let fourth = free (block scene) 4 in
      let kind = if differ then NotEqualKind else EqualKind in
      let word = calculated_word kind word_width (number_of_word word_width k.left) (number_of_word word_width k.right) in
      let last = slice_set new fourth (Some word) in
      let inside = free_in scene locals new 4 (omega arith) variables in
      let result : word ≡ word_of (if holds then pos 1 else pos 0) = compared_words differ k.left k.right k.left_fits k.right_fits ∙ ap (λ (t : Bool). word_of (if (if differ then not t else t) then pos 1 else pos 0)) k.same in
      leads_arith (fixed w) kind word_width fourth (free (block scene) 2) (free (block scene) 3) k.left k.right (omega arith) (omega arith) (has_left_word ∙ k.left_is) (has_right_word ∙ k.right_is) inside
      (leads_taken scene locals variable (record { right = SamePointer differ p q; conversion = c }) take (truth_as_number holds) (NumberType TheBool) c 5 fourth last (omega arith) to (λ a class i is. absurd (cc)) (bit_in_range holds)
      (set_here b new fourth (Some word) inside ∙ ap (λ (n : ℕ). Some n) result)
      (variables_kept w g (body_on f locals f.next) fourth new last (free_of scene locals 4 take.count) variables (wrote_set b new fourth (Some word))) moves)

  pub same_pointer_does : DoesRight scene locals variable (record { right = SamePointer differ p q; conversion = c })
  same_pointer_does old variables =
      let h = world_classes w in
      let e = scope scene in
      let g = here scene in
      let on = body_on f locals f.next in
      let k = pointers_typed h e differ p q c take.target take.typed in
      let first = free (block scene) 0 in
      let second = free (block scene) 1 in
      let third = free (block scene) 2 in
      let t = argument_type h e p (PointerType k.class) k.left in
      let u = argument_type h e q (PointerType k.class) k.right in
      let among_left = λ (a : StatementUse) (there : Has (argument_uses (sight_with scene locals) p) a). has_left (argument_uses (sight_with scene locals) p) (argument_uses (sight_with scene locals) q) a there in
      let among_right = λ (a : StatementUse) (there : Has (argument_uses (sight_with scene locals) q) a). has_right (argument_uses (sight_with scene locals) p) (argument_uses (sight_with scene locals) q) a there in
      let laid = objects_laid w s.objects b.memory.regions b.objects b.heap scene.world scene.begins.stands.columns.objects in
      leads_grouped (fixed w) (argument_front p first) (argument_front q second) _
      (leads_operand (fixed w) w g s on e b p.operand t.0 first old take.sees scene.begins.stands.globals variables t.1 (free_in scene locals old 0 (omega arith) variables)
      (λ mid read. let kept = variables_kept w g on first old mid (free_of scene locals 0 take.count) variables read.wrote in
      leads_operand (fixed w) w g s on e b q.operand u.0 second mid take.sees scene.begins.stands.globals kept u.1 (free_in scene locals mid 1 (omega arith) kept)
      (λ new read'. let still = variables_kept w g on second mid new (free_of scene locals 1 take.count) kept read'.wrote in
      let word = operand_kept w g s on e p.operand t.0 first second old mid new take.sees t.1 (free_of scene locals 1 take.count) (free_apart scene 0 1 (λ z. omega arith)) read read'.wrote in
      leads_checks (fixed w) (at_registers b new) (Reaches scene) h s.objects uses (right_used (block scene) (SamePointer differ p q) c)
      (along_append (fixed w) (at_registers b new) (Reaches scene) h s.objects uses (argument_uses (sight_with scene locals) p) (argument_uses (sight_with scene locals) q) (argument_used (block scene) p first) (argument_used (block scene) q second)
      (along_argument w (sight_with scene locals) (at_registers b new) (Reaches scene) scene.world scene.begins.stands.columns uses (block scene) first p (PointerType k.class) take.sees (tells scene new) among_left k.left word)
      (along_argument w (sight_with scene locals) (at_registers b new) (Reaches scene) scene.world scene.begins.stands.columns uses (block scene) second q (PointerType k.class) take.sees (tells scene new) among_right k.right read'.word))
      (λ fine none.
      let set = unbroken (fixed w) b (Reaches scene) h s.objects uses (Reads (value_of_operand (sight_with scene locals) p.operand)) UnsetUse (none UnsetUse) (among_left (Reads (value_of_operand (sight_with scene locals) p.operand)) (inl refl)) in
      let set' = unbroken (fixed w) b (Reaches scene) h s.objects uses (Reads (value_of_operand (sight_with scene locals) q.operand)) UnsetUse (none UnsetUse) (among_right (Reads (value_of_operand (sight_with scene locals) q.operand)) (inl refl)) in
      let words = pointer_words w g x y k.class laid (argument_typed h e (sight_with scene locals) take.sees p (PointerType k.class) k.left) (argument_typed h e (sight_with scene locals) take.sees q (PointerType k.class) k.right)
      (argument_set (sight_with scene locals) p set) (argument_set (sight_with scene locals) q set') in
      leads_grouped (fixed w) (ops_of (argument_ops (block scene) p third first)) (ops_of (argument_ops (block scene) q (free (block scene) 3) second) ++ compared) jump
      (leads_argument scene locals uses None p (PointerType k.class) third first new take.sees tt (whole p (PointerType k.class) k.left) among_left none word (free_in scene locals new 2 (omega arith) still)
      (λ one wrote is. let after = variables_kept w g on third new one (free_of scene locals 2 take.count) still wrote in
      let other_word = wrote.other (operand_register second q.operand) (λ same. operand_apart w s on e q.operand u.0 second third take.sees u.1 (free_of scene locals 2 take.count) (free_apart scene 1 2 (λ z. omega arith)) same) ∙ read'.word in
      leads_grouped (fixed w) (ops_of (argument_ops (block scene) q (free (block scene) 3) second)) compared jump
      (leads_argument scene locals uses None q (PointerType k.class) (free (block scene) 3) second one take.sees tt (whole q (PointerType k.class) k.right) among_right none other_word (free_in scene locals one 3 (omega arith) after)
      (λ last wrote' is'. compares last k.converts words (wrote'.other third (free_apart scene 2 3 (λ z. omega arith)) ∙ is) is' (variables_kept w g on (free (block scene) 3) one last (free_of scene locals 3 take.count) after wrote') (take.fine fine))))))
      (λ rule broken. refused scene rule (at_registers b new) refl (take.refused rule broken)))))
