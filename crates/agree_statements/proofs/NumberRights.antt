-- `v = x + y;`, the other operators, and `v = !x;`
use Rattle.std.proofs.Common.{◌≡◌, ℕ, true, false, Option, Some, None, List, [], ◌∷◌, ◌++◌, inl, inr, refl, ap, ◌∙◌, arith}
use Rattle.std.specs.Prelude.{if◌then◌else◌, ℤ, ◌+ℤ◌, ◌-ℤ◌, ◌*ℤ◌, int_lt, not, ◌&&◌, slice_set}
use Rattle.cxx_hierarchy.specs.declared.records.ClassId.{ClassId}
use Rattle.cxx_hierarchy.specs.declared.records.Scalar.{Scalar}
use Rattle.cxx_hierarchy.specs.declared.records.Scalar.TheVariants.{Bool as TheBool}
use Rattle.cxx_hierarchy.specs.declared.records.ValueType.{ValueType}
use Rattle.cxx_hierarchy.specs.declared.records.ValueType.TheVariants.{Number as NumberType}
use Rattle.cxx_hierarchy.specs.Classes.{Classes}
use Rattle.cxx_hierarchy.specs.Scalars.{IsInRange, wrapped}
use Rattle.cxx_program.specs.declared.operand.Variable.{Variable}
use Rattle.cxx_program.specs.declared.operand.TypedOperand.{TypedOperand}
use Rattle.cxx_program.specs.declared.operand.Conversion.{Conversion}
use Rattle.cxx_program.specs.declared.statement.Converted.{Converted}
use Rattle.cxx_program.specs.declared.statement.Arithmetic.{Arithmetic as Operator}
use Rattle.cxx_program.specs.declared.statement.Arithmetic.TheVariants.{Add, Subtract, Multiply, Less, LessEqual, Equal, NotEqual}
use Rattle.cxx_program.specs.declared.statement.TypedRight.TheVariants.{Arithmetic, Not}
use Rattle.cxx_program.specs.declared.statement.TypedStatement.{TypedStatement}
use Rattle.cxx_program.specs.Typed.{Scope, Converts, HasType, a_calculation, a_negation, IsConverted, a_right, calculated_type}
use Rattle.path_rules.specs.declared.Undefined.TheVariants.{Unset as UnsetUse}
use Rattle.path_model.specs.Values.{Value, Unset, Number, Null, Pointer, value_of_operand, converted_to}
use Rattle.path_model.specs.Uses.{StatementUse, Reads, Overflows}
use Rattle.path_model.specs.Rules.{is_unset}
use Rattle.path_model.specs.Effects.{arithmetic_value}
use Rattle.path_model.specs.Runs.{Moves}
use Rattle.path_model.specs.TypedStates.{IsValue}
use Rattle.path_model.proofs.TypedRanges.{wrapped_in_range, bit_in_range}
use Rattle.path_model.proofs.TypedValues.{operand_typed}
use Rattle.byte_machine.specs.Frames.{register_of}
use Rattle.byte_code.specs.declared.op.Op.TheVariants.{Arith, Jump}
use Rattle.byte_code.specs.Numbers.{word_of, number_of_word}
use Rattle.byte_machine.specs.Values.{calculated_word}
use Rattle.byte_machine.specs.Leads.{OpsLead}
use Rattle.byte_machine.proofs.ValueLeads.{leads_arith}
use Rattle.code_ops.specs.Arguments.{free, taken_ops}
use Rattle.code_ops.specs.Operands.{operand_ops, operand_register, ops_of}
use Rattle.code_ops.specs.Setups.{width_of, word_width}
use Rattle.code_ops.specs.Uses.{reads}
use Rattle.code_ops.specs.declared.uses.Used.TheVariants.{Overflows as OverflowsWords}
use Rattle.code_statements.specs.Rights.{arith_kind, right_used}
use Rattle.agree_relation.specs.Worlds.{world_classes, fixed}
use Rattle.agree_relation.specs.Words.{register_word}
use Rattle.agree_relation.specs.Frames.{HasVariables}
use Rattle.agree_statements.specs.Registers.{at_registers, body_on}
use Rattle.agree_statements.proofs.Numbers.{IsWide, width_some, width_narrow, result, result_is, word_calculated, common_wide}
use Rattle.agree_statements.proofs.Registers.{leads_grouped, set_here, wrote_set, variables_kept}
use Rattle.agree_statements.proofs.Operands.{leads_operand, operand_kept}
use Rattle.agree_statements.proofs.Tests.{leads_checks, along_append, unbroken}
use Rattle.agree_statements.specs.Tests.{nothing, tested}
use Rattle.agree_statements.proofs.Useds.{along_reads, calculated as tested_calculation}
use Rattle.agree_statements.proofs.Scenes.{Scene, here, scope, block, free_apart, sight_with}
use Rattle.agree_statements.proofs.Finish.{Reaches, to_next, refused}
use Rattle.agree_statements.proofs.Moves.{move_in}
use Rattle.agree_statements.proofs.Conversions.{IsSure}
use Rattle.agree_statements.proofs.Rights.{Taking, DoesRight, took, free_of, free_in, leads_taken}
use Rattle.path_model.specs.Effects.{negated, is_number_zero}
use Rattle.byte_code.specs.declared.op.ArithKind.TheVariants.{Equal as EqualKind}
use Rattle.byte_code.specs.declared.op.Op.TheVariants.{Const}
use Rattle.byte_code.proofs.Words.{word_of-fits}
use Rattle.byte_machine.specs.Values.{truth_word}
use Rattle.byte_machine.proofs.ValueLeads.{leads_const}
use Rattle.agree_statements.proofs.Numbers.{equal_words, zero_test, truth_result}
use Rattle.agree_statements.proofs.Registers.{set_there}
use Rattle.agree_statements.proofs.Operands.{operand_apart}
use Rattle.std.proofs.Common.{pos, sym}

-- a number operand that is set
pub record IsNumber (v : Value) (t : Scalar) : Type 0 where
  pub number : ℤ
  pub is : v ≡ Number number
  pub range : IsInRange t number

pub set_number : (h : Classes) (cs : List ClassId) (v : Value) (t : Scalar) → IsValue h cs v (NumberType t) → is_unset v ≡ false → IsNumber v t
set_number h cs Unset t typed set = absurd (let f : true ≡ false = set in cc)
set_number h cs (Number z) t typed set = record { number = z; is = refl; range = typed }
set_number h cs Null t typed set = absurd typed
set_number h cs (Pointer p) t typed set = absurd typed

result_typed : (h : Classes) (cs : List ClassId) (op : Operator) (t : Scalar) (a b : ℤ) → IsValue h cs (Number (result op t a b)) (NumberType (calculated_type op t))
result_typed h cs Add t a b = wrapped_in_range t (a +ℤ b)
result_typed h cs Subtract t a b = wrapped_in_range t (a -ℤ b)
result_typed h cs Multiply t a b = wrapped_in_range t (a *ℤ b)
result_typed h cs Less t a b = bit_in_range (int_lt a b)
result_typed h cs LessEqual t a b = bit_in_range (not (int_lt b a))
result_typed h cs Equal t a b = bit_in_range (not (int_lt a b) && not (int_lt b a))
result_typed h cs NotEqual t a b = bit_in_range (not (not (int_lt a b) && not (int_lt b a)))

-- what the types of a calculation say
record IsCalculation (h : Classes) (e : Scope) (op : Operator) (t : Scalar) (p q : TypedOperand) (c : Conversion) (target : ValueType ClassId) : Type 0 where
  left : Scalar
  right : Scalar
  has_left : HasType e p (NumberType left)
  has_right : HasType e q (NumberType right)
  wide : IsWide t
  converts : Converts h (NumberType (calculated_type op t)) c target

calculation_typed : (h : Classes) (e : Scope) (op : Operator) (t : Scalar) (p q : TypedOperand) (c : Conversion) (target : ValueType ClassId) → IsConverted h e (record { right = Arithmetic op t p q; conversion = c }) target → IsCalculation h e op t p q c target
calculation_typed h e op _ p q c target (a_right _ _ _ (a_calculation _ a b _ _ x y) to) = record { left = a; right = b; has_left = x; has_right = y; wide = common_wide a b; converts = to }

record IsNegation (h : Classes) (e : Scope) (p : TypedOperand) (c : Conversion) (target : ValueType ClassId) : Type 0 where
  type : Scalar
  has : HasType e p (NumberType type)
  converts : Converts h (NumberType TheBool) c target

negation_typed : (h : Classes) (e : Scope) (p : TypedOperand) (c : Conversion) (target : ValueType ClassId) → IsConverted h e (record { right = Not p; conversion = c }) target → IsNegation h e p c target
negation_typed h e p c target (a_right _ _ _ (a_negation _ t x) to) = record { type = t; has = x; converts = to }

module _ {statement : TypedStatement} (scene : Scene statement) (locals : List Value) (variable : Variable) where
  open scene use {w, at, s, f, below, body, b}

  -- a number is no pointer that a conversion would move
  number_sure : (z : ℤ) (c : Conversion) → IsSure w s.objects b (Number z) c
  number_sure z c p k i is = absurd (cc)

  module _ (op : Operator) (t : Scalar) (p q : TypedOperand) (c : Conversion) (take : Taking scene locals variable (record { right = Arithmetic op t p q; conversion = c })) where
    abbrev sum : Converted
    sum = record { right = Arithmetic op t p q; conversion = c }

    abbrev x : Value
    x = value_of_operand (sight_with scene locals) p

    abbrev y : Value
    y = value_of_operand (sight_with scene locals) q

    abbrev uses : List StatementUse
    uses = Reads x ∷ Reads y ∷ Overflows op t x y ∷ []

    abbrev left : ℕ
    left = operand_register (free (block scene) 0) p

    abbrev right : ℕ
    right = operand_register (free (block scene) 1) q

    calculates : (new : List (Option ℕ)) (a b' : Scalar) → IsWide t → Converts (world_classes w) (NumberType (calculated_type op t)) c take.target → IsNumber x a → IsNumber y b' → register_of new left ≡ register_word w (here scene) x → register_of new right ≡ register_word w (here scene) y → HasVariables w (here scene) (body_on f locals f.next) new
        → move_in w s ≡ Moves (took scene locals variable (converted_to (arithmetic_value op t x y) c)) []
        → OpsLead (fixed w) (Arith (arith_kind op) (width_of t) (free (block scene) 2) left right ∷ (ops_of (taken_ops (block scene) variable None c (free (block scene) 3) (free (block scene) 2)) ++ (Jump (to_next scene statement.next) ∷ []))) (at_registers b new) (Reaches scene)
    calculates new a b' wide converts m n l r variables moves =
        let to = free (block scene) 2 in
        let narrow = width_narrow t in
        let z = result op t (wrapped t m.number) (wrapped t n.number) in
        let word = calculated_word (arith_kind op) (width_of t) (number_of_word (width_of t) (word_of m.number)) (number_of_word (width_of t) (word_of n.number)) in
        let inside = free_in scene locals new 2 (omega arith) variables in
        let last = slice_set new to (Some word) in
        let there : register_of last to ≡ Some (word_of z) = set_here b new to (Some word) inside ∙ ap (λ (k : ℕ). Some k) (word_calculated op t m.number n.number wide) in
        let value_is : arithmetic_value op t x y ≡ Number z = ap (λ (v : Value). arithmetic_value op t v y) m.is ∙ ap (λ (v : Value). arithmetic_value op t (Number m.number) v) n.is ∙ result_is op t (wrapped t m.number) (wrapped t n.number) in
        leads_arith (fixed w) (arith_kind op) (width_of t) to left right (word_of m.number) (word_of n.number) (width_some t) (omega arith) (l ∙ ap (register_word w (here scene)) m.is) (r ∙ ap (register_word w (here scene)) n.is) inside
        (leads_taken scene locals variable sum take (Number z) (NumberType (calculated_type op t)) c 3 to last (omega arith) converts (number_sure z c) (result_typed (world_classes w) s.objects.classes op t (wrapped t m.number) (wrapped t n.number)) there
        (variables_kept w (here scene) (body_on f locals f.next) to new last (free_of scene locals 2 take.count) variables (wrote_set b new to (Some word))) (moves ∙ ap (λ (v : Value). Moves (took scene locals variable (converted_to v c)) []) value_is))

    pub calculation_does : DoesRight scene locals variable (record { right = Arithmetic op t p q; conversion = c })
    calculation_does old variables =
        let h = world_classes w in
        let e = scope scene in
        let k = calculation_typed h e op t p q c take.target take.typed in
        let first = free (block scene) 0 in
        let second = free (block scene) 1 in
        let x_typed = operand_typed h e (sight_with scene locals) take.sees p (NumberType k.left) k.has_left in
        let y_typed = operand_typed h e (sight_with scene locals) take.sees q (NumberType k.right) k.has_right in
        leads_grouped (fixed w) (operand_ops first p) (operand_ops second q) _
        (leads_operand (fixed w) w (here scene) s (body_on f locals f.next) e b p (NumberType k.left) first old take.sees scene.begins.stands.globals variables k.has_left (free_in scene locals old 0 (omega arith) variables)
        (λ mid read. let kept = variables_kept w (here scene) (body_on f locals f.next) first old mid (free_of scene locals 0 take.count) variables read.wrote in
        leads_operand (fixed w) w (here scene) s (body_on f locals f.next) e b q (NumberType k.right) second mid take.sees scene.begins.stands.globals kept k.has_right (free_in scene locals mid 1 (omega arith) kept)
        (λ new read'. let still = variables_kept w (here scene) (body_on f locals f.next) second mid new (free_of scene locals 1 take.count) kept read'.wrote in
        let l = operand_kept w (here scene) s (body_on f locals f.next) e p (NumberType k.left) first second old mid new take.sees k.has_left (free_of scene locals 1 take.count) (free_apart scene 0 1 (λ z. omega arith)) read read'.wrote in
        leads_checks (fixed w) (at_registers b new) (Reaches scene) h s.objects uses (right_used (block scene) (Arithmetic op t p q) c)
        (along_append (fixed w) (at_registers b new) (Reaches scene) h s.objects uses (Reads x ∷ []) (Reads y ∷ Overflows op t x y ∷ []) (reads e first p) (reads e second q ++ (OverflowsWords (arith_kind op) (width_of t) left right ∷ []))
        (along_reads w (sight_with scene locals) (at_registers b new) (Reaches scene) scene.world scene.begins.stands.columns uses e first p (NumberType k.left) take.sees k.has_left l)
        (along_append (fixed w) (at_registers b new) (Reaches scene) h s.objects uses (Reads y ∷ []) (Overflows op t x y ∷ []) (reads e second q) (OverflowsWords (arith_kind op) (width_of t) left right ∷ [])
        (along_reads w (sight_with scene locals) (at_registers b new) (Reaches scene) scene.world scene.begins.stands.columns uses e second q (NumberType k.right) take.sees k.has_right read'.word)
        (tested (Overflows op t x y) (OverflowsWords (arith_kind op) (width_of t) left right) (tested_calculation w (sight_with scene locals) (at_registers b new) (Reaches scene) scene.world scene.begins.stands.columns uses op t k.left k.right left right x y k.wide x_typed y_typed l read'.word) nothing)))
        (λ fine none. calculates new k.left k.right k.wide k.converts
        (set_number h s.objects.classes x k.left x_typed (unbroken (fixed w) b (Reaches scene) h s.objects uses (Reads x) UnsetUse (none UnsetUse) (inl refl)))
        (set_number h s.objects.classes y k.right y_typed (unbroken (fixed w) b (Reaches scene) h s.objects uses (Reads y) UnsetUse (none UnsetUse) (inr (inl refl))))
        l read'.word still (take.fine fine))
        (λ rule broken. refused scene rule (at_registers b new) refl (take.refused rule broken)))))

  module _ (p : TypedOperand) (c : Conversion) (take : Taking scene locals variable (record { right = Not p; conversion = c })) where
    abbrev turned : Value
    turned = value_of_operand (sight_with scene locals) p

    abbrev reading : List StatementUse
    reading = Reads turned ∷ []

    abbrev source : ℕ
    source = operand_register (free (block scene) 0) p

    negates : (new : List (Option ℕ)) (a : Scalar) → Converts (world_classes w) (NumberType TheBool) c take.target → IsNumber turned a → register_of new source ≡ register_word w (here scene) turned → (free (block scene) 1 ≡ source → ⊥) → HasVariables w (here scene) (body_on f locals f.next) new
        → move_in w s ≡ Moves (took scene locals variable (converted_to (negated turned) c)) []
        → OpsLead (fixed w) (Const (free (block scene) 1) 0 ∷ Arith EqualKind word_width (free (block scene) 2) source (free (block scene) 1) ∷ (ops_of (taken_ops (block scene) variable None c (free (block scene) 3) (free (block scene) 2)) ++ (Jump (to_next scene statement.next) ∷ []))) (at_registers b new) (Reaches scene)
    negates new a converts m has apart variables moves =
        let zero_at = free (block scene) 1 in
        let to = free (block scene) 2 in
        let mid = slice_set new zero_at (Some 0) in
        let kept = variables_kept w (here scene) (body_on f locals f.next) zero_at new mid (free_of scene locals 1 take.count) variables (wrote_set b new zero_at (Some 0)) in
        let inside = free_in scene locals mid 2 (omega arith) kept in
        let word = calculated_word EqualKind word_width (number_of_word word_width (word_of m.number)) (number_of_word word_width 0) in
        let last = slice_set mid to (Some word) in
        let result_word : word ≡ word_of (if is_number_zero m.number then pos 1 else pos 0) = equal_words (word_of m.number) 0 (word_of-fits m.number) (omega arith) ∙ ap truth_word (zero_test a m.number m.range) ∙ truth_result (is_number_zero m.number) in
        let value_is : negated turned ≡ Number (if is_number_zero m.number then pos 1 else pos 0) = ap negated m.is in
        leads_const (fixed w) zero_at 0 (free_in scene locals new 1 (omega arith) variables)
        (leads_arith (fixed w) EqualKind word_width to source zero_at (word_of m.number) 0 (omega arith) (omega arith) (set_there b new zero_at source (Some 0) (λ e. apart (sym e)) ∙ has ∙ ap (register_word w (here scene)) m.is) (set_here b new zero_at (Some 0) (free_in scene locals new 1 (omega arith) variables)) inside
        (leads_taken scene locals variable (record { right = Not p; conversion = c }) take (Number (if is_number_zero m.number then pos 1 else pos 0)) (NumberType TheBool) c 3 to last (omega arith) converts (number_sure (if is_number_zero m.number then pos 1 else pos 0) c) (bit_in_range (is_number_zero m.number))
        (set_here b mid to (Some word) inside ∙ ap (λ (k : ℕ). Some k) result_word)
        (variables_kept w (here scene) (body_on f locals f.next) to mid last (free_of scene locals 2 take.count) kept (wrote_set b mid to (Some word))) (moves ∙ ap (λ (v : Value). Moves (took scene locals variable (converted_to v c)) []) value_is)))

    pub negation_does : DoesRight scene locals variable (record { right = Not p; conversion = c })
    negation_does old variables =
        let h = world_classes w in
        let e = scope scene in
        let k = negation_typed h e p c take.target take.typed in
        let first = free (block scene) 0 in
        let typed = operand_typed h e (sight_with scene locals) take.sees p (NumberType k.type) k.has in
        leads_operand (fixed w) w (here scene) s (body_on f locals f.next) e b p (NumberType k.type) first old take.sees scene.begins.stands.globals variables k.has (free_in scene locals old 0 (omega arith) variables)
        (λ new read. let kept = variables_kept w (here scene) (body_on f locals f.next) first old new (free_of scene locals 0 take.count) variables read.wrote in
        leads_checks (fixed w) (at_registers b new) (Reaches scene) h s.objects reading (reads e first p)
        (along_reads w (sight_with scene locals) (at_registers b new) (Reaches scene) scene.world scene.begins.stands.columns reading e first p (NumberType k.type) take.sees k.has read.word)
        (λ fine none. negates new k.type k.converts (set_number h s.objects.classes turned k.type typed (unbroken (fixed w) b (Reaches scene) h s.objects reading (Reads turned) UnsetUse (none UnsetUse) (inl refl))) read.word
        (λ same. operand_apart w s (body_on f locals f.next) e p (NumberType k.type) first (free (block scene) 1) take.sees k.has (free_of scene locals 1 take.count) (free_apart scene 0 1 (λ z. omega arith)) (sym same)) kept (take.fine fine))
        (λ rule broken. refused scene rule (at_registers b new) refl (take.refused rule broken)))
