-- What reads a piece of a statement leaves fewer tokens.
use Rattle.std.proofs.Common.{◌≡◌, ℕ, ◌+◌, ◌<◌, ◌≤◌, List, [], ◌∷◌, length, ap, arith, Option}
use Rattle.cxx_grammar.specs.declared.sort.Lexeme.{Lexeme}
use Rattle.cxx_hierarchy.specs.declared.records.Scalar.{Scalar}
use Rattle.cxx_hierarchy.specs.declared.records.ValueType.{ValueType}
use Rattle.cxx_syntax.specs.declared.tree.PointerText.{PointerText}
use Rattle.cxx_syntax.specs.declared.tree.Constant.{Constant}
use Rattle.cxx_syntax.specs.declared.tree.Operand.{Operand}
use Rattle.cxx_syntax.specs.declared.tree.PlacePart.{PlacePart}
use Rattle.cxx_syntax.specs.declared.tree.PlaceText.{PlaceText}
use Rattle.cxx_syntax.specs.declared.tree.CallText.{CallText}
use Rattle.cxx_syntax.specs.declared.tree.CastText.{CastText}
use Rattle.cxx_syntax.specs.declared.tree.Right.{Right}
use Rattle.cxx_syntax.specs.Operands.{PointerReads, a_name, a_this, ConstantReads, a_number, a_negative, a_true, a_false, OperandReads, name_operand, this_operand, constant_operand, IndexReads, no_index, an_index, PartReads, a_part, DotsRead, no_dot, a_dot, PartsRead, some_parts, PlaceReads, a_place, MoreRead, no_more_operands, one_more_operand, ArgumentsRead, no_arguments, some_arguments, CallReads, a_call, a_qualified_call, CastReads, a_named_cast, a_plain_cast, RightReads, an_operand, a_binary, a_not, a_place_read, an_address, a_call_read, a_new, a_cast, a_type_equal}
use Rattle.cxx_syntax.specs.Statements.{ScalarReads, a_bool, a_char, a_signed_char, an_unsigned_char, a_short, an_unsigned_short, an_int, an_unsigned_int, an_unsigned, a_long, an_unsigned_long, a_long_long, an_unsigned_long_long, ValueReads, a_scalar, a_class_pointer, InitReads, no_init, an_init, ResultReads, no_result, a_result}

pub one_less : {l : Lexeme} {ts rest : List Lexeme} → ts ≡ l ∷ rest → length rest < length ts
one_less e = omega (arith, ap length e)

pub pointer_less : {text : List ℕ} {p : PointerText} {ts rest : List Lexeme} → PointerReads text p ts rest → length rest < length ts
pointer_less (a_name n e) = one_less n.front
pointer_less (a_this t e) = one_less t.front

pub constant_less : {c : Constant} {ts rest : List Lexeme} → ConstantReads c ts rest → length rest < length ts
constant_less (a_number n e f) = one_less n.front
constant_less (a_negative m n e f) = omega (arith, one_less m.front, one_less n.front)
constant_less (a_true t e) = one_less t.front
constant_less (a_false t e) = one_less t.front

pub operand_less : {text : List ℕ} {x : Operand} {ts rest : List Lexeme} → OperandReads text x ts rest → length rest < length ts
operand_less (name_operand n e) = one_less n.front
operand_less (this_operand t e) = one_less t.front
operand_less (constant_operand c) = constant_less c

index_less : {i : Option (ℕ × ℕ)} {ts rest : List Lexeme} → IndexReads i ts rest → length rest ≤ length ts
index_less no_index = omega arith
index_less (an_index o n c e) = omega (arith, one_less o.front, one_less n.front, one_less c.front)

part_less : {text : List ℕ} {p : PlacePart} {ts rest : List Lexeme} → PartReads text p ts rest → length rest < length ts
part_less (a_part n i e) = omega (arith, one_less n.front, index_less i)

dots_less : {text : List ℕ} {ps : List PlacePart} {ts rest : List Lexeme} → DotsRead text ps ts rest → length rest ≤ length ts
dots_less no_dot = omega arith
dots_less (a_dot d p ds) = omega (arith, one_less d.front, part_less p, dots_less ds)

parts_less : {text : List ℕ} {ps : List PlacePart} {ts rest : List Lexeme} → PartsRead text ps ts rest → length rest < length ts
parts_less (some_parts p ds) = omega (arith, part_less p, dots_less ds)

pub place_less : {text : List ℕ} {x : PlaceText} {ts rest : List Lexeme} → PlaceReads text x ts rest → length rest < length ts
place_less (a_place p w ps) = omega (arith, pointer_less p, one_less w.front, parts_less ps)

more_less : {text : List ℕ} {vs : List Operand} {ts rest : List Lexeme} → MoreRead text vs ts rest → length rest ≤ length ts
more_less no_more_operands = omega arith
more_less (one_more_operand c v vs) = omega (arith, one_less c.front, operand_less v, more_less vs)

arguments_less : {text : List ℕ} {vs : List Operand} {ts rest : List Lexeme} → ArgumentsRead text vs ts rest → length rest ≤ length ts
arguments_less no_arguments = omega arith
arguments_less (some_arguments v vs) = omega (arith, operand_less v, more_less vs)

pub call_less : {text : List ℕ} {x : CallText} {ts rest : List Lexeme} → CallReads text x ts rest → length rest < length ts
call_less (a_call p w n o vs z e f) = omega (arith, pointer_less p, one_less w.front, one_less n.front, one_less o.front, arguments_less vs, one_less z.front)
call_less (a_qualified_call p w k q n o vs z e f) =
    omega (arith, pointer_less p, one_less w.front, one_less k.front, one_less q.front, one_less n.front, one_less o.front, arguments_less vs, one_less z.front)

cast_less : {text : List ℕ} {x : CastText} {ts rest : List Lexeme} → CastReads text x ts rest → length rest < length ts
cast_less (a_named_cast k l n m h o p z e) =
    omega (arith, one_less k.front, one_less l.front, one_less n.front, one_less m.front, one_less h.front, one_less o.front, pointer_less p, one_less z.front)
cast_less (a_plain_cast o n m z p e f) = omega (arith, one_less o.front, one_less n.front, one_less m.front, one_less z.front, pointer_less p)

pub right_less : {text : List ℕ} {x : Right} {ts rest : List Lexeme} → RightReads text x ts rest → length rest < length ts
right_less (an_operand v) = operand_less v
right_less (a_binary v o w) = omega (arith, operand_less v, one_less o.front, operand_less w)
right_less (a_not n v) = omega (arith, one_less n.front, operand_less v)
right_less (a_place_read p) = place_less p
right_less (an_address n p) = omega (arith, one_less n.front, place_less p)
right_less (a_call_read c) = call_less c
right_less (a_new k n e) = omega (arith, one_less k.front, one_less n.front)
right_less (a_cast c) = cast_less c
right_less (a_type_equal k o m p z q j u n y e) =
    omega (arith, one_less k.front, one_less o.front, one_less m.front, pointer_less p, one_less z.front, one_less q.front, one_less j.front, one_less u.front, one_less n.front, one_less y.front)

pub scalar_less : {t : Scalar} {ts rest : List Lexeme} → ScalarReads t ts rest → length rest < length ts
scalar_less (a_bool x) = one_less x.front
scalar_less (a_char x) = one_less x.front
scalar_less (a_signed_char x y) = omega (arith, one_less x.front, one_less y.front)
scalar_less (an_unsigned_char x y) = omega (arith, one_less x.front, one_less y.front)
scalar_less (a_short x) = one_less x.front
scalar_less (an_unsigned_short x y) = omega (arith, one_less x.front, one_less y.front)
scalar_less (an_int x) = one_less x.front
scalar_less (an_unsigned_int x y) = omega (arith, one_less x.front, one_less y.front)
scalar_less (an_unsigned x) = one_less x.front
scalar_less (a_long x) = one_less x.front
scalar_less (an_unsigned_long x y) = omega (arith, one_less x.front, one_less y.front)
scalar_less (a_long_long x y) = omega (arith, one_less x.front, one_less y.front)
scalar_less (an_unsigned_long_long x y z) = omega (arith, one_less x.front, one_less y.front, one_less z.front)

pub value_less : {text : List ℕ} {v : ValueType (List ℕ)} {ts rest : List Lexeme} → ValueReads text v ts rest → length rest < length ts
value_less (a_scalar k) = scalar_less k
value_less (a_class_pointer l m e) = omega (arith, one_less l.front, one_less m.front)

pub init_less : {text : List ℕ} {v : Option Right} {ts rest : List Lexeme} → InitReads text v ts rest → length rest ≤ length ts
init_less no_init = omega arith
init_less (an_init e v) = omega (arith, one_less e.front, right_less v)

pub result_less : {text : List ℕ} {v : Option Operand} {ts rest : List Lexeme} → ResultReads text v ts rest → length rest ≤ length ts
result_less no_result = omega arith
result_less (a_result v) = omega (arith, operand_less v)
