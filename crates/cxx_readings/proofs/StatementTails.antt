-- What holds of a list and of its tails holds behind a body.
use Rattle.std.proofs.Common.{ℕ, Option, List}
use Rattle.cxx_grammar.specs.declared.sort.Lexeme.{Lexeme}
use Rattle.cxx_hierarchy.specs.declared.records.Scalar.{Scalar}
use Rattle.cxx_hierarchy.specs.declared.records.ValueType.{ValueType}
use Rattle.cxx_syntax.specs.declared.tree.Operand.{Operand}
use Rattle.cxx_syntax.specs.declared.tree.Right.{Right}
use Rattle.cxx_syntax.specs.declared.tree.Statement.{Statement}
use Rattle.cxx_syntax.specs.declared.tree.BodyTree.{BodyTree}
use Rattle.cxx_syntax.specs.Statements.{ScalarReads, a_bool, a_char, a_signed_char, an_unsigned_char, a_short, an_unsigned_short, an_int, an_unsigned_int, an_unsigned, a_long, an_unsigned_long, a_long_long, an_unsigned_long_long, ValueReads, a_scalar, a_class_pointer, InitReads, no_init, an_init, ResultReads, no_result, a_result, BodyReads, a_body, StatementsRead, no_statement, one_statement, StatementReads, a_declaration, an_assignment, a_write, a_copy, a_call_statement, a_delete, an_if, an_if_else, a_while, a_return, a_print, a_print_type, a_print_view, a_dump}
use Rattle.cxx_readings.proofs.RightTails.{Falls, call_tail, is_tail, name_tail, operand_tail, place_tail, pointer_tail, right_tail}

pub scalar_tail : {P : List Lexeme → Type 0} {x : Scalar} {ts rest : List Lexeme} → Falls P → ScalarReads x ts rest → P ts → P rest
scalar_tail falls (a_bool a) p = is_tail falls a p
scalar_tail falls (a_char a) p = is_tail falls a p
scalar_tail falls (a_signed_char a b) p = is_tail falls b (is_tail falls a p)
scalar_tail falls (an_unsigned_char a b) p = is_tail falls b (is_tail falls a p)
scalar_tail falls (a_short a) p = is_tail falls a p
scalar_tail falls (an_unsigned_short a b) p = is_tail falls b (is_tail falls a p)
scalar_tail falls (an_int a) p = is_tail falls a p
scalar_tail falls (an_unsigned_int a b) p = is_tail falls b (is_tail falls a p)
scalar_tail falls (an_unsigned a) p = is_tail falls a p
scalar_tail falls (a_long a) p = is_tail falls a p
scalar_tail falls (an_unsigned_long a b) p = is_tail falls b (is_tail falls a p)
scalar_tail falls (a_long_long a b) p = is_tail falls b (is_tail falls a p)
scalar_tail falls (an_unsigned_long_long a b c) p = is_tail falls c (is_tail falls b (is_tail falls a p))

pub value_tail : {P : List Lexeme → Type 0} {text : List ℕ} {x : ValueType (List ℕ)} {ts rest : List Lexeme} → Falls P → ValueReads text x ts rest → P ts → P rest
value_tail falls (a_scalar a) p = scalar_tail falls a p
value_tail falls (a_class_pointer a b _) p = is_tail falls b (name_tail falls a p)

pub start_tail : {P : List Lexeme → Type 0} {text : List ℕ} {x : Option Right} {ts rest : List Lexeme} → Falls P → InitReads text x ts rest → P ts → P rest
start_tail _ no_init p = p
start_tail falls (an_init a b) p = right_tail falls b (is_tail falls a p)

pub result_tail : {P : List Lexeme → Type 0} {text : List ℕ} {x : Option Operand} {ts rest : List Lexeme} → Falls P → ResultReads text x ts rest → P ts → P rest
result_tail _ no_result p = p
result_tail falls (a_result a) p = operand_tail falls a p

mutual
  pub body_tail : {P : List Lexeme → Type 0} {text : List ℕ} {x : BodyTree} {ts rest : List Lexeme} → Falls P → BodyReads text x ts rest → P ts → P rest
  body_tail falls (a_body a b c _ _ _) p = is_tail falls c (statements_tail falls b (is_tail falls a p))

  pub statements_tail : {P : List Lexeme → Type 0} {text : List ℕ} {x : List Statement} {ts rest : List Lexeme} → Falls P → StatementsRead text x ts rest → P ts → P rest
  statements_tail _ no_statement p = p
  statements_tail falls (one_statement a b) p = statements_tail falls b (statement_tail falls a p)

  pub statement_tail : {P : List Lexeme → Type 0} {text : List ℕ} {x : Statement} {ts rest : List Lexeme} → Falls P → StatementReads text x ts rest → P ts → P rest
  statement_tail falls (a_declaration _ b c d e _ _ _) p = is_tail falls e (start_tail falls d (name_tail falls c (value_tail falls b p)))
  statement_tail falls (an_assignment a b c d _ _) p = is_tail falls d (right_tail falls c (is_tail falls b (name_tail falls a p)))
  statement_tail falls (a_write _ b c d e _) p = is_tail falls e (operand_tail falls d (is_tail falls c (place_tail falls b p)))
  statement_tail falls (a_copy a b c d e f _) p = is_tail falls f (pointer_tail falls e (is_tail falls d (is_tail falls c (pointer_tail falls b (is_tail falls a p)))))
  statement_tail falls (a_call_statement _ b c _) p = is_tail falls c (call_tail falls b p)
  statement_tail falls (a_delete a b c _) p = is_tail falls c (pointer_tail falls b (is_tail falls a p))
  statement_tail falls (an_if a b c d e _) p = body_tail falls e (is_tail falls d (operand_tail falls c (is_tail falls b (is_tail falls a p))))
  statement_tail falls (an_if_else a b c d e f g _) p = body_tail falls g (is_tail falls f (body_tail falls e (is_tail falls d (operand_tail falls c (is_tail falls b (is_tail falls a p))))))
  statement_tail falls (a_while a b c d e _) p = body_tail falls e (is_tail falls d (operand_tail falls c (is_tail falls b (is_tail falls a p))))
  statement_tail falls (a_return a b c _) p = is_tail falls c (result_tail falls b (is_tail falls a p))
  statement_tail falls (a_print a b c d e _) p = is_tail falls e (is_tail falls d (operand_tail falls c (is_tail falls b (is_tail falls a p))))
  statement_tail falls (a_print_type a b c d e f g h i _) p = is_tail falls i (is_tail falls h (is_tail falls g (pointer_tail falls f (is_tail falls e (is_tail falls d (is_tail falls c (is_tail falls b (is_tail falls a p))))))))
  statement_tail falls (a_print_view a b c d e f g h i j k l _) p = is_tail falls l (is_tail falls k (is_tail falls j (pointer_tail falls i (is_tail falls h (is_tail falls g (is_tail falls f (is_tail falls e (is_tail falls d (is_tail falls c (is_tail falls b (is_tail falls a p)))))))))))
  statement_tail falls (a_dump a b c d e _) p = is_tail falls e (is_tail falls d (pointer_tail falls c (is_tail falls b (is_tail falls a p))))
