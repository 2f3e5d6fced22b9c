-- A body has fewer statements than tokens.
use Rattle.std.proofs.Common.{◌≡◌, ℕ, ◌+◌, ◌<◌, ◌≤◌, Option, Some, None, List, [], ◌∷◌, length, map, ap, sym, ◌∙◌, subst, arith}
use Rattle.cxx_grammar.specs.declared.sort.Lexeme.{Lexeme}
use Rattle.cxx_syntax.specs.declared.tree.Operand.{Operand}
use Rattle.cxx_syntax.specs.declared.tree.Statement.{Statement}
use Rattle.cxx_syntax.specs.declared.tree.StatementKind.{StatementKind, If', None', Some'}
use Rattle.cxx_syntax.specs.declared.tree.StatementKind as kind
use Rattle.cxx_syntax.specs.declared.tree.BodyTree.{BodyTree, out-BodyTree}
use Rattle.cxx_syntax.specs.Statements.{BeginsAt, BodyReads, a_body, StatementsRead, no_statement, one_statement, StatementReads, a_declaration, an_assignment, a_write, a_copy, a_call_statement, a_delete, an_if, an_if_else, a_while, a_return, a_print, a_print_type, a_print_view, a_dump}
use Rattle.cxx_resolve.specs.Walks.{KindMeaning, Meaning, kind_meaning, statement_meaning, block_meaning, sizes}
use Rattle.cxx_resolve.proofs.Walking.{block_is, statement_is, declare_is, assign_is, write_is, copy_is, call_is, delete_is, if_is, if_else_is, while_is, return_is, print_is, print_type_is, print_view_is, dump_is}
use Rattle.cxx_resolve.proofs.Shorter.{one_less, pointer_less, operand_less, place_less, call_less, right_less, value_less, init_less, result_less}

size_of : (s : Statement) (k : StatementKind) → s.kind ≡ k → (statement_meaning s).size ≡ (kind_meaning k).size
size_of s k e = ap (λ (m : Meaning). m.size) (statement_is s) ∙ ap (λ (x : StatementKind). (kind_meaning x).size) e

sized : {k : StatementKind} {m : KindMeaning} (s : Statement) → s.kind ≡ k → kind_meaning k ≡ m → (statement_meaning s).size ≡ m.size
sized {k = k} s e is = size_of s k e ∙ ap (λ (m : KindMeaning). m.size) is

mutual
  pub body_counted : {text : List ℕ} {b : BodyTree} {ts rest : List Lexeme} → BodyReads text b ts rest → (block_meaning b).size + length rest < length ts
  body_counted {b = b} (a_body {ss = ss} o x z i l c) =
      let e : (block_meaning b).size ≡ sizes (map statement_meaning ss) = ap (λ (m : Meaning). m.size) (block_is b) ∙ ap (λ (xs : List Statement). sizes (map statement_meaning xs)) i in
      omega (arith, e, one_less o.front, one_less z.front, statements_counted x)

  statements_counted : {text : List ℕ} {ss : List Statement} {ts rest : List Lexeme} → StatementsRead text ss ts rest → sizes (map statement_meaning ss) + length rest ≤ length ts
  statements_counted no_statement = omega arith
  statements_counted (one_statement {s = s} {ss = ss} x xs) = omega (arith, statement_counted x, statements_counted xs)

  statement_counted : {text : List ℕ} {s : Statement} {ts rest : List Lexeme} → StatementReads text s ts rest → (statement_meaning s).size + length rest ≤ length ts
  statement_counted {s = s} (a_declaration {v = v} {x = x} {i = i} {at = at} f t n r z p q b) =
      omega (arith, sized s b.kind (declare_is v at x i), value_less t, one_less n.front, init_less r, one_less z.front)
  statement_counted {s = s} (an_assignment {x = x} {v = v} n e r z p b) = omega (arith, sized s b.kind (assign_is x v), one_less n.front, one_less e.front, right_less r, one_less z.front)
  statement_counted {s = s} (a_write {p = p} {v = v} f t e r z b) = omega (arith, sized s b.kind (write_is p v), place_less t, one_less e.front, operand_less r, one_less z.front)
  statement_counted {s = s} (a_copy {p = p} {q = q} m t w n u z b) = omega (arith, sized s b.kind (copy_is p q), one_less m.front, pointer_less t, one_less w.front, one_less n.front, pointer_less u, one_less z.front)
  statement_counted {s = s} (a_call_statement {x = x} f t z b) = omega (arith, sized s b.kind (call_is x), call_less t, one_less z.front)
  statement_counted {s = s} (a_delete {p = p} k t z b) = omega (arith, sized s b.kind (delete_is p), one_less k.front, pointer_less t, one_less z.front)
  statement_counted {s = s} (an_if {v = v} {t = t} k o x z y b) = omega (arith, sized s b.kind (if_is v t), one_less k.front, one_less o.front, operand_less x, one_less z.front, body_counted y)
  statement_counted {s = s} (an_if_else {v = v} {t = t} {u = u} k o x z y w y' b) =
      omega (arith, sized s b.kind (if_else_is v t u), one_less k.front, one_less o.front, operand_less x, one_less z.front, body_counted y, one_less w.front, body_counted y')
  statement_counted {s = s} (a_while {v = v} {t = t} k o x z y b) = omega (arith, sized s b.kind (while_is v t), one_less k.front, one_less o.front, operand_less x, one_less z.front, body_counted y)
  statement_counted {s = s} (a_return {v = v} k r z b) = omega (arith, sized s b.kind (return_is v), one_less k.front, result_less r, one_less z.front)
  statement_counted {s = s} (a_print {v = v} k o x z e b) = omega (arith, sized s b.kind (print_is v), one_less k.front, one_less o.front, operand_less x, one_less z.front, one_less e.front)
  statement_counted {s = s} (a_print_type {p = p} k o t u m x y z e b) =
      omega (arith, sized s b.kind (print_type_is p), one_less k.front, one_less o.front, one_less t.front, one_less u.front, one_less m.front, pointer_less x, one_less y.front, one_less z.front, one_less e.front)
  statement_counted {s = s} (a_print_view {p = p} w o t l v m q u x y z e b) =
      omega (arith, sized s b.kind (print_view_is p), one_less w.front, one_less o.front, one_less t.front, one_less l.front, one_less v.front, one_less m.front, one_less q.front, one_less u.front, pointer_less x, one_less y.front, one_less z.front, one_less e.front)
  statement_counted {s = s} (a_dump {p = p} k o x z e b) = omega (arith, sized s b.kind (dump_is p), one_less k.front, one_less o.front, pointer_less x, one_less z.front, one_less e.front)
