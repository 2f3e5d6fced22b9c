use Rattle.std.proofs.Common.{rules, refl, arith, sym, ap, length, append_assoc, ◌∷◌, ◌++◌, [], ◌∙◌}
use Rattle.cxx_grammar.specs.declared.sort.Sort.TheVariants.{This, Arrow, Star, Assign, Semicolon, Delete, Return, Print, Dump, OpenParen, CloseParen}
use Rattle.cxx_grammar.specs.Table.{Only, StatementsEnd, AfterName, AName, Member, Written, APointer, ResultEnd, PrintEnd, InitEnd, scalar_rest}
use Rattle.cxx_grammar.specs.invariants.Run.{run}
use Rattle.cxx_grammar.proofs.Tails.{name_statement, scalar_statement}
use Rattle.cxx_grammar.proofs.Steps.{then_same, takes}
use Rattle.cxx_syntax.specs.Statements.{a_body, an_if, an_if_else, a_while}
use Rattle.cxx_syntax.specs.declared.tree.BodyTree.{roll-BodyTree}
use Rattle.cxx_syntax.specs.declared.tree.StatementKind.TheViews.{the_lemmas}
use Rattle.cxx_body_parser.proofs.Lists.{next_statement, all_statements}
use Rattle.cxx_body_parser.proofs.body.+parser.Goals as goal

pub block-returns-clause-reads : goal.block-returns-clause-reads
block-returns-clause-reads t c = a_body {b = roll-BodyTree (record { statements = c.in_ok-statements.statements; line = c.in_ok-brace.brace.line; close_line = c.in_ok-statements.close.line })} (record { front = c.in_ok-brace.ensures.ok; sort = search rules }) c.in_ok-statements.ensures.reads (record { front = refl; sort = c.in_ok-statements.ensures.close }) (search (rules, the_lemmas)) (search (rules, the_lemmas)) (search (rules, the_lemmas))

pub if_of-returns-then-is_same-clause-reads : goal.if_of-returns-then-is_same-clause-reads
if_of-returns-then-is_same-clause-reads t c = an_if_else (record { front = refl; sort = c.requires }) c.in_ok-test.ensures.reads.open_paren c.in_ok-test.ensures.reads.test c.in_ok-test.ensures.reads.close_paren c.in_ok-then.ensures.reads (record { front = c.in_ok-word.ensures.ok; sort = search rules }) c.in_ok-other.ensures.reads c.statement_at.ensures

pub if_of-returns-clause-reads : goal.if_of-returns-clause-reads
if_of-returns-clause-reads t c = an_if (record { front = refl; sort = c.requires }) c.in_ok-test.ensures.reads.open_paren c.in_ok-test.ensures.reads.test c.in_ok-test.ensures.reads.close_paren c.in_ok-then.ensures.reads c.statement_at-2.ensures

pub while_of-returns-clause-reads : goal.while_of-returns-clause-reads
while_of-returns-clause-reads t c = a_while (record { front = refl; sort = c.requires }) c.in_ok-test.ensures.reads.open_paren c.in_ok-test.ensures.reads.test c.in_ok-test.ensures.reads.close_paren c.in_ok-body.ensures.reads c.statement_at.ensures

pub statements-returns-then-is_same-clause-reads : goal.statements-returns-then-is_same-clause-reads
statements-returns-then-is_same-clause-reads t c = rw (← c.in_ok-first.ensures.ok) (all_statements _ _ _ _ c.loop-items.invariant.reads)

pub statements-loop-items-preserved : goal.statements-loop-items-preserved
statements-loop-items-preserved t c = record {
  shorter = omega (arith, ap length c.in_ok-first.ensures.ok, c.in_ok-read.ensures.shorter);
  reads = next_statement _ _ _ _ _ _ _ c.loop-items.invariant.reads (rw c.in_ok-first.ensures.ok c.in_ok-read.ensures.reads) c.in_ok-push.ensures.items;
  follows = λ m k. c.loop-items.invariant.follows m k ∙ (rw c.in_ok-first.ensures.ok (c.in_ok-read.ensures.follows m k));
}

pub statement-returns-in-This-clause-follows : goal.statement-returns-in-This-clause-follows
statement-returns-in-This-clause-follows t c = λ m. then_same (λ x. x.1.now) (record { blocks = c.args.depth; main = m }) (record { blocks = c.args.depth; main = m }) (StatementsEnd ∷ []) (Only Arrow ∷ AName ∷ Member Written ∷ []) (StatementsEnd ∷ []) (c.args.first ∷ c.args.rest.now) c.args.rest.now _ (λ k. takes _ StatementsEnd This (Only Arrow ∷ AName ∷ Member Written ∷ StatementsEnd ∷ []) c.args.first c.args.rest.now (record { blocks = c.args.depth; main = m }) k refl (search rules) refl refl) (c.this_statement.ensures.follows (record { blocks = c.args.depth; main = m }))

pub statement-returns-in-Star-clause-follows : goal.statement-returns-in-Star-clause-follows
statement-returns-in-Star-clause-follows t c = λ m. then_same (λ x. x.1.now) (record { blocks = c.args.depth; main = m }) (record { blocks = c.args.depth; main = m }) (StatementsEnd ∷ []) (APointer ∷ Only Assign ∷ Only Star ∷ APointer ∷ Only Semicolon ∷ []) (StatementsEnd ∷ []) (c.args.first ∷ c.args.rest.now) c.args.rest.now _ (λ k. takes _ StatementsEnd Star (APointer ∷ Only Assign ∷ Only Star ∷ APointer ∷ Only Semicolon ∷ StatementsEnd ∷ []) c.args.first c.args.rest.now (record { blocks = c.args.depth; main = m }) k refl (search rules) refl refl) (c.copy.ensures.follows (record { blocks = c.args.depth; main = m }))

pub statement-returns-in-Delete-clause-follows : goal.statement-returns-in-Delete-clause-follows
statement-returns-in-Delete-clause-follows t c = λ m. then_same (λ x. x.1.now) (record { blocks = c.args.depth; main = m }) (record { blocks = c.args.depth; main = m }) (StatementsEnd ∷ []) (APointer ∷ Only Semicolon ∷ []) (StatementsEnd ∷ []) (c.args.first ∷ c.args.rest.now) c.args.rest.now _ (λ k. takes _ StatementsEnd Delete (APointer ∷ Only Semicolon ∷ StatementsEnd ∷ []) c.args.first c.args.rest.now (record { blocks = c.args.depth; main = m }) k refl (search rules) refl refl) (c.delete.ensures.follows (record { blocks = c.args.depth; main = m }))

pub statement-returns-in-Return-clause-follows : goal.statement-returns-in-Return-clause-follows
statement-returns-in-Return-clause-follows t c = λ m. then_same (λ x. x.1.now) (record { blocks = c.args.depth; main = m }) (record { blocks = c.args.depth; main = m }) (StatementsEnd ∷ []) (ResultEnd ∷ []) (StatementsEnd ∷ []) (c.args.first ∷ c.args.rest.now) c.args.rest.now _ (λ k. takes _ StatementsEnd Return (ResultEnd ∷ StatementsEnd ∷ []) c.args.first c.args.rest.now (record { blocks = c.args.depth; main = m }) k refl (search rules) refl refl) (c.return_statement.ensures.follows (record { blocks = c.args.depth; main = m }))

pub statement-returns-in-Print-clause-follows : goal.statement-returns-in-Print-clause-follows
statement-returns-in-Print-clause-follows t c = λ m. then_same (λ x. x.1.now) (record { blocks = c.args.depth; main = m }) (record { blocks = c.args.depth; main = m }) (StatementsEnd ∷ []) (Only OpenParen ∷ PrintEnd ∷ []) (StatementsEnd ∷ []) (c.args.first ∷ c.args.rest.now) c.args.rest.now _ (λ k. takes _ StatementsEnd Print (Only OpenParen ∷ PrintEnd ∷ StatementsEnd ∷ []) c.args.first c.args.rest.now (record { blocks = c.args.depth; main = m }) k refl (search rules) refl refl) (c.print_statement.ensures.follows (record { blocks = c.args.depth; main = m }))

pub statement-returns-in-Dump-clause-follows : goal.statement-returns-in-Dump-clause-follows
statement-returns-in-Dump-clause-follows t c = λ m. then_same (λ x. x.1.now) (record { blocks = c.args.depth; main = m }) (record { blocks = c.args.depth; main = m }) (StatementsEnd ∷ []) (Only OpenParen ∷ APointer ∷ Only CloseParen ∷ Only Semicolon ∷ []) (StatementsEnd ∷ []) (c.args.first ∷ c.args.rest.now) c.args.rest.now _ (λ k. takes _ StatementsEnd Dump (Only OpenParen ∷ APointer ∷ Only CloseParen ∷ Only Semicolon ∷ StatementsEnd ∷ []) c.args.first c.args.rest.now (record { blocks = c.args.depth; main = m }) k refl (search rules) refl refl) (c.dump.ensures.follows (record { blocks = c.args.depth; main = m }))

pub statement-returns-in-Name-clause-follows : goal.statement-returns-in-Name-clause-follows
statement-returns-in-Name-clause-follows t c = λ m. then_same (λ x. x.1.now) (record { blocks = c.args.depth; main = m }) (record { blocks = c.args.depth; main = m }) (StatementsEnd ∷ []) (AfterName ∷ []) (StatementsEnd ∷ []) (c.args.first ∷ c.args.rest.now) c.args.rest.now _ (λ k. name_statement c.args.first c.args.rest.now (record { blocks = c.args.depth; main = m }) k (search rules)) (c.name_statement.ensures.follows (record { blocks = c.args.depth; main = m }))

pub statement-returns-in-Boolean-clause-follows : goal.statement-returns-in-Boolean-clause-follows
statement-returns-in-Boolean-clause-follows t c = λ m. then_same (λ x. x.1.now) (record { blocks = c.args.depth; main = m }) (record { blocks = c.args.depth; main = m }) (StatementsEnd ∷ []) (scalar_rest c.args.first.sort ++ (InitEnd ∷ [])) (StatementsEnd ∷ []) (c.args.first ∷ c.args.rest.now) c.args.rest.now _ (λ k. scalar_statement c.args.first c.args.rest.now (record { blocks = c.args.depth; main = m }) k (search rules) ∙ ap (run c.args.rest.now (record { blocks = c.args.depth; main = m })) (sym (append_assoc (scalar_rest c.args.first.sort) (InitEnd ∷ []) (StatementsEnd ∷ k)))) (c.scalar_declaration.ensures.follows (record { blocks = c.args.depth; main = m }))
