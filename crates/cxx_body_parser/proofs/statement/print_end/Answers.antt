use Rattle.std.proofs.Common.{rules, refl, sym, ◌∷◌, [], ◌∙◌}
use Rattle.cxx_grammar.specs.declared.sort.Sort.TheVariants.{OpenParen, CloseParen, Star, Less, Greater, Void, Semicolon, Typeid, DynamicCast}
use Rattle.cxx_grammar.specs.Table.{Only, PrintEnd, APointer, AnOperand}
use Rattle.cxx_grammar.proofs.Tails.{print_operand}
use Rattle.cxx_grammar.proofs.Steps.{same_answer, takes}
use Rattle.cxx_body_parser.proofs.statement.print_end.Goals as goal

pub returns-then-is_same-clause-reads : goal.returns-then-is_same-clause-reads
returns-then-is_same-clause-reads c = rw c.in_ok-word.ensures.ok c.print_type.ensures.reads

pub returns-then-is_same-clause-follows : goal.returns-then-is_same-clause-follows
returns-then-is_same-clause-follows c = λ s. same_answer (λ x. x.1.now) s s (PrintEnd ∷ []) (Only OpenParen ∷ Only Star ∷ APointer ∷ Only CloseParen ∷ Only CloseParen ∷ Only Semicolon ∷ []) [] c.args.rest.now c.in_ok-word.after.now _ (λ k. takes _ PrintEnd Typeid (Only OpenParen ∷ Only Star ∷ APointer ∷ Only CloseParen ∷ Only CloseParen ∷ Only Semicolon ∷ []) _ _ s k c.in_ok-word.ensures.ok (search rules) refl refl) (c.print_type.ensures.follows s)

pub returns-then-is_same-2-clause-reads : goal.returns-then-is_same-2-clause-reads
returns-then-is_same-2-clause-reads c = rw c.in_ok-word.ensures.ok c.print_view.ensures.reads

pub returns-then-is_same-2-clause-follows : goal.returns-then-is_same-2-clause-follows
returns-then-is_same-2-clause-follows c = λ s. same_answer (λ x. x.1.now) s s (PrintEnd ∷ []) (Only Less ∷ Only Void ∷ Only Star ∷ Only Greater ∷ Only OpenParen ∷ APointer ∷ Only CloseParen ∷ Only CloseParen ∷ Only Semicolon ∷ []) [] c.args.rest.now c.in_ok-word.after.now _ (λ k. takes _ PrintEnd DynamicCast (Only Less ∷ Only Void ∷ Only Star ∷ Only Greater ∷ Only OpenParen ∷ APointer ∷ Only CloseParen ∷ Only CloseParen ∷ Only Semicolon ∷ []) _ _ s k c.in_ok-word.ensures.ok (search rules) refl refl) (c.print_view.ensures.follows s)

pub returns-clause-follows : goal.returns-clause-follows
returns-clause-follows c = λ s. same_answer (λ x. x.1.now) s s (PrintEnd ∷ []) (AnOperand ∷ Only CloseParen ∷ Only Semicolon ∷ []) [] c.args.rest.now c.args.rest.now _ (λ k. print_operand _ _ _ s k c.in_ok-word.ensures.ok (sym c.is_same.ensures.same ∙ c.if-is_same.false) (sym c.is_same-2.ensures.same ∙ c.if-is_same-2.false)) (c.print_operand.ensures.follows s)
