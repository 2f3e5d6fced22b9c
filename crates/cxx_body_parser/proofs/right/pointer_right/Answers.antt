use Rattle.std.proofs.Common.{rules, refl, sym, ◌∷◌, [], ◌∙◌}
use Rattle.cxx_grammar.specs.declared.sort.Sort.TheVariants.{Semicolon, Arrow}
use Rattle.cxx_grammar.specs.Table.{Only, AName, Member, Read, AfterOperand, AfterPointer}
use Rattle.cxx_grammar.proofs.Tails.{no_arrow}
use Rattle.cxx_grammar.proofs.Steps.{same_error, takes}
use Rattle.cxx_body_parser.proofs.Throughs.{through_right, tasks_read}
use Rattle.cxx_body_parser.proofs.right.pointer_right.Goals as goal

pub returns-in_err-read-clause-follows : goal.returns-in_err-read-clause-follows
returns-in_err-read-clause-follows c = λ s. same_error (λ x. x.1.now) s s (AfterPointer ∷ []) (AName ∷ Member Read ∷ []) (Only Semicolon ∷ []) c.args.rest.now c.in_ok-sign.after.now _ c.in_err-read.field-0.0 (search rules) (λ k. takes _ AfterPointer Arrow (AName ∷ Member Read ∷ []) _ _ s k c.in_ok-sign.ensures.ok (search rules) refl refl) (c.in_err-read.ensures.follows s Read)

pub returns-then-is_same-clause-reads : goal.returns-then-is_same-clause-reads
returns-then-is_same-clause-reads c = rw c.right_of.ensures (through_right _ _ _ _ (c.in_ok-read.ensures.reads _ _ (record { front = c.in_ok-sign.ensures.ok; sort = search rules })))

pub returns-then-is_same-clause-follows : goal.returns-then-is_same-clause-follows
returns-then-is_same-clause-follows c = λ s k. takes _ AfterPointer Arrow (AName ∷ Member Read ∷ []) _ _ s k c.in_ok-sign.ensures.ok (search rules) refl refl ∙ (rw tasks_read at (c.in_ok-read.ensures.follows s Read k))

pub returns-in_err-value-clause-follows : goal.returns-in_err-value-clause-follows
returns-in_err-value-clause-follows c = λ s. same_error (λ x. x.1.now) s s (AfterPointer ∷ []) (AfterOperand ∷ []) (Only Semicolon ∷ []) c.args.rest.now c.args.rest.now _ c.in_err-value.field-0.0 (search rules) (λ k. no_arrow _ _ _ s k c.in_ok-sign.ensures.ok (sym c.is_same.ensures.same ∙ c.if-is_same.false)) (c.in_err-value.ensures.follows s)

pub returns-clause-reads : goal.returns-clause-reads
returns-clause-reads c = c.in_ok-value.ensures.reads _ (c.in_ok-left.ensures.ok _)

pub returns-clause-follows : goal.returns-clause-follows
returns-clause-follows c = λ s k. no_arrow _ _ _ s k c.in_ok-sign.ensures.ok (sym c.is_same.ensures.same ∙ c.if-is_same.false) ∙ c.in_ok-value.ensures.follows s k
