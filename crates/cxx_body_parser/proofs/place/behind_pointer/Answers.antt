use Rattle.std.proofs.Common.{rules, refl, sym, ap, Some, ◌∷◌, [], ◌∙◌}
use Rattle.cxx_grammar.specs.Table.{AName, Member, Named}
use Rattle.cxx_body_parser.specs.invariants.Through.{tasks_after}
use Rattle.cxx_grammar.proofs.Tails.{no_call}
use Rattle.cxx_grammar.proofs.Steps.{same_error_by}
use Rattle.cxx_syntax.specs.Operands.{a_call, a_qualified_call, a_place}
use Rattle.cxx_body_parser.proofs.place.behind_pointer.Goals as goal

pub returns-then-is_same-clause-reads : goal.returns-then-is_same-clause-reads
returns-then-is_same-clause-reads c = λ ts arrow i. a_call (c.in_ok-pointer.ensures.ok ts) i c.in_ok-word.ensures.reads (record { front = c.in_ok-sign.ensures.ok; sort = search rules }) c.in_ok-arguments.ensures.reads (record { front = refl; sort = c.in_ok-arguments.ensures.close }) refl c.in_ok-name.ensures.ok

pub returns-then-is_same-2-clause-reads : goal.returns-then-is_same-2-clause-reads
returns-then-is_same-2-clause-reads c = λ ts arrow i. a_qualified_call (c.in_ok-pointer.ensures.ok ts) i c.in_ok-word.ensures.reads (record { front = c.in_ok-sign.ensures.ok; sort = search rules }) c.in_ok-member.ensures.reads c.in_ok-_open.ensures.reads c.in_ok-values.ensures.reads (record { front = refl; sort = c.in_ok-values.ensures.close }) (ap Some c.in_ok-class.ensures.ok) c.in_ok-callee.ensures.ok

pub returns-in_err-parts-clause-follows : goal.returns-in_err-parts-clause-follows
returns-in_err-parts-clause-follows c = λ s u. same_error_by (λ x. x.1.now) s (AName ∷ Member u ∷ []) (Named u ∷ []) (λ x. tasks_after u x.0) c.args.rest.now c.in_ok-word.rest.now _ c.in_err-parts.field-0.0 (search rules) (λ k. c.in_ok-word.ensures.follows s (Member u ∷ k) ∙ no_call _ u _ _ s k c.in_ok-sign.ensures.ok (sym c.is_same.ensures.same ∙ c.if-is_same.false) (sym c.is_same-2.ensures.same ∙ c.if-is_same-2.false)) (c.in_err-parts.ensures.follows s u)

pub returns-clause-reads : goal.returns-clause-reads
returns-clause-reads c = λ ts arrow i. a_place (c.in_ok-pointer.ensures.ok ts) i (c.in_ok-parts.ensures.reads _ c.in_ok-word.ensures.reads)
