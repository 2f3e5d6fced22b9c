use Rattle.std.proofs.Common.{rules, refl, arith, sym, ap, length, ◌∷◌, [], ◌∙◌}
use Rattle.cxx_grammar.specs.declared.sort.Sort.TheVariants.{Comma}
use Rattle.cxx_grammar.specs.Table.{ArgumentsEnd, MoreArgumentsEnd, AnOperand}
use Rattle.cxx_grammar.proofs.Tails.{arguments_begin}
use Rattle.cxx_grammar.proofs.Steps.{same_error, takes}
use Rattle.cxx_syntax.specs.Operands.{no_arguments}
use Rattle.cxx_body_parser.proofs.Lists.{first_argument, next_argument, all_arguments}
use Rattle.cxx_body_parser.proofs.place.arguments.Goals as goal

pub returns-then-is_same-clause-reads : goal.returns-then-is_same-clause-reads
returns-then-is_same-clause-reads c = rw (c.new-items.ensures, c.in_ok-first.ensures.ok) no_arguments

pub returns-in_err-item-clause-follows : goal.returns-in_err-item-clause-follows
returns-in_err-item-clause-follows c = λ s. same_error (λ x. x.2.now) s s (ArgumentsEnd ∷ []) (AnOperand ∷ MoreArgumentsEnd ∷ []) [] c.args.rest.now c.args.rest.now _ c.in_err-item.field-0.0 (search rules) (λ k. arguments_begin _ _ _ s k c.in_ok-first.ensures.ok (sym c.is_same.ensures.same ∙ c.if-is_same.false)) (λ n k. c.in_err-item.ensures.follows s n (MoreArgumentsEnd ∷ k))

pub loop-items-init : goal.loop-items-init
loop-items-init c = record {
  shorter = omega (arith, c.in_ok-item.ensures.shorter);
  reads = first_argument _ _ _ _ _ (rw c.new-items.ensures at c.in_ok-push.ensures.ok) c.in_ok-item.ensures.reads;
  follows = λ s k. arguments_begin _ _ _ s k c.in_ok-first.ensures.ok (sym c.is_same.ensures.same ∙ c.if-is_same.false) ∙ c.in_ok-item.ensures.follows s (MoreArgumentsEnd ∷ k);
}

pub returns-then-is_same-2-clause-reads : goal.returns-then-is_same-2-clause-reads
returns-then-is_same-2-clause-reads c = rw (← c.in_ok-sign.ensures.ok) (all_arguments _ _ _ _ c.loop-items.invariant.reads)

pub loop-items-preserved : goal.loop-items-preserved
loop-items-preserved c = record {
  shorter = omega (arith, ap length c.in_ok-sign.ensures.ok, c.in_ok-item-2.ensures.shorter);
  reads = next_argument _ _ _ _ _ _ _ _ _ c.in_ok-push-2.ensures.ok c.loop-items.invariant.reads (record { front = c.in_ok-sign.ensures.ok; sort = search rules }) c.in_ok-item-2.ensures.reads;
  follows = λ s k. c.loop-items.invariant.follows s k ∙ (takes _ MoreArgumentsEnd Comma (AnOperand ∷ MoreArgumentsEnd ∷ []) _ _ s k c.in_ok-sign.ensures.ok (search rules) refl refl ∙ c.in_ok-item-2.ensures.follows s (MoreArgumentsEnd ∷ k));
}
