use Rattle.std.proofs.Common.{rules, refl, arith, sym, ap, length, ◌∷◌, [], ◌∙◌}
use Rattle.cxx_grammar.specs.declared.sort.Sort.TheVariants.{Comma}
use Rattle.cxx_grammar.specs.Table.{AParam, ParamsEnd, MoreParamsEnd}
use Rattle.cxx_grammar.proofs.Steps.{same_error, takes}
use Rattle.cxx_syntax.specs.Parts as parts
use Rattle.cxx_record_parser.proofs.Turns as turns
use Rattle.cxx_record_parser.proofs.Series as series
use Rattle.cxx_record_parser.proofs.value.params.Goals as goal

pub returns-then-is_same-clause-reads : goal.returns-then-is_same-clause-reads
returns-then-is_same-clause-reads c = rw (c.new-items.ensures, c.in_ok-first.ensures.ok) parts.no_params

pub returns-in_err-item-clause-follows : goal.returns-in_err-item-clause-follows
returns-in_err-item-clause-follows c = λ s. same_error (λ x. x.2.now) s s (ParamsEnd ∷ []) (AParam ∷ MoreParamsEnd ∷ []) [] c.args.rest.now c.args.rest.now _ c.in_err-item.field-0.0 (search rules) (λ k. turns.params_begin _ _ _ s k c.in_ok-first.ensures.ok (search rules)) (λ n k. c.in_err-item.ensures.follows s n (MoreParamsEnd ∷ k))

pub loop-items-init : goal.loop-items-init
loop-items-init c = record {
  shorter = omega (arith, c.in_ok-item.ensures.shorter);
  reads = series.first_param _ _ _ _ _ (rw c.new-items.ensures at c.in_ok-push.ensures.ok) c.in_ok-item.ensures.reads;
  follows = λ s k. turns.params_begin _ _ _ s k c.in_ok-first.ensures.ok (sym c.is_same.ensures.same ∙ c.if-is_same.false) ∙ c.in_ok-item.ensures.follows s (MoreParamsEnd ∷ k);
}

pub returns-then-is_same-2-clause-reads : goal.returns-then-is_same-2-clause-reads
returns-then-is_same-2-clause-reads c = rw (← c.in_ok-sign.ensures.ok) (series.all_params _ _ _ _ c.loop-items.invariant.reads)

pub loop-items-preserved : goal.loop-items-preserved
loop-items-preserved c = record {
  shorter = omega (arith, ap length c.in_ok-sign.ensures.ok, c.in_ok-item-2.ensures.shorter);
  reads = series.next_param _ _ _ _ _ _ _ _ _ c.in_ok-push-2.ensures.ok c.loop-items.invariant.reads (record { front = c.in_ok-sign.ensures.ok; sort = search rules }) c.in_ok-item-2.ensures.reads;
  follows = λ s k. c.loop-items.invariant.follows s k ∙ (takes _ MoreParamsEnd Comma (AParam ∷ MoreParamsEnd ∷ []) _ _ s k c.in_ok-sign.ensures.ok (search rules) refl refl ∙ c.in_ok-item-2.ensures.follows s (MoreParamsEnd ∷ k));
}
