use Rattle.std.proofs.Common.{rules, refl, arith, ap, length, ◌∷◌, [], ◌∙◌}
use Rattle.cxx_grammar.specs.declared.sort.Sort.TheVariants.{Comma}
use Rattle.cxx_grammar.specs.Table.{ABase, BasesEnd}
use Rattle.cxx_grammar.proofs.Steps.{takes}
use Rattle.cxx_record_parser.proofs.Turns as turns
use Rattle.cxx_record_parser.proofs.Series as series
use Rattle.cxx_record_parser.proofs.base.bases.Goals as goal

pub loop-items-init : goal.loop-items-init
loop-items-init c = record {
  shorter = omega (arith, c.in_ok-first.ensures.shorter);
  reads = series.first_base _ _ _ _ _ _ _ (rw c.new-items.ensures at c.in_ok-push.ensures.ok) c.requires c.in_ok-first.ensures.reads;
  follows = λ s k. c.in_ok-first.ensures.follows s (BasesEnd ∷ k);
}

pub returns-then-not-is_same-clause-reads : goal.returns-then-not-is_same-clause-reads
returns-then-not-is_same-clause-reads c = series.all_bases _ _ _ _ _ _ c.loop-items.invariant.reads

pub returns-then-not-is_same-clause-follows : goal.returns-then-not-is_same-clause-follows
returns-then-not-is_same-clause-follows c = λ s k. c.loop-items.invariant.follows s k ∙ turns.bases_end _ _ _ s k c.in_ok-sign.ensures.ok (search rules)

pub loop-items-preserved : goal.loop-items-preserved
loop-items-preserved c = record {
  shorter = omega (arith, ap length c.in_ok-sign.ensures.ok, c.in_ok-item.ensures.shorter);
  reads = series.next_base _ _ _ _ _ _ _ _ _ _ _ c.in_ok-push-2.ensures.ok c.loop-items.invariant.reads (record { front = c.in_ok-sign.ensures.ok; sort = search rules }) c.in_ok-item.ensures.reads;
  follows = λ s k. c.loop-items.invariant.follows s k ∙ (takes _ BasesEnd Comma (ABase ∷ BasesEnd ∷ []) _ _ s k c.in_ok-sign.ensures.ok (search rules) refl refl ∙ c.in_ok-item.ensures.follows s (BasesEnd ∷ k));
}
