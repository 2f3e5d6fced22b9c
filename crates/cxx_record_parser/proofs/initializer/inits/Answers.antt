use Rattle.std.proofs.Common.{rules, refl, arith, ap, length, ◌∷◌, [], ◌∙◌}
use Rattle.cxx_grammar.specs.declared.sort.Sort.TheVariants.{Colon, Comma}
use Rattle.cxx_grammar.specs.Table.{AnInit, ConstructorEnd, InitsEnd}
use Rattle.cxx_grammar.proofs.Steps.{takes}
use Rattle.cxx_syntax.specs.Parts as parts
use Rattle.cxx_record_parser.proofs.Turns as turns
use Rattle.cxx_record_parser.proofs.Series as series
use Rattle.cxx_record_parser.proofs.initializer.inits.Goals as goal

pub returns-then-not-is_same-clause-reads : goal.returns-then-not-is_same-clause-reads
returns-then-not-is_same-clause-reads c = rw c.new-items.ensures parts.no_inits

pub loop-items-init : goal.loop-items-init
loop-items-init c = record {
  shorter = omega (arith, ap length c.in_ok-sign.ensures.ok, c.in_ok-item.ensures.shorter);
  reads = series.first_init _ _ _ _ _ _ _ (rw c.new-items.ensures at c.in_ok-push.ensures.ok) (record { front = c.in_ok-sign.ensures.ok; sort = search rules }) c.in_ok-item.ensures.reads;
  follows = λ s k. takes _ ConstructorEnd Colon (AnInit ∷ InitsEnd ∷ []) _ _ s k c.in_ok-sign.ensures.ok (search rules) refl refl ∙ c.in_ok-item.ensures.follows s (InitsEnd ∷ k);
}

pub returns-then-not-is_same-2-clause-reads : goal.returns-then-not-is_same-2-clause-reads
returns-then-not-is_same-2-clause-reads c = series.all_inits _ _ _ _ c.loop-items.invariant.reads

pub returns-then-not-is_same-2-clause-follows : goal.returns-then-not-is_same-2-clause-follows
returns-then-not-is_same-2-clause-follows c = λ s k. c.loop-items.invariant.follows s k ∙ turns.inits_end _ _ _ s k c.in_ok-sign-2.ensures.ok (search rules)

pub loop-items-preserved : goal.loop-items-preserved
loop-items-preserved c = record {
  shorter = omega (arith, ap length c.in_ok-sign-2.ensures.ok, c.in_ok-item-2.ensures.shorter);
  reads = series.next_init _ _ _ _ _ _ _ _ _ c.in_ok-push-2.ensures.ok c.loop-items.invariant.reads (record { front = c.in_ok-sign-2.ensures.ok; sort = search rules }) c.in_ok-item-2.ensures.reads;
  follows = λ s k. c.loop-items.invariant.follows s k ∙ (takes _ InitsEnd Comma (AnInit ∷ InitsEnd ∷ []) _ _ s k c.in_ok-sign-2.ensures.ok (search rules) refl refl ∙ c.in_ok-item-2.ensures.follows s (InitsEnd ∷ k));
}
