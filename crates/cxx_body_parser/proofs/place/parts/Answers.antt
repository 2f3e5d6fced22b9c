use Rattle.std.proofs.Common.{rules, refl, arith, ap, length, ◌∷◌, [], ◌∙◌}
use Rattle.cxx_grammar.specs.declared.sort.Sort.TheVariants.{Dot}
use Rattle.cxx_grammar.specs.Table.{Tail, Named, AName}
use Rattle.cxx_grammar.proofs.Steps.{takes}
use Rattle.cxx_body_parser.proofs.Lists.{first_part, next_part, all_parts}
use Rattle.cxx_body_parser.proofs.place.parts.Goals as goal

pub loop-items-init : goal.loop-items-init
loop-items-init c = record {
  shorter = omega (arith, c.in_ok-first.ensures.shorter);
  reads = first_part _ _ _ _ _ _ (rw c.new-items.ensures at c.in_ok-push.ensures.ok) c.in_ok-first.ensures.reads;
  follows = c.in_ok-first.ensures.follows;
}

pub returns-then-not-is_same-clause-reads : goal.returns-then-not-is_same-clause-reads
returns-then-not-is_same-clause-reads c = all_parts _ _ _ _ _ c.loop-items.invariant.reads

pub loop-items-preserved : goal.loop-items-preserved
loop-items-preserved c = record {
  shorter = omega (arith, ap length c.in_ok-dot.ensures.ok, ap length c.in_ok-name.ensures.reads.front, c.in_ok-item.ensures.shorter);
  reads = next_part _ _ _ _ _ _ _ _ _ _ _ _ c.in_ok-push-2.ensures.ok c.loop-items.invariant.reads (record { front = c.in_ok-dot.ensures.ok; sort = search rules }) c.in_ok-name.ensures.reads c.in_ok-item.ensures.reads;
  follows = λ s u k. c.loop-items.invariant.follows s u k ∙ (takes _ (Tail u) Dot (AName ∷ Named u ∷ []) _ _ s k c.in_ok-dot.ensures.ok (search rules) refl refl ∙ (c.in_ok-name.ensures.follows s (Named u ∷ k) ∙ c.in_ok-item.ensures.follows s u k));
}
