use Rattle.std.proofs.Common.{rules, refl, arith, sym, ap, subst, length, Bool, false, List, ◌≡◌, ◌∷◌, ◌++◌, [], ◌∙◌}
use Rattle.cxx_grammar.specs.declared.sort.Sort.TheVariants.{End}
use Rattle.cxx_grammar.specs.Table.{ItemsEnd}
use Rattle.cxx_grammar.specs.invariants.Run.{run}
use Rattle.cxx_grammar.proofs.Steps.{takes}
use Rattle.cxx_syntax.specs.Sources as sources
use Rattle.cxx_record_parser.specs.invariants.Readers.{outside}
use Rattle.cxx_record_parser.proofs.Series as series
use Rattle.std.proofs.Common.{is_some}
use Rattle.cxx_grammar.specs.declared.sort.Lexeme.{Lexeme}
use Rattle.cxx_record_parser.specs.invariants.Readers.{main_after}
use Rattle.cxx_decl_parser.proofs.Others.{same_error_to}
use Rattle.cxx_decl_parser.proofs.source.items.Goals as goal

pub loop-source-init : goal.loop-source-init
loop-source-init c = record {
  shorter = omega arith;
  reads = ([], (λ is r h. h), c.empty_source-source.ensures.items);
  follows = λ k. rw c.empty_source-source.ensures.main refl;
}

pub returns-then-is_same-clause-reads : goal.returns-then-is_same-clause-reads
returns-then-is_same-clause-reads c = sources.a_source (series.all_items _ _ _ _ c.loop-source.invariant.reads.1) (record { front = c.in_ok-first.ensures.ok; sort = search rules }) c.loop-source.invariant.reads.2

pub returns-then-is_same-clause-follows : goal.returns-then-is_same-clause-follows
returns-then-is_same-clause-follows c = λ k. c.loop-source.invariant.follows k ∙ takes _ ItemsEnd End [] _ _ _ k c.in_ok-first.ensures.ok (search rules) refl refl

pub returns-in_err-read-clause-follows : goal.returns-in_err-read-clause-follows
returns-in_err-read-clause-follows c = let e : c.is_some.result ≡ is_some c.loop-source.source.main = search rules in same_error_to (λ x. x.1.now) (outside false) (outside c.is_some.result) (λ x. outside (is_some x.0.main)) (ItemsEnd ∷ []) (ItemsEnd ∷ []) [] c.args.rest.now (c.in_ok-first.first ∷ c.in_ok-first.after.now) _ c.in_err-read.field-0.0 (search rules) (λ k. c.loop-source.invariant.follows k ∙ (ap (λ (ts : List Lexeme). run ts (outside (is_some c.loop-source.source.main)) (ItemsEnd ∷ k)) c.in_ok-first.ensures.ok ∙ ap (λ (b : Bool). run (c.in_ok-first.first ∷ c.in_ok-first.after.now) (outside b) (ItemsEnd ∷ k)) (sym e))) c.in_err-read.ensures.follows

pub loop-source-preserved : goal.loop-source-preserved
loop-source-preserved c = let e : c.is_some.result ≡ is_some c.loop-source.source.main = search rules in record {
  shorter = omega (arith, c.loop-source.invariant.shorter, ap length c.in_ok-first.ensures.ok, c.in_ok-read.ensures.shorter);
  reads = (c.loop-source.invariant.reads.0 ++ c.in_ok-read.read ∷ [], series.next_item _ _ _ _ _ _ c.loop-source.invariant.reads.1 (rw c.in_ok-first.ensures.ok c.in_ok-read.ensures.reads), c.in_ok-add.ensures.items c.loop-source.invariant.reads.0 c.loop-source.invariant.reads.2);
  follows = λ k. c.loop-source.invariant.follows k ∙ (rw (c.in_ok-first.ensures.ok, c.in_ok-add.ensures.main) (subst (λ (b : Bool). run (c.in_ok-first.first ∷ c.in_ok-first.after.now) (outside b) (ItemsEnd ∷ k) ≡ run c.in_ok-read.more.now (outside (main_after b c.in_ok-read.read)) (ItemsEnd ∷ k)) e (c.in_ok-read.ensures.follows k)));
}

pub item-requires-clause-few : goal.item-requires-clause-few
item-requires-clause-few c = omega (arith, c.loop-source.invariant.shorter, ap length c.in_ok-first.ensures.ok, c.requires)
