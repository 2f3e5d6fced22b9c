use Rattle.std.proofs.Common.{rules, sym, subst, false, Err, ◌≡◌}
use Rattle.cxx_record_parser.specs.invariants.Readers.{outside}
use Rattle.std.proofs.Common.{◌⊎◌, IfErr}
use Rattle.cxx_hierarchy.specs.declared.stop.Stop.TheVariants as stop
use Rattle.cxx_grammar.specs.Grammar.{source_form}
use Rattle.cxx_grammar.specs.Event.{Event}
use Rattle.cxx_grammar.proofs.Prefix.{source_front, source_stop}
use Rattle.cxx_record_parser.proofs.Numbers.{source_in_order}
use Rattle.cxx_decl_parser.proofs.source.whole_source.Goals as goal

pub returns-in_err-source-clause-event : goal.returns-in_err-source-clause-event
returns-in_err-source-clause-event c = let r : c.from_residual.result ≡ Err c.in_err-source.field-0.0 = search rules in subst (λ r. IfErr r (λ e. (e ≡ stop.NoMemory) ⊎ Event source_form (outside false) c.args.all.now e)) (sym r) (source_stop (outside false) c.args.all.now c.in_err-source.field-0.0 c.requires.ends c.in_err-source.ensures.follows)

pub returns-clause-reads : goal.returns-clause-reads
returns-clause-reads c = (c.in_ok-source._rest.now, c.in_ok-source.ensures.reads, source_front _ _ _ _ c.in_ok-source.ensures.follows)

pub returns-clause-in_order : goal.returns-clause-in_order
returns-clause-in_order c = source_in_order _ _ _ _ c.in_ok-source.ensures.reads
