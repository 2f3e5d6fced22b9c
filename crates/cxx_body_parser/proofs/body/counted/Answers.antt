use Rattle.std.proofs.Common.{◌≡◌, ◌⊎◌, false, rules, subst, sym, Err, IfErr}
use Rattle.cxx_hierarchy.specs.declared.stop.Stop.TheVariants as stop
use Rattle.cxx_grammar.specs.Grammar.{block_form}
use Rattle.cxx_grammar.specs.Event.{Event, DerivesPrefix}
use Rattle.cxx_grammar.proofs.Prefix.{block_front, block_stop}
use Rattle.cxx_syntax.specs.Statements.{BodyReads}
use Rattle.cxx_body_parser.proofs.Prefixes.{rest_dropped}
use Rattle.cxx_body_parser.proofs.body.counted.Goals as goal

pub returns-in_err-tree-clause-event : goal.returns-in_err-tree-clause-event
returns-in_err-tree-clause-event c = let r : c.from_residual.result ≡ Err c.in_err-tree.field-0.0 = search rules in subst (λ r. IfErr r (λ e. (e ≡ stop.NoMemory) ⊎ Event block_form (record { blocks = c.args.depth; main = false }) c.args.all.now e)) (sym r) (block_stop (record { blocks = c.args.depth; main = false }) c.args.all.now c.in_err-tree.field-0.0 c.requires (c.in_err-tree.ensures.follows false))

pub returns-clause-reads : goal.returns-clause-reads
returns-clause-reads c = subst (BodyReads c.args.text.now.bytes.now c.in_ok-tree.tree c.args.all.now) (rest_dropped block_form (record { blocks = c.args.depth; main = false }) c.args.all.now c.in_ok-tree.rest.now (block_front _ _ _ (c.in_ok-tree.ensures.follows false))) c.in_ok-tree.ensures.reads

pub returns-clause-derives : goal.returns-clause-derives
returns-clause-derives c = let h = block_front _ _ _ (c.in_ok-tree.ensures.follows false) in subst (DerivesPrefix block_form (record { blocks = c.args.depth; main = false }) c.args.all.now) (rest_dropped block_form (record { blocks = c.args.depth; main = false }) c.args.all.now c.in_ok-tree.rest.now h) h
