use Rattle.std.proofs.Common.{rules, refl, ◌∷◌, []}
use Rattle.cxx_grammar.specs.declared.sort.Sort.TheVariants.{Semicolon}
use Rattle.cxx_grammar.specs.Table.{Only, AName, AfterInt}
use Rattle.cxx_syntax.specs.Statements.{a_scalar}
use Rattle.cxx_record_parser.specs.invariants.Readers.{outside}
use Rattle.cxx_record_parser.proofs.Turns as turns
use Rattle.cxx_syntax.specs.Statements.{an_int}
use Rattle.cxx_record_parser.specs.invariants.Readers.{main_after}
use Rattle.cxx_decl_parser.proofs.Others.{same_error_to}
use Rattle.cxx_decl_parser.proofs.item.int_item.Goals as goal

pub returns-in_err-item-2-clause-follows : goal.returns-in_err-item-2-clause-follows
returns-in_err-item-2-clause-follows c = same_error_to (λ x. x.1.now) (outside c.args.has_main) (outside c.args.has_main) (λ x. outside (main_after c.args.has_main x.0)) (AfterInt ∷ []) (AName ∷ Only Semicolon ∷ []) [] c.args.rest.now c.args.rest.now _ c.in_err-item-2.field-0.0 (search rules) (λ k. turns.no_main _ _ _ (outside c.args.has_main) k c.in_ok-word.ensures.ok (search rules)) (c.in_err-item-2.ensures.follows (outside c.args.has_main))

pub returns-clause-reads : goal.returns-clause-reads
returns-clause-reads c = c.in_ok-item-2.ensures.reads _ (record { rest = _; front = refl }) (a_scalar (an_int (record { front = refl; sort = c.requires })))
