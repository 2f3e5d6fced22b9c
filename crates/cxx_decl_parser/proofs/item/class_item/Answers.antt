use Rattle.std.proofs.Common.{rules, refl, arith, ap, length, ◌∷◌, [], ◌∙◌}
use Rattle.cxx_grammar.specs.declared.sort.Sort.TheVariants.{OpenBrace, Semicolon}
use Rattle.cxx_grammar.specs.Table.{Only, AName, ClassTail, PartsEnd}
use Rattle.cxx_grammar.proofs.Steps.{same_error}
use Rattle.cxx_syntax.specs.Parts as parts
use Rattle.cxx_syntax.specs.Sources as sources
use Rattle.cxx_record_parser.specs.invariants.Readers.{outside}
use Rattle.cxx_record_parser.proofs.Turns as turns
use Rattle.cxx_decl_parser.proofs.item.class_item.Goals as goal

pub returns-then-is_same-clause-reads : goal.returns-then-is_same-clause-reads
returns-then-is_same-clause-reads c = sources.a_forward (record { front = refl; key = c.requires.key }) c.in_ok-word.ensures.reads (record { front = c.in_ok-sign.ensures.ok; sort = search rules })

pub returns-then-is_same-2-clause-reads : goal.returns-then-is_same-2-clause-reads
returns-then-is_same-2-clause-reads c = c.in_ok-item.ensures.reads _ _ _ _ (record { front = refl; key = c.requires.key }) c.in_ok-word.ensures.reads (rw c.in_ok-sign.ensures.ok c.in_ok-bases.ensures.reads)

pub returns-clause-reads : goal.returns-clause-reads
returns-clause-reads c = c.in_ok-item-2.ensures.reads _ _ _ _ (record { front = refl; key = c.requires.key }) c.in_ok-word.ensures.reads (rw c.new-none.ensures parts.no_bases)

pub returns-in_err-item-2-clause-follows : goal.returns-in_err-item-2-clause-follows
returns-in_err-item-2-clause-follows c = λ m. same_error (λ x. x.1.now) (outside m) (outside m) (AName ∷ ClassTail ∷ []) (Only OpenBrace ∷ PartsEnd ∷ Only Semicolon ∷ []) ([]) c.args.rest.now c.in_ok-word.rest.now _ c.in_err-item-2.field-0.0 (search rules) (λ k. c.in_ok-word.ensures.follows (outside m) (ClassTail ∷ k) ∙ turns.no_bases _ _ _ (outside m) k c.in_ok-sign.ensures.ok (search rules, search rules)) (c.in_err-item-2.ensures.follows m)

pub class_body-requires : goal.class_body-requires
class_body-requires c = omega (arith, ap length c.in_ok-word.ensures.reads.front, ap length c.in_ok-sign.ensures.ok, c.in_ok-bases.ensures.shorter, c.requires.few)

pub class_body-requires-2 : goal.class_body-requires-2
class_body-requires-2 c = omega (arith, ap length c.in_ok-word.ensures.reads.front, c.requires.few)
