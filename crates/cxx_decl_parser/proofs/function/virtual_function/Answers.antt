use Rattle.std.proofs.Common.{rules, refl, ◌∷◌, [], ◌∙◌}
use Rattle.cxx_grammar.specs.Table.{ABlock, ParamsEnd, VirtualEnd}
use Rattle.cxx_grammar.proofs.Steps.{same_error}
use Rattle.cxx_syntax.specs.Parts as parts
use Rattle.cxx_record_parser.specs.invariants.Readers.{outside}
use Rattle.cxx_record_parser.proofs.Turns as turns
use Rattle.cxx_decl_parser.proofs.Others.{virtual_word}
use Rattle.cxx_decl_parser.proofs.function.virtual_function.Goals as goal

pub returns-then-is_same-clause-reads : goal.returns-then-is_same-clause-reads
returns-then-is_same-clause-reads c = λ is_public ts h. parts.a_pure_function (virtual_word ts h.type h.is_virtual).1 h.first h.returns h.name h.sign c.in_ok-params.ensures.reads (record { front = refl; sort = c.in_ok-params.ensures.close }) (record { front = c.in_ok-sign.ensures.ok; sort = search rules }) c.in_ok-_zero.ensures.reads c.in_ok-_end.ensures.reads c.in_ok-function.ensures.ok refl

pub returns-in_err-tree-clause-follows : goal.returns-in_err-tree-clause-follows
returns-in_err-tree-clause-follows c = λ m. same_error (λ x. x.1.now) (outside m) (outside m) (ParamsEnd ∷ VirtualEnd ∷ []) (ABlock ∷ []) ([]) c.args.rest.now c.in_ok-params.rest.now _ c.in_err-tree.field-0.0 (search rules) (λ k. c.in_ok-params.ensures.follows (outside m) (VirtualEnd ∷ k) ∙ turns.not_pure _ _ _ (outside m) k c.in_ok-sign.ensures.ok (search rules)) (c.in_err-tree.ensures.follows m)

pub returns-clause-reads : goal.returns-clause-reads
returns-clause-reads c = λ is_public ts h. parts.a_function h.is_virtual h.first h.returns h.name h.sign c.in_ok-params.ensures.reads (record { front = refl; sort = c.in_ok-params.ensures.close }) c.in_ok-tree.ensures.reads c.in_ok-function-2.ensures.ok refl
