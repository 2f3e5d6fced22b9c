use Rattle.std.proofs.Common.{rules, refl, ◌∷◌, []}
use Rattle.cxx_grammar.specs.Table.{AName, BaseAfterVirtual}
use Rattle.cxx_grammar.proofs.Steps.{same_error}
use Rattle.cxx_syntax.specs.Parts as parts
use Rattle.cxx_record_parser.proofs.Turns as turns
use Rattle.cxx_record_parser.proofs.base.base_after_virtual.Goals as goal

pub returns-in-Some-clause-reads : goal.returns-in-Some-clause-reads
returns-in-Some-clause-reads c = parts.a_virtual_access_base (record { front = refl; sort = c.requires }) (record { front = c.in_ok-word.ensures.ok; access = search rules }) c.in_ok-name.ensures.reads c.in_ok-base.ensures.ok

pub returns-in_err-name-2-clause-follows : goal.returns-in_err-name-2-clause-follows
returns-in_err-name-2-clause-follows c = λ s. same_error (λ x. x.1.now) s s (BaseAfterVirtual ∷ []) (AName ∷ []) ([]) c.args.rest.now c.args.rest.now _ c.in_err-name-2.field-0.0 (search rules) (λ k. turns.virtual_name _ _ _ s k c.in_ok-word.ensures.ok (search rules)) (c.in_err-name-2.ensures.follows s)

pub returns-clause-reads : goal.returns-clause-reads
returns-clause-reads c = parts.a_virtual_base (record { front = refl; sort = c.requires }) c.in_ok-name-2.ensures.reads c.in_ok-base-2.ensures.ok
