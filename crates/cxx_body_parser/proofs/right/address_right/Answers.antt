use Rattle.std.proofs.Common.{rules, refl, ◌∷◌, [], ◌∙◌}
use Rattle.cxx_grammar.specs.declared.sort.Sort.TheVariants.{Semicolon, Ampersand, Arrow}
use Rattle.cxx_grammar.specs.Table.{Only, RightEnd, ReadPlaceEnd, APointer, AName, Named, Read}
use Rattle.cxx_grammar.proofs.Tails.{read_place}
use Rattle.cxx_grammar.proofs.Steps.{same_error, takes}
use Rattle.cxx_syntax.specs.Operands.{an_address}
use Rattle.cxx_body_parser.proofs.right.address_right.Goals as goal

pub returns-in_err-value-clause-follows : goal.returns-in_err-value-clause-follows
returns-in_err-value-clause-follows c = λ s. same_error (λ x. x.1.now) s s (RightEnd ∷ []) (APointer ∷ Only Arrow ∷ AName ∷ Named Read ∷ []) (Only Semicolon ∷ []) (c.args.first ∷ c.args.rest.now) c.args.rest.now _ c.in_err-value.field-0.0 (search rules) (λ k. takes _ RightEnd Ampersand (ReadPlaceEnd ∷ []) c.args.first c.args.rest.now s k refl c.requires refl refl ∙ read_place c.args.rest.now s k) (c.in_err-value.ensures.follows s)

pub returns-clause-reads : goal.returns-clause-reads
returns-clause-reads c = an_address (record { front = refl; sort = c.requires }) c.in_ok-value.ensures.reads

pub returns-clause-follows : goal.returns-clause-follows
returns-clause-follows c = λ s k. takes _ RightEnd Ampersand (ReadPlaceEnd ∷ []) c.args.first c.args.rest.now s k refl c.requires refl refl ∙ (read_place c.args.rest.now s k ∙ c.in_ok-value.ensures.follows s k)
