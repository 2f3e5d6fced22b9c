use Rattle.std.proofs.Common.{rules, refl, sym, ap, Bool, false, List, ◌∷◌, ◌++◌, [], ◌∙◌, append_assoc}
use Rattle.cxx_grammar.specs.declared.sort.Sort.TheVariants.{Public, Virtual, Void, Name, OwnName, OpenParen, CloseParen, Colon, Tilde}
use Rattle.cxx_grammar.specs.Table.{Only, AName, ABlock, ParamsEnd, AfterScalar, AfterType, AfterOwnName, AfterVirtual, PartsEnd, scalar_rest}
use Rattle.cxx_grammar.specs.invariants.Run.{run}
use Rattle.cxx_grammar.proofs.Steps.{then_same, takes}
use Rattle.cxx_syntax.specs.Parts as parts
use Rattle.cxx_record_parser.specs.invariants.Readers.{outside}
use Rattle.cxx_record_parser.proofs.Turns as turns
use Rattle.cxx_grammar.specs.declared.sort.Lexeme.{Lexeme}
use Rattle.cxx_decl_parser.proofs.Others.{ok_weaker}
use Rattle.cxx_decl_parser.proofs.class_part.part.Goals as goal

pub returns-in-Public-clause-follows : goal.returns-in-Public-clause-follows
returns-in-Public-clause-follows c = λ m. then_same (λ x. x.1.now) (outside m) (outside m) (PartsEnd ∷ []) (Only Colon ∷ []) (PartsEnd ∷ []) (c.args.front.first ∷ c.args.rest.now) c.args.rest.now _ (λ k. takes _ PartsEnd Public (Only Colon ∷ PartsEnd ∷ []) c.args.front.first c.args.rest.now (outside m) k refl (search rules) refl refl) (c.label.ensures.follows (outside m))

pub returns-in-Protected-clause-follows : goal.returns-in-Protected-clause-follows
returns-in-Protected-clause-follows c = λ m. then_same (λ x. x.1.now) (outside m) (outside m) (PartsEnd ∷ []) (Only Colon ∷ []) (PartsEnd ∷ []) (c.args.front.first ∷ c.args.rest.now) c.args.rest.now _ (λ k. turns.label_part false (c.args.front.first ∷ c.args.rest.now) c.args.front.first c.args.rest.now (outside m) k refl (search rules)) (c.label-in-Protected.ensures.follows (outside m))

pub returns-in-Name-clause-follows : goal.returns-in-Name-clause-follows
returns-in-Name-clause-follows c = λ m. then_same (λ x. x.1.now) (outside m) (outside m) (PartsEnd ∷ []) (AfterType ∷ []) (PartsEnd ∷ []) (c.args.front.first ∷ c.args.rest.now) c.args.rest.now _ (λ k. takes _ PartsEnd Name (AfterType ∷ PartsEnd ∷ []) c.args.front.first c.args.rest.now (outside m) k refl (search rules) refl refl) (c.name_part.ensures.follows m)

pub returns-in-OwnName-clause-follows : goal.returns-in-OwnName-clause-follows
returns-in-OwnName-clause-follows c = λ m. then_same (λ x. x.1.now) (outside m) (outside m) (PartsEnd ∷ []) (AfterOwnName ∷ []) (PartsEnd ∷ []) (c.args.front.first ∷ c.args.rest.now) c.args.rest.now _ (λ k. takes _ PartsEnd OwnName (AfterOwnName ∷ PartsEnd ∷ []) c.args.front.first c.args.rest.now (outside m) k refl (search rules) refl refl) (c.own_name_part.ensures.follows m)

pub returns-in-Virtual-clause-follows : goal.returns-in-Virtual-clause-follows
returns-in-Virtual-clause-follows c = λ m. then_same (λ x. x.1.now) (outside m) (outside m) (PartsEnd ∷ []) (AfterVirtual ∷ []) (PartsEnd ∷ []) (c.args.front.first ∷ c.args.rest.now) c.args.rest.now _ (λ k. takes _ PartsEnd Virtual (AfterVirtual ∷ PartsEnd ∷ []) c.args.front.first c.args.rest.now (outside m) k refl (search rules) refl refl) (c.virtual_part.ensures.follows m)

pub returns-in-Void-clause-follows : goal.returns-in-Void-clause-follows
returns-in-Void-clause-follows c = λ m. then_same (λ x. x.1.now) (outside m) (outside m) (PartsEnd ∷ []) (AName ∷ Only OpenParen ∷ ParamsEnd ∷ ABlock ∷ []) (PartsEnd ∷ []) (c.args.front.first ∷ c.args.rest.now) c.args.rest.now _ (λ k. takes _ PartsEnd Void (AName ∷ Only OpenParen ∷ ParamsEnd ∷ ABlock ∷ PartsEnd ∷ []) c.args.front.first c.args.rest.now (outside m) k refl (search rules) refl refl) (c.void_part.ensures.follows m)

pub returns-in-Tilde-clause-reads : goal.returns-in-Tilde-clause-reads
returns-in-Tilde-clause-reads c = ok_weaker c.destructor.result (λ x. (is_public : Bool) (ts : List Lexeme) → parts.VirtualReads false ts (c.args.front.first ∷ c.args.rest.now) → parts.PartReads c.args.text.now.bytes.now is_public x.0 ts x.1.now) (λ x. parts.PartReads c.args.text.now.bytes.now c.args.front.is_public x.0 (c.args.front.first ∷ c.args.rest.now) x.1.now) (λ x h. h c.args.front.is_public (c.args.front.first ∷ c.args.rest.now) parts.not_virtual) c.destructor.ensures.reads

pub returns-in-Tilde-clause-follows : goal.returns-in-Tilde-clause-follows
returns-in-Tilde-clause-follows c = λ m. then_same (λ x. x.1.now) (outside m) (outside m) (PartsEnd ∷ []) (Only OwnName ∷ Only OpenParen ∷ Only CloseParen ∷ ABlock ∷ []) (PartsEnd ∷ []) (c.args.front.first ∷ c.args.rest.now) c.args.rest.now _ (λ k. takes _ PartsEnd Tilde (Only OwnName ∷ Only OpenParen ∷ Only CloseParen ∷ ABlock ∷ PartsEnd ∷ []) c.args.front.first c.args.rest.now (outside m) k refl (search rules) refl refl) (c.destructor.ensures.follows m)

pub returns-in-Boolean-clause-follows : goal.returns-in-Boolean-clause-follows
returns-in-Boolean-clause-follows c = λ m. then_same (λ x. x.1.now) (outside m) (outside m) (PartsEnd ∷ []) (scalar_rest c.args.front.first.sort ++ (AfterScalar ∷ [])) (PartsEnd ∷ []) (c.args.front.first ∷ c.args.rest.now) c.args.rest.now _ (λ k. turns.scalar_part (c.args.front.first ∷ c.args.rest.now) c.args.front.first c.args.rest.now (outside m) k refl (search rules) ∙ ap (run c.args.rest.now (outside m)) (sym (append_assoc (scalar_rest c.args.front.first.sort) (AfterScalar ∷ []) (PartsEnd ∷ k)))) (c.scalar_part.ensures.follows m)
