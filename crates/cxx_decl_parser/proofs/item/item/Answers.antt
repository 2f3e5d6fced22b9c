use Rattle.std.proofs.Common.{rules, refl, sym, ap, true, ◌≡◌, ◌∷◌, ◌++◌, [], ◌∙◌, append_assoc}
use Rattle.cxx_grammar.specs.declared.sort.Sort.TheVariants.{Struct, Class, Int, Semicolon}
use Rattle.cxx_grammar.specs.Table.{Only, AName, ClassTail, AfterInt, ItemsEnd}
use Rattle.cxx_grammar.specs.invariants.Run.{run}
use Rattle.cxx_grammar.proofs.Steps.{takes}
use Rattle.cxx_record_parser.specs.invariants.Readers.{outside, value_rest}
use Rattle.cxx_record_parser.proofs.Turns as turns
use Rattle.cxx_record_parser.specs.invariants.Readers.{main_after}
use Rattle.cxx_syntax.specs.Sources.{is_no_main}
use Rattle.cxx_decl_parser.proofs.Others.{then_same_to, then_to, of_ok, no_main_after}
use Rattle.cxx_decl_parser.proofs.item.item.Goals as goal

pub returns-in-Struct-clause-follows : goal.returns-in-Struct-clause-follows
returns-in-Struct-clause-follows c = then_same_to (λ x. x.1.now) (outside c.args.has_main) (λ x. outside (main_after c.args.has_main x.0)) (ItemsEnd ∷ []) (AName ∷ ClassTail ∷ []) (ItemsEnd ∷ []) (c.args.first ∷ c.args.rest.now) c.args.rest.now _ (λ k. takes _ ItemsEnd Struct (AName ∷ ClassTail ∷ ItemsEnd ∷ []) c.args.first c.args.rest.now (outside c.args.has_main) k refl (search rules) refl refl) (λ x e. ap outside (no_main_after c.args.has_main x.0 (of_ok _ _ (λ x. is_no_main x.0 ≡ true) e c.class_item.ensures.class))) (c.class_item.ensures.follows c.args.has_main)

pub returns-in-Class-clause-follows : goal.returns-in-Class-clause-follows
returns-in-Class-clause-follows c = then_same_to (λ x. x.1.now) (outside c.args.has_main) (λ x. outside (main_after c.args.has_main x.0)) (ItemsEnd ∷ []) (AName ∷ ClassTail ∷ []) (ItemsEnd ∷ []) (c.args.first ∷ c.args.rest.now) c.args.rest.now _ (λ k. takes _ ItemsEnd Class (AName ∷ ClassTail ∷ ItemsEnd ∷ []) c.args.first c.args.rest.now (outside c.args.has_main) k refl (search rules) refl refl) (λ x e. ap outside (no_main_after c.args.has_main x.0 (of_ok _ _ (λ x. is_no_main x.0 ≡ true) e c.class_item-in-Class.ensures.class))) (c.class_item-in-Class.ensures.follows c.args.has_main)

pub returns-in-Int-clause-follows : goal.returns-in-Int-clause-follows
returns-in-Int-clause-follows c = then_to (λ x. x.1.now) (outside c.args.has_main) (λ x. outside (main_after c.args.has_main x.0)) (ItemsEnd ∷ []) (AfterInt ∷ []) (ItemsEnd ∷ []) (c.args.first ∷ c.args.rest.now) c.args.rest.now _ (λ k. takes _ ItemsEnd Int (AfterInt ∷ ItemsEnd ∷ []) c.args.first c.args.rest.now (outside c.args.has_main) k refl (search rules) refl refl) c.int_item.ensures.follows

pub returns-else-not-begins_value-clause-follows : goal.returns-else-not-begins_value-clause-follows
returns-else-not-begins_value-clause-follows c = then_same_to (λ x. x.1.now) (outside c.args.has_main) (λ x. outside (main_after c.args.has_main x.0)) (ItemsEnd ∷ []) (value_rest c.args.first.sort ++ (Only Semicolon ∷ [])) (ItemsEnd ∷ []) (c.args.first ∷ c.args.rest.now) c.args.rest.now _ (λ k. turns.value_begins (c.args.first ∷ c.args.rest.now) c.args.first c.args.rest.now (outside c.args.has_main) k refl (search rules, c.in_default.not-Int) ∙ ap (run c.args.rest.now (outside c.args.has_main)) (sym (append_assoc (value_rest c.args.first.sort) (Only Semicolon ∷ []) (ItemsEnd ∷ k)))) (λ x e. ap outside (no_main_after c.args.has_main x.0 (of_ok _ _ (λ x. is_no_main x.0 ≡ true) e c.value_item.ensures.variable))) (c.value_item.ensures.follows (outside c.args.has_main))
