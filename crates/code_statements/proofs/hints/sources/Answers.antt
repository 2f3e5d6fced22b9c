use Rattle.std.proofs.Common.{rules, ◌∙◌, ap}
use Rattle.std.proofs.lemmas.Fn.{filter_same}
use Rattle.std.specs.List.{filter}
use Rattle.cxx_subobject.specs.Subobjects.{is_of_class}
use Rattle.code_statements.proofs.hints.sources.Goals as goal

pub returns : goal.returns
returns c =
    c.from_vec.ensures
    ∙ (filter_same _ (is_of_class c.args.from) _ (λ x b f' k. search rules) c.into_vec-list.result.items _ c.retain.ensures.filtered
    ∙ ap (filter (is_of_class c.args.from)) (c.into_vec-list.ensures ∙ c.in_ok-list_subobjects.ensures.preorder))
