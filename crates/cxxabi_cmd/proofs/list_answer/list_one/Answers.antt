use Rattle.std.proofs.Common.{refl, [], ◌∷◌}
use Rattle.cxxabi_cmd.proofs.ListLemmas.{name_unknown, name_listed, one_known}
use Rattle.cxxabi_cmd.proofs.list_answer.list_one.Goals as goal

pub returns-in_default-clause-lists : goal.returns-in_default-clause-lists
returns-in_default-clause-lists c = name_unknown c.line_alone.result c.args.size c.args.accepted.now.hierarchy c.args.listing c.args.name.now c.in_default.ensures c.line_alone.ensures.answer

pub list-requires-clause-known : goal.list-requires-clause-known
list-requires-clause-known c = one_known c.args.accepted.now.hierarchy (c.in-Some.class ∷ []) c.in-Some.class c.args.name.now refl c.in-Some.ensures

pub returns-clause-lists : goal.returns-clause-lists
returns-clause-lists c = name_listed c.list.result c.args.size c.args.accepted.now.hierarchy c.args.listing c.args.name.now c.in-Some.class c.in-Some.ensures c.list.ensures.lists
