use Rattle.cxxabi_cmd.proofs.ListLemmas.{found_whole, found_none}
use Rattle.cxxabi_cmd.proofs.list_answer.list.Goals as goal

pub returns-in-Some-clause-lists : goal.returns-in-Some-clause-lists
returns-in-Some-clause-lists c = found_whole c.in_ok-text.field-0 (λ text. text.items) c.in-Some.text c.args.accepted.now c.args.listing c.args.classes.now c.requires.ready c.in-Some.is c.in_ok-text.ensures

pub returns-in-None-clause-lists : goal.returns-in-None-clause-lists
returns-in-None-clause-lists c =
    found_none c.in_ok-text.field-0 (λ text. text.items) c.line_alone.result c.args.accepted.now c.args.listing c.args.classes.now c.requires.ready c.in-None.is c.in_ok-text.ensures c.line_alone.ensures.answer
