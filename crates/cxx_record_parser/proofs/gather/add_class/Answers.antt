use Rattle.std.proofs.Common.{rules, None, ◌≡◌}
use Rattle.cxx_record_parser.proofs.Gathers as gathers
use Rattle.cxx_record_parser.proofs.gather.add_class.Goals as goal

pub returns-then-is_none-clause-items : goal.returns-then-is_none-clause-items
returns-then-is_none-clause-items c = λ is h. let e : c.args.source.now.main ≡ None = search rules in gathers.first_class _ is _ _ _ _ _ h e c.in_ok-push.ensures.ok c.in_ok-append.ensures.ok (search rules)

pub returns-clause-items : goal.returns-clause-items
returns-clause-items c = λ is h. let t = gathers.tree_of c.args.source.now.main (search rules) in gathers.later_class _ is _ _ t.0 _ _ h t.1 c.in_ok-push.ensures.ok c.in_ok-append.ensures.ok
