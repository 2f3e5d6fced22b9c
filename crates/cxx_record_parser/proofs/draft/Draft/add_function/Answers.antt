use Rattle.std.proofs.Common.{rules, None, ◌≡◌, ◌∙◌}
use Rattle.cxx_record_parser.proofs.Drafts as drafts
use Rattle.cxx_record_parser.proofs.draft.Draft.add_function.Goals as goal

pub returns-in_ok-push_body-clause-ok : goal.returns-in_ok-push_body-clause-ok
returns-in_ok-push_body-clause-ok c = λ parts h. rw c.in-Some.is (drafts.function_drafted _ _ parts _ _ _ _ _ _ _ _ _ h (c.number_of-number.ensures ∙ c.len.ensures) c.in_ok-push_entry.ensures.ok c.in_ok-push.ensures.ok c.new.ensures c.in_ok-push_body.ensures.ok)

pub returns-in_default-clause-ok : goal.returns-in_default-clause-ok
returns-in_default-clause-ok c = λ parts h. let e : c.args.body ≡ None = search rules in rw e (drafts.pure_drafted _ _ parts _ _ _ _ _ _ h (c.number_of-number.ensures ∙ c.len.ensures) c.in_ok-push_entry.ensures.ok c.in_ok-push.ensures.ok)
