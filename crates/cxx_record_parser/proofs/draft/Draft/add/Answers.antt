use Rattle.cxx_record_parser.proofs.Drafts as drafts
use Rattle.cxx_record_parser.proofs.draft.Draft.add.Goals as goal

pub returns-in-Label-clause-ok : goal.returns-in-Label-clause-ok
returns-in-Label-clause-ok c = λ parts h. rw c.in-Label.is (drafts.label_drafted _ _ parts _ _ h)

pub returns-in_ok-add_field-in-Field-clause-ok : goal.returns-in_ok-add_field-in-Field-clause-ok
returns-in_ok-add_field-in-Field-clause-ok c = λ parts h. rw c.in-Field.is (drafts.field_drafted _ _ parts _ _ _ _ h c.in_ok-add_field-in-Field.ensures.ok)

pub returns-in_ok-push_body-in-Constructor-clause-ok : goal.returns-in_ok-push_body-in-Constructor-clause-ok
returns-in_ok-push_body-in-Constructor-clause-ok c = λ parts h. rw c.in-Constructor.is (drafts.constructor_drafted _ _ parts _ _ _ _ _ _ h c.in_ok-push_entry-in-Constructor.ensures.ok c.in_ok-push_body-in-Constructor.ensures.ok)

pub returns-in_ok-push_body-in-Destructor-clause-ok : goal.returns-in_ok-push_body-in-Destructor-clause-ok
returns-in_ok-push_body-in-Destructor-clause-ok c = λ parts h. rw c.in-Destructor.is (drafts.destructor_drafted _ _ parts _ _ _ _ _ _ _ _ h c.in_ok-push_entry-in-Destructor.ensures.ok c.declared_destructor-self.ensures c.new.ensures c.in_ok-push_body-in-Destructor.ensures.ok)
