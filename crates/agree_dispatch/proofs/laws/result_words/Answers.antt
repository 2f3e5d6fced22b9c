use Rattle.agree_dispatch.proofs.Moving.{plain_words, shared_result, no_words}
use Rattle.agree_dispatch.proofs.laws.result_words.Goals as goal

pub returns-clause-plain : goal.returns-clause-plain
returns-clause-plain _ h rows g f e i keeps fine sound r root = plain_words h rows keeps fine sound g f e i r root

pub returns-clause-shared : goal.returns-clause-shared
returns-clause-shared _ h rows g f e v i keeps fine sound r root = shared_result h rows keeps fine sound g f e v i r root

pub returns-clause-none : goal.returns-clause-none
returns-clause-none _ h rows g f none = no_words h rows g f none
