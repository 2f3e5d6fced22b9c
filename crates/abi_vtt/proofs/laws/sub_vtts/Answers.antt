use Rattle.abi_vtt.proofs.BlockLemmas.{whole_stands, base_stands, shared_stands, first_word, word_stands}
use Rattle.abi_vtt.proofs.laws.sub_vtts.Goals as goal

pub returns-clause-whole : goal.returns-clause-whole
returns-clause-whole c = λ h l d. whole_stands h l d

pub returns-clause-base : goal.returns-clause-base
returns-clause-base c = λ h l x d b v all n keeps edge has there. base_stands h keeps l x d b v all n edge has there

pub returns-clause-shared : goal.returns-clause-shared
returns-clause-shared c = λ h l d v w keeps has more. shared_stands h keeps l d v w has more

pub returns-clause-first : goal.returns-clause-first
returns-clause-first c = λ h l x d keeps. first_word h keeps l x d

pub returns-clause-word : goal.returns-clause-word
returns-clause-word c = λ h l x d s keeps valid needs. word_stands h keeps l x d s valid needs
