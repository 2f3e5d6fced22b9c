-- Each law is a lemma.
use Rattle.foundation.proofs.Members.{has_from_contains}
use Rattle.text_bytes.proofs.RawReads.{shown_read, text_read, texts_there}
use Rattle.text_bytes.proofs.laws.raw_texts_are_texts.Goals as goal

pub returns-clause-one : goal.returns-clause-one
returns-clause-one c = λ w world s memory opened heap notes raw out columns typed reads of. text_read w world s memory opened heap notes columns typed raw out reads of

pub returns-clause-shown : goal.returns-clause-shown
returns-clause-shown c = λ w world s memory opened heap notes trace told outs columns typed reads of. shown_read w world s memory opened heap notes columns typed trace told outs reads of

pub returns-clause-there : goal.returns-clause-there
returns-clause-there c = λ w world s memory opened heap notes told outs raw columns reads has. texts_there w world s memory opened heap notes columns told outs reads raw (has_from_contains told raw has)
