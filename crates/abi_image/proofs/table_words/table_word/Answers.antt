use Rattle.abi_image.proofs.Rooms.{adds_nothing}
use Rattle.abi_image.proofs.table_words.table_word.Goals as goal

pub returns-in-Vcall-clause-grows : goal.returns-in-Vcall-clause-grows
returns-in-Vcall-clause-grows c = adds_nothing c.args.records.now.items

pub returns-in-Vbase-clause-grows : goal.returns-in-Vbase-clause-grows
returns-in-Vbase-clause-grows c = adds_nothing c.args.records.now.items

pub returns-in-Top-clause-grows : goal.returns-in-Top-clause-grows
returns-in-Top-clause-grows c = adds_nothing c.args.records.now.items

pub returns-in-Info-clause-grows : goal.returns-in-Info-clause-grows
returns-in-Info-clause-grows c = adds_nothing c.args.records.now.items
