use Rattle.std.proofs.Common.{sym, subst}
use Rattle.abi_slots.specs.Images.{HasEntry, unused, pure}
use Rattle.abi_image.proofs.Rooms.{adds_nothing}
use Rattle.abi_image.proofs.entries.entry_word.Goals as goal

pub returns-in-Unused-clause-stands : goal.returns-in-Unused-clause-stands
returns-in-Unused-clause-stands c = λ image at stands e. subst (λ w. HasEntry image c.args.codes.now at w) (sym c.in-Unused.is) (unused e)

pub returns-in-Pure-clause-stands : goal.returns-in-Pure-clause-stands
returns-in-Pure-clause-stands c = λ image at stands e. subst (λ w. HasEntry image c.args.codes.now at w) (sym c.in-Pure.is) (pure _ e)

pub returns-in-Unused-clause-grows : goal.returns-in-Unused-clause-grows
returns-in-Unused-clause-grows c = adds_nothing c.args.records.now.items

pub returns-in-Pure-clause-grows : goal.returns-in-Pure-clause-grows
returns-in-Pure-clause-grows c = adds_nothing c.args.records.now.items
