use Rattle.abi_memptr.proofs.Told.{entry_told}
use Rattle.abi_memptr.proofs.answers.entry_of.Goals as goal

pub returns-then-is_virtual : goal.returns-then-is_virtual
returns-then-is_virtual c = λ l slots.
    entry_told c.args.h.now l c.args.f c.entry_word.result c.keeps.ensures ((c.is_virtual.ensures c.args.h.now c.requires).0 c.if-is_virtual.true) (c.entry_word.ensures c.args.h.now l slots)
