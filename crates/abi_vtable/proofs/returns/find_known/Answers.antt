use Rattle.abi_vtable.proofs.Over.{known_is}
use Rattle.abi_vtable.proofs.returns.find_known.Goals as goal

pub returns-then-one-classes-2 : goal.returns-then-one-classes-2
returns-then-one-classes-2 c = λ h l are. known_is h l c.args.known.now c.loop-one.one-index _ c.args.classes are c.loop-one-test.true c.if-one-classes.true c.if-one-classes-2.true
