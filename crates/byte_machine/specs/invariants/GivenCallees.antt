-- What runs by an entry, as the machine finds it.
use Rattle.std.specs.Prelude.{Option, Some, None}
use Rattle.byte_machine.specs.declared.callees.Callee.{Callee as GivenCallee}
use Rattle.byte_machine.specs.Calls.{Callee}

abbrev pub found_callee : Option Callee → Option GivenCallee
found_callee None = None
found_callee (Some to) = Some (record { block = to.block; this = to.this; vbase = to.vbase; add = to.add })
