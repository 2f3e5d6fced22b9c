use Rattle.abi_inspect.proofs.SomeReading.{some_reading}
use Rattle.abi_inspect.proofs.laws.some_reading.Goals as goal

pub returns : goal.returns
returns c = λ h rows text words keeps sound. some_reading h rows words keeps sound text
