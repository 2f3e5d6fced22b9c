-- The table to which a virtual pointer leads is what a load of its 8 bytes gives.
use Rattle.std.proofs.Common.{◌≡◌, ℕ, Some, ap}
use Rattle.std.specs.Prelude.{Ok}
use Rattle.byte_memory.specs.Store.{Store, load_of}
use Rattle.byte_machine.specs.Running.{loaded, table_of}

pub table_is : (memory : Store) (at : ℕ) → table_of memory at ≡ loaded (load_of memory at 8)
unfolding table_of
table_is memory at = λ i. loaded (load_of memory at 8)

pub table_loaded : (memory : Store) (at table : ℕ) → load_of memory at 8 ≡ Ok table → table_of memory at ≡ Some table
unfolding table_of
table_loaded memory at table e = ap loaded e
