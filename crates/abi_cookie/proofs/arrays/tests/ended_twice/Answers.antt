use Rattle.abi_cookie.proofs.Ending.{array-closed}
use Rattle.abi_cookie.proofs.Stores.{empty-opened}
use Rattle.abi_cookie.proofs.arrays.tests.ended_twice.Goals as goal

pub delete_array-again-requires-clause-array : goal.delete_array-again-requires-clause-array
delete_array-again-requires-clause-array g c = (300, array-closed _ _ 2 8 300 c.in_ok-first.first c.in_ok-delete_array.ensures.closed (c.in_ok-first.ensures.array (empty-opened _ c.new-memory.ensures)))
