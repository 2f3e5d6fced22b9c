-- The heap object that is found at an address has it.
use Rattle.std.proofs.Common.{◌≡◌, ℕ, ◌+◌, ◌<◌, ◌≤◌, true, Some, List, arith}
use Rattle.std.specs.Prelude.{nat_le, nat_lt, ◌&&◌}
use Rattle.std.proofs.lemmas.Bool.Decides.{nat_tests}
use Rattle.foundation.proofs.Chosen.{find_passes}
use Rattle.byte_machine.specs.declared.heap.Opened.{Opened}
use Rattle.byte_machine.specs.Heap.{has_address, object_at}

within : (object : Opened) (at : ℕ) → (nat_le object.start at && nat_lt at (object.start + object.size)) ≡ true → (object.start ≤ at) × (at < object.start + object.size)
within object at test = (grind (arith, nat_tests), grind (arith, nat_tests))

pub found_within : (objects : List Opened) (at : ℕ) (object : Opened) → object_at objects at ≡ Some object → (object.start ≤ at) × (at < object.start + object.size)
found_within objects at object e = within object at (find_passes (has_address at) objects object e).1
