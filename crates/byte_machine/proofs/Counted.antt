-- What the regions take together, as the heap counts it.
use Rattle.std.proofs.Common.{◌≡◌, ℕ, ◌+◌, ◌∙◌, ap, arith, [], ◌∷◌, true}
use Rattle.std.proofs.lemmas.List.Sums.{sum_by-append}
use Rattle.byte_memory.specs.Regions.{total_of, rounded}
use Rattle.byte_memory.specs.Store.{Store, open_of, close_of}
use Rattle.byte_memory.proofs.Reached.{total_of-shut}
use Rattle.byte_code.specs.declared.op.ResultUse.{ResultUse}
use Rattle.byte_machine.specs.Running.{Fixed, Running}
use Rattle.byte_machine.specs.Calls.{made_at}

-- an opened region adds its size, rounded up
pub total_of-open : (memory : Store) (at size : ℕ) → total_of (open_of memory at size).regions ≡ total_of memory.regions + rounded size
total_of-open memory at size = omega (arith, sum_by-append (λ region. rounded region.size) memory.regions ((record { start = at; size = size; is_open = true }) ∷ []))

-- a closed one still counts
pub total_of-close : (memory : Store) (at size : ℕ) → total_of (close_of memory at size).regions ≡ total_of memory.regions
total_of-close memory at size = total_of-shut memory.regions at

-- the heap's total stays that of the regions
pub counted-made : (f : Fixed) (s : Running) (size class block : ℕ) (result : ResultUse) (at : ℕ) → total_of s.memory.regions ≡ s.heap → total_of (made_at f s size class block result at).memory.regions ≡ (made_at f s size class block result at).heap
counted-made f s size class block result at counted = total_of-open s.memory at size ∙ ap (λ total. total + rounded size) counted
