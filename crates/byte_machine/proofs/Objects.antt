-- Heap objects in the regions of a memory.
use Rattle.std.proofs.Common.{ℕ, ◌+◌, ◌≤◌, List, [], ◌∷◌, ◌++◌, length, map, Bool, true, false, refl, ◌≡◌, arith, Some, Result, Ok, Err, subst, sym}
use Rattle.std.specs.Prelude.{All, MatchResult, nat_eq}
use Rattle.byte_memory.specs.declared.memory.MemoryFault.{MemoryFault}
use Rattle.byte_memory.specs.Store.{Store, Closes}
use Rattle.byte_memory.specs.Regions.{shut, close_fault}
use Rattle.std.proofs.lemmas.Bool.Decides.{nat_tests}
use Rattle.std.proofs.lemmas.List.Elements.{All-push, All-nil, All-head, All-tail, All-cons}
use Rattle.byte_memory.specs.declared.memory.Region.{Region}
use Rattle.byte_memory.proofs.Ascending.{HasAddress, IsAscendingBy-push}
use Rattle.byte_machine.specs.declared.heap.Opened.{Opened}
use Rattle.byte_machine.specs.Heap.{has_address, with_heap_object, AreObjectsInOrder, LieInRegions}

-- an object that has an address starts there or below
pub has_address-within : (objects : List Opened) (at : ℕ) → HasAddress (λ object. object.start) (λ object. object.size) objects at (has_address at)
has_address-within objects at k object here pass = (grind (arith, nat_tests), grind (arith, nat_tests))

-- a region above all others is above all objects
pub IsInOrder-made : (objects : List Opened) (regions : List Region) (at size class : ℕ) → AreObjectsInOrder objects → LieInRegions objects regions → All (λ region. region.start + region.size ≤ at) regions → AreObjectsInOrder (with_heap_object objects at size class)
IsInOrder-made objects regions at size class up inside above =
    IsAscendingBy-push (λ (object : Opened). object.start) (λ object. object.size) objects (record { number = length objects + 1; start = at; size = size; class = class }) up (inside at above)

-- what holds of a list and of one more item
All-split : {X : Type 0} (P : X → Type 0) (xs : List X) (y : X) → All P (xs ++ y ∷ []) → All P xs × P y
All-split P [] y all = (All-nil P, All-head P y [] all)
All-split P (x ∷ xs) y all =
    let rest = All-split P xs y (All-tail P x (xs ++ y ∷ []) all) in
    (All-cons P x xs (All-head P x (xs ++ y ∷ []) all) rest.0, rest.1)

-- the objects lie in the regions after one was opened for a new object
pub LiesIn-made : (objects : List Opened) (regions : List Region) (at size class : ℕ) → LieInRegions objects regions → LieInRegions (with_heap_object objects at size class) (regions ++ (record { start = at; size = size; is_open = true }) ∷ [])
LiesIn-made objects regions at size class inside bound all =
    let parts = All-split (λ (region : Region). region.start + region.size ≤ bound) regions (record { start = at; size = size; is_open = true }) all in
    All-push (λ (object : Opened). object.start + object.size ≤ bound) objects (record { number = length objects + 1; start = at; size = size; class = class }) (inside bound parts.0) parts.1

-- a region that is shut lies where it did
shut_ends : (r : Region) (at bound : ℕ) (z : Bool) → nat_eq r.start at ≡ z → (shut at r).start + (shut at r).size ≤ bound → r.start + r.size ≤ bound
shut_ends r at bound true e h = rw e at h
shut_ends r at bound false e h = rw e at h

before_shut : (regions : List Region) (at bound : ℕ) → All (λ r. r.start + r.size ≤ bound) (map (shut at) regions) → All (λ r. r.start + r.size ≤ bound) regions
before_shut [] at bound all = All-nil (λ (r : Region). r.start + r.size ≤ bound)
before_shut (r ∷ regions) at bound all =
    All-cons (λ (r : Region). r.start + r.size ≤ bound) r regions
    (shut_ends r at bound (nat_eq r.start at) refl (All-head (λ (r : Region). r.start + r.size ≤ bound) (shut at r) (map (shut at) regions) all))
    (before_shut regions at bound (All-tail (λ (r : Region). r.start + r.size ≤ bound) (shut at r) (map (shut at) regions) all))

-- the objects lie in the regions after one was closed
pub LiesIn-shut : (objects : List Opened) (regions : List Region) (at : ℕ) → LieInRegions objects regions → LieInRegions objects (map (shut at) regions)
LiesIn-shut objects regions at inside bound all = inside bound (before_shut regions at bound all)

-- and so they do after a call to close one
pub LiesIn-closed : {X : Type 0} (objects : List Opened) (old new : Store) (at : ℕ) (result : Result X MemoryFault) → MatchResult result (λ done. Closes old new at) (λ fault. (close_fault old.regions at ≡ Some fault) × (new ≡ old)) → LieInRegions objects old.regions → LieInRegions objects new.regions
LiesIn-closed {X} objects old new at (Ok done) closes inside = subst (λ (s : Store). LieInRegions objects s.regions) (sym closes.new_is) (LiesIn-shut objects old.regions at inside)
LiesIn-closed {X} objects old new at (Err fault) kept inside = subst (λ (s : Store). LieInRegions objects s.regions) (sym kept.1) inside
