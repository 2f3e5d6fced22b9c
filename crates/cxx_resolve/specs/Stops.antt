-- Answers that may be a stop.
use Rattle.std.specs.Prelude.{◌≡◌, Result, Ok, Err}
use Rattle.cxx_hierarchy.specs.declared.stop.Stop.{Stop}
use Rattle.cxx_hierarchy.specs.declared.stop.Stop.TheVariants as stop

infixl 10 ◌>>>◌
-- the first stop is the answer
abbrev pub ◌>>>◌ : {A B : Type 0} → Result A Stop → (A → Result B Stop) → Result B Stop
(Ok x) >>> next = next x
(Err e) >>> next = Err e

-- want of memory is free, and any other stop is the answer
abbrev pub Fails : {A : Type 0} → Stop → Result A Stop → Type 0
Fails stop.NoMemory answer = Unit {0}
Fails (stop.Limit l) answer = answer ≡ Err (stop.Limit l)
Fails (stop.Refused rule at) answer = answer ≡ Err (stop.Refused rule at)

-- what a call answers by what it leaves behind
abbrev pub Gives : {R A : Type 0} → Result R Stop → A → Result A Stop → Type 0
Gives (Ok r) new answer = answer ≡ Ok new
Gives (Err e) new answer = Fails e answer

-- what a call answers by its result
abbrev pub Settles : {A : Type 0} → Result A Stop → Result A Stop → Type 0
Settles (Ok x) answer = answer ≡ Ok x
Settles (Err e) answer = Fails e answer
