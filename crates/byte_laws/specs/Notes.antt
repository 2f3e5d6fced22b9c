-- Turns from states that are one but for their notes.
use Rattle.std.specs.Prelude.{◌≡◌, ℕ, zero, suc, Bool, true, false, Option, Some, None, List, ◌++◌}
use Rattle.byte_code.specs.declared.code.Code.{Code}
use Rattle.byte_machine.specs.declared.heap.Opened.{Opened}
use Rattle.byte_machine.specs.declared.turn.MachineTurn.{MachineTurn}
use Rattle.byte_machine.specs.declared.turn.MachineTurn.TheVariants.{Went, Ended, Refused, OutOfSteps, Limit}
use Rattle.byte_machine.specs.declared.turn.RawOut.{RawOut}
use Rattle.byte_machine.specs.Running.{Fixed}
use Rattle.byte_machine.specs.Turn.{ByteState, Turns}

-- the states are one but for what is noted
abbrev pub IsSameButNotes : ByteState → ByteState → Type 0
IsSameButNotes b c = record b { notes = c.notes } ≡ c

-- a list begins with the items of another
abbrev pub IsFront : {X : Type 0} → List X → List X → Type 0
IsFront {X} xs ys = (more : List X) × (ys ≡ xs ++ more)

-- what `new` made lies at the same places, as far as both states have come: their heap objects are the first ones of one list
pub record ArePlacedAlike (b c : ByteState) : Type 0 where
  pub objects : List Opened
  pub first : IsFront b.objects objects
  pub second : IsFront c.objects objects

-- a check refused
abbrev pub is_refusal : MachineTurn → Bool
is_refusal Went = false
is_refusal Ended = false
is_refusal (Refused rule line) = true
is_refusal OutOfSteps = false
is_refusal (Limit number) = false

-- unless a check refused one of them, two turns came to the same but for notes: their states, what they told, and their answers
abbrev pub AgreeUnlessRefused : (b c : ByteState) → (told told' : List RawOut) → (turn turn' : MachineTurn) → Type 0
AgreeUnlessRefused b c told told' turn turn' = is_refusal turn ≡ false → is_refusal turn' ≡ false → IsSameButNotes b c × (told ≡ told') × (turn ≡ turn')

-- so it did, as the answer that ended a run
abbrev pub is_refused : Option MachineTurn → Bool
is_refused None = false
is_refused (Some turn) = is_refusal turn

-- so many turns, one after the other
abbrev pub TurnAll : Fixed → Code → ℕ → ByteState → List RawOut → ByteState → List RawOut → Type 0
TurnAll f code zero b outs b' told = (b' ≡ b) × (told ≡ outs)
TurnAll f code (suc n) b outs b' told = (mid : ByteState) × (so_far : List RawOut) × (turn : MachineTurn) × (Turns f code b outs mid so_far turn × TurnAll f code n mid so_far b' told)

-- what both came to, and told: the same but for notes, or a check refused one of them, and it told a front of what the other told
pub data ComeTo (b c : ByteState) (told told' : List RawOut) : Type 0 where
  the_same : IsSameButNotes b c → told ≡ told' → ComeTo b c told told'
  first_refused : is_refused b.answer ≡ true → IsFront told told' → ComeTo b c told told'
  second_refused : is_refused c.answer ≡ true → IsFront told' told → ComeTo b c told told'
