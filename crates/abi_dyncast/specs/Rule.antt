-- The rule of a dynamic_cast, over any kind of parts (ISO C++03 5.2.7 p8).
use Rattle.std.specs.Prelude.{Option, Some, None}
use Rattle.foundation.specs.Only.{IsOnly}

-- what the rule asks of the parts of a view, for one source and one target class: whether a part is of the target class; whether
-- the source lies in it, and as a public base of it; whether the source is a public base of the view, and whether a part is
pub record Parts (P : Type 0) : Type 1 where
  pub is_target : P → Type 0
  pub contains : P → Type 0
  pub is_above : P → Type 0
  pub is_seen : Type 0
  pub is_reached : P → Type 0

-- a part of the target class in which the source lies
pub record IsOver {P : Type 0} (s : Parts P) (p : P) : Type 0 where
  pub target : s.is_target p
  pub contains : s.contains p

-- down: exactly one part of the target class contains the source, and the source is a public base of it
pub record IsDown {P : Type 0} (s : Parts P) (p : P) : Type 0 where
  pub over : IsOnly (IsOver s) p
  pub source : s.is_above p

-- across: the source is a public base of the view, the view has exactly one part of the target class, and that is a public base too
pub record IsAcross {P : Type 0} (s : Parts P) (p : P) : Type 0 where
  pub source : s.is_seen
  pub target : IsOnly s.is_target p
  pub reached : s.is_reached p

-- the answer of a cast: where it leads down, else where it leads across, and none where it does neither
pub data AnswersCast {P : Type 0} (s : Parts P) : Option P → Type 0 where
  down : (p : P) → IsDown s p → AnswersCast s (Some p)
  across : (p : P) → ((other : P) → IsDown s other → ⊥) → IsAcross s p → AnswersCast s (Some p)
  nowhere : ((p : P) → IsDown s p → ⊥) → ((p : P) → IsAcross s p → ⊥) → AnswersCast s None
