use Rattle.std.proofs.Common.{⊎_elim, inl, inr}
use Rattle.abi_foreign.proofs.SomeAnswer.{some_answer}
use Rattle.abi_foreign.proofs.laws.listing_or_refusal.Goals as goal

pub returns : goal.returns
returns c = λ h text keeps. ⊎_elim (λ layout. inl (layout.rows, layout.is)) (λ refusal. inr (refusal.rule, refusal.line, refusal.is)) (some_answer h keeps text)
