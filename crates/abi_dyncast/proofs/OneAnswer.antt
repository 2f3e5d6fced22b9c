-- One cast has one answer, and so has one test of containment.
use Rattle.std.proofs.Common.{◌≡◌, ℕ, Bool, Option, Some, refl, ap, sym, ◌∙◌}
use Rattle.foundation.proofs.Truth.{same_test}
use Rattle.byte_memory.specs.Store.{Store}
use Rattle.abi_dyncast.specs.Rule.{Parts, AnswersCast, down, across, nowhere}
use Rattle.abi_dyncast.specs.Graph.{graph_of}
use Rattle.abi_dyncast.specs.Casts.{parts_below, view_at_address, found_address, CastsTo, TellsWithin}

-- the rule has one answer
pub one_answer : {P : Type 0} (s : Parts P) (a b : Option P) → AnswersCast s a → AnswersCast s b → a ≡ b
one_answer s _ _ (down p d) (down q e) = ap (λ r. Some r) (e.over.only p d.over.is)
one_answer s _ _ (down p d) (across q none a) = absurd (none p d)
one_answer s _ _ (down p d) (nowhere none no_across) = absurd (none p d)
one_answer s _ _ (across p none a) (down q e) = absurd (none q e)
one_answer s _ _ (across p none a) (across q none' b) = ap (λ t. Some t) (b.target.only p a.target.is)
one_answer s _ _ (across p none a) (nowhere none' no_across) = absurd (no_across p a)
one_answer s _ _ (nowhere none no_across) (down q e) = absurd (none q e)
one_answer s _ _ (nowhere none no_across) (across q none' b) = absurd (no_across q b)
one_answer s _ _ (nowhere none no_across) (nowhere none' no_across') = refl

pub one_result : (image : ℕ → Option ℕ) (memory : Store) (at class target : ℕ) (a b : Option ℕ) → CastsTo image memory at class target a → CastsTo image memory at class target b → a ≡ b
one_result image memory at class target a b x y = x.is ∙ (ap found_address (one_answer (parts_below (graph_of image memory) (view_at_address image memory at) at class target) x.answer y.answer x.rule y.rule) ∙ sym y.is)

pub one_within : (image : ℕ → Option ℕ) (base : ℕ) (memory : Store) (view_at view_class at class : ℕ) (a b : Bool) → TellsWithin image base memory view_at view_class at class a → TellsWithin image base memory view_at view_class at class b → a ≡ b
one_within image base memory view_at view_class at class a b x y = same_test a b x y
