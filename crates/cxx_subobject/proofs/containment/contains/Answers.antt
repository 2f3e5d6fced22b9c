use Rattle.std.proofs.Common.{sym, ◌∙◌, ⊎_elim}
use Rattle.foundation.proofs.Truth.{not_both}
use Rattle.cxx_subobject.proofs.TestLemmas.{longer_sound, inside_longer, inside_reached, inside_cases}
use Rattle.cxx_subobject.proofs.containment.contains.Goals as goal

pub returns-then-is_longer : goal.returns-then-is_longer
returns-then-is_longer c = (
  λ t. inside_longer c.args.h.now c.args._c c.args.outer.now c.args.inner.now c.requires.outer c.requires.inner (longer_sound c.args.outer.now c.args.inner.now (sym c.is_longer.ensures ∙ t)),
  λ k. c.if-is_longer.true,
)

pub returns-else-is_longer : goal.returns-else-is_longer
returns-else-is_longer c = (
  λ t. inside_reached c.args.h.now c.args._c c.args.outer.now c.args.inner.now c.requires.inner (c.has_shared.ensures.0 t),
  λ k. ⊎_elim (λ l. absurd (not_both (c.is_longer.ensures ∙ l) c.if-is_longer.false)) (λ r. c.has_shared.ensures.1 r) (inside_cases c.args.h.now c.args.outer.now c.args.inner.now k),
)
