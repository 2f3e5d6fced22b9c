use Rattle.std.proofs.Common.{sym, ◌∙◌, ap, ⊎_elim}
use Rattle.foundation.proofs.Truth.{not_both}
use Rattle.cxx_subobject.specs.invariants.Tests.{is_public_path}
use Rattle.cxx_subobject.proofs.TestLemmas.{down_sound, across_sound, walk_cases}
use Rattle.cxx_subobject.proofs.containment.is_public_base.Goals as goal

pub returns-then-is_public_down : goal.returns-then-is_public_down
returns-then-is_public_down c = (
  λ t. down_sound c.args.h.now c.args._c c.args.outer.now c.args.inner.now c.requires.outer (sym c.is_public_down.ensures ∙ t),
  λ k. c.if-is_public_down.true,
)

pub returns-then-has_public_shared : goal.returns-then-has_public_shared
returns-then-has_public_shared c =
    let is = c.is_public_path.ensures ∙ ap (is_public_path c.args.h.now) c.as_slice.ensures in (
      λ t. across_sound c.args.h.now c.args._c c.args.outer.now c.args.inner.now c.requires.inner (c.has_public_shared.ensures.0 c.if-has_public_shared.true) (sym is ∙ t),
      λ k. ⊎_elim (λ l. absurd (not_both (c.is_public_down.ensures ∙ l) c.if-is_public_down.false)) (λ r. is ∙ r.1) (walk_cases c.args.h.now c.args._c c.args.outer.now c.args.inner.now c.requires.outer k),
    )

pub returns-else-has_public_shared : goal.returns-else-has_public_shared
returns-else-has_public_shared c = (
  λ t. absurd (not_both t c.if-has_public_shared.false),
  λ k. ⊎_elim (λ l. absurd (not_both (c.is_public_down.ensures ∙ l) c.if-is_public_down.false)) (λ r. absurd (not_both (c.has_public_shared.ensures.1 r.0) c.if-has_public_shared.false)) (walk_cases c.args.h.now c.args._c c.args.outer.now c.args.inner.now c.requires.outer k),
)
