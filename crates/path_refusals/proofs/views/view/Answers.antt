use Rattle.std.proofs.Common.{◌∙◌, ap, sym, true, false}
use Rattle.path_model.specs.Values.{Pointer}
use Rattle.path_model.specs.Uses.{uses_of_view}
use Rattle.path_model.specs.Rules.{refused}
use Rattle.path_refusals.proofs.Reading.{nothing, view_is, begun_of}
use Rattle.path_refusals.proofs.views.view.Goals as goal

pub returns-then-not-needed-clause-is : goal.returns-then-not-needed-clause-is
returns-then-not-needed-clause-is c = λ s p stands q e. nothing c.args.moment.now.world.h.now s ∙ ap (λ b. refused c.args.moment.now.world.h.now s (uses_of_view b (Pointer p))) (sym c.if-not-needed.true)

pub returns-then-branch-clause-is : goal.returns-then-branch-clause-is
returns-then-branch-clause-is c = λ s p stands q e.
    sym (view_is c.args.moment.now.world.h.now s p true (sym (c.in_ok-is_outside.ensures.is s p (record { heap_stands = stands; points = q; begun = begun_of s p e })) ∙ c.if-branch.true))
    ∙ ap (λ b. refused c.args.moment.now.world.h.now s (uses_of_view b (Pointer p))) (sym c.if-not-needed.false)

pub returns-else-branch-clause-is : goal.returns-else-branch-clause-is
returns-else-branch-clause-is c = λ s p stands q e.
    sym (view_is c.args.moment.now.world.h.now s p false (sym (c.in_ok-is_outside.ensures.is s p (record { heap_stands = stands; points = q; begun = begun_of s p e })) ∙ c.if-branch.false))
    ∙ ap (λ b. refused c.args.moment.now.world.h.now s (uses_of_view b (Pointer p))) (sym c.if-not-needed.false)
