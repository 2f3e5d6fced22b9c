use Rattle.std.proofs.Common.{sym, subst}
use Rattle.path_heap.specs.declared.state.Value.{Value}
use Rattle.path_heap.specs.Stands.{Means}
use Rattle.path_model.specs.Values.{Pointer}
use Rattle.path_model.specs.Uses.{dynamic_value}
use Rattle.path_values.proofs.Viewed.{cast_outside, cast_some}
use Rattle.path_values.proofs.views.cast.Goals as goal

pub returns-then-not-inside-clause-is : goal.returns-then-not-inside-clause-is
returns-then-not-inside-clause-is c = λ s p is.
    let h = c.args.world.now.h.now in
    cast_outside h s p c.standing_of-at.result c.in-Some.view c.args.target c.in_ok-inside-in-Some.inside (c.standing_of-at.ensures h s p is) c.in-Some.is c.in_ok-inside-in-Some.ensures.is c.if-not-inside.true

pub returns-in_ok-found-in-Some-clause-is : goal.returns-in_ok-found-in-Some-clause-is
returns-in_ok-found-in-Some-clause-is c = λ s p is.
    let h = c.args.world.now.h.now in
    subst (λ (v : Value). Means h s.classes v (dynamic_value h s c.args.target (Pointer p))) (sym c.pointer_or.ensures)
    (cast_some h c.args.heap.now s is.heap_stands p c.standing_of-at.result c.in-Some.view c.args.target c.in_ok-inside-in-Some.inside c.in_ok-found-in-Some.found (c.standing_of-at.ensures h s p is) c.in-Some.is
    c.in_ok-inside-in-Some.ensures.is c.if-not-inside.false c.in_ok-found-in-Some.ensures.is)
