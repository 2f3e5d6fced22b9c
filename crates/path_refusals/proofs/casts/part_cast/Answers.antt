use Rattle.std.proofs.Common.{sym, subst}
use Rattle.cxx_program.specs.declared.statement.TypedCast.{TypedCast}
use Rattle.path_heap.specs.declared.state.Value.TheVariants.{Pointer as PointerCode}
use Rattle.path_heap.specs.Stands.{Means}
use Rattle.path_model.specs.Values.{Pointer}
use Rattle.path_model.specs.Uses.{cast_value}
use Rattle.path_refusals.proofs.Reading.{begun_of}
use Rattle.path_refusals.proofs.Casting.{up_valid}
use Rattle.path_refusals.proofs.casts.part_cast.Goals as goal

pub returns-in-Up-clause-is : goal.returns-in-Up-clause-is
returns-in-Up-clause-is c = λ s p from to a b. subst (λ (k : TypedCast). Means c.args.moment.now.world.h.now s.classes (PointerCode c.base.result) (cast_value c.args.moment.now.world.h.now s k (Pointer p))) (sym c.in-Up.is)
    (c.base.ensures s p from a.heap_stands a.points (begun_of s p a.ready) a.of_class (up_valid c.args.moment.now.world.h.now from to c.args.how.now c.in-Up.i c.in-Up.is b))
