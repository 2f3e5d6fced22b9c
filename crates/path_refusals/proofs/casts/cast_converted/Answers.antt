use Rattle.std.proofs.Common.{◌≡◌, None, false, refl}
use Rattle.std.proofs.lemmas.Result.{IfOk-weaker}
use Rattle.cxx_hierarchy.specs.declared.records.ClassId.{ClassId}
use Rattle.cxx_subobject.specs.Locations.{ObjectPart}
use Rattle.cxx_program.specs.Typed.{Casts}
use Rattle.path_model.specs.Values.{Objects, Unset, Number, Null, Pointer}
use Rattle.path_model.specs.Uses.{convert, cast_value}
use Rattle.path_model.specs.Rules.{refused, names, is_unready}
use Rattle.path_refusals.specs.invariants.Pieces.{IsReadyPart, MeansValueOf, CastRefuses}
use Rattle.path_refusals.proofs.Reading.{unset_case, null_case, number_case, pointer_case}
use Rattle.path_refusals.proofs.Paths.{ready_part}
use Rattle.path_refusals.proofs.Casting.{off_cast}
use Rattle.path_refusals.proofs.casts.cast_converted.Goals as goal

pub returns-in-Unset-clause-is : goal.returns-in-Unset-clause-is
returns-in-Unset-clause-is c = λ s x from to a b e. unset_case c.args.moment.now.world.h.now s.classes (λ x. None ≡ refused c.args.moment.now.world.h.now s (convert (cast_value c.args.moment.now.world.h.now s c.args.how.now x) c.args.c.now)) (off_cast c.args.moment.now.world.h.now s c.args.how.now Unset c.args.c.now refl) c.args.v c.in-Unset.is x a.means

pub returns-in-Number-clause-is : goal.returns-in-Number-clause-is
returns-in-Number-clause-is c = λ s x from to a b e. number_case c.args.moment.now.world.h.now s.classes (λ x. None ≡ refused c.args.moment.now.world.h.now s (convert (cast_value c.args.moment.now.world.h.now s c.args.how.now x) c.args.c.now)) (λ z. off_cast c.args.moment.now.world.h.now s c.args.how.now (Number z) c.args.c.now refl) c.args.v c.in-Number.field-0 c.in-Number.is x a.means

pub returns-in-Null-clause-is : goal.returns-in-Null-clause-is
returns-in-Null-clause-is c = λ s x from to a b e. null_case c.args.moment.now.world.h.now s.classes (λ x. None ≡ refused c.args.moment.now.world.h.now s (convert (cast_value c.args.moment.now.world.h.now s c.args.how.now x) c.args.c.now)) (off_cast c.args.moment.now.world.h.now s c.args.how.now Null c.args.c.now refl) c.args.v c.in-Null.is x a.means

pub returns-in-Pointer-clause-is : goal.returns-in-Pointer-clause-is
returns-in-Pointer-clause-is c = IfOk-weaker c.part_cast_converted.result (λ rule. (s : Objects) (p : ObjectPart) (from to : ClassId) → IsReadyPart c.args.moment.now.world.h.now c.args.moment.now.heap.now s c.in-Pointer.n p from → Casts c.args.moment.now.world.h.now from c.args.how.now to → rule ≡ refused c.args.moment.now.world.h.now s (convert (cast_value c.args.moment.now.world.h.now s c.args.how.now (Pointer p)) c.args.c.now)) (CastRefuses c.args.moment.now.world.h.now c.args.moment.now.heap.now c.args.v c.args.how.now c.args.c.now) (λ rule told s x from to a b e. pointer_case c.args.moment.now.world.h.now s.classes (λ x. MeansValueOf c.args.moment.now.world.h.now c.args.moment.now.heap.now s c.args.v x from → names (is_unready s) x ≡ false → rule ≡ refused c.args.moment.now.world.h.now s (convert (cast_value c.args.moment.now.world.h.now s c.args.how.now x) c.args.c.now)) c.in-Pointer.n
    (λ p q a e. told s p from to (ready_part c.args.moment.now.world.h.now c.args.moment.now.heap.now s c.args.v c.in-Pointer.n p from a q e) b) c.args.v c.in-Pointer.is x a.means a e) c.part_cast_converted.ensures.is
