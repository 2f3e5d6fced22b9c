use Rattle.std.proofs.Common.{◌≡◌, ◌+◌, ◌++◌, arith, None, Some, false, subst, refl}
use Rattle.std.proofs.lemmas.Result.{IfOk-weaker}
use Rattle.path_rules.specs.declared.Undefined.TheVariants.{NotReady}
use Rattle.path_model.specs.Values.{Unset, Number, Null, Pointer}
use Rattle.path_model.specs.Uses.{uses_of_view}
use Rattle.path_model.specs.Rules.{refused, names, is_unready}
use Rattle.path_model.specs.Order.{asked_covers, asked_covered}
use Rattle.path_refusals.specs.invariants.Pieces.{MeansValueOf, OpenRefuses, ReadyRefuses, TellsReadiness}
use Rattle.path_refusals.proofs.Reading.{unset_case, null_case, number_case, pointer_case}
use Rattle.path_refusals.proofs.Paths.{ready_part}
use Rattle.path_refusals.proofs.Covering.{off_covered, covered_stops, covered_on}
use Rattle.path_refusals.proofs.copies.covered.Goals as goal

pub returns-in-Unset-clause-is : goal.returns-in-Unset-clause-is
returns-in-Unset-clause-is c = λ s x a e. unset_case c.args.moment.now.world.h.now s.classes (λ x. None ≡ refused c.args.moment.now.world.h.now s (uses_of_view c.args.needed x ++ asked_covered c.args.moment.now.world.h.now c.args.c x)) (off_covered c.args.moment.now.world.h.now s c.args.needed Unset c.args.c refl) c.args.v c.in-Unset.is x a.means

pub returns-in-Number-clause-is : goal.returns-in-Number-clause-is
returns-in-Number-clause-is c = λ s x a e. number_case c.args.moment.now.world.h.now s.classes (λ x. None ≡ refused c.args.moment.now.world.h.now s (uses_of_view c.args.needed x ++ asked_covered c.args.moment.now.world.h.now c.args.c x)) (λ z. off_covered c.args.moment.now.world.h.now s c.args.needed (Number z) c.args.c refl) c.args.v c.in-Number.field-0 c.in-Number.is x a.means

pub returns-in-Null-clause-is : goal.returns-in-Null-clause-is
returns-in-Null-clause-is c = λ s x a e. null_case c.args.moment.now.world.h.now s.classes (λ x. None ≡ refused c.args.moment.now.world.h.now s (uses_of_view c.args.needed x ++ asked_covered c.args.moment.now.world.h.now c.args.c x)) (off_covered c.args.moment.now.world.h.now s c.args.needed Null c.args.c refl) c.args.v c.in-Null.is x a.means

pub returns-then-not-is_covered-clause-is : goal.returns-then-not-is_covered-clause-is
returns-then-not-is_covered-clause-is c = λ s x a e. pointer_case c.args.moment.now.world.h.now s.classes (λ x. MeansValueOf c.args.moment.now.world.h.now c.args.moment.now.heap.now s c.args.v x c.args.c → names (is_unready s) x ≡ false → Some NotReady ≡ refused c.args.moment.now.world.h.now s (uses_of_view c.args.needed x ++ asked_covered c.args.moment.now.world.h.now c.args.c x)) c.in-Pointer.n
    (λ p q a e. covered_stops c.args.moment.now.world.h.now s c.args.needed p c.args.c
    (subst (λ b. TellsReadiness c.args.moment.now.world.h.now s b (asked_covers c.args.moment.now.world.h.now (c.args.c.0 + 1) c.args.c p)) c.if-not-is_covered.true (c.is_covered.ensures s p (c.args.c.0 + 1) (ready_part c.args.moment.now.world.h.now c.args.moment.now.heap.now s c.args.v c.in-Pointer.n p c.args.c a q e) (omega arith)))) c.args.v c.in-Pointer.is x a.means a e

pub returns-else-not-is_covered-clause-is : goal.returns-else-not-is_covered-clause-is
returns-else-not-is_covered-clause-is c = IfOk-weaker c.view.result (ReadyRefuses c.args.moment.now.world.h.now c.args.moment.now.heap.now c.in-Pointer.n (λ p. uses_of_view c.args.needed (Pointer p))) (OpenRefuses c.args.moment.now.world.h.now c.args.moment.now.heap.now c.args.v c.args.c (λ x. uses_of_view c.args.needed x ++ asked_covered c.args.moment.now.world.h.now c.args.c x)) (λ rule told s x a e. pointer_case c.args.moment.now.world.h.now s.classes (λ x. MeansValueOf c.args.moment.now.world.h.now c.args.moment.now.heap.now s c.args.v x c.args.c → names (is_unready s) x ≡ false → rule ≡ refused c.args.moment.now.world.h.now s (uses_of_view c.args.needed x ++ asked_covered c.args.moment.now.world.h.now c.args.c x)) c.in-Pointer.n
    (λ p q a e. covered_on c.args.moment.now.world.h.now s c.args.needed p c.args.c rule
    (subst (λ b. TellsReadiness c.args.moment.now.world.h.now s b (asked_covers c.args.moment.now.world.h.now (c.args.c.0 + 1) c.args.c p)) c.if-not-is_covered.false (c.is_covered.ensures s p (c.args.c.0 + 1) (ready_part c.args.moment.now.world.h.now c.args.moment.now.heap.now s c.args.v c.in-Pointer.n p c.args.c a q e) (omega arith)))
    (told s p a.heap_stands q e)) c.args.v c.in-Pointer.is x a.means a e) c.view.ensures.is
