use Rattle.std.proofs.Common.{◌≡◌, ◌∙◌, false, Some, None, List, refl, ap, sym, subst}
use Rattle.std.proofs.lemmas.Result.{IfOk-weaker}
use Rattle.cxx_program.specs.declared.statement.PassedMember.{PassedMember}
use Rattle.path_model.specs.Typed.{IsPath}
use Rattle.path_model.specs.Order.{asked_members}
use Rattle.path_model.specs.Uses.{uses_of_view, is_shared}
use Rattle.path_model.specs.Values.{Unset, Number, Null, Pointer}
use Rattle.path_model.specs.Rules.{refused, names, is_unready}
use Rattle.path_refusals.specs.invariants.Pieces.{MeansValueOf, OpenRefuses, ReadyRefuses, path_asked}
use Rattle.path_refusals.proofs.Reading.{unset_case, null_case, number_case, pointer_case}
use Rattle.path_refusals.proofs.Paths.{off_path, members_first, members_then, ready_part}
use Rattle.path_refusals.proofs.places.path.Goals as goal

pub returns-in-Unset-clause-is : goal.returns-in-Unset-clause-is
returns-in-Unset-clause-is c = λ way s x a e. unset_case c.args.moment.now.world.h.now s.classes (λ x. None ≡ refused c.args.moment.now.world.h.now s (path_asked c.args.place.now x)) (off_path c.args.moment.now.world.h.now s Unset c.args.place.now refl) c.args.v c.in-Unset.is x a.means

pub returns-in-Number-clause-is : goal.returns-in-Number-clause-is
returns-in-Number-clause-is c = λ way s x a e. number_case c.args.moment.now.world.h.now s.classes (λ x. None ≡ refused c.args.moment.now.world.h.now s (path_asked c.args.place.now x)) (λ z. off_path c.args.moment.now.world.h.now s (Number z) c.args.place.now refl) c.args.v c.in-Number.field-0 c.in-Number.is x a.means

pub returns-in-Null-clause-is : goal.returns-in-Null-clause-is
returns-in-Null-clause-is c = λ way s x a e. null_case c.args.moment.now.world.h.now s.classes (λ x. None ≡ refused c.args.moment.now.world.h.now s (path_asked c.args.place.now x)) (off_path c.args.moment.now.world.h.now s Null c.args.place.now refl) c.args.v c.in-Null.is x a.means

pub returns-in-Some-clause-is : goal.returns-in-Some-clause-is
returns-in-Some-clause-is c = λ way s x a e. pointer_case c.args.moment.now.world.h.now s.classes (λ x. MeansValueOf c.args.moment.now.world.h.now c.args.moment.now.heap.now s c.args.v x c.args.place.now.class → names (is_unready s) x ≡ false → Some c.in-Some.rule ≡ refused c.args.moment.now.world.h.now s (path_asked c.args.place.now x)) c.in-Pointer.n
    (λ p q a e. members_first c.args.moment.now.world.h.now s p c.args.place.now c.in-Some.rule
    (c.in-Some.ensures s p c.args.place.now.class c.args.place.now.base (ready_part c.args.moment.now.world.h.now c.args.moment.now.heap.now s c.args.v c.in-Pointer.n p c.args.place.now.class a q e) (subst (λ (xs : List PassedMember). IsPath c.args.moment.now.world.h.now c.args.place.now.class xs c.args.place.now.base) (sym c.as_slice.ensures) way)
    ∙ ap (λ xs. refused c.args.moment.now.world.h.now s (asked_members p xs)) c.as_slice.ensures)) c.args.v c.in-Pointer.is x a.means a e

pub returns-in-None-clause-is : goal.returns-in-None-clause-is
returns-in-None-clause-is c = λ way. IfOk-weaker c.view.result (ReadyRefuses c.args.moment.now.world.h.now c.args.moment.now.heap.now c.in-Pointer.n (λ p. uses_of_view c.is_shared.result (Pointer p))) (OpenRefuses c.args.moment.now.world.h.now c.args.moment.now.heap.now c.args.v c.args.place.now.class (path_asked c.args.place.now)) (λ rule told s x a e. pointer_case c.args.moment.now.world.h.now s.classes (λ x. MeansValueOf c.args.moment.now.world.h.now c.args.moment.now.heap.now s c.args.v x c.args.place.now.class → names (is_unready s) x ≡ false → rule ≡ refused c.args.moment.now.world.h.now s (path_asked c.args.place.now x)) c.in-Pointer.n
    (λ p q a e. members_then c.args.moment.now.world.h.now s p c.args.place.now rule
    (c.in-None.ensures s p c.args.place.now.class c.args.place.now.base (ready_part c.args.moment.now.world.h.now c.args.moment.now.heap.now s c.args.v c.in-Pointer.n p c.args.place.now.class a q e) (subst (λ (xs : List PassedMember). IsPath c.args.moment.now.world.h.now c.args.place.now.class xs c.args.place.now.base) (sym c.as_slice.ensures) way)
    ∙ ap (λ xs. refused c.args.moment.now.world.h.now s (asked_members p xs)) c.as_slice.ensures)
    (told s p a.heap_stands q e ∙ ap (λ b. refused c.args.moment.now.world.h.now s (uses_of_view b (Pointer p))) (c.is_shared.ensures ∙ ap is_shared c.first_base.ensures))) c.args.v c.in-Pointer.is x a.means a e) c.view.ensures.is
