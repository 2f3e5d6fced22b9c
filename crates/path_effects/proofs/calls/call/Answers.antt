use Rattle.path_effects.proofs.Pointers.{names_at, call_ready}
use Rattle.path_effects.proofs.Telling.{where_ok}
use Rattle.path_effects.proofs.Meaning.{has_number}
use Rattle.path_model.specs.Uses.{receiver_value}
use Rattle.path_effects.proofs.Dispatch.{by_view, by_name}
use Rattle.path_effects.proofs.calls.call.Goals as goal

pub returns-then-call-clause-is : goal.returns-then-call-clause-is
returns-then-call-clause-is c = where_ok c.dispatched.result _ _ (λ found told e s f p scene seen is clear named.
    let h = c.args.world.now.h.now in
    let call = c.args.call.now in
    let r = call_ready h e s seen call f is _ clear in
    by_view h c.args.heap.now e s call f p c.in-Pointer.n is c.if-call.true scene.heap_stands
    (names_at h s.objects (receiver_value s call) call.function.class r.this p named c.in-Pointer.n (c.in-Pointer.ensures s scene r.goes r.reaches)) found (λ q. told s.objects q)) c.dispatched.ensures.is

pub returns-else-call-clause-is : goal.returns-else-call-clause-is
returns-else-call-clause-is c = λ e s f p scene seen is clear named.
    let h = c.args.world.now.h.now in
    let call = c.args.call.now in
    let r = call_ready h e s seen call f is _ clear in
    by_name h s call p c.in-Pointer.n c.if-call.false (names_at h s.objects (receiver_value s call) call.function.class r.this p named c.in-Pointer.n (c.in-Pointer.ensures s scene r.goes r.reaches))

pub returns-in_default : goal.returns-in_default
returns-in_default c = record {
  answers = c.requires.answers;
  is = λ e s f p scene seen is clear named.
      let h = c.args.world.now.h.now in
      let call = c.args.call.now in
      let r = call_ready h e s seen call f is _ clear in
      absurd (has_number h s.objects.classes c.receiver.result (receiver_value s call) p (c.receiver.ensures s scene r.goes r.reaches) named c.in_default.not-Pointer);
}
