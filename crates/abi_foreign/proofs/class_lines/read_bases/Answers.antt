use Rattle.std.proofs.Common.{◌∙◌, ℕ, List, [], arith, refl, sym, subst}
use Rattle.std.proofs.lemmas.List.{take_all}
use Rattle.cxx_subobject.specs.declared.Subobject.{Subobject}
use Rattle.abi_foreign.specs.declared.listing_stop.ListingStop.TheVariants.{NoMemory}
use Rattle.abi_foreign.specs.invariants.Pieces.{IsApart}
use Rattle.abi_foreign.specs.invariants.Reading.{no_memory}
use Rattle.abi_foreign.specs.invariants.Said.{AreBasesRead}
use Rattle.abi_foreign.proofs.Found.{err_ok, err_stop}
use Rattle.abi_foreign.proofs.ClassReads.{no_bases, base_room, bases_step, base_stops}
use Rattle.abi_foreign.proofs.class_lines.read_bases.Goals as goal

pub loop-s-init : goal.loop-s-init
loop-s-init c = (subst (λ (places : List ℕ). AreBasesRead c.args.h.now [] c.args.start.rest.now places c.args.start.rest.now) (sym c.new-places.ensures) (no_bases c.args.h.now c.args.start.rest.now), omega arith)

pub returns-in_err-tail-clause-ok : goal.returns-in_err-tail-clause-ok
returns-in_err-tail-clause-ok c = err_ok _ _ c.from_residual.result c.from_residual.ensures.1

pub returns-in_err-tail-clause-err : goal.returns-in_err-tail-clause-err
returns-in_err-tail-clause-err c = err_stop _ c.from_residual.result NoMemory c.from_residual.ensures.1 no_memory

pub number_before-requires : goal.number_before-requires
number_before-requires c = subst (λ (t : List ℕ). IsApart t) (sym (c.deref.ensures.value ∙ c.in_ok-tail.ensures)) refl

pub returns-in_err-push-in-Some-clause-ok : goal.returns-in_err-push-in-Some-clause-ok
returns-in_err-push-in-Some-clause-ok c = err_ok _ _ c.from_residual-in_err-push-in-Some.result c.from_residual-in_err-push-in-Some.ensures.1

pub returns-in_err-push-in-Some-clause-err : goal.returns-in_err-push-in-Some-clause-err
returns-in_err-push-in-Some-clause-err c = err_stop _ c.from_residual-in_err-push-in-Some.result NoMemory c.from_residual-in_err-push-in-Some.ensures.1 no_memory

pub next-cursor-requires : goal.next-cursor-requires
next-cursor-requires c = base_room c.args.h.now c.args.list.now c.loop-s.s-index c.args.start.rest.now c.loop-s.places c.loop-s.cursor.rest.now c.args.start.line c.loop-s.cursor.line c.loop-s.invariant.0 c.loop-s.invariant.1 c.s-item.result c.loop-s-test.true c.s-item.is c.deref.result.now (c.deref.ensures.value ∙ c.in_ok-tail.ensures) c.in-Some.place c.in-Some.rest.now c.requires c.in-Some.ensures

pub returns-in-None-clause-err : goal.returns-in-None-clause-err
returns-in-None-clause-err c = base_stops c.args.h.now c.args.list.now c.loop-s.s-index c.args.start.rest.now c.loop-s.places c.loop-s.cursor.rest.now c.args.start.line c.loop-s.cursor.line c.loop-s.invariant.0 c.loop-s.invariant.1 c.s-item.result c.loop-s-test.true c.s-item.is c.deref.result.now (c.deref.ensures.value ∙ c.in_ok-tail.ensures) c.refused.result c.in-None.ensures c.refused.ensures

pub loop-s-preserved : goal.loop-s-preserved
loop-s-preserved c = (
  bases_step c.args.h.now c.args.list.now c.loop-s.s-index c.args.start.rest.now c.loop-s.places c.loop-s.cursor.rest.now c.args.start.line c.loop-s.cursor.line c.loop-s.invariant.0 c.loop-s.invariant.1 c.s-item.result c.loop-s-test.true c.s-item.is c.deref.result.now (c.deref.ensures.value ∙ c.in_ok-tail.ensures) c.in-Some.place c.in-Some.rest.now c.push.new.self c.next-cursor.result.rest.now c.in-Some.ensures c.in_ok-push-in-Some.ensures.ok c.next-cursor.ensures.rest,
  let next = c.next-cursor.ensures.line in
      let before = c.loop-s.invariant.1 in
      omega (arith, next, before),
)

pub returns-clause-ok : goal.returns-clause-ok
returns-clause-ok c =
    let past = c.loop-s-test.false in
    let within = c.loop-s.auto.s-index-end in
    let line = c.loop-s.invariant.1 in (
      subst (λ (l : List Subobject). AreBasesRead c.args.h.now l c.args.start.rest.now c.loop-s.places c.loop-s.cursor.rest.now) (take_all c.loop-s.s-index c.args.list.now (omega (arith, past, within))) c.loop-s.invariant.0,
      omega (arith, past, within, line),
    )
