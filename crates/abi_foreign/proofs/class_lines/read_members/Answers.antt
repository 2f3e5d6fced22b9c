use Rattle.std.proofs.Common.{List, [], arith, sym, subst}
use Rattle.std.proofs.lemmas.List.{take_all}
use Rattle.cxx_hierarchy.specs.declared.records.ClassId.{ClassId}
use Rattle.cxx_hierarchy.specs.declared.records.Member.{Member}
use Rattle.abi_foreign.specs.declared.listing_stop.ListingStop.TheVariants.{NoMemory}
use Rattle.abi_foreign.specs.declared.said.MemberPlace.{MemberPlace}
use Rattle.abi_foreign.specs.invariants.Reading.{no_memory}
use Rattle.abi_foreign.specs.invariants.Said.{AreMembersRead}
use Rattle.abi_foreign.proofs.Found.{err_ok, err_stop}
use Rattle.abi_foreign.proofs.ClassReads.{no_members, members_room, members_step, member_stops}
use Rattle.abi_foreign.proofs.class_lines.read_members.Goals as goal

pub loop-member-init : goal.loop-member-init
loop-member-init c = (subst (λ (places : List MemberPlace). AreMembersRead c.args.h.now [] c.args.start.rest.now places c.args.start.rest.now) (sym c.new-places.ensures) (no_members c.args.h.now c.args.start.rest.now), omega arith)

pub read_member-requires : goal.read_member-requires
read_member-requires c = members_room c.args.h.now c.args.members.now c.loop-member.member-index c.args.start.rest.now c.loop-member.places c.loop-member.cursor.rest.now c.args.start.line c.loop-member.cursor.line c.loop-member.invariant.0 c.loop-member.invariant.1 c.loop-member.auto.member-index-end c.requires

pub returns-in_err-place-clause-ok : goal.returns-in_err-place-clause-ok
returns-in_err-place-clause-ok c = err_ok _ _ c.from_residual.result c.from_residual.ensures.1

pub returns-in_err-place-clause-err : goal.returns-in_err-place-clause-err
returns-in_err-place-clause-err c = err_stop _ c.from_residual.result c.in_err-place.field-0.0 c.from_residual.ensures.1 (member_stops c.args.h.now c.args.members.now c.loop-member.member-index c.args.start.rest.now c.loop-member.places c.loop-member.cursor.rest.now c.args.start.line c.loop-member.cursor.line c.loop-member.invariant.0 c.loop-member.invariant.1 c.member-item.result c.loop-member-test.true c.member-item.is c.in_err-place.field-0.0 c.in_err-place.ensures.err)

pub returns-in_err-push-clause-ok : goal.returns-in_err-push-clause-ok
returns-in_err-push-clause-ok c = err_ok _ _ c.from_residual-in_err-push.result c.from_residual-in_err-push.ensures.1

pub returns-in_err-push-clause-err : goal.returns-in_err-push-clause-err
returns-in_err-push-clause-err c = err_stop _ c.from_residual-in_err-push.result NoMemory c.from_residual-in_err-push.ensures.1 no_memory

pub loop-member-preserved : goal.loop-member-preserved
loop-member-preserved c = (
  members_step c.args.h.now c.args.members.now c.loop-member.member-index c.args.start.rest.now c.loop-member.places c.loop-member.cursor.rest.now c.args.start.line c.loop-member.cursor.line c.loop-member.invariant.0 c.loop-member.invariant.1 c.member-item.result c.loop-member-test.true c.member-item.is c.in_ok-place.place c.in_ok-place.after.rest.now c.push.new.self c.in_ok-place.ensures.ok.0 c.in_ok-push.ensures.ok,
  let next = c.in_ok-place.ensures.ok.1 in
      let before = c.loop-member.invariant.1 in
      omega (arith, next, before),
)

pub returns-clause-ok : goal.returns-clause-ok
returns-clause-ok c =
    let past = c.loop-member-test.false in
    let within = c.loop-member.auto.member-index-end in
    let line = c.loop-member.invariant.1 in (
      subst (λ (l : List (Member ClassId)). AreMembersRead c.args.h.now l c.args.start.rest.now c.loop-member.places c.loop-member.cursor.rest.now) (take_all c.loop-member.member-index c.args.members.now (omega (arith, past, within))) c.loop-member.invariant.0,
      omega (arith, past, within, line),
    )
