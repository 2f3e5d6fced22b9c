use Rattle.std.proofs.Common.{◌∙◌, List, ℕ, [], ◌∷◌, subst, sym}
use Rattle.abi_foreign.specs.declared.listing_stop.ListingStop.{ListingStop}
use Rattle.abi_foreign.specs.declared.listing_stop.ListingStop.TheVariants.{NoMemory}
use Rattle.abi_foreign.specs.Lines.{member_line}
use Rattle.abi_foreign.specs.invariants.Pieces.{IsApart}
use Rattle.abi_foreign.specs.invariants.Reading.{StopsReading, no_memory}
use Rattle.abi_foreign.specs.invariants.Said.{HasNoMember, IsMember, IsMemberRead}
use Rattle.abi_foreign.proofs.Found.{err_ok, err_stop}
use Rattle.abi_foreign.proofs.ReadLines.{stops_here}
use Rattle.abi_foreign.proofs.LineReads.{member_read, no_member_line, tail_apart}
use Rattle.abi_foreign.proofs.ClassReads.{room_next}
use Rattle.abi_foreign.proofs.class_lines.read_member.Goals as goal

pub returns-in_err-tail-clause-ok : goal.returns-in_err-tail-clause-ok
returns-in_err-tail-clause-ok c = err_ok _ _ c.from_residual.result c.from_residual.ensures.1

pub returns-in_err-tail-clause-err : goal.returns-in_err-tail-clause-err
returns-in_err-tail-clause-err c = err_stop _ c.from_residual.result NoMemory c.from_residual.ensures.1 no_memory

pub member_at-requires : goal.member_at-requires
member_at-requires c = subst (λ (t : List ℕ). IsApart t) (sym (c.deref.ensures.value ∙ c.in_ok-tail.ensures)) (tail_apart c.args.h.now c.args.member.now)

pub next-requires : goal.next-requires
next-requires c =
    let read = member_read c.args.h.now c.args.member.now c.args.start.rest.now c.in-Some.place c.in-Some.rest.now (subst (λ (t : List ℕ). IsMember c.args.member.now.width c.args.start.rest.now t c.in-Some.place c.in-Some.rest.now) (c.deref.ensures.value ∙ c.in_ok-tail.ensures) c.in-Some.ensures) in
    room_next c.args.h.now (member_line c.args.member.now) c.args.start.rest.now c.in-Some.rest.now c.args.start.line c.requires read.line

pub returns-in-Some-clause-ok : goal.returns-in-Some-clause-ok
returns-in-Some-clause-ok c =
    let read = member_read c.args.h.now c.args.member.now c.args.start.rest.now c.in-Some.place c.in-Some.rest.now (subst (λ (t : List ℕ). IsMember c.args.member.now.width c.args.start.rest.now t c.in-Some.place c.in-Some.rest.now) (c.deref.ensures.value ∙ c.in_ok-tail.ensures) c.in-Some.ensures) in
    (subst (λ (r : List ℕ). IsMemberRead c.args.h.now c.args.member.now c.args.start.rest.now c.in-Some.place r) (sym c.next.ensures.rest) read, c.next.ensures.line)

pub returns-clause-err : goal.returns-clause-err
returns-clause-err c =
    let none = no_member_line c.args.h.now c.args.member.now c.args.start.rest.now (subst (λ (t : List ℕ). HasNoMember c.args.member.now.width c.args.start.rest.now t) (c.deref.ensures.value ∙ c.in_ok-tail.ensures) c.in-None.ensures) in
    subst (λ (stop : ListingStop). StopsReading c.args.h.now (member_line c.args.member.now ∷ []) c.args.start.rest.now c.args.start.line stop) (sym c.refused.ensures)
    (stops_here c.args.h.now (member_line c.args.member.now) c.args.start.rest.now c.args.start.line none)
