-- The first member or function of the name in the subobject's class, or none.
use Rattle.std.proofs.Common.{sym}
use Rattle.cxx_lookup.proofs.Named.{member_here, function_here, declared_nowhere}
use Rattle.cxx_lookup.proofs.declarations.declaration.Goals as goal

pub returns-in-Some-first_member : goal.returns-in-Some-first_member
returns-in-Some-first_member c =
    member_here c.args.h.now c.args.s.now c.in_ok-place.place c.in-Some.class c.class-record.result.now c.as_slice.result.now c.args.name.now c.in-Some-first_member.number c.in_ok-place.ensures (sym c.in-Some.ensures) c.class-record.ensures
    c.as_slice.ensures (sym c.in-Some-first_member.ensures)

pub returns-in-Some-first_function : goal.returns-in-Some-first_function
returns-in-Some-first_function c =
    function_here c.args.h.now c.args.s.now c.in_ok-place-2.place c.in-Some.class c.class-record.result.now c.as_slice-2.result.now c.args.name.now c.in-Some-first_function.number c.in_ok-place-2.ensures (sym c.in-Some.ensures) c.class-record.ensures
    c.as_slice-2.ensures (sym c.in-Some-first_function.ensures)

pub returns : goal.returns
returns c =
    declared_nowhere c.args.h.now c.args.s.now c.in-Some.class c.class-record.result.now c.as_slice.result.now c.as_slice-2.result.now c.args.name.now (sym c.in-Some.ensures) c.class-record.ensures
    c.as_slice.ensures (sym c.in_default-first_member.ensures) c.as_slice-2.ensures (sym c.in_default-first_function.ensures)
