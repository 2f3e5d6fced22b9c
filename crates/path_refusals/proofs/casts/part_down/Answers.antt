use Rattle.path_refusals.proofs.Reading.{begun_of}
use Rattle.path_refusals.proofs.Casting.{down_unset, down_found, not_number, not_null}
use Rattle.path_refusals.proofs.casts.part_down.Goals as goal

pub returns-in-Unset-clause-is : goal.returns-in-Unset-clause-is
returns-in-Unset-clause-is c = λ s p stands q e. down_unset c.args.moment.now.world.h.now s p c.args.target c.args.i.now c.in_ok-down.field-0 c.in-Unset.is (c.in_ok-down.ensures.is s p (record { heap_stands = stands; points = q; begun = begun_of s p e }))

pub returns-in-Number-clause-is : goal.returns-in-Number-clause-is
returns-in-Number-clause-is c = λ s p stands q e. absurd (not_number c.args.moment.now.world.h.now s p c.args.target c.args.i.now c.in_ok-down.field-0 c.in-Number.field-0 c.in-Number.is (c.in_ok-down.ensures.is s p (record { heap_stands = stands; points = q; begun = begun_of s p e })))

pub returns-in-Null-clause-is : goal.returns-in-Null-clause-is
returns-in-Null-clause-is c = λ s p stands q e. absurd (not_null c.args.moment.now.world.h.now s p c.args.target c.args.i.now c.in_ok-down.field-0 c.in-Null.is (c.in_ok-down.ensures.is s p (record { heap_stands = stands; points = q; begun = begun_of s p e })))

pub returns-in-Pointer-clause-is : goal.returns-in-Pointer-clause-is
returns-in-Pointer-clause-is c = λ s p stands q e. down_found c.args.moment.now.world.h.now s p c.args.target c.args.i.now c.in_ok-down.field-0 c.in-Pointer.field-0 c.in-Pointer.is (c.in_ok-down.ensures.is s p (record { heap_stands = stands; points = q; begun = begun_of s p e }))
