use Rattle.std.proofs.Common.{List, ℕ, [], ◌∷◌, subst, sym}
use Rattle.abi_foreign.specs.declared.listing_stop.ListingStop.{ListingStop}
use Rattle.abi_foreign.specs.Lines.{primary_line}
use Rattle.abi_foreign.specs.invariants.Reading.{StopsReading}
use Rattle.abi_foreign.specs.invariants.Said.{IsPrimaryRead}
use Rattle.abi_foreign.proofs.ReadLines.{stops_here}
use Rattle.abi_foreign.proofs.ClassReads.{room_next}
use Rattle.abi_foreign.proofs.class_lines.read_primary.Goals as goal

pub next-requires : goal.next-requires
next-requires c = room_next c.args.h.now primary_line c.args.start.rest.now c.in-Some.rest.now c.args.start.line c.requires c.in-Some.ensures.line

pub returns-in-Some-clause-ok : goal.returns-in-Some-clause-ok
returns-in-Some-clause-ok c = (subst (λ (r : List ℕ). IsPrimaryRead c.args.h.now c.args.start.rest.now c.in-Some.primary r) (sym c.next.ensures.rest) c.in-Some.ensures, c.next.ensures.line)

pub returns-in-None-clause-err : goal.returns-in-None-clause-err
returns-in-None-clause-err c =
    subst (λ (stop : ListingStop). StopsReading c.args.h.now (primary_line ∷ []) c.args.start.rest.now c.args.start.line stop) (sym c.refused.ensures)
    (stops_here c.args.h.now primary_line c.args.start.rest.now c.args.start.line c.in-None.ensures)
