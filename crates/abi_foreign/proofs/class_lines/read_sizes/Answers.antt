use Rattle.std.proofs.Common.{◌∙◌, List, ℕ, [], ◌∷◌, subst, sym}
use Rattle.abi_foreign.specs.declared.listing_stop.ListingStop.{ListingStop}
use Rattle.abi_foreign.specs.declared.listing_stop.ListingStop.TheVariants.{NoMemory}
use Rattle.abi_foreign.specs.Lines.{sizes_line}
use Rattle.abi_foreign.specs.invariants.Reading.{StopsReading, no_memory}
use Rattle.abi_foreign.specs.invariants.Said.{AreSizes, AreSizesRead, HasNoSizes}
use Rattle.abi_foreign.proofs.Found.{err_ok, err_stop}
use Rattle.abi_foreign.proofs.ReadLines.{stops_here}
use Rattle.abi_foreign.proofs.LineReads.{sizes_read, no_sizes_line}
use Rattle.abi_foreign.proofs.ClassReads.{room_next}
use Rattle.abi_foreign.proofs.class_lines.read_sizes.Goals as goal

pub returns-in_err-head-clause-ok : goal.returns-in_err-head-clause-ok
returns-in_err-head-clause-ok c = err_ok _ _ c.from_residual.result c.from_residual.ensures.1

pub returns-in_err-head-clause-err : goal.returns-in_err-head-clause-err
returns-in_err-head-clause-err c = err_stop _ c.from_residual.result NoMemory c.from_residual.ensures.1 no_memory

pub next-requires : goal.next-requires
next-requires c =
    let read = sizes_read c.args.h.now c.args.c c.args.start.rest.now c.in-Some.sizes c.in-Some.rest.now (subst (λ (t : List ℕ). AreSizes c.args.start.rest.now t c.in-Some.sizes c.in-Some.rest.now) (c.deref.ensures.value ∙ c.in_ok-head.ensures) c.in-Some.ensures) in
    room_next c.args.h.now (sizes_line c.args.c) c.args.start.rest.now c.in-Some.rest.now c.args.start.line c.requires read.line

pub returns-in-Some-clause-ok : goal.returns-in-Some-clause-ok
returns-in-Some-clause-ok c =
    let read = sizes_read c.args.h.now c.args.c c.args.start.rest.now c.in-Some.sizes c.in-Some.rest.now (subst (λ (t : List ℕ). AreSizes c.args.start.rest.now t c.in-Some.sizes c.in-Some.rest.now) (c.deref.ensures.value ∙ c.in_ok-head.ensures) c.in-Some.ensures) in
    (subst (λ (r : List ℕ). AreSizesRead c.args.h.now c.args.c c.args.start.rest.now c.in-Some.sizes r) (sym c.next.ensures.rest) read, c.next.ensures.line)

pub returns-clause-err : goal.returns-clause-err
returns-clause-err c =
    let none = no_sizes_line c.args.h.now c.args.c c.args.start.rest.now (subst (λ (t : List ℕ). HasNoSizes c.args.start.rest.now t) (c.deref.ensures.value ∙ c.in_ok-head.ensures) c.in-None.ensures) in
    subst (λ (stop : ListingStop). StopsReading c.args.h.now (sizes_line c.args.c ∷ []) c.args.start.rest.now c.args.start.line stop) (sym c.refused.ensures)
    (stops_here c.args.h.now (sizes_line c.args.c) c.args.start.rest.now c.args.start.line none)
