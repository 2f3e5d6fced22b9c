use Rattle.std.proofs.Common.{List, arith, refl, sym, subst, inl, inr}
use Rattle.abi_sound.specs.declared.class_layout.ClassLayout.{ClassLayout}
use Rattle.abi_judge.specs.Rules.{MayBeJudged}
use Rattle.abi_print.specs.LayoutTexts.{proper}
use Rattle.abi_foreign.specs.declared.listing_stop.ListingStop.TheVariants.{NoMemory}
use Rattle.abi_foreign.specs.declared.said.ClassSaid.{ClassSaid}
use Rattle.abi_foreign.specs.Listings.{IsForeign}
use Rattle.abi_foreign.specs.invariants.Said.{AreSaid}
use Rattle.abi_foreign.specs.invariants.Judged.{IsJudged}
use Rattle.abi_foreign.proofs.Found.{err_ok, err_stop}
use Rattle.abi_foreign.proofs.Checks.{none_good, next_of, good_of, layout_of, refused_of}
use Rattle.abi_foreign.proofs.check.check_listing.Goals as goal

pub returns-in_err-read-clause-ok : goal.returns-in_err-read-clause-ok
returns-in_err-read-clause-ok c = err_ok _ _ c.from_residual.result c.from_residual.ensures.1

pub returns-in_err-read-clause-err : goal.returns-in_err-read-clause-err
returns-in_err-read-clause-err c = err_stop _ c.from_residual.result c.in_err-read.field-0.0 c.from_residual.ensures.1 c.in_err-read.ensures.err

pub rows_of-requires-clause-count : goal.rows_of-requires-clause-count
rows_of-requires-clause-count c =
    let all : AreSaid c.args.h.now c.args.listing.now c.as_slice-saids.result.now = subst (λ (saids : List ClassSaid). AreSaid c.args.h.now c.args.listing.now saids) (sym c.as_slice-saids.ensures) c.in_ok-read.ensures.ok in
    all.count

pub rows_of-requires-clause-members : goal.rows_of-requires-clause-members
rows_of-requires-clause-members c =
    let all : AreSaid c.args.h.now c.args.listing.now c.as_slice-saids.result.now = subst (λ (saids : List ClassSaid). AreSaid c.args.h.now c.args.listing.now saids) (sym c.as_slice-saids.ensures) c.in_ok-read.ensures.ok in
    λ k said e. (all.each k said e).members

pub returns-in_err-rows-clause-ok : goal.returns-in_err-rows-clause-ok
returns-in_err-rows-clause-ok c = err_ok _ _ c.from_residual-in_err-rows.result c.from_residual-in_err-rows.ensures.1

pub returns-in_err-rows-clause-err : goal.returns-in_err-rows-clause-err
returns-in_err-rows-clause-err c = err_stop _ c.from_residual-in_err-rows.result NoMemory c.from_residual-in_err-rows.ensures.1 (inl refl)

pub loop-n-init : goal.loop-n-init
loop-n-init c = none_good c.args.h.now c.in_ok-rows.rows.items c.as_slice-saids.result.now

pub said_of-said-requires : goal.said_of-said-requires
said_of-said-requires c =
    let all : AreSaid c.args.h.now c.args.listing.now c.as_slice-saids.result.now = subst (λ (saids : List ClassSaid). AreSaid c.args.h.now c.args.listing.now saids) (sym c.as_slice-saids.ensures) c.in_ok-read.ensures.ok in
    let lt = c.loop-n-test.true in
    let len = c.len-n-end.ensures in
    let count = all.count in
    omega (arith, lt, len, count)

pub fault_of-requires-clause-next : goal.fault_of-requires-clause-next
fault_of-requires-clause-next c =
    let all : AreSaid c.args.h.now c.args.listing.now c.as_slice-saids.result.now = subst (λ (saids : List ClassSaid). AreSaid c.args.h.now c.args.listing.now saids) (sym c.as_slice-saids.ensures) c.in_ok-read.ensures.ok in
    let lt = c.loop-n-test.true in
    let len = c.len-n-end.ensures in
    subst (λ (r : List ClassLayout). MayBeJudged c.args.h.now r (record { 0 = c.loop-n.n })) (sym c.deref.ensures.value) (next_of c.args.h.now c.keeps.ensures c.args.listing.now c.as_slice-saids.result.now all c.in_ok-rows.rows.items c.in_ok-rows.ensures c.loop-n.n (omega (arith, lt, len)) c.loop-n.invariant)

pub fault_of-requires-clause-each : goal.fault_of-requires-clause-each
fault_of-requires-clause-each c =
    let all : AreSaid c.args.h.now c.args.listing.now c.as_slice-saids.result.now = subst (λ (saids : List ClassSaid). AreSaid c.args.h.now c.args.listing.now saids) (sym c.as_slice-saids.ensures) c.in_ok-read.ensures.ok in
    (all.each (record { 0 = c.loop-n.n }) c.said_of-said.result.now c.said_of-said.ensures).each

pub returns-in_err-fault-clause-ok : goal.returns-in_err-fault-clause-ok
returns-in_err-fault-clause-ok c = err_ok _ _ c.from_residual-in_err-fault.result c.from_residual-in_err-fault.ensures.1

pub returns-in_err-fault-clause-err : goal.returns-in_err-fault-clause-err
returns-in_err-fault-clause-err c = err_stop _ c.from_residual-in_err-fault.result NoMemory c.from_residual-in_err-fault.ensures.1 (inl refl)

pub returns-in-Some-clause-err : goal.returns-in-Some-clause-err
returns-in-Some-clause-err c =
    let all : AreSaid c.args.h.now c.args.listing.now c.as_slice-saids.result.now = subst (λ (saids : List ClassSaid). AreSaid c.args.h.now c.args.listing.now saids) (sym c.as_slice-saids.ensures) c.in_ok-read.ensures.ok in
    let lt = c.loop-n-test.true in
    let len = c.len-n-end.ensures in
    let judged = subst (λ (r : List ClassLayout). IsJudged c.args.h.now r (record { 0 = c.loop-n.n }) (proper c.said_of-said.result.now.list) c.said_of-said.result.now.places c.in_ok-fault.fault) c.deref.ensures.value c.in_ok-fault.ensures in
    inr (refused_of c.args.h.now c.keeps.ensures c.args.listing.now c.as_slice-saids.result.now all c.in_ok-rows.rows.items c.in_ok-rows.ensures c.loop-n.n c.said_of-said.result.now c.in_ok-fault.fault c.in-Some.rule (omega (arith, lt, len)) c.said_of-said.ensures c.loop-n.invariant judged c.in-Some.is)

pub loop-n-preserved : goal.loop-n-preserved
loop-n-preserved c =
    let all : AreSaid c.args.h.now c.args.listing.now c.as_slice-saids.result.now = subst (λ (saids : List ClassSaid). AreSaid c.args.h.now c.args.listing.now saids) (sym c.as_slice-saids.ensures) c.in_ok-read.ensures.ok in
    let judged = subst (λ (r : List ClassLayout). IsJudged c.args.h.now r (record { 0 = c.loop-n.n }) (proper c.said_of-said.result.now.list) c.said_of-said.result.now.places c.in_ok-fault.fault) c.deref.ensures.value c.in_ok-fault.ensures in
    good_of c.args.h.now c.keeps.ensures c.args.listing.now c.as_slice-saids.result.now all c.in_ok-rows.rows.items c.in_ok-rows.ensures c.loop-n.n c.said_of-said.result.now c.in_ok-fault.fault c.said_of-said.ensures c.loop-n.invariant judged c.in-None.is

pub returns-clause-ok : goal.returns-clause-ok
returns-clause-ok c =
    let all : AreSaid c.args.h.now c.args.listing.now c.as_slice-saids.result.now = subst (λ (saids : List ClassSaid). AreSaid c.args.h.now c.args.listing.now saids) (sym c.as_slice-saids.ensures) c.in_ok-read.ensures.ok in
    let past = c.loop-n-test.false in
    let within = c.loop-n.auto.n-end in
    let len = c.len-n-end.ensures in
    subst (λ (rows : List ClassLayout). IsForeign c.args.h.now c.args.listing.now rows) (sym c.from_rows.ensures) (layout_of c.args.h.now c.keeps.ensures c.args.listing.now c.as_slice-saids.result.now all c.in_ok-rows.rows.items c.in_ok-rows.ensures c.loop-n.n (omega (arith, past, len)) (omega (arith, within, len)) c.loop-n.invariant)
