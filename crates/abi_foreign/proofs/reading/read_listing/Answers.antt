use Rattle.std.proofs.Common.{◌≡◌, ◌+◌, ℕ, List, length, arith, refl, sym, ap, subst, inl, inr}
use Rattle.std.specs.Bool.{◌==◌}
use Rattle.std.proofs.lemmas.Bool.{eqb-true}
use Rattle.std.proofs.lemmas.List.{nil_from_length}
use Rattle.foundation.proofs.Truth.{not_both}
use Rattle.abi_foreign.specs.declared.listing_stop.ListingStop.{ListingStop}
use Rattle.abi_foreign.specs.Refusals.{IsRefused}
use Rattle.abi_foreign.specs.declared.listing_stop.ListingStop.TheVariants.{NoMemory}
use Rattle.abi_foreign.specs.declared.said.ClassSaid.{ClassSaid}
use Rattle.abi_foreign.specs.invariants.Said.{AreSaidTo}
use Rattle.abi_foreign.proofs.Found.{err_ok, err_stop}
use Rattle.abi_foreign.proofs.ListingReads.{none_said, one_class_more, class_stops, too_many_lines, all_said, class_room}
use Rattle.abi_foreign.proofs.reading.read_listing.Goals as goal

pub loop-n-init : goal.loop-n-init
loop-n-init c = subst (λ (saids : List ClassSaid). AreSaidTo c.args.h.now c.args.text.now 0 saids c.args.text.now 1) (sym c.new-saids.ensures) (none_said c.args.h.now c.args.text.now 1 refl)

pub read_class-requires-clause-room : goal.read_class-requires-clause-room
read_class-requires-clause-room c = class_room c.args.h.now c.args.text.now c.loop-n.n c.loop-n.saids c.loop-n.cursor.rest.now c.loop-n.cursor.line c.requires c.loop-n.invariant

pub returns-in_err-said-clause-ok : goal.returns-in_err-said-clause-ok
returns-in_err-said-clause-ok c = err_ok _ _ c.from_residual.result c.from_residual.ensures.1

pub returns-in_err-said-clause-err : goal.returns-in_err-said-clause-err
returns-in_err-said-clause-err c =
    err_stop _ c.from_residual.result c.in_err-said.field-0.0 c.from_residual.ensures.1
    (class_stops c.args.h.now c.args.text.now c.loop-n.n c.loop-n.saids c.loop-n.cursor.rest.now c.loop-n.cursor.line c.in_err-said.field-0.0 (let lt = c.loop-n-test.true in let len = c.len-n-end.ensures in omega (arith, lt, len)) c.loop-n.invariant c.in_err-said.ensures.err)

pub returns-in_err-push-clause-ok : goal.returns-in_err-push-clause-ok
returns-in_err-push-clause-ok c = err_ok _ _ c.from_residual-in_err-push.result c.from_residual-in_err-push.ensures.1

pub returns-in_err-push-clause-err : goal.returns-in_err-push-clause-err
returns-in_err-push-clause-err c = err_stop _ c.from_residual-in_err-push.result NoMemory c.from_residual-in_err-push.ensures.1 (inl refl)

pub loop-n-preserved : goal.loop-n-preserved
loop-n-preserved c =
    subst (λ (saids : List ClassSaid). AreSaidTo c.args.h.now c.args.text.now (c.loop-n.n + 1) saids c.in_ok-said.after.rest.now c.in_ok-said.after.line) (sym c.in_ok-push.ensures.ok)
    (one_class_more c.args.h.now c.args.text.now c.loop-n.n c.loop-n.saids c.loop-n.cursor.rest.now c.in_ok-said.after.rest.now c.loop-n.cursor.line c.in_ok-said.after.line c.in_ok-said.said c.loop-n.invariant c.in_ok-said.ensures.said c.in_ok-said.ensures.lines c.in_ok-said.ensures.number)

pub returns-then-not-is_empty-clause-err : goal.returns-then-not-is_empty-clause-err
returns-then-not-is_empty-clause-err c =
    let past = c.loop-n-test.false in
    let within = c.loop-n.auto.n-end in
    let len = c.len-n-end.ensures in
    let is : c.loop-n.n ≡ length c.args.h.now = omega (arith, past, within, len) in
    let all : AreSaidTo c.args.h.now c.args.text.now (length c.args.h.now) c.loop-n.saids c.loop-n.cursor.rest.now c.loop-n.cursor.line =
    subst (λ (n : ℕ). AreSaidTo c.args.h.now c.args.text.now n c.loop-n.saids c.loop-n.cursor.rest.now c.loop-n.cursor.line) is c.loop-n.invariant in
    inr (subst (λ (stop : ListingStop). IsRefused c.args.h.now c.args.text.now stop) (sym c.refused.ensures)
    (too_many_lines c.args.h.now c.args.text.now c.loop-n.saids c.loop-n.cursor.rest.now c.loop-n.cursor.line all (λ e. not_both (ap (λ (l : List ℕ). length l == 0) e) (sym c.if-not-is_empty.ensures))))

pub returns-clause-ok : goal.returns-clause-ok
returns-clause-ok c =
    let past = c.loop-n-test.false in
    let within = c.loop-n.auto.n-end in
    let len = c.len-n-end.ensures in
    let is : c.loop-n.n ≡ length c.args.h.now = omega (arith, past, within, len) in
    let all : AreSaidTo c.args.h.now c.args.text.now (length c.args.h.now) c.loop-n.saids c.loop-n.cursor.rest.now c.loop-n.cursor.line =
    subst (λ (n : ℕ). AreSaidTo c.args.h.now c.args.text.now n c.loop-n.saids c.loop-n.cursor.rest.now c.loop-n.cursor.line) is c.loop-n.invariant in
    all_said c.args.h.now c.args.text.now c.loop-n.saids c.loop-n.cursor.rest.now c.loop-n.cursor.line all (nil_from_length c.loop-n.cursor.rest.now (eqb-true (length c.loop-n.cursor.rest.now) 0 (sym c.if-not-is_empty.ensures)))
