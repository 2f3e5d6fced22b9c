-- One declaration after the other is compared with the best one so far.
use Rattle.std.proofs.Common.{◌≡◌, ◌+◌, ℕ, sym, subst, length, Option, arith}
use Rattle.cxx_lookup.specs.invariants.Searches.{found_at}
use Rattle.cxx_lookup.proofs.Highest.{IsOrder, IsBest, Tells, none_yet, skipped, taken, kept}
use Rattle.cxx_lookup.proofs.Listing.{not_both}
use Rattle.cxx_lookup.proofs.member_lookup.highest.Goals.{then-goes_over, else-goes_over}
use Rattle.cxx_lookup.proofs.member_lookup.highest.Goals as goal

pub loop-number-init : goal.loop-number-init
loop-number-init c = none_yet c.args.h.now (found_at c.args.list.now c.args.hider) c.args.list.now

pub loop-number-preserved-then-is_hidden : goal.loop-number-preserved-then-is_hidden
loop-number-preserved-then-is_hidden c =
    skipped c.args.h.now (found_at c.args.list.now c.args.hider) c.args.list.now c.loop-number.number c.index-list-number.result c.loop-number.best c.loop-number-test.true c.index-list-number.is (c.is_hidden.ensures.0 c.if-is_hidden.true) c.loop-number.invariant

pub goes_over-requires-clause-best : goal.goes_over-requires-clause-best
goes_over-requires-clause-best c = c.loop-number.invariant.place

pub loop-number-preserved : goal.loop-number-preserved
loop-number-preserved c =
    let h = c.args.h.now in
    let hider = found_at c.args.list.now c.args.hider in
    let list = c.args.list.now in
    let i = c.loop-number.number in
    let x = c.index-list-number.result in
    let order : IsOrder h = record { itself = c.containment_is_order.ensures.itself h; through = c.containment_is_order.ensures.through h; back = λ s t. c.containment_is_order.ensures.back h s t c.keeps.ensures } in
    let step : Option ℕ → Type 0 = λ best. IsBest h hider list (i + 1) best in
    elim c.if-goes_over.branch [
      | then-goes_over w ↦ subst step (sym w.best-is) (taken h order hider list i x c.loop-number.best c.loop-number-test.true c.index-list-number.is (λ hidden. not_both (c.is_hidden.ensures.1 hidden) c.if-is_hidden.false) (c.goes_over.ensures.0 w.if-goes_over.true) c.loop-number.invariant)
      | else-goes_over w ↦ subst step (sym w.best-is) (kept h hider list i x c.loop-number.best c.loop-number-test.true c.index-list-number.is (λ over. not_both (c.goes_over.ensures.1 over) w.if-goes_over.false) c.loop-number.invariant)
    ]

pub returns : goal.returns
returns c =
    let all : c.loop-number.number ≡ length c.args.list.now = omega arith in
    subst (λ (n : ℕ). Tells c.args.h.now (found_at c.args.list.now c.args.hider) c.args.list.now n c.loop-number.best) all c.loop-number.invariant.tells
