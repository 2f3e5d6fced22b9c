use Rattle.std.proofs.Common.{◌≡◌, ◌∙◌, ◌++◌, ◌∷◌, [], ℕ, List, length, arith, sym, ap}
use Rattle.foundation.proofs.Places.{get_read}
use Rattle.abi_primary.specs.declared.Primary.{Primary}
use Rattle.abi_sound.specs.declared.class_layout.ClassLayout.{ClassLayout}
use Rattle.abi_foreign.specs.Listings.{cut_row, cut_rows}
use Rattle.abi_foreign.specs.invariants.Rows.{primaries_of, exact_row, exact_rows}
use Rattle.abi_foreign.proofs.RowFacts.{cut_step}
use Rattle.abi_foreign.proofs.rows.rows_of.Goals as goal

pub row_of-requires-clause-members : goal.row_of-requires-clause-members
row_of-requires-clause-members c =
    let lt = c.loop-n-test.true in
    let len = c.len-n-end.ensures in
    let count = c.requires.count in
    c.requires.members (record { 0 = c.loop-n.n }) c.index-saids-n.result (get_read c.args.saids.now c.loop-n.n c.index-saids-n.result (omega (arith, lt, len, count)) c.index-saids-n.is)

pub loop-n-preserved : goal.loop-n-preserved
loop-n-preserved c =
    let lt = c.loop-n-test.true in
    let len = c.len-n-end.ensures in
    let count = c.requires.count in
    let there = get_read c.args.saids.now c.loop-n.n c.index-saids-n.result (omega (arith, lt, len, count)) c.index-saids-n.is in
    c.in_ok-push.ensures.items
    ∙ ap (λ (row : ClassLayout). c.loop-n.rows.items ++ row ∷ []) (c.in_ok-row.ensures ∙ ap (λ (primaries : List Primary). cut_row (exact_row c.args.h.now c.args.saids.now primaries (record { 0 = c.loop-n.n }) c.index-saids-n.result)) (c.deref.ensures.value ∙ c.in_ok-primaries.ensures))
    ∙ ap (λ (rows : List ClassLayout). rows ++ cut_row (exact_row c.args.h.now c.args.saids.now (primaries_of c.args.saids.now) (record { 0 = c.loop-n.n }) c.index-saids-n.result) ∷ []) c.loop-n.invariant
    ∙ sym (cut_step c.args.h.now c.args.saids.now c.loop-n.n c.index-saids-n.result there)

pub returns : goal.returns
returns c =
    let past = c.loop-n-test.false in
    let within = c.loop-n.auto.n-end in
    let len = c.len-n-end.ensures in
    let count = c.requires.count in
    let all : c.loop-n.n ≡ length c.args.saids.now = omega (arith, past, within, len, count) in
    c.loop-n.invariant ∙ ap (λ (n : ℕ). cut_rows (exact_rows c.args.h.now c.args.saids.now n)) all
