use Rattle.std.proofs.Common.{◌≡◌, ◌∙◌, ◌+◌, ℕ, List, Bor, ap, arith, length, subst, sym}
use Rattle.std.specs.Bool.{◌==◌}
use Rattle.std.proofs.lemmas.Bool.{eqb-true}
use Rattle.std.proofs.lemmas.List.{nil_from_length}
use Rattle.foundation.proofs.Truth.{not_both}
use Rattle.abi_inspect.specs.declared.slots.Row.TheVariants.{Fixed, Leaf}
use Rattle.abi_inspect.proofs.RowSteps.{IsReadTo, all_read, fixed_next, fixed_stopped, has_row, leaf_next, leaf_stopped, rows_at, some_left}
use Rattle.abi_inspect.proofs.reading.read_rows.Goals.{in-Fixed+in-Some, in-Leaf+in_ok-value-in-Leaf+in-Some-2+in_ok-push-in-Some-2}
use Rattle.abi_inspect.proofs.reading.read_rows.Goals as goal

pub returns-in-None : goal.returns-in-None
returns-in-None c =
    let rows = c.args.rows.now in
    let there = rows_at rows c.loop-i.i c.index-rows-i.result (Fixed c.in-Fixed.line) c.loop-i-test.true c.index-rows-i.is c.in-Fixed.is in
    fixed_stopped c.args.h.now rows c.args.text.now c.loop-i.i c.loop-i.values.items c.loop-i.rest.now c.in-Fixed.line c.as_slice.result.now c.loop-i.invariant c.loop-i-test.true there c.as_slice.ensures c.in-None.ensures

pub read_leaf-requires : goal.read_leaf-requires
read_leaf-requires c =
    c.requires c.in-Leaf.x (has_row c.args.rows.now c.loop-i.i c.index-rows-i.result (Leaf c.in-Leaf.x) c.loop-i-test.true c.index-rows-i.is c.in-Leaf.is)

pub returns-in-None-2 : goal.returns-in-None-2
returns-in-None-2 c =
    let rows = c.args.rows.now in
    let there = rows_at rows c.loop-i.i c.index-rows-i.result (Leaf c.in-Leaf.x) c.loop-i-test.true c.index-rows-i.is c.in-Leaf.is in
    leaf_stopped c.args.h.now rows c.args.text.now c.loop-i.i c.loop-i.values.items c.loop-i.rest.now c.in-Leaf.x c.in_ok-value-in-Leaf.field-0 c.loop-i.invariant c.loop-i-test.true there c.in-None-2.is c.in_ok-value-in-Leaf.ensures.each

pub loop-i-preserved : goal.loop-i-preserved
loop-i-preserved c = elim c.match-row.branch [
  | in-Fixed+in-Some w ↦
      let rows = c.args.rows.now in
      let there = rows_at rows c.loop-i.i c.index-rows-i.result (Fixed w.in-Fixed.line) c.loop-i-test.true c.index-rows-i.is w.in-Fixed.is in
      let same : c.match-row.values.items ≡ c.loop-i.values.items = let e = w.values-is in cc in
      subst (λ (r : Bor (List ℕ)). IsReadTo c.args.h.now rows c.args.text.now (c.loop-i.i + 1) c.match-row.values.items r.now) (sym w.rest-is)
      (fixed_next c.args.h.now rows c.args.text.now c.loop-i.i c.loop-i.values.items c.match-row.values.items c.loop-i.rest.now w.in-Fixed.line w.as_slice.result.now w.in-Some.more.now c.loop-i.invariant there w.as_slice.ensures w.in-Some.ensures same)
  | in-Leaf+in_ok-value-in-Leaf+in-Some-2+in_ok-push-in-Some-2 w ↦
      let rows = c.args.rows.now in
      let there = rows_at rows c.loop-i.i c.index-rows-i.result (Leaf w.in-Leaf.x) c.loop-i-test.true c.index-rows-i.is w.in-Leaf.is in
      let same : c.match-row.values.items ≡ w.push.new.self.items = let e = w.values-is in cc in
      subst (λ (r : Bor (List ℕ)). IsReadTo c.args.h.now rows c.args.text.now (c.loop-i.i + 1) c.match-row.values.items r.now) (sym w.rest-is)
      (leaf_next c.args.h.now rows c.args.text.now c.loop-i.i c.loop-i.values.items c.match-row.values.items c.loop-i.rest.now w.in-Leaf.x w.in_ok-value-in-Leaf.field-0 w.in-Some-2.value w.in-Some-2.more c.loop-i.invariant there w.in-Some-2.is w.in_ok-value-in-Leaf.ensures.some w.in_ok-value-in-Leaf.ensures.each (same ∙ w.in_ok-push-in-Some-2.ensures.items))
]

pub returns-then-is_empty : goal.returns-then-is_empty
returns-then-is_empty c =
    let low = c.loop-i-test.false in
    let high = c.loop-i.auto.i-end in
    let none : length c.loop-i.rest.now ≡ 0 = eqb-true (length c.loop-i.rest.now) 0 (sym c.if-is_empty.ensures) in
    all_read c.args.h.now c.args.rows.now c.args.text.now c.loop-i.i c.loop-i.values.items c.loop-i.rest.now c.loop-i.invariant (omega (arith, low, high)) (nil_from_length c.loop-i.rest.now none)

pub returns-else-is_empty : goal.returns-else-is_empty
returns-else-is_empty c =
    let low = c.loop-i-test.false in
    let high = c.loop-i.auto.i-end in
    some_left c.args.h.now c.args.rows.now c.args.text.now c.loop-i.i c.loop-i.values.items c.loop-i.rest.now c.loop-i.invariant (omega (arith, low, high))
    (λ e. not_both (ap (λ (l : List ℕ). length l == 0) e) (sym c.if-is_empty.ensures))
