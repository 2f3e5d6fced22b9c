use Rattle.std.proofs.Common.{◌≡◌, ◌+◌, ◌-◌, min, length, sym, subst, arith, rules}
use Rattle.path_places.specs.invariants.Stores.{StoresFrom}
use Rattle.path_places.proofs.Moving.{stores_none, stores_next}
use Rattle.path_places.proofs.copies.store_all.Goals as goal

pub loop-i-init : goal.loop-i-init
loop-i-init c =
    let e : c.min-i.result ≡ min (length c.args.leaves.now) (length c.args.values.now) = search rules in
    record {
      leaves = search rules;
      values = search rules;
      stores = stores_none c.args.heap.now c.args.leaves.now c.args.values.now c.min-i.result e;
    }

pub loop-i-preserved : goal.loop-i-preserved
loop-i-preserved c =
    let i = c.loop-i.i in
    let a = c.loop-i.invariant.leaves in
    let b = c.loop-i.invariant.values in
    let some = c.loop-i-test.true in
    let e : i - 1 + 1 ≡ i = omega arith in
    record {
      leaves = omega arith;
      values = omega arith;
      stores = stores_next c.args.heap.now c.loop-i.heap c.set_leaf.new.self c.args.leaves.now c.args.values.now (i - 1) _ _ (omega arith) (omega arith)
          (subst (λ n. StoresFrom c.args.heap.now c.loop-i.heap c.args.leaves.now c.args.values.now n) (sym e) c.loop-i.invariant.stores) c.in_ok-set_leaf.ensures;
    }
