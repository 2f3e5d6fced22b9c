use Rattle.std.proofs.Common.{◌≡◌, ◌≤◌, ◌∙◌, sym, ap, length, arith}
use Rattle.cxx_subobject.proofs.TestLemmas.{longer_shorter}
use Rattle.cxx_subobject.proofs.containment.is_public_down.Goals as goal

pub slice_bounds-is_public_path-count : goal.slice_bounds-is_public_path-count
slice_bounds-is_public_path-count c =
    let le : length c.args.outer.now.path ≤ length c.args.inner.now.path = longer_shorter c.args.outer.now c.args.inner.now (sym c.is_longer.ensures ∙ c.if-is_longer.true) in
    let front : length c.as_slice-front.result.now ≡ length c.args.outer.now.path = ap length c.as_slice-front.ensures in
    let path : length c.as_slice-path.result.now ≡ length c.args.inner.now.path = ap length c.as_slice-path.ensures in
    omega arith

pub slice_bounds-is_public_path-start : goal.slice_bounds-is_public_path-start
slice_bounds-is_public_path-start c =
    let le : length c.args.outer.now.path ≤ length c.args.inner.now.path = longer_shorter c.args.outer.now c.args.inner.now (sym c.is_longer.ensures ∙ c.if-is_longer.true) in
    let front : length c.as_slice-front.result.now ≡ length c.args.outer.now.path = ap length c.as_slice-front.ensures in
    let path : length c.as_slice-path.result.now ≡ length c.args.inner.now.path = ap length c.as_slice-path.ensures in
    omega arith
