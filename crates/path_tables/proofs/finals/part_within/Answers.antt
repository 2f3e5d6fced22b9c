use Rattle.std.proofs.Common.{◌≡◌, ◌≤◌, ◌∙◌, sym, ap, length, drop, [], ◌∷◌, ◌++◌, arith}
use Rattle.std.proofs.lemmas.Result.{IfOk-weaker}
use Rattle.cxx_subobject.proofs.TestLemmas.{longer_shorter}
use Rattle.cxx_subobject.specs.declared.Root.TheVariants.{Whole}
use Rattle.cxx_subobject.specs.Subobjects.{IsSubobject, subobject, join}
use Rattle.path_tables.proofs.Within.{part_longer, part_shared, path_made}
use Rattle.path_tables.proofs.finals.part_within.Goals as goal

pub slice_bounds-below-count : goal.slice_bounds-below-count
slice_bounds-below-count c =
    let le : length c.args.x.now.path ≤ length c.args.y.now.path = longer_shorter c.args.x.now c.args.y.now (sym c.is_longer.ensures ∙ c.if-is_longer.true) in
    let front : length c.as_slice-front.result.now ≡ length c.args.x.now.path = ap length c.as_slice-front.ensures in
    let path : length c.as_slice-whole.result.now ≡ length c.args.y.now.path = ap length c.as_slice-whole.ensures in
    omega arith

pub slice_bounds-below-start : goal.slice_bounds-below-start
slice_bounds-below-start c =
    let le : length c.args.x.now.path ≤ length c.args.y.now.path = longer_shorter c.args.x.now c.args.y.now (sym c.is_longer.ensures ∙ c.if-is_longer.true) in
    let front : length c.as_slice-front.result.now ≡ length c.args.x.now.path = ap length c.as_slice-front.ensures in
    let path : length c.as_slice-whole.result.now ≡ length c.args.y.now.path = ap length c.as_slice-whole.ensures in
    omega arith

pub returns-in_ok-extend_from_slice : goal.returns-in_ok-extend_from_slice
returns-in_ok-extend_from_slice c =
    let path : c.from_vec.result ≡ c.args.d ∷ drop (length c.args.x.now.path) c.args.y.now.path =
    c.from_vec.ensures ∙ (c.in_ok-extend_from_slice.ensures.items ∙ path_made c.new-path.result.items c.push.new.self.items c.args.d c.as_slice-front.result.now c.as_slice-whole.result.now c.args.x.now.path c.args.y.now.path c.new-path.ensures.items c.in_ok-push.ensures.items c.as_slice-front.ensures c.as_slice-whole.ensures) in
    part_longer c.args.h.now c.args.c c.args.d c.args.x.now c.args.y.now (subobject Whole c.from_vec.result) c.requires.x c.requires.y c.requires.class (sym c.is_longer.ensures ∙ c.if-is_longer.true) (ap (subobject Whole) path)

pub returns-else-is_longer : goal.returns-else-is_longer
returns-else-is_longer c = IfOk-weaker c.subobject_below.result (λ i. i ≡ subobject c.args.y.now.root (c.args.y.now.path ++ [])) (λ i. IsSubobject c.args.h.now c.args.d i × (join c.args.x.now i ≡ c.args.y.now)) (λ i e. part_shared c.args.h.now c.args.c c.args.d c.args.x.now c.args.y.now i c.requires.y c.requires.class c.requires.inside (sym c.is_longer.ensures ∙ c.if-is_longer.false) e) c.subobject_below.ensures
