use Rattle.std.proofs.Common.{◌≡◌, ◌∙◌, ℕ, ◌+◌, ◌*◌, List, ◌++◌, map, ap}
use Rattle.std.proofs.lemmas.Result.{on_ok_weaker}
use Rattle.path_plan.specs.Plans.{upto}
use Rattle.abi_sound.specs.Locations.{size_of_type}
use Rattle.byte_code.specs.declared.op.Op.{Op}
use Rattle.code_ops.specs.declared.widths.LeafWidth.{LeafWidth}
use Rattle.code_ops.specs.Setups.{places}
use Rattle.code_ops.specs.Leaves.{leaf_width, copy_op}
use Rattle.code_ops.specs.invariants.Sites.{site_setup}
use Rattle.code_statements.proofs.copies.CopySite.push_leaves.Goals as goal

pub returns : goal.returns
returns g c =
    let x = site_setup g.L.SoundLayout.rows c.args.self.now.site.now in
    let sides = c.args.self.now.sides in
    let old = c.args.ops.now in
    let give : LeafWidth → ℕ → ℕ → List Op = λ leaf stride count. old ++ map (λ i. copy_op leaf sides.to sides.from (c.args.start + i * stride)) (upto count) in
    let size = size_of_type (places x) c.args.member.now.ty in
    on_ok_weaker c.push_values.result
    (λ (added : c.push_values.new.ops ≡ give c.member_leaf-leaf.result c.type_bytes.result c.elements.result).
    added
    ∙ (ap (λ (l : LeafWidth). give l c.type_bytes.result c.elements.result) c.member_leaf-leaf.ensures
    ∙ (ap (λ (k : ℕ). give (leaf_width x c.args.b c.args.m) k c.elements.result) c.type_bytes.ensures ∙ ap (give (leaf_width x c.args.b c.args.m) size) c.elements.ensures))) c.push_values.ensures
