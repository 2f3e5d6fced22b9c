use Rattle.std.proofs.Common.{◌∙◌}
use Rattle.cxx_subobject.proofs.TreeLemmas.{valid_at}
use Rattle.code_statements.specs.CopyOps.{subobject_copies}
use Rattle.code_statements.proofs.Pushed.{items_flat}
use Rattle.code_statements.proofs.CopySteps.{all_copied}
use Rattle.code_statements.proofs.copies.push_copy.Goals as goal
use Rattle.code_ops.specs.invariants.Sites.{site_block}

pub push_subobject-requires-clause-base : goal.push_subobject-requires-clause-base
push_subobject-requires-clause-base g c = record {
  known = c.requires.known;
  valid = valid_at c.args.site.now.h.now c.args.c c.as_slice-base-items.result.now c.loop-base.base-index c.base-item.result (c.as_slice-base-items.ensures ∙ c.in_ok-bases.ensures.preorder) c.loop-base-test.true c.base-item.is;
}

pub loop-base-preserved : goal.loop-base-preserved
loop-base-preserved g c =
    let b = site_block g.L.SoundLayout.rows c.args.site.now in
    items_flat (subobject_copies b c.operand_register.result c.operand_register-2.result c.args.c) c.as_slice-base-items.result.now c.loop-base.base-index c.base-item.result c.args.ops.now c.loop-base.ops c.push_subobject.new.ops
    c.loop-base-test.true c.base-item.is c.loop-base.invariant c.in_ok-push_subobject.ensures

pub returns : goal.returns
returns g c =
    let b = site_block g.L.SoundLayout.rows c.args.site.now in
    all_copied b c.args.to c.args.from c.args.c c.operand_register.result c.operand_register-2.result c.free.result c.free-2.result _ c.as_slice-base-items.result.now c.loop-base.base-index c.args.ops.now c.loop-base.ops
    c.free.ensures c.free-2.ensures c.operand_register.ensures c.operand_register-2.ensures c.as_slice-base-items.ensures c.in_ok-bases.ensures.preorder c.loop-base-test.false c.loop-base.invariant
