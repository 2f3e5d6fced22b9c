use Rattle.std.proofs.Common.{◌≡◌, ◌++◌, take}
use Rattle.std.specs.List.{flat_map}
use Rattle.code_statements.specs.CopyOps.{subobject_copies}
use Rattle.code_statements.proofs.copies.push_copy.Given as goal
use Rattle.code_ops.specs.invariants.Sites.{site_block}

abbrev pub invariant-loop-base : goal.invariant-loop-base
invariant-loop-base g l = l.ops ≡ l.fn.ops ++ flat_map (subobject_copies (site_block g.L.SoundLayout.rows l.site) l.parts.to l.parts.from l.c) (take l.base-index l.base-items)
