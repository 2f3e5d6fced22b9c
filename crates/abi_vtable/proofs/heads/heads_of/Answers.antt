use Rattle.std.proofs.Common.{◌++◌, ◌∙◌, ap, arith}
use Rattle.cxx_subobject.specs.Preorder.{preorder}
use Rattle.cxx_subobject.specs.declared.Root.TheVariants.{Whole}
use Rattle.abi_vtable.specs.invariants.Parts.{view_of_parts, subobjects_numbered, heads_of_root}
use Rattle.abi_vtable.proofs.HeadNumbers.{heads_are}
use Rattle.abi_vtable.proofs.heads.heads_of.Goals as goal

pub returns : goal.returns
returns c = λ h l kept. heads_are h l c.args.x.now kept c.as_slice-part-items.result.now c.loop-part.part-index c.push_heads.new.heads.items c.loop-part.heads.items c.as_slice-part-items.ensures (let e = c.loop-part-test.false in omega arith) (c.in_ok-push_heads.ensures h l kept ∙ ap (λ xs. subobjects_numbered (preorder h c.args.x.now.class) xs ++ heads_of_root h l (view_of_parts c.args.x.now) Whole c.args.x.now.parts) c.new-heads.ensures.items) (c.loop-part.invariant h l kept)
