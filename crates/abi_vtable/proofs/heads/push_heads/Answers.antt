use Rattle.std.proofs.Common.{◌≡◌, ◌++◌, ◌∷◌, [], sym, ◌∙◌, true, false}
use Rattle.abi_vtable.proofs.HeadNumbers.{root_more}
use Rattle.abi_vtable.proofs.Marks.{head_test}
use Rattle.abi_vtable.proofs.heads.push_heads.Goals as goal
use Rattle.abi_vtable.proofs.heads.push_heads.Goals.{then-is_head+in_ok-push, else-is_head}

pub loop-n-preserved : goal.loop-n-preserved
loop-n-preserved c = λ h p kept.
    let parts = c.as_slice-parts.result.now in
    let part = c.index-parts-n.result in
    let n = c.loop-n.n in
    let old = c.loop-n.heads.items in
    elim c.if-is_head.branch [
      | then-is_head+in_ok-push w ↦
          let new : c.if-is_head.heads.items ≡ old ++ n ∷ [] = cc (w.in_ok-push.ensures.items) in
          root_more h p c.args.x.now kept c.args.root parts n part true old c.if-is_head.heads.items _ c.as_slice-parts.ensures c.loop-n-test.true c.index-parts-n.is (head_test c.args.root parts c.args.x.now.parts n part c.args.marks.now true c.as_slice-parts.ensures c.loop-n-test.true c.requires (sym w.if-is_head.true ∙ c.is_head.ensures)) new (c.loop-n.invariant h p kept)
      | else-is_head w ↦
          let new : c.if-is_head.heads.items ≡ old = cc in
          root_more h p c.args.x.now kept c.args.root parts n part false old c.if-is_head.heads.items _ c.as_slice-parts.ensures c.loop-n-test.true c.index-parts-n.is (head_test c.args.root parts c.args.x.now.parts n part c.args.marks.now false c.as_slice-parts.ensures c.loop-n-test.true c.requires (sym w.if-is_head.false ∙ c.is_head.ensures)) new (c.loop-n.invariant h p kept)
    ]
