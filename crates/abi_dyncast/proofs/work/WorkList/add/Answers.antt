use Rattle.std.proofs.Common.{◌≡◌, ◌+◌, ◌<◌, ◌++◌, ◌∷◌, [], length, get_or, set, arith, rules, sym, subst, ap, ◌∙◌}
use Rattle.std.proofs.lemmas.Grind.{common_steps}
use Rattle.foundation.proofs.Places.{any_default}
use Rattle.abi_dyncast.specs.invariants.Chain.{bucket, part_entry, link_for, IsChained, IsEachOnce}
use Rattle.abi_dyncast.proofs.Entries.{once_pushed}
use Rattle.abi_dyncast.proofs.Chaining.{chained_add, link_then, link_else}
use Rattle.abi_dyncast.proofs.work.WorkList.add.Goals.{then-head-len, else-head-len}
use Rattle.abi_dyncast.proofs.work.WorkList.add.Goals as goal

pub invariant_of-self : goal.invariant_of-self
invariant_of-self c =
    let heads = c.args.self.now.heads.items in
    let es = c.args.self.now.entries.items in
    let at : c.bucket-at.result ≡ bucket c.args.part (length heads) = search rules in
    let below : c.bucket-at.result < length heads = search rules in
    let head : c.index-head.result.now ≡ get_or heads (bucket c.args.part (length heads)) 0 = c.index-head.ensures ∙ (any_default heads c.bucket-at.result c.index-head.result.now 0 below ∙ ap (λ i. get_or heads i 0) at) in
    let long : c.len-2.result ≡ length es = search rules in
    let next : c.if-head-len.next ≡ link_for heads es c.args.part = elim c.if-head-len.branch [
      | then-head-len w ↦ link_then heads es c.args.part c.index-head.result.now c.if-head-len.next head (let t = w.if-head-len.true in omega arith) w.next-is
      | else-head-len w ↦ link_else heads es c.args.part c.index-head.result.now c.if-head-len.next head (let t = w.if-head-len.false in omega arith) w.next-is
    ] in
    let items : c.push.new.self.items ≡ es ++ part_entry c.args.part c.args.class c.args.found c.if-head-len.next ∷ [] = search rules in
    let size : c.len-3.result ≡ length es + 1 = grind (arith, common_steps) in
    let done = chained_add heads es c.args.part c.args.class c.args.found c.bucket-at.result c.args.self.now.chained at below in
    record {
      roomy = let r = c.args.self.now.roomy in let k = c.push.ensures.capacity in omega arith;
      once = subst (λ xs. IsEachOnce xs) (sym items) (once_pushed es (part_entry c.args.part c.args.class c.args.found c.if-head-len.next) c.args.self.now.once c.requires.fresh);
      chained =
          let all = items ∙ ap (λ n. es ++ part_entry c.args.part c.args.class c.args.found n ∷ []) next in
          subst (λ k. IsChained (set heads c.bucket-at.result k) c.push.new.self.items) (sym size) (subst (λ xs. IsChained (set heads c.bucket-at.result (length es + 1)) xs) (sym all) done);
    }
