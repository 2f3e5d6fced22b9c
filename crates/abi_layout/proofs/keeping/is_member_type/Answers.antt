use Rattle.std.proofs.Common.{ap, sym, ◌∙◌, arith}
use Rattle.std.specs.List.{list_any}
use Rattle.cxx_hierarchy.specs.declared.records.ClassId.{ClassId}
use Rattle.cxx_hierarchy.specs.declared.records.Member.{Member}
use Rattle.abi_layout.specs.invariants.Known.{is_object}
use Rattle.abi_layout.proofs.algorithm.KeepingLemmas.{no_owner, one_owner_more, never_member}
use Rattle.abi_layout.proofs.keeping.is_member_type.Goals as goal

pub loop-n-init : goal.loop-n-init
loop-n-init c = no_owner c.args.h.now c.args.c

pub loop-n-preserved : goal.loop-n-preserved
loop-n-preserved c =
    one_owner_more c.args.h.now c.args.c c.loop-n.n c.class.result.now c.class.ensures c.loop-n.invariant
    (ap (list_any (λ (member : Member ClassId). is_object c.args.c member.ty)) (sym c.as_slice.ensures) ∙ (sym c.has_member_of.ensures ∙ c.if-has_member_of.false))

pub returns : goal.returns
returns c = λ is. let count = c.len-n-end.ensures in let end = c.loop-n-test.false in absurd (never_member c.args.h.now c.args.c c.loop-n.n (omega arith) c.loop-n.invariant is)
