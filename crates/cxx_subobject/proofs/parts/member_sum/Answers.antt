use Rattle.std.proofs.Common.{◌+◌, ◌∙◌, ap, arith, min, List}
use Rattle.std.proofs.lemmas.List.{take_all}
use Rattle.cxx_hierarchy.specs.declared.records.ClassId.{ClassId}
use Rattle.cxx_hierarchy.specs.declared.records.Member.{Member}
use Rattle.cxx_subobject.specs.invariants.Counts.{parts_of_members}
use Rattle.cxx_subobject.proofs.CountLemmas.{member_more}
use Rattle.cxx_subobject.proofs.parts.member_sum.Goals as goal

pub loop-member-preserved : goal.loop-member-preserved
loop-member-preserved c = record {
  within = let e = c.capped-sum.ensures in omega arith;
  sum = λ f capped. member_more f c.args.members.now c.loop-member.member-index c.member-item.result c.loop-member.sum c.parts_of_member.result c.capped-sum.result c.loop-member-test.true c.member-item.is
      (c.loop-member.invariant.sum f capped) (c.parts_of_member.ensures.parts f capped) c.capped-sum.ensures;
}

pub returns-clause-parts : goal.returns-clause-parts
returns-clause-parts c = λ f capped.
    c.loop-member.invariant.sum f capped
    ∙ ap (λ (ms : List (Member ClassId)). min (1 + parts_of_members f ms) 65537) (take_all c.loop-member.member-index c.args.members.now c.loop-member-test.false)
