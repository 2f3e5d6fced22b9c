use Rattle.std.proofs.Common.{◌≡◌, Some, length, ap, sym, ◌∙◌, arith}
use Rattle.std.specs.List.{slice_get}
use Rattle.cxx_hierarchy.specs.Classes.{members_of}
use Rattle.cxx_overrider.proofs.Lists.{get_at}
use Rattle.cxx_overrider.proofs.PassLemmas.{member_fault, member_unmarked, member_fine, members_fine, class_more}
use Rattle.cxx_overrider.proofs.pass.check_members.Goals as goal

pub returns-then-is_abstract_member-clause-err : goal.returns-then-is_abstract_member-clause-err
returns-then-is_abstract_member-clause-err c =
    let h = c.args.h.now in
    let m = c.member-item.result in
    let i = c.loop-member.member-index in
    let at : slice_get (members_of h c.args.c) i ≡ Some m = get_at c.as_slice-members.result.now (members_of h c.args.c) i m c.loop-member.invariant.items c.loop-member-test.true ∙ ap (λ x. Some x) (sym c.member-item.is) in
    member_fault h c.keeps.ensures c.args.abstracts.now c.args.c i m c.is_abstract_member.result c.requires.abstracts c.requires.size at c.is_abstract_member.ensures c.if-is_abstract_member.true c.loop-member.invariant.fine

pub loop-member-preserved : goal.loop-member-preserved
loop-member-preserved c =
    let h = c.args.h.now in
    let m = c.member-item.result in
    let i = c.loop-member.member-index in
    let at : slice_get (members_of h c.args.c) i ≡ Some m = get_at c.as_slice-members.result.now (members_of h c.args.c) i m c.loop-member.invariant.items c.loop-member-test.true ∙ ap (λ x. Some x) (sym c.member-item.is) in
    record {
      items = c.loop-member.invariant.items;
      fine = member_fine h c.args.c i (member_unmarked h c.keeps.ensures c.args.abstracts.now c.args.c i m c.is_abstract_member.result c.requires.abstracts c.requires.size at c.is_abstract_member.ensures c.if-is_abstract_member.false) c.loop-member.invariant.fine;
    }

pub returns-clause-fine : goal.returns-clause-fine
returns-clause-fine c =
    let h = c.args.h.now in
    let end = c.loop-member-test.false in
    let size = ap length c.loop-member.invariant.items in
    class_more h c.args.c (members_fine h c.args.c c.loop-member.member-index (omega arith) c.loop-member.invariant.fine)
