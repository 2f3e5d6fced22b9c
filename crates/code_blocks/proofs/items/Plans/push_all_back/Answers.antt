use Rattle.std.proofs.Common.{◌≡◌, ◌++◌, List, false, ap, sym, ◌∙◌}
use Rattle.cxx_hierarchy.specs.declared.records.ClassId.{ClassId}
use Rattle.cxx_hierarchy.specs.declared.records.Member.{Member}
use Rattle.cxx_hierarchy.specs.Classes.{members_in, members_of}
use Rattle.code_blocks.specs.Items.{Item, Backwards, member_items}
use Rattle.code_blocks.specs.invariants.ItemCodes.{item_codes, from_the_end}
use Rattle.code_blocks.proofs.MemberTurns.{members_end}
use Rattle.code_blocks.proofs.items.Plans.push_all_back.Goals as goal

pub returns : goal.returns
returns c =
    let same : c.as_slice.result.now ≡ members_of c.args.self.now.h.now c.args.c = c.as_slice.ensures ∙ sym (ap members_in c.class.ensures) in
    c.in_ok-push_members_back.ensures
    ∙ ap (λ (l : List Item). c.args.list.now ++ item_codes l) (ap (λ (ms : List (Member ClassId)). from_the_end (λ k. member_items false Backwards k) 0 ms) same ∙ members_end (λ k. member_items false Backwards k) (members_of c.args.self.now.h.now c.args.c))
