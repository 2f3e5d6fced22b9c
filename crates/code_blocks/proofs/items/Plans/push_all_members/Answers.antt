use Rattle.std.proofs.Common.{◌≡◌, ◌++◌, List, ap, sym, ◌∙◌}
use Rattle.cxx_hierarchy.specs.declared.records.ClassId.{ClassId}
use Rattle.cxx_hierarchy.specs.declared.records.Member.{Member}
use Rattle.cxx_hierarchy.specs.Classes.{members_in, members_of}
use Rattle.path_model.specs.States.{member_init, is_init}
use Rattle.code_blocks.specs.Items.{Item, Forwards, member_items}
use Rattle.code_blocks.specs.invariants.ItemCodes.{item_codes, items_in_turn}
use Rattle.code_blocks.proofs.MemberTurns.{members_turn}
use Rattle.code_blocks.proofs.items.Plans.push_all_members.Goals as goal

pub returns : goal.returns
returns c =
    let same : c.as_slice.result.now ≡ members_of c.args.self.now.h.now c.args.c = c.as_slice.ensures ∙ sym (ap members_in c.class.ensures) in
    c.in_ok-push_members.ensures
    ∙ ap (λ (l : List Item). c.args.list.now ++ item_codes l) (ap (λ (ms : List (Member ClassId)). items_in_turn (λ k. member_items (is_init (member_init c.args.self.now.program.now c.args.c k)) Forwards k) 0 ms) same ∙ members_turn (λ k. member_items (is_init (member_init c.args.self.now.program.now c.args.c k)) Forwards k) (members_of c.args.self.now.h.now c.args.c))
