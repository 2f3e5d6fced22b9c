use Rattle.std.proofs.Common.{◌≡◌, ◌∙◌, ◌+◌, ◌++◌, map, ap, sym}
use Rattle.std.specs.List.{range_with_len}
use Rattle.std.proofs.lemmas.Result.{on_ok_weaker}
use Rattle.cxx_hierarchy.specs.Classes.{width_in}
use Rattle.abi_judge.specs.declared.things.PlacedLeaf.{PlacedLeaf}
use Rattle.abi_judge.specs.invariants.Things.{setting_of}
use Rattle.abi_judge.specs.invariants.Leaves.{leaf_from}
use Rattle.abi_judge.proofs.Pushed.{leaves_added}
use Rattle.abi_judge.proofs.draft.Draft.push_values.Goals as goal

pub returns : goal.returns
returns c =
    let x = setting_of c.args.self.now in
    let member = c.args.member.now in
    let first : PlacedLeaf = record { place = c.args.at + c.member_place.result; first = c.first_bit.result; size = c.size_of_value.result; width = member.width } in
    let old = c.args.things.now.items in
    on_ok_weaker c.push_leaves.result
    (λ (added : c.push_leaves.new.things.items ≡ old ++ map (leaf_from first) (range_with_len 0 c.elements.result)).
    leaves_added x c.args.d c.args.at c.args.m c.args.ty.now member first old c.push_leaves.new.things.items c.requires.there c.requires.value (ap (λ n. c.args.at + n) c.member_place.ensures.is) c.first_bit.ensures c.size_of_value.ensures.is
    (sym (ap width_in c.requires.there)) (added ∙ ap (λ n. old ++ map (leaf_from first) (range_with_len 0 n)) c.elements.ensures)) c.push_leaves.ensures
