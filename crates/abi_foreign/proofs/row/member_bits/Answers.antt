use Rattle.std.proofs.Common.{◌∙◌, ◌++◌, ◌∷◌, [], List, map, take, arith, sym, ap}
use Rattle.std.proofs.lemmas.List.{take_all}
use Rattle.cxx_hierarchy.specs.declared.records.ClassId.{ClassId}
use Rattle.cxx_hierarchy.specs.declared.records.Member.{Member}
use Rattle.abi_sound.specs.declared.class_layout.Bits.{Bits}
use Rattle.abi_foreign.specs.declared.said.MemberPlace.{MemberPlace}
use Rattle.abi_foreign.specs.Listings.{cut_bits}
use Rattle.abi_foreign.specs.invariants.Rows.{exact_bits, cut_bits_at}
use Rattle.abi_foreign.proofs.RowSteps.{cut_next}
use Rattle.abi_foreign.proofs.RowFacts.{places_length}
use Rattle.abi_foreign.proofs.row.member_bits.Goals as goal

pub nth_member-requires : goal.nth_member-requires
nth_member-requires c = let lt = c.loop-n-test.true in let same = places_length c.args.members.now c.args.places.now c.requires in omega (arith, lt, same)

pub loop-n-preserved : goal.loop-n-preserved
loop-n-preserved c =
    c.in_ok-push.ensures.ok
    ∙ ap (λ (b : Bits). c.loop-n.bits ++ b ∷ []) c.cut_at.ensures
    ∙ ap (λ (bits : List Bits). bits ++ cut_bits_at c.args.saids.now c.nth_member.result.now c.nth_at.result.now ∷ []) c.loop-n.invariant
    ∙ sym (cut_next c.args.saids.now c.args.members.now c.args.places.now c.loop-n.n c.nth_member.result.now c.nth_at.result.now c.nth_member.ensures c.nth_at.ensures)

pub returns : goal.returns
returns c =
    let past = c.loop-n-test.false in
    let same = places_length c.args.members.now c.args.places.now c.requires in
    c.loop-n.invariant
    ∙ ap (λ (members : List (Member ClassId)). map cut_bits (exact_bits c.args.saids.now members (take c.loop-n.n c.args.places.now))) (take_all c.loop-n.n c.args.members.now (omega (arith, past, same)))
    ∙ ap (λ (places : List MemberPlace). map cut_bits (exact_bits c.args.saids.now c.args.members.now places)) (take_all c.loop-n.n c.args.places.now (omega (arith, past)))
