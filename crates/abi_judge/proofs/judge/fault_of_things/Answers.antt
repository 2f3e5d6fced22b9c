use Rattle.std.proofs.Common.{◌∙◌, sym}
use Rattle.std.specs.List.{filter_map}
use Rattle.abi_judge.specs.invariants.Things.{span_in, key_in}
use Rattle.abi_judge.proofs.Told.{none_shared, none_twice}
use Rattle.abi_judge.proofs.judge.fault_of_things.Goals as goal

pub returns-then-branch-2 : goal.returns-then-branch-2
returns-then-branch-2 c = (
  sym c.are_fit.ensures ∙ c.if-not-are_fit.false,
  sym c.are_inside.ensures ∙ c.if-not-are_inside.false,
  none_shared (filter_map span_in c.args.things.now) c.in_ok-shares_bits.field-0 c.in_ok-shares_bits.ensures c.if-branch.false,
  c.in_ok-has_twice.ensures.0 c.if-branch-2.true,
)

pub returns : goal.returns
returns c = (
  sym c.are_fit.ensures ∙ c.if-not-are_fit.false,
  sym c.are_inside.ensures ∙ c.if-not-are_inside.false,
  none_shared (filter_map span_in c.args.things.now) c.in_ok-shares_bits.field-0 c.in_ok-shares_bits.ensures c.if-branch.false,
  none_twice (filter_map key_in c.args.things.now) c.in_ok-has_twice.field-0 c.in_ok-has_twice.ensures c.if-branch-2.false,
)
