use Rattle.std.proofs.Common.{ap, ◌∙◌, ◌-ℤ◌}
use Rattle.std.specs.Int.{w128}
use Rattle.std.proofs.lemmas.Int.{to_z-of_z, wrapping_sub_is}
use Rattle.cxx_hierarchy.specs.Scalars.{wrapped}
use Rattle.path_values.proofs.Turns.{wrapped_turns}
use Rattle.path_values.proofs.calculations.difference.Goals as goal

pub returns : goal.returns
returns c = to_z-of_z w128 c.wrap.result (record { sfits = c.wrap.type_inv }) ∙ (c.wrap.ensures ∙ (ap (wrapped c.args.t) (wrapping_sub_is w128 c.args.a c.args.b c.ranges.a c.ranges.b) ∙ wrapped_turns c.args.t (c.args.a -ℤ c.args.b)))
