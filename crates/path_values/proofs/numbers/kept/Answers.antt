use Rattle.std.proofs.Common.{◌≡◌, ◌<◌, rules, ap, sym, ◌∙◌}
use Rattle.std.specs.Int.{w128}
use Rattle.std.proofs.lemmas.Int.{to_z-of_z}
use Rattle.cxx_hierarchy.specs.Scalars.{stored_as}
use Rattle.path_values.proofs.Bits.{kept_whole}
use Rattle.path_values.proofs.numbers.kept.Goals as goal

pub returns-then-bits-gt64 : goal.returns-then-bits-gt64
returns-then-bits-gt64 c =
    let more : 64 < c.args.bits = search rules in
    to_z-of_z w128 c.stored-whole.result (record { sfits = c.stored-whole.type_inv }) ∙ (c.stored-whole.ensures ∙ (ap (stored_as c.args.t) (to_z-of_z w128 c.args.z c.ranges.z) ∙ sym (kept_whole c.args.t c.args.bits c.args.z more)))
