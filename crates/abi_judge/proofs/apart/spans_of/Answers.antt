use Rattle.std.proofs.Common.{arith}
use Rattle.std.proofs.lemmas.Grind.{common_steps}
use Rattle.std.proofs.lemmas.List.Elements.{filter_map-append}
use Rattle.abi_judge.specs.invariants.Things.{fits_in_size}
use Rattle.abi_judge.proofs.Told.{all_read}
use Rattle.abi_judge.proofs.apart.spans_of.Goals as goal

pub span_of-requires : goal.span_of-requires
span_of-requires c = (c.args.size, c.requires.size, all_read (fits_in_size c.args.size) c.args.things.now c.loop-thing.thing-index _ c.requires.inside c.loop-thing-test.true)

pub loop-thing-preserved : goal.loop-thing-preserved
loop-thing-preserved c = grind (arith, common_steps, filter_map-append)
