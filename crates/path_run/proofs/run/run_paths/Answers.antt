use Rattle.std.proofs.Common.{◌∙◌, ap}
use Rattle.cxx_overrider.proofs.MeaningDecisions.{limits_hold}
use Rattle.path_machine.specs.invariants.Steps.{size_in}
use Rattle.path_run.proofs.run.run_paths.Goals as goal

pub new-requires : goal.new-requires
new-requires g c = record { limits = λ d known. limits_hold c.args.h.now c.requires.overriders.fine d known }

pub run_all-requires-clause-setup : goal.run_all-requires-clause-setup
run_all-requires-clause-setup g c = record {
  world = record {
    hierarchy = c.keeps.ensures;
    limits = λ d known. limits_hold c.args.h.now c.requires.overriders.fine d known;
    are_numbers = c.in_ok-numbers.ensures;
    are_overriders = c.requires.overriders;
  };
  are_bodies = c.in_ok-index.ensures;
  typed = c.requires.typed;
}

pub run_all-requires-clause-sizes : goal.run_all-requires-clause-sizes
run_all-requires-clause-sizes g c = ap size_in c.as_slice.ensures.value ∙ c.in_ok-sizes.ensures
