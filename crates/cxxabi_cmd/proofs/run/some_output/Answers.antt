use Rattle.cxxabi_cmd.proofs.SomeDivided.{reading_of, verdict_of}
use Rattle.cxxabi_cmd.proofs.SomeOutput.{some_output}
use Rattle.cxxabi_cmd.proofs.run.some_output.Goals as goal

pub returns : goal.returns
returns c = some_output (record {
  tables = c.some_tables.ensures;
  arrays = c.some_answer.ensures;
  dumps = λ h rows dump ready. reading_of h rows dump (c.some_reading.ensures h rows dump ready.words ready.keeps ready.sound);
  listings = λ h listing keeps. verdict_of h listing (c.listing_or_refusal.ensures h listing keeps);
}) c.programs_are_typed.ensures c.runs_are_typed.ensures.never_wrong
