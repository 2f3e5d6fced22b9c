use Rattle.abi_sound.specs.Places.{places_of}
use Rattle.cxxabi_cmd.proofs.OneOutput.{one_output}
use Rattle.cxxabi_cmd.proofs.run.one_output.Goals as goal

pub returns : goal.returns
returns c = one_output (record {
  tables = c.one_tables.ensures;
  arrays = c.one_answer.ensures;
  dumps = record {
    seen = λ h rows dump s t ready. c.one_reading.ensures.values h rows dump s t ready.words ready.keeps ready.sound;
    named = λ h rows dump s ready. c.one_reading.ensures.named h rows dump s ready.words ready.sound;
    line = λ h rows dump m n ready. c.one_reading.ensures.lines h (places_of h rows) dump m n;
  };
  listings = record { layout = c.one_listing.ensures; apart = c.one_refusal.ensures.apart; stop = c.one_refusal.ensures.one };
})
