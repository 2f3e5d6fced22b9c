-- Each law is a lemma.
use Rattle.foundation.proofs.Members.{has_from_contains}
use Rattle.path_model.specs.declared.outs.Out.TheVariants.{Dump}
use Rattle.path_model.specs.Runs.{run_of}
use Rattle.abi_sound.specs.Places.{places_of}
use Rattle.agree_dumps.proofs.DumpTexts.{told_fits, told_text}
use Rattle.agree_dumps.proofs.RunDumps.{run_dump}
use Rattle.agree_dumps.proofs.laws.dumps_have_one_text.Goals as goal

pub returns-clause-text : goal.returns-clause-text
returns-clause-text c = λ h l s k n d leaves keeps told fits. told_text h keeps l s k n d leaves told fits

pub returns-clause-fitting : goal.returns-clause-fitting
returns-clause-fitting c = λ h l s k n d leaves keeps told fits known high. told_fits h keeps l s k n d leaves told fits known high

pub returns-clause-runs : goal.returns-clause-runs
returns-clause-runs c = λ h rows program steps n d leaves accepted sound has. run_dump h rows program accepted sound steps n d leaves (has_from_contains (run_of h (places_of h rows).size program steps).outs (Dump n d leaves) has)
