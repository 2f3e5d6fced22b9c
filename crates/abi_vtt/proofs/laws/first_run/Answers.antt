use Rattle.abi_sound.specs.Places.{places_of}
use Rattle.abi_slots.proofs.Settings.{setting_of}
use Rattle.abi_vtt.proofs.ImageBlocks.{run_point}
use Rattle.abi_vtt.proofs.RunLemmas as runs
use Rattle.abi_vtt.proofs.RunWords.{run_apart, run_first}
use Rattle.abi_vtt.proofs.laws.first_run.Goals as goal

pub returns-clause-tables : goal.returns-clause-tables
returns-clause-tables c = λ h l x keeps. runs.first_run h keeps l x

pub returns-clause-itself : goal.returns-clause-itself
returns-clause-itself c = λ h l d keeps dyn. run_first h l d keeps dyn

pub returns-clause-distance : goal.returns-clause-distance
returns-clause-distance c = λ h l group n t keeps of there. run_apart h l group n t keeps of there

pub returns-clause-points : goal.returns-clause-points
returns-clause-points c = λ h rows group placed n s first keeps sound of same at_first there. run_point h (places_of h rows) group of (setting_of h rows keeps sound _ of.view) placed n s first same at_first there
