use Rattle.abi_layout.proofs.sound.ObjectLaws.{rules_are_sound}
use Rattle.abi_layout.proofs.soundness.laid_is_sound.Goals as goal

pub returns : goal.returns
returns c = rules_are_sound
