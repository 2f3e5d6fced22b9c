use Rattle.abi_sound.specs.Places.{places_of}
use Rattle.abi_slots.proofs.Settings.{setting_of}
use Rattle.abi_slots.proofs.OneHead as heads
use Rattle.abi_slots.proofs.laws.one_head.Goals as goal

pub returns : goal.returns
returns c = λ h rows x t u s keeps sound view. heads.one_head h (places_of h rows) x (setting_of h rows keeps sound x view) t u s
