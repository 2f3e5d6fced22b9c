use Rattle.abi_sound.specs.Places.{places_of}
use Rattle.abi_slots.proofs.Seeing as views
use Rattle.abi_slots.proofs.Settings.{setting_of}
use Rattle.abi_slots.proofs.laws.seen.Goals as goal

pub returns : goal.returns
returns c = λ h rows group image codes info at keeps fine sound of stands. views.seen h (places_of h rows) group of (setting_of h rows keeps sound _ of.view) image codes info at stands fine
