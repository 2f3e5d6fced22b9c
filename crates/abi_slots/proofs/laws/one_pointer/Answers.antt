use Rattle.abi_sound.specs.Places.{places_of}
use Rattle.abi_slots.proofs.Pointers.{pointers_apart, same_point, next_place}
use Rattle.abi_slots.proofs.Settings.{setting_of}
use Rattle.abi_slots.proofs.laws.one_pointer.Goals as goal

pub returns-clause-apart : goal.returns-clause-apart
returns-clause-apart c = pointers_apart

pub returns-clause-point : goal.returns-clause-point
returns-clause-point c = λ h rows x placed s t p keeps sound view share at_point. same_point h (places_of h rows) x (setting_of h rows keeps sound x view) placed s t p share at_point

pub returns-clause-next : goal.returns-clause-next
returns-clause-next c = λ h rows x s t keeps sound view valid goes. next_place h (places_of h rows) x (setting_of h rows keeps sound x view) s t valid goes
