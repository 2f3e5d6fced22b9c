use Rattle.abi_sound.specs.Places.{places_of}
use Rattle.abi_slots.proofs.Bases.{item_contains}
use Rattle.abi_slots.proofs.Settings.{setting_of}
use Rattle.abi_slots.proofs.Heads.{some_table}
use Rattle.abi_slots.proofs.Dispatching.{dispatches, converts, has_top}
use Rattle.abi_slots.specs.Listing.{own_keys}
use Rattle.abi_slots.proofs.laws.dispatch.Goals as goal

pub returns-clause-served : goal.returns-clause-served
returns-clause-served c = λ h rows group s d keeps sound of valid e dyn. some_table h (places_of h rows) group of (setting_of h rows keeps sound _ of.view) s d valid e dyn

pub returns-clause-entry : goal.returns-clause-entry
returns-clause-entry c = λ h rows group s d k table keeps fine sound of valid e own at. dispatches h (places_of h rows) group of (setting_of h rows keeps sound _ of.view) fine s d table k valid e (item_contains (own_keys h d) k own) at

pub returns-clause-base : goal.returns-clause-base
returns-clause-base c = λ h rows group s d v table keeps sound of valid e has at. converts h (places_of h rows) group of (setting_of h rows keeps sound _ of.view) s d table v valid e has at

pub returns-clause-top : goal.returns-clause-top
returns-clause-top c = λ h rows group s table keeps sound of at. has_top h (places_of h rows) group of (setting_of h rows keeps sound _ of.view) s table at
