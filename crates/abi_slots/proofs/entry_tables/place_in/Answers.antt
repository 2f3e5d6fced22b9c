use Rattle.std.proofs.Common.{sym, ◌∙◌}
use Rattle.abi_slots.specs.Listing.{same_entry_key}
use Rattle.abi_slots.proofs.EntryPlaces.{place_found, place_missing}
use Rattle.abi_slots.proofs.entry_tables.place_in.Goals as goal

pub returns-in-Some-clause-place : goal.returns-in-Some-clause-place
returns-in-Some-clause-place c = place_found (same_entry_key c.args.entry) c.args.entries.now c.in-Some.place (sym c.position_of.ensures.place ∙ c.in-Some.is)

pub returns-in-None-clause-place : goal.returns-in-None-clause-place
returns-in-None-clause-place c = place_missing (same_entry_key c.args.entry) c.args.entries.now (sym c.position_of.ensures.place ∙ c.in-None.is)
