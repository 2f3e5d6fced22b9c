use Rattle.abi_slots.proofs.EntryPlaces.{numbers_step, size_step}
use Rattle.abi_slots.proofs.entry_tables.numbers_of.Goals as goal

pub loop-listing-preserved : goal.loop-listing-preserved
loop-listing-preserved c = record {
  size = size_step c.args.entries.now c.args.listings.now c.loop-listing.numbers.items c.keep_number.new.numbers.items c.loop-listing.listing-index c.args.count _ c.loop-listing.invariant.size c.keep_number.ensures;
  numbers_are = numbers_step c.args.entries.now c.args.listings.now c.loop-listing.numbers.items c.keep_number.new.numbers.items c.loop-listing.listing-index c.args.count _ c.requires.one c.requires.within c.loop-listing.invariant.size c.loop-listing-test.true c.loop-listing.invariant.numbers_are c.keep_number.ensures;
}
