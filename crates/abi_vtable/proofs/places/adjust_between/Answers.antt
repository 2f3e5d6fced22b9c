use Rattle.abi_vtable.specs.invariants.Parts.{view_of_parts}
use Rattle.abi_vtable.proofs.Seen.{alike_valid}
use Rattle.abi_vtable.proofs.places.adjust_between.Goals as goal

pub this_adjust-requires-clause-from : goal.this_adjust-requires-clause-from
this_adjust-requires-clause-from g c = alike_valid c.args.h.now (view_of_parts c.args.x.now) c.requires.view c.args.from.now.at c.requires.from (c.is_seen_alike.ensures c.args.h.now c.requires.view c.requires.from c.if-is_seen_alike.true)

pub this_adjust-requires-clause-to : goal.this_adjust-requires-clause-to
this_adjust-requires-clause-to g c = alike_valid c.args.h.now (view_of_parts c.args.x.now) c.requires.view c.args.to.now.at c.requires.to (c.is_seen_alike-then-is_seen_alike.ensures c.args.h.now c.requires.view c.requires.to c.if-is_seen_alike-2.true)
