use Rattle.std.proofs.Common.{refl, ap, sym, ◌∙◌, get_or, None, length, arith}
use Rattle.std.specs.List.{slice_get}
use Rattle.std.proofs.lemmas.Option.{slice_get_read}
use Rattle.abi_slots.specs.Listing.{entries}
use Rattle.abi_slots.specs.Slots.{declared_at}
use Rattle.abi_slots.proofs.SlotTables.{mapped_at}
use Rattle.abi_slots.proofs.slots.Slots.declared.Goals as goal

pub returns-in-Some : goal.returns-in-Some
returns-in-Some c = λ h l are known.
    let row = c.in-Some.row.now in
    let there = slice_get_read c.deref.result.now (length c.deref.result.now) c.args.c.0 row refl (omega arith) c.in-Some.ensures.lookup.1 in
    let is = are.each c.args.c row (sym (ap (λ rows. slice_get rows c.args.c.0) c.deref.ensures.value) ∙ there) in
    c.declared_in.ensures ∙ ap (λ a. get_or a c.args.n None) (c.as_slice.ensures ∙ is.declares) ∙ mapped_at (declared_at h l c.args.c) (entries h l c.args.c) c.args.n
