use Rattle.std.proofs.Common.{◌≡◌, length, get_or, refl, ap, sym, ◌∙◌, arith}
use Rattle.std.specs.Prelude.{pos}
use Rattle.std.proofs.lemmas.Int.{to_z-of_z}
use Rattle.std.proofs.lemmas.Option.{slice_get_read}
use Rattle.cxx_overrider.specs.invariants.Numbers.{number_of}
use Rattle.abi_slots.specs.Listing.{vcall_number}
use Rattle.abi_slots.specs.Slots.{word_number}
use Rattle.abi_slots.proofs.SlotTables.{kept_vcall, no_row, no_number}
use Rattle.abi_slots.proofs.slots.Slots.vcall.Goals as goal

pub returns-in-Some-number_of : goal.returns-in-Some-number_of
returns-in-Some-number_of c = λ h l are is listed.
    let row = c.in-Some.row.now in
    let n = c.in-Some-number_of.number in
    let there = sym (slice_get_read c.deref.result.now (length c.deref.result.now) c.args.v.0 row refl c.in-Some.ensures.lookup.3.0 c.in-Some.ensures.lookup.1) in
    let number = c.in-Some-number_of.ensures ∙ ap (λ rows. number_of rows c.args.f) c.deref-in-Some.ensures.value in
    let kept = kept_vcall h l c.args.self.now are c.args.v c.args.f row n (there ∙ ap (λ rows. Rattle.std.specs.List.slice_get rows c.args.v.0) c.deref.ensures.value) number is listed in
    let e : c.word_at.result ≡ word_number (vcall_number h l c.args.v c.args.f) = c.word_at.ensures ∙ ap (λ a. get_or a n (pos 0)) c.as_slice.ensures ∙ kept in
    grind (arith, to_z-of_z, e)

pub returns-in-None-number_of : goal.returns-in-None-number_of
returns-in-None-number_of c = λ h l are is listed. absurd (no_number h l c.args.self.now are c.args.v c.args.f (c.in-None-number_of.ensures ∙ ap (λ rows. number_of rows c.args.f) c.deref-in-Some.ensures.value) listed)

pub returns-in-None : goal.returns-in-None
returns-in-None c = λ h l are is listed.
    let size = ap length c.deref.ensures.value in
    let past = c.in-None.ensures.lookup.3 in
    absurd (no_row h l c.args.self.now are c.args.v (omega arith) is)
