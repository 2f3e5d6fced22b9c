use Rattle.std.proofs.Common.{Some, refl, sym, subst, ◌++◌, ◌∷◌, []}
use Rattle.abi_slots.specs.declared.words.Offset.TheVariants.{ToBase}
use Rattle.abi_slots.specs.Limits.{most_offsets}
use Rattle.abi_slots.specs.invariants.OffsetWords.{virtual_base_number, AreWords}
use Rattle.abi_slots.proofs.PushSteps.{base_told, push_fresh, room}
use Rattle.abi_slots.proofs.WordSteps.{words_push}
use Rattle.abi_slots.proofs.offsets.push_base.Goals as goal

pub push_offset-requires-clause-few : goal.push_offset-requires-clause-few
push_offset-requires-clause-few c =
    let table = c.args.table.now in
    room c.args.h.now table.offsets.items (ToBase c.args.v) most_offsets
    (push_fresh c.args.h.now virtual_base_number table.offsets.items table.words.items (ToBase c.args.v) c.args.v.0 c.requires.words (base_told c.args.h.now c.args.v) c.requires.within (c.has_word.ensures.none c.if-not-has_word.true)) c.requires.few

pub returns-in_ok-push_offset-clause-words : goal.returns-in_ok-push_offset-clause-words
returns-in_ok-push_offset-clause-words c =
    let table = c.args.table.now in
    let more = words_push virtual_base_number table.offsets.items table.words.items (ToBase c.args.v) (Some c.args.v.0) c.requires.words refl c.requires.within in
    subst (λ xs. AreWords virtual_base_number xs c.push_offset.new.table.words.items) (sym c.in_ok-push_offset.ensures.offsets) (subst (λ ws. AreWords virtual_base_number (table.offsets.items ++ ToBase c.args.v ∷ []) ws) (sym c.in_ok-push_offset.ensures.words) more)
