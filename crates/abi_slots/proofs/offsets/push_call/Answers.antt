use Rattle.std.proofs.Common.{◌<◌, Some, ap, sym, subst, ◌∙◌, ◌++◌, ◌∷◌, [], length, arith}
use Rattle.std.proofs.lemmas.List.{append-nil}
use Rattle.abi_slots.specs.declared.words.Offset.TheVariants.{ToOverrider}
use Rattle.abi_slots.specs.Limits.{most_offsets}
use Rattle.abi_slots.specs.invariants.OffsetWords.{name_number, AreWords}
use Rattle.abi_slots.proofs.PushSteps.{name_told, push_fresh, push_there, room}
use Rattle.abi_slots.proofs.WordSteps.{words_push}
use Rattle.abi_slots.proofs.offsets.push_call.Goals as goal

pub push_offset-requires-clause-few : goal.push_offset-requires-clause-few
push_offset-requires-clause-few c =
    let table = c.args.table.now in
    let x = ToOverrider c.args.path.now c.args.f in
    let n = c.signature_number-number.result in
    let low = c.requires.numbering.few c.args.f n (sym c.signature_number-number.ensures) in
    let size = c.requires.size in
    let within : n < length table.words.items = omega arith in
    room c.args.h.now table.offsets.items x most_offsets
    (push_fresh c.args.h.now (name_number c.args.numbering.now.rows.items) table.offsets.items table.words.items x n c.requires.words
    (name_told c.args.h.now c.args.numbering.now.rows.items c.args.numbering.now.count c.requires.numbering c.args.path.now c.args.f n c.signature_number-number.ensures) within (c.has_word.ensures.none c.if-not-has_word.true)) c.requires.few

pub returns-in_ok-push_offset-clause-offsets : goal.returns-in_ok-push_offset-clause-offsets
returns-in_ok-push_offset-clause-offsets c =
    let table = c.args.table.now in
    let x = ToOverrider c.args.path.now c.args.f in
    let n = c.signature_number-number.result in
    let low = c.requires.numbering.few c.args.f n (sym c.signature_number-number.ensures) in
    let size = c.requires.size in
    let within : n < length table.words.items = omega arith in
    c.in_ok-push_offset.ensures.offsets ∙ ap (λ p. table.offsets.items ++ ToOverrider p c.args.f ∷ []) (c.in_ok-copy.ensures ∙ append-nil c.args.path.now)
    ∙ sym (push_fresh c.args.h.now (name_number c.args.numbering.now.rows.items) table.offsets.items table.words.items x n c.requires.words
    (name_told c.args.h.now c.args.numbering.now.rows.items c.args.numbering.now.count c.requires.numbering c.args.path.now c.args.f n c.signature_number-number.ensures) within (c.has_word.ensures.none c.if-not-has_word.true))

pub returns-in_ok-push_offset-clause-words : goal.returns-in_ok-push_offset-clause-words
returns-in_ok-push_offset-clause-words c =
    let table = c.args.table.now in
    let number = name_number c.args.numbering.now.rows.items in
    let x = ToOverrider c.in_ok-copy.copy c.args.f in
    let n = c.signature_number-number.result in
    let low = c.requires.numbering.few c.args.f n (sym c.signature_number-number.ensures) in
    let size = c.requires.size in
    let within : n < length table.words.items = omega arith in
    let more = words_push number table.offsets.items table.words.items x (Some n) c.requires.words (sym c.signature_number-number.ensures) within in
    subst (λ xs. AreWords number xs c.push_offset.new.table.words.items) (sym c.in_ok-push_offset.ensures.offsets) (subst (λ ws. AreWords number (table.offsets.items ++ x ∷ []) ws) (sym c.in_ok-push_offset.ensures.words) more)

pub returns-else-not-has_word-clause-offsets : goal.returns-else-not-has_word-clause-offsets
returns-else-not-has_word-clause-offsets c =
    let table = c.args.table.now in
    let n = c.signature_number-number.result in
    let low = c.requires.numbering.few c.args.f n (sym c.signature_number-number.ensures) in
    let size = c.requires.size in
    let within : n < length table.words.items = omega arith in
    sym (push_there c.args.h.now (name_number c.args.numbering.now.rows.items) table.offsets.items table.words.items (ToOverrider c.args.path.now c.args.f) n c.requires.words
    (name_told c.args.h.now c.args.numbering.now.rows.items c.args.numbering.now.count c.requires.numbering c.args.path.now c.args.f n c.signature_number-number.ensures) within (c.has_word.ensures.some c.if-not-has_word.false))
