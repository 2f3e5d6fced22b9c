use Rattle.std.proofs.Common.{◌≡◌, ◌+◌, ◌*◌, ◌<◌, ◌^◌, Some, length, rules, sym, ◌∙◌, ap}
use Rattle.abi_slots.specs.CodeRows.{block_kind, code_of}
use Rattle.abi_image.proofs.Recording.{entry_stands}
use Rattle.abi_image.proofs.Rooms.{adds_record}
use Rattle.abi_image.proofs.entries.code_word.Goals as goal

pub returns-clause-stands : goal.returns-clause-stands
returns-clause-stands c = λ image slot stands there.
    let coded : code_of c.args.codes.now c.args.f (block_kind c.args.kind) ≡ Some c.in-Some.code = ap (λ k. code_of c.args.codes.now c.args.f k) (sym c.block_kind.ensures) ∙ sym c.code.ensures ∙ c.in-Some.is in
    let place : c.behind-at.result ≡ c.args.records_at + 8 * length c.args.records.now.items = search rules in
    let small : c.in-Some.code < 2 ^ 32 = search rules in
    entry_stands image c.args.codes.now c.args.records_at c.behind-at.result slot c.in-Some.code c.args.records.now.items c.push_record.new.words.items c.args.f c.args.kind c.args.this c.args.adjusted c.in_ok-push_record-in-Some.ensures place c.requires.place coded small stands there

pub returns-clause-grows : goal.returns-clause-grows
returns-clause-grows c = adds_record c.behind-at.result c.in-Some.code c.args.this c.args.adjusted c.args.records.now.items c.push_record.new.words.items c.in_ok-push_record-in-Some.ensures
