use Rattle.std.proofs.Common.{refl}
use Rattle.abi_slots.specs.Images.{HasWord}
use Rattle.abi_image.specs.invariants.Drafts.{class_address}
use Rattle.abi_image.proofs.Recording.{puts_table_word}
use Rattle.abi_image.proofs.table_words.push_word.Goals as goal

pub returns : goal.returns
returns c = puts_table_word c.args.draft.now (record { words = c.push.new.self; records = c.table_word.new.records; records_at = c.args.draft.now.records_at }) c.in_ok-number.number (λ image at. HasWord image c.args.codes.now (class_address c.args.infos.now) at c.args.word.now) c.in_ok-push.ensures.items c.in_ok-number.ensures.grows refl c.in_ok-number.ensures.stands
