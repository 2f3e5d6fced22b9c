use Rattle.std.proofs.Common.{◌≡◌, rules}
use Rattle.foundation.proofs.Places.{any_default}
use Rattle.byte_code.specs.Numbers.{word_of}
use Rattle.abi_image.specs.declared.TheConstants.{BASE}
use Rattle.abi_image.specs.invariants.Drafts.{class_address}
use Rattle.abi_image.proofs.InfoWords.{puts_base}
use Rattle.abi_image.proofs.infos.push_base.Goals as goal

pub returns : goal.returns
returns c =
    let number : c.word_of.result ≡ word_of c.args.base.now.offset_flags = search rules in
    puts_base c.args.draft.now c.push.new.self c.push-2.new.self (class_address c.args.infos.now) c.args.base.now _ c.word_of.result (any_default c.args.infos.now c.args.base.now.class.0 _ BASE c.requires) number c.in_ok-push.ensures.words c.in_ok-push.ensures.records c.in_ok-push.ensures.place c.in_ok-push-2.ensures.words c.in_ok-push-2.ensures.records c.in_ok-push-2.ensures.place
