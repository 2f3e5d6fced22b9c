use Rattle.std.proofs.Common.{[], length, ap, arith, refl, subst}
use Rattle.abi_image.specs.declared.TheConstants.{BASE}
use Rattle.abi_image.specs.invariants.Bytes.{PutsWords}
use Rattle.abi_image.proofs.ByteWords.{draft_bytes}
use Rattle.abi_image.proofs.bytes.bytes_of.Goals as goal

pub returns-clause-words : goal.returns-clause-words
returns-clause-words c =
    let one = subst (λ ws. PutsWords [] c.push_words.new.bytes.items ws) c.deref.ensures.value (subst (λ bs. PutsWords bs c.push_words.new.bytes.items c.deref.result.now) c.new-bytes.ensures.items c.in_ok-push_words.ensures) in
    let two = subst (λ ws. PutsWords c.push_words.new.bytes.items c.push_words-2.new.bytes.items ws) c.deref-2.ensures.value c.in_ok-push_words-2.ensures in
    draft_bytes (record { bytes = c.from_vec.result; base = BASE }) c.args.draft.now c.push_words.new.bytes.items c.push_words-2.new.bytes.items refl c.from_vec.ensures c.requires one two

pub returns-clause-size : goal.returns-clause-size
returns-clause-size c =
    let one = (subst (λ bs. PutsWords bs c.push_words.new.bytes.items c.deref.result.now) c.new-bytes.ensures.items c.in_ok-push_words.ensures).size in
    let two = c.in_ok-push_words-2.ensures.size in
    let words = ap length c.deref.ensures.value in
    let records = ap length c.deref-2.ensures.value in
    let bytes = ap length c.from_vec.ensures in
    omega (arith, one, two, words, records, bytes)
