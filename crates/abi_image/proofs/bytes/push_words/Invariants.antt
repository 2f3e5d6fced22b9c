use Rattle.std.proofs.Common.{take}
use Rattle.abi_image.specs.invariants.Bytes.{PutsWords}
use Rattle.abi_image.proofs.bytes.push_words.Given as goal

abbrev pub invariant-loop-word : goal.invariant-loop-word
invariant-loop-word l = PutsWords l.initial.bytes.items l.bytes.items (take l.word-index l.words)
