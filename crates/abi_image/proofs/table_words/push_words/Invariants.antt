use Rattle.abi_slots.specs.Images.{HasWord}
use Rattle.abi_image.specs.invariants.Drafts.{Fills, class_address, one_word}
use Rattle.abi_image.proofs.table_words.push_words.Given as goal

abbrev pub invariant-loop-word : goal.invariant-loop-word
invariant-loop-word l = Fills one_word (λ image i word at. HasWord image l.codes (class_address l.infos) at word) l.words l.word-index l.initial.draft l.draft
