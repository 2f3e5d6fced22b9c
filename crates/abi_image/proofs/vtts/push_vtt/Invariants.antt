use Rattle.abi_image.specs.invariants.Drafts.{Fills, address_in, one_word}
use Rattle.abi_image.specs.invariants.Points.{HasPointAt}
use Rattle.abi_image.proofs.vtts.push_vtt.Given as goal

abbrev pub invariant-loop-word : goal.invariant-loop-word
invariant-loop-word l = Fills one_word (λ image i word at. HasPointAt image l.groups (address_in l.places.at.items) at word) l.vtt l.word-index l.initial.draft l.draft
