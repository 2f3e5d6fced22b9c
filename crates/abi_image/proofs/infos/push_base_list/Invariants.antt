use Rattle.abi_slots.specs.Images.{HasBaseWords}
use Rattle.abi_image.specs.invariants.Drafts.{Fills, class_address, two_words}
use Rattle.abi_image.proofs.infos.push_base_list.Given as goal

abbrev pub invariant-loop-base : goal.invariant-loop-base
invariant-loop-base l = Fills two_words (λ image i base at. HasBaseWords image (class_address l.infos) base at) l.bases l.base-index l.initial.draft l.draft
