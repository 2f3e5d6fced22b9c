use Rattle.std.proofs.Common.{◌≡◌, ◌+◌, Some}
use Rattle.std.specs.List.{slice_index_or}
use Rattle.abi_slots.specs.Images.{vtt_address}
use Rattle.abi_image.specs.invariants.Drafts.{Fills, address_in, two_words}
use Rattle.abi_image.proofs.directory.push_directory.Given as goal

abbrev pub invariant-loop-c : goal.invariant-loop-c
invariant-loop-c l = Fills two_words (λ image i vtt at. (image at ≡ Some (slice_index_or l.firsts i 0)) × (image (at + 8) ≡ Some (vtt_address (address_in l.vtt_at i) vtt))) l.vtts l.c l.initial.draft l.draft
