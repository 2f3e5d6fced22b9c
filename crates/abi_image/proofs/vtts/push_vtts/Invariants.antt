use Rattle.abi_image.specs.invariants.Drafts.{AllAt, Fills, address_in, vtt_size}
use Rattle.abi_image.specs.invariants.Points.{HasPointAt}
use Rattle.abi_image.proofs.vtts.push_vtts.Given as goal

abbrev pub invariant-loop-vtt : goal.invariant-loop-vtt
invariant-loop-vtt l = Fills vtt_size (λ image i vtt at. AllAt (HasPointAt image l.groups (address_in l.places.at.items)) vtt at) l.vtts l.vtt-index l.initial.draft l.draft
