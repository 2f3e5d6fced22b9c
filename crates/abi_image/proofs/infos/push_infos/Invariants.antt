use Rattle.abi_slots.specs.Images.{HasInfo}
use Rattle.abi_image.specs.invariants.Drafts.{Fills, class_address, info_size}
use Rattle.cxx_hierarchy.specs.Classes.{class_by_number}
use Rattle.abi_image.proofs.infos.push_infos.Given as goal

abbrev pub invariant-loop-c : goal.invariant-loop-c
invariant-loop-c l = Fills info_size (λ image c info at. HasInfo image (class_address l.infos_at) (class_by_number c) info at) l.infos l.c l.initial.draft l.draft
