use Rattle.abi_slots.specs.Images.{StandsAt}
use Rattle.abi_image.specs.invariants.Drafts.{Fills, class_address, group_size}
use Rattle.abi_image.proofs.table_words.push_groups.Given as goal

abbrev pub invariant-loop-group : goal.invariant-loop-group
invariant-loop-group l = Fills group_size (λ image i group at. StandsAt image l.codes (class_address l.infos) group at) l.groups l.group-index l.initial.draft l.draft
