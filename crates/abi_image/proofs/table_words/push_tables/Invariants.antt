use Rattle.abi_slots.specs.Images.{HasWord}
use Rattle.abi_image.specs.invariants.Drafts.{AllAt, Fills, class_address, table_size}
use Rattle.abi_image.proofs.table_words.push_tables.Given as goal

abbrev pub invariant-loop-table : goal.invariant-loop-table
invariant-loop-table l = Fills table_size (λ image i table at. AllAt (HasWord image l.codes (class_address l.infos)) table.words at) l.tables l.table-index l.initial.draft l.draft
