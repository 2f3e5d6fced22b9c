use Rattle.std.proofs.Common.{◌≡◌, length, take}
use Rattle.abi_slots.specs.Images.{all_words}
use Rattle.abi_image.proofs.regions.words_in.Given as goal

abbrev pub invariant-loop-table : goal.invariant-loop-table
invariant-loop-table l = l.words ≡ length (all_words (take l.table-index l.tables))
