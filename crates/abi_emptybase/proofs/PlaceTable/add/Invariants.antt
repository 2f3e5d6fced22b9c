use Rattle.std.proofs.Common.{◌≡◌, ◌-◌, ◌≤◌, length, take}
use Rattle.std.specs.Prelude.{◌||◌}
use Rattle.std.specs.List.{list_any}
use Rattle.std.specs.HashSet.{spare}
use Rattle.abi_emptybase.specs.declared.Part.{Part}
use Rattle.abi_emptybase.specs.Table.{holds, moved_part, same_placed_part}
use Rattle.abi_emptybase.proofs.PlaceTable.add.Given as goal

-- the parts so far are added, and there is room for the others
abbrev pub invariant-loop-part : goal.invariant-loop-part
invariant-loop-part l = record {
  added : (q : Part) → holds l.table.keys q ≡ (holds l.fn.self q || list_any (λ part. same_placed_part (moved_part l.at part) q) (take l.part-index l.parts));
  room : length l.parts - l.part-index ≤ spare l.table;
}
