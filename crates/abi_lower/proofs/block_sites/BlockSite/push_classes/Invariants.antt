use Rattle.std.proofs.Common.{◌≡◌, ◌++◌, ◌-◌, length}
use Rattle.std.specs.List.{flat_map}
use Rattle.code_ops.specs.Setups.{setup}
use Rattle.abi_lower.specs.invariants.Numbers.{class_ids}
use Rattle.abi_lower.specs.invariants.Codes.{class_ids_from}
use Rattle.abi_lower.specs.invariants.Runs.{class_blocks}
use Rattle.abi_lower.proofs.block_sites.BlockSite.push_classes.Given as goal

abbrev pub invariant-loop-n : goal.invariant-loop-n
invariant-loop-n g l =
    let x = setup l.self.lowering.now.h.now (g.L.SoundLayout.rows l.self.lowering.now.layout.now) l.self.lowering.now.program.now in
    l.blocks ++ flat_map (class_blocks x) (class_ids_from l.n (length l.self.lowering.now.h.now - l.n)) ≡ l.initial.blocks ++ flat_map (class_blocks x) (class_ids (length l.self.lowering.now.h.now))
