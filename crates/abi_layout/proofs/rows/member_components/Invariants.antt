use Rattle.std.proofs.Common.{◌≡◌, map, take}
use Rattle.abi_layout.specs.Placements.{member_component}
use Rattle.abi_layout.specs.invariants.Known.{known_parts_of}
use Rattle.abi_layout.specs.invariants.Alignments.{AreLittle}
use Rattle.abi_layout.proofs.rows.member_components.Given as goal

-- the components of the members so far
abbrev pub invariant-loop-member : goal.invariant-loop-member
invariant-loop-member l = record {
  components : l.components.items ≡ map (member_component l.rows (known_parts_of l.known)) (take l.member-index l.members);
  little : AreLittle l.components.items;
}
