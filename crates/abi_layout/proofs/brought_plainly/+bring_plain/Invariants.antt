use Rattle.std.proofs.Common.{◌≡◌, ◌+◌, ◌*◌, ◌++◌, ◌∷◌, map, take}
use Rattle.std.specs.List.{flat_map}
use Rattle.cxx_subobject.specs.declared.Subobject.{Subobject}
use Rattle.abi_emptybase.specs.Table.{moved_part}
use Rattle.abi_layout.specs.Placements.{placed_part}
use Rattle.abi_layout.specs.invariants.Known.{known_parts_of}
use Rattle.abi_layout.specs.Brought.{parts_in_members, base_brings, brought_by}
use Rattle.abi_layout.proofs.brought_plainly.+bring_plain.Given as goal

abbrev pub decreases-bring_plain : goal.decreases-bring_plain
decreases-bring_plain l = 2 * l.d.0 + 1

abbrev pub decreases-bring_plain_base : goal.decreases-bring_plain_base
decreases-bring_plain_base l = 2 * l.d.0

-- the subobject itself, its members and its bases so far have brought what they bring, whichever it is
abbrev pub invariant-bring_plain-loop-base : goal.invariant-bring_plain-loop-base
invariant-bring_plain-loop-base l =
    (s : Subobject) → l.parts ≡ l.fn.parts ++ map (moved_part l.at) ((placed_part l.d 0 ∷ parts_in_members l.scene.h.now l.scene.rows.now (known_parts_of l.scene.known.now) l.d)
    ++ flat_map (base_brings l.scene.h.now l.scene.rows.now (brought_by l.scene.h.now l.scene.rows.now l.scene.primaries.now (known_parts_of l.scene.known.now) l.scene.c) s l.d) (take l.base-index l.base-items))
