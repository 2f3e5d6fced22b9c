use Rattle.std.proofs.Common.{◌+◌, ◌<◌, ◌^◌, ◌∙◌, List, map, sym, ap, subst}
use Rattle.std.specs.Prelude.{All, max, if◌then◌else◌}
use Rattle.abi_emptybase.specs.declared.Part.{Part}
use Rattle.abi_emptybase.specs.Table.{moved_part}
use Rattle.abi_layout.specs.declared.placing.Placing.{Placing}
use Rattle.abi_layout.specs.invariants.Alignments.{with_parts}
use Rattle.abi_layout.proofs.rules.PlacingLemmas.{put_keeps, stage_of, stage_is_after, moves_within}
use Rattle.abi_layout.proofs.placing.put.Goals as goal

pub add_parts-requires-clause-bounded : goal.add_parts-requires-clause-bounded
add_parts-requires-clause-bounded c =
    subst (λ (parts : List Part). All (λ (part : Part). part.place + c.args.at < 2 ^ 32) parts) (sym c.as_slice.ensures)
    (moves_within c.args.placing.now.stage c.args.component.now c.args.at c.requires.component c.requires.bounded)

pub returns-clause-placing : goal.returns-clause-placing
returns-clause-placing c =
    let old = c.args.placing.now in
    let added = c.add_parts.new.placing in
    let new : Placing = record { stage = stage_of c.data_end-data_end.result c.free_after-free_bit.result c.max-placing.result c.max-placing-2.result added.stage.parts; table = added.table; listed = added.listed } in
    let is = stage_is_after old.stage added.stage c.args.component.now c.args.at c.data_end-data_end.result c.free_after-free_bit.result c.max-placing.result c.max-placing-2.result
    (c.in_ok-add_parts.ensures.stage ∙ ap (λ (parts : List Part). with_parts old.stage (map (moved_part c.args.at) parts)) c.as_slice.ensures)
    (c.data_end-data_end.ensures ∙ ap (λ n. if c.args.component.now.is_empty then old.stage.dsize else n) c.end_of-end.ensures) c.free_after-free_bit.ensures (c.max-placing.ensures ∙ ap (max added.stage.size) c.end_of-end.ensures) c.max-placing-2.ensures in
    put_keeps old new c.args.component.now c.args.at c.requires.placing c.requires.component c.requires.place c.requires.bounded (record { within = c.in_ok-add_parts.ensures.table.within; same = c.in_ok-add_parts.ensures.table.same }) is
