use Rattle.std.proofs.Common.{◌≡◌, w64, to_z, of_z, rules}
use Rattle.byte_code.specs.Images.{word_at}
use Rattle.byte_code.specs.Readers.{image_of}
use Rattle.abi_dyncast.specs.Graph.{graph_of}
use Rattle.abi_dyncast.specs.Casts.{room, view_at_address}
use Rattle.abi_dyncast.proofs.Hinting.{class_known, hint_casts, walk_counts}
use Rattle.abi_dyncast.proofs.answer.cast_hinted.Goals as goal

pub returns-then-is_at_hint-clause-casts : goal.returns-then-is_at_hint-clause-casts
returns-then-is_at_hint-clause-casts g c =
    let image = word_at (image_of c.args.reader.now) in
    let memory = g.M.Memory.meaning c.args.memory.now in
    let known = class_known image memory (room c.args.work.now) c.args.at c.view_from-view.result c.info-info.result c.requires.can c.view_from-view.ensures c.info-info.ensures in
    let back : to_z w64 (of_z w64 c.args.hint) ≡ c.args.hint = search rules in
    hint_casts image memory (room c.args.work.now) c.args.at c.args.class c.args.target c.info-info.result.class c.args.hint _ c.view_from-view.result c.is_at_hint.result c.requires c.view_from-view.ensures known back c.is_at_hint.ensures c.if-is_at_hint.true

pub returns-clause-visits : goal.returns-clause-visits
returns-clause-visits g c =
    let image = word_at (image_of c.args.reader.now) in
    let memory = g.M.Memory.meaning c.args.memory.now in
    let known = class_known image memory (room c.args.work.now) c.args.at c.view_from-view.result c.info-info.result c.requires.can c.view_from-view.ensures c.info-info.ensures in
    let back : to_z w64 (of_z w64 c.args.hint) ≡ c.args.hint = search rules in
    walk_counts (graph_of image memory) (view_at_address image memory c.args.at) c.view_from-view.result c.args.at c.args.target c.info-info.result.class c.args.hint _ c.is_at_hint.result _ _ c.view_from-view.ensures known back c.is_at_hint.ensures c.if-is_at_hint.false c.cast_by_walk-found.ensures.visits
