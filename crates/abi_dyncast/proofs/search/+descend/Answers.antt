use Rattle.std.proofs.Common.{◌≡◌, ◌<◌, ap, sym, subst, ◌∙◌, arith, false}
use Rattle.std.specs.Prelude.{Contains}
use Rattle.byte_code.specs.Images.{word_at}
use Rattle.byte_code.specs.Readers.{image_of}
use Rattle.byte_code.specs.declared.code.ImageBytes.{ImageBytes}
use Rattle.byte_code.specs.declared.image.InfoRecord.{InfoRecord}
use Rattle.abi_dyncast.specs.declared.parts.TypedPart.{TypedPart}
use Rattle.abi_dyncast.specs.Graph.{graph_of, info_at, has_virtual_flag, base_record}
use Rattle.abi_dyncast.specs.invariants.Searches.{MayDescend, LeadsOnlyTo}
use Rattle.abi_dyncast.proofs.Edges.{base_is, plain_part}
use Rattle.abi_dyncast.proofs.Searching.{stays_there, descends}
use Rattle.abi_dyncast.proofs.search.+descend.Goals as goal

pub returns-then-info-goal-clause-down : goal.returns-then-info-goal-clause-down
returns-then-info-goal-clause-down g t c = stays_there _ _ _

pub returns-then-info-ne1-clause-down : goal.returns-then-info-ne1-clause-down
returns-then-info-ne1-clause-down g t c = stays_there _ _ _

pub returns-then-is_virtual-clause-down : goal.returns-then-is_virtual-clause-down
returns-then-is_virtual-clause-down g t c = stays_there _ _ _

pub descend-low-requires : goal.descend-low-requires
descend-low-requires g t c κs within =
    let image = word_at (image_of c.args.reader.now) in
    let memory = g.M.Memory.meaning c.args._memory.now in
    let gr = graph_of image memory in
    let info : c.info-info.result ≡ info_at image c.args.part.info = c.info-info.ensures (info_at image c.args.part.info) (c.requires.read.info c.args.part c.requires.has) in
    let bases : c.info-info.result.bases ≡ gr.count c.args.part = ap (λ (i : InfoRecord). i.bases) info in
    let lt : 0 < gr.count c.args.part = omega (arith, c.if-info-ne1.false) in
    let base : c.base-base.result ≡ base_record image c.args.part 0 = base_is image memory c.args.part c.info-info.result 0 c.base-base.result info (c.requires.read.steps c.args.part 0 c.requires.has lt) c.base-base.ensures.record in
    let plain : has_virtual_flag c.base-base.result ≡ false = sym c.is_virtual.ensures ∙ c.if-is_virtual.false in
    let next : TypedPart = record { at = c.moved.result; info = c.base-base.result.info } in
    let is : next ≡ (gr.edge c.args.part 0).part = plain_part image memory c.args.part 0 c.base-base.result c.offset_word.result c.moved.result base plain c.offset_word.ensures c.moved.ensures in
    let falls = c.requires.are.falls c.args.part 0 c.requires.has lt in
    let lower : gr.class next ≡ gr.class (gr.edge c.args.part 0).part = ap gr.class is in
    let on : image_of c.base-base.new.self ≡ image_of c.args.reader.now = c.base-base.ensures.image in
    let there : (graph_of (word_at (image_of c.base-base.new.self)) memory).class next ≡ gr.class next = ap (λ (i : ImageBytes). (graph_of (word_at i) memory).class next) on in
    let may : MayDescend image memory next = record {
      parts = c.requires.parts;
      are = c.requires.are;
      read = c.requires.read;
      has = subst (λ (p : TypedPart). Contains c.requires.parts p) (sym is) (c.requires.are.inside c.args.part 0 c.requires.has lt);
    } in
    (omega (arith, c.decreases), (within, subst (λ (i : ImageBytes). MayDescend (word_at i) memory next) (sym on) may))

pub returns-clause-down : goal.returns-clause-down
returns-clause-down g t c =
    let image = word_at (image_of c.args.reader.now) in
    let memory = g.M.Memory.meaning c.args._memory.now in
    let gr = graph_of image memory in
    let info : c.info-info.result ≡ info_at image c.args.part.info = c.info-info.ensures (info_at image c.args.part.info) (c.requires.read.info c.args.part c.requires.has) in
    let bases : c.info-info.result.bases ≡ gr.count c.args.part = ap (λ (i : InfoRecord). i.bases) info in
    let class : c.info-info.result.class ≡ gr.class c.args.part = ap (λ (i : InfoRecord). i.class) info in
    let one : gr.count c.args.part ≡ 1 = omega (arith, c.if-info-ne1.false) in
    let lt : 0 < gr.count c.args.part = omega arith in
    let high : c.args.goal.class < gr.class c.args.part = omega (arith, c.if-info-goal.false) in
    let base : c.base-base.result ≡ base_record image c.args.part 0 = base_is image memory c.args.part c.info-info.result 0 c.base-base.result info (c.requires.read.steps c.args.part 0 c.requires.has lt) c.base-base.ensures.record in
    let plain : has_virtual_flag c.base-base.result ≡ false = sym c.is_virtual.ensures ∙ c.if-is_virtual.false in
    let next : TypedPart = record { at = c.moved.result; info = c.base-base.result.info } in
    let is : next ≡ (gr.edge c.args.part 0).part = plain_part image memory c.args.part 0 c.base-base.result c.offset_word.result c.moved.result base plain c.offset_word.ensures c.moved.ensures in
    let down = subst (λ (i : ImageBytes). LeadsOnlyTo (graph_of (word_at i) memory) c.args.goal next c.descend-low.result) c.base-base.ensures.image c.descend-low.ensures.down in
    descends gr c.args.goal c.args.part next c.descend-low.result one high is down
