use Rattle.std.proofs.Common.{◌≡◌, ◌<◌, ap, sym, subst, ◌∙◌, arith, false}
use Rattle.std.specs.Prelude.{Contains}
use Rattle.byte_code.specs.Images.{word_at}
use Rattle.byte_code.specs.declared.image.InfoRecord.{InfoRecord}
use Rattle.abi_dyncast.specs.declared.parts.TypedPart.{TypedPart}
use Rattle.abi_dyncast.specs.Graph.{graph_of, info_at, has_virtual_flag, base_record}
use Rattle.abi_dyncast.specs.invariants.Direct.{plain_base}
use Rattle.abi_dyncast.specs.invariants.Searches.{MayDescend}
use Rattle.abi_dyncast.proofs.Edges.{base_is, plain_part}
use Rattle.abi_dyncast.proofs.Directly.{itself_directly, goes_on_directly, next_is}
use Rattle.abi_dyncast.proofs.search.+leads_directly.Goals as goal

pub returns-then-info-goal : goal.returns-then-info-goal
returns-then-info-goal g t c found =
    let image = word_at c.args.image.now in
    let memory = g.M.Memory.meaning c.args._memory.now in
    let info : c.info-info.result ≡ info_at image c.args.part.info = c.info-info.ensures (info_at image c.args.part.info) (c.requires.read.info c.args.part c.requires.has) in
    itself_directly image memory c.args.goal c.args.part c.info-info.result.class (ap (λ (i : InfoRecord). i.class) info) (sym c.is_source.ensures ∙ found)

pub leads_directly-found-requires : goal.leads_directly-found-requires
leads_directly-found-requires g t c κs within =
    let image = word_at c.args.image.now in
    let memory = g.M.Memory.meaning c.args._memory.now in
    let gr = graph_of image memory in
    let info : c.info-info.result ≡ info_at image c.args.part.info = c.info-info.ensures (info_at image c.args.part.info) (c.requires.read.info c.args.part c.requires.has) in
    let bases : c.info-info.result.bases ≡ gr.count c.args.part = ap (λ (i : InfoRecord). i.bases) info in
    let lt : c.loop-number.number < gr.count c.args.part = omega (arith, c.loop-number-test.true) in
    let base : c.base-base.result ≡ base_record image c.args.part c.loop-number.number = base_is image memory c.args.part c.info-info.result c.loop-number.number c.base-base.result info (c.requires.read.steps c.args.part c.loop-number.number c.requires.has lt) c.base-base.ensures in
    let plain : has_virtual_flag c.base-base.result ≡ false = sym c.is_virtual.ensures ∙ c.if-not-is_virtual.true in
    let next : TypedPart = record { at = c.moved.result; info = c.base-base.result.info } in
    let is : next ≡ (gr.edge c.args.part c.loop-number.number).part = plain_part image memory c.args.part c.loop-number.number c.base-base.result c.offset_word.result c.moved.result base plain c.offset_word.ensures c.moved.ensures in
    let falls = c.requires.are.falls c.args.part c.loop-number.number c.requires.has lt in
    let lower : gr.class next ≡ gr.class (gr.edge c.args.part c.loop-number.number).part = ap gr.class is in
    let may : MayDescend image memory next = record {
      parts = c.requires.parts;
      are = c.requires.are;
      read = c.requires.read;
      has = subst (λ (p : TypedPart). Contains c.requires.parts p) (sym is) (c.requires.are.inside c.args.part c.loop-number.number c.requires.has lt);
    } in
    (omega (arith, c.decreases), (within, may))

pub overflow_add-info : goal.overflow_add-info
overflow_add-info g t c =
    let image = word_at c.args.image.now in
    let memory = g.M.Memory.meaning c.args._memory.now in
    let gr = graph_of image memory in
    let info : c.info-info.result ≡ info_at image c.args.part.info = c.info-info.ensures (info_at image c.args.part.info) (c.requires.read.info c.args.part c.requires.has) in
    let bases : c.info-info.result.bases ≡ gr.count c.args.part = ap (λ (i : InfoRecord). i.bases) info in
    let first : c.info-info.result.first ≡ (info_at image c.args.part.info).first = ap (λ (i : InfoRecord). i.first) info in
    let lt : c.loop-number.number < gr.count c.args.part = omega (arith, c.loop-number-test.true) in
    let low = (c.requires.read.steps c.args.part c.loop-number.number c.requires.has lt).low in
    omega arith

pub returns-then-found : goal.returns-then-found
returns-then-found g t c there =
    let image = word_at c.args.image.now in
    let memory = g.M.Memory.meaning c.args._memory.now in
    let gr = graph_of image memory in
    let info : c.info-info.result ≡ info_at image c.args.part.info = c.info-info.ensures (info_at image c.args.part.info) (c.requires.read.info c.args.part c.requires.has) in
    let bases : c.info-info.result.bases ≡ gr.count c.args.part = ap (λ (i : InfoRecord). i.bases) info in
    let lt : c.loop-number.number < gr.count c.args.part = omega (arith, c.loop-number-test.true) in
    let base : c.base-base.result ≡ base_record image c.args.part c.loop-number.number = base_is image memory c.args.part c.info-info.result c.loop-number.number c.base-base.result info (c.requires.read.steps c.args.part c.loop-number.number c.requires.has lt) c.base-base.ensures in
    let plain : has_virtual_flag (base_record image c.args.part c.loop-number.number) ≡ false = ap has_virtual_flag (sym base) ∙ (sym c.is_virtual.ensures ∙ c.if-not-is_virtual.true) in
    let next : TypedPart = record { at = c.moved.result; info = c.base-base.result.info } in
    let is : next ≡ plain_base image c.args.part c.loop-number.number = next_is image c.args.part c.loop-number.number c.base-base.result c.offset_word.result c.moved.result base c.offset_word.ensures c.moved.ensures in
    goes_on_directly image c.args.goal c.args.part next c.loop-number.number lt plain is (c.leads_directly-found.ensures c.if-found.true)
