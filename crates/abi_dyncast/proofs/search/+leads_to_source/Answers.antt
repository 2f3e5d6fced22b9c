use Rattle.std.proofs.Common.{◌≡◌, ◌<◌, ap, sym, subst, refl, ◌∙◌, arith}
use Rattle.byte_code.specs.Images.{word_at}
use Rattle.byte_code.specs.Readers.{image_of}
use Rattle.byte_code.specs.declared.code.ImageBytes.{ImageBytes}
use Rattle.byte_code.specs.declared.image.InfoRecord.{InfoRecord}
use Rattle.abi_dyncast.specs.declared.parts.Edge.{Edge}
use Rattle.abi_dyncast.specs.declared.work.Entry.{Entry}
use Rattle.abi_dyncast.specs.Graph.{graph_of, info_at}
use Rattle.abi_dyncast.specs.Casts.{CanStep}
use Rattle.abi_dyncast.specs.invariants.Chain.{part_entry, link_for}
use Rattle.abi_dyncast.specs.invariants.Searches.{MayBeginSearch, Searched, TellsOfSource}
use Rattle.abi_dyncast.proofs.Searching.{Searching, nothing_searched, low_tells, passed_tells, searching_from, searching_ready, searching_next, leads_tells, leads_searched, searching_new, searching_room, searching_tells, searching_end, low_ready, low_lower, low_tells_of, low_searched, low_new, low_room, low_end}
use Rattle.abi_dyncast.proofs.search.+leads_to_source.Goals as goal

pub returns-then-info-goal-clause-tells : goal.returns-then-info-goal-clause-tells
returns-then-info-goal-clause-tells g t c =
    let image = word_at (image_of c.args.reader.now) in
    let memory = g.M.Memory.meaning c.args.memory.now in
    let gr = graph_of image memory in
    let info : c.info-info.result ≡ info_at image c.args.part.info = c.info-info.ensures (info_at image c.args.part.info) (c.requires.read.info c.args.part c.requires.has) in
    low_tells gr c.args.goal c.requires.parts c.args.part c.info-info.result.class c.is_source.result c.requires.are c.requires.has (ap (λ (i : InfoRecord). i.class) info) c.if-info-goal.true c.is_source.ensures

pub returns-then-info-goal-clause-searched : goal.returns-then-info-goal-clause-searched
returns-then-info-goal-clause-searched g t c = nothing_searched _ _ _ _ c.requires.clear

pub returns-in-Some-clause-tells : goal.returns-in-Some-clause-tells
returns-in-Some-clause-tells g t c = passed_tells _ _ _ _ c.in-Some.field-0 c.requires.clear c.in-Some.ensures.some

pub returns-in-Some-clause-searched : goal.returns-in-Some-clause-searched
returns-in-Some-clause-searched g t c = nothing_searched _ _ _ _ c.requires.clear

pub loop-number-init : goal.loop-number-init
loop-number-init g t c = record { going = searching_from _ _ _ _ c.requires.clear; image = c.descend-low.ensures.image; parts = refl }

pub edge_at-way-requires : goal.edge_at-way-requires
edge_at-way-requires g t c =
    let image = word_at (image_of c.args.reader.now) in
    let memory = g.M.Memory.meaning c.args.memory.now in
    let gr = graph_of image memory in
    let info : c.info-info.result ≡ info_at image c.args.part.info = c.info-info.ensures (info_at image c.args.part.info) (c.requires.read.info c.args.part c.requires.has) in
    let bases : c.info-info.result.bases ≡ gr.count c.args.part = ap (λ (i : InfoRecord). i.bases) info in
    let lt : c.loop-number.number < gr.count c.args.part = omega (arith, c.loop-number-test.true) in
    let same = sym c.loop-number.invariant.image in
    record {
      info = subst (λ (i : ImageBytes). c.info-info.result ≡ info_at (word_at i) c.args.part.info) same info;
      number = c.loop-number-test.true;
      step = subst (λ (i : ImageBytes). CanStep (word_at i) memory c.args.part c.loop-number.number) same (c.requires.read.steps c.args.part c.loop-number.number c.requires.has lt);
    }

pub leads_to_source-below-requires : goal.leads_to_source-below-requires
leads_to_source-below-requires g t c κs within =
    let image = word_at (image_of c.args.reader.now) in
    let memory = g.M.Memory.meaning c.args.memory.now in
    let gr = graph_of image memory in
    let info : c.info-info.result ≡ info_at image c.args.part.info = c.info-info.ensures (info_at image c.args.part.info) (c.requires.read.info c.args.part c.requires.has) in
    let bases : c.info-info.result.bases ≡ gr.count c.args.part = ap (λ (i : InfoRecord). i.bases) info in
    let lt : c.loop-number.number < gr.count c.args.part = omega (arith, c.loop-number-test.true) in
    let falls = c.requires.are.falls c.args.part c.loop-number.number c.requires.has lt in
    let way : c.edge_at-way.result ≡ gr.edge c.args.part c.loop-number.number = subst (λ (i : ImageBytes). c.edge_at-way.result ≡ (graph_of (word_at i) memory).edge c.args.part c.loop-number.number) c.loop-number.invariant.image c.edge_at-way.ensures.edge in
    let on : image_of c.edge_at-way.new.reader ≡ image_of c.args.reader.now = c.edge_at-way.ensures.image ∙ c.loop-number.invariant.image in
    let back = sym on in
    let ready = searching_ready image memory c.args.goal _ c.args.part _ _ _ c.requires c.loop-number.invariant.going lt in
    let lower : gr.class c.edge_at-way.result.part ≡ gr.class (gr.edge c.args.part c.loop-number.number).part = ap (λ (w : Edge). gr.class w.part) way in
    let there : (graph_of (word_at (image_of c.edge_at-way.new.reader)) memory).class c.edge_at-way.result.part ≡ gr.class c.edge_at-way.result.part = ap (λ (i : ImageBytes). (graph_of (word_at i) memory).class c.edge_at-way.result.part) on in
    let entries = c.loop-number.work.entries.items in
    let by_edge = subst (λ (w : Edge). MayBeginSearch image memory c.args.goal c.loop-number.work.parts entries w.part) (sym way)
    (subst (λ n. MayBeginSearch image memory c.args.goal n entries (gr.edge c.args.part c.loop-number.number).part) (sym c.loop-number.invariant.parts) ready) in
    (omega (arith, c.decreases), (within, subst (λ (i : ImageBytes). MayBeginSearch (word_at i) memory c.args.goal c.loop-number.work.parts entries c.edge_at-way.result.part) back by_edge))

pub returns-then-below-clause-tells : goal.returns-then-below-clause-tells
returns-then-below-clause-tells g t c =
    let image = word_at (image_of c.args.reader.now) in
    let memory = g.M.Memory.meaning c.args.memory.now in
    let gr = graph_of image memory in
    let info : c.info-info.result ≡ info_at image c.args.part.info = c.info-info.ensures (info_at image c.args.part.info) (c.requires.read.info c.args.part c.requires.has) in
    let bases : c.info-info.result.bases ≡ gr.count c.args.part = ap (λ (i : InfoRecord). i.bases) info in
    let lt : c.loop-number.number < gr.count c.args.part = omega (arith, c.loop-number-test.true) in
    let falls = c.requires.are.falls c.args.part c.loop-number.number c.requires.has lt in
    let way : c.edge_at-way.result ≡ gr.edge c.args.part c.loop-number.number = subst (λ (i : ImageBytes). c.edge_at-way.result ≡ (graph_of (word_at i) memory).edge c.args.part c.loop-number.number) c.loop-number.invariant.image c.edge_at-way.ensures.edge in
    let on : image_of c.edge_at-way.new.reader ≡ image_of c.args.reader.now = c.edge_at-way.ensures.image ∙ c.loop-number.invariant.image in
    let tells = subst (λ (i : ImageBytes). TellsOfSource (graph_of (word_at i) memory) c.args.goal c.edge_at-way.result.part c.leads_to_source-below.result) on c.leads_to_source-below.ensures.tells in
    leads_tells gr _ _ _ _ c.edge_at-way.result lt way c.if-below.true tells

pub returns-then-below-clause-searched : goal.returns-then-below-clause-searched
returns-then-below-clause-searched g t c =
    let image = word_at (image_of c.args.reader.now) in
    let memory = g.M.Memory.meaning c.args.memory.now in
    let gr = graph_of image memory in
    let info : c.info-info.result ≡ info_at image c.args.part.info = c.info-info.ensures (info_at image c.args.part.info) (c.requires.read.info c.args.part c.requires.has) in
    let bases : c.info-info.result.bases ≡ gr.count c.args.part = ap (λ (i : InfoRecord). i.bases) info in
    let lt : c.loop-number.number < gr.count c.args.part = omega (arith, c.loop-number-test.true) in
    let falls = c.requires.are.falls c.args.part c.loop-number.number c.requires.has lt in
    let way : c.edge_at-way.result ≡ gr.edge c.args.part c.loop-number.number = subst (λ (i : ImageBytes). c.edge_at-way.result ≡ (graph_of (word_at i) memory).edge c.args.part c.loop-number.number) c.loop-number.invariant.image c.edge_at-way.ensures.edge in
    let on : image_of c.edge_at-way.new.reader ≡ image_of c.args.reader.now = c.edge_at-way.ensures.image ∙ c.loop-number.invariant.image in
    let searched = subst (λ (i : ImageBytes). Searched (graph_of (word_at i) memory) c.args.goal c.edge_at-way.result.part c.loop-number.work.entries.items c.leads_to_source-below.new.work.entries.items) on c.leads_to_source-below.ensures.searched in
    leads_searched gr _ _ _ c.edge_at-way.result _ _ _ c.loop-number.invariant.going lt falls way searched

pub loop-number-preserved : goal.loop-number-preserved
loop-number-preserved g t c =
    let image = word_at (image_of c.args.reader.now) in
    let memory = g.M.Memory.meaning c.args.memory.now in
    let gr = graph_of image memory in
    let info : c.info-info.result ≡ info_at image c.args.part.info = c.info-info.ensures (info_at image c.args.part.info) (c.requires.read.info c.args.part c.requires.has) in
    let bases : c.info-info.result.bases ≡ gr.count c.args.part = ap (λ (i : InfoRecord). i.bases) info in
    let lt : c.loop-number.number < gr.count c.args.part = omega (arith, c.loop-number-test.true) in
    let falls = c.requires.are.falls c.args.part c.loop-number.number c.requires.has lt in
    let way : c.edge_at-way.result ≡ gr.edge c.args.part c.loop-number.number = subst (λ (i : ImageBytes). c.edge_at-way.result ≡ (graph_of (word_at i) memory).edge c.args.part c.loop-number.number) c.loop-number.invariant.image c.edge_at-way.ensures.edge in
    let on : image_of c.edge_at-way.new.reader ≡ image_of c.args.reader.now = c.edge_at-way.ensures.image ∙ c.loop-number.invariant.image in
    let tells = subst (λ (i : ImageBytes). TellsOfSource (graph_of (word_at i) memory) c.args.goal c.edge_at-way.result.part c.leads_to_source-below.result) on c.leads_to_source-below.ensures.tells in
    let searched = subst (λ (i : ImageBytes). Searched (graph_of (word_at i) memory) c.args.goal c.edge_at-way.result.part c.loop-number.work.entries.items c.leads_to_source-below.new.work.entries.items) on c.leads_to_source-below.ensures.searched in
    record {
      going = searching_next gr _ _ _ _ c.edge_at-way.result _ _ _ c.loop-number.invariant.going lt falls way c.if-below.false tells searched;
      image = c.leads_to_source-below.ensures.image ∙ on;
      parts = c.leads_to_source-below.ensures.parts ∙ c.loop-number.invariant.parts;
    }

pub add-requires-2-clause-space : goal.add-requires-2-clause-space
add-requires-2-clause-space g t c =
    let r = searching_room _ _ _ _ _ _ _ _ c.requires c.loop-number.invariant.going c.loop-number.work.once (c.in_default.ensures.none refl) in
    omega (arith, c.loop-number.invariant.parts)

pub add-requires-2-clause-fresh : goal.add-requires-2-clause-fresh
add-requires-2-clause-fresh g t c = searching_new _ _ _ _ _ _ c.loop-number.invariant.going (c.in_default.ensures.none refl)

pub returns-clause-tells : goal.returns-clause-tells
returns-clause-tells g t c =
    let image = word_at (image_of c.args.reader.now) in
    let memory = g.M.Memory.meaning c.args.memory.now in
    let gr = graph_of image memory in
    let info : c.info-info.result ≡ info_at image c.args.part.info = c.info-info.ensures (info_at image c.args.part.info) (c.requires.read.info c.args.part c.requires.has) in
    let bases : c.info-info.result.bases ≡ gr.count c.args.part = ap (λ (i : InfoRecord). i.bases) info in
    let class : c.info-info.result.class ≡ gr.class c.args.part = ap (λ (i : InfoRecord). i.class) info in
    let high : c.args.goal.class < gr.class c.args.part = omega (arith, c.if-info-goal.false) in
    let all : c.loop-number.number ≡ gr.count c.args.part = omega (arith, c.loop-number-test.false, c.loop-number.auto.number-end) in
    let going = subst (λ k. Searching gr c.args.goal c.args.part k c.args.work.now.entries.items c.loop-number.work.entries.items) all c.loop-number.invariant.going in
    searching_tells gr c.args.goal c.args.part _ _ going high

pub returns-clause-searched : goal.returns-clause-searched
returns-clause-searched g t c =
    let image = word_at (image_of c.args.reader.now) in
    let memory = g.M.Memory.meaning c.args.memory.now in
    let gr = graph_of image memory in
    let info : c.info-info.result ≡ info_at image c.args.part.info = c.info-info.ensures (info_at image c.args.part.info) (c.requires.read.info c.args.part c.requires.has) in
    let bases : c.info-info.result.bases ≡ gr.count c.args.part = ap (λ (i : InfoRecord). i.bases) info in
    let class : c.info-info.result.class ≡ gr.class c.args.part = ap (λ (i : InfoRecord). i.class) info in
    let high : c.args.goal.class < gr.class c.args.part = omega (arith, c.if-info-goal.false) in
    let all : c.loop-number.number ≡ gr.count c.args.part = omega (arith, c.loop-number-test.false, c.loop-number.auto.number-end) in
    let going = subst (λ k. Searching gr c.args.goal c.args.part k c.args.work.now.entries.items c.loop-number.work.entries.items) all c.loop-number.invariant.going in
    let x : Entry = part_entry c.args.part c.info-info.result.class c.nothing-2.result (link_for c.loop-number.work.heads.items c.loop-number.work.entries.items c.args.part) in
    subst (λ xs. Searched gr c.args.goal c.args.part c.args.work.now.entries.items xs) (sym c.add-2.ensures.entries) (searching_end gr c.args.goal x c.args.work.now.entries.items c.loop-number.work.entries.items going high)

pub leads_to_source-far-requires : goal.leads_to_source-far-requires
leads_to_source-far-requires g t c κs within =
    let image = word_at (image_of c.args.reader.now) in
    let memory = g.M.Memory.meaning c.args.memory.now in
    let gr = graph_of image memory in
    let low = c.descend-low.result in
    let down = c.descend-low.ensures.down in
    let less = low_lower gr c.args.goal c.requires.parts c.args.part low c.requires.are c.requires.has down c.if-low-part.true in
    let on : image_of c.descend-low.new.reader ≡ image_of c.args.reader.now = c.descend-low.ensures.image in
    let there : (graph_of (word_at (image_of c.descend-low.new.reader)) memory).class low ≡ gr.class low = ap (λ (i : ImageBytes). (graph_of (word_at i) memory).class low) on in
    let ready = low_ready image memory c.args.goal c.args.work.now.parts c.args.work.now.entries.items c.args.part low c.requires down in
    (omega (arith, c.decreases), (within, subst (λ (i : ImageBytes). MayBeginSearch (word_at i) memory c.args.goal c.args.work.now.parts c.args.work.now.entries.items low) (sym on) ready))

pub add-requires-clause-space : goal.add-requires-clause-space
add-requires-clause-space g t c =
    let image = word_at (image_of c.args.reader.now) in
    let memory = g.M.Memory.meaning c.args.memory.now in
    let gr = graph_of image memory in
    let low = c.descend-low.result in
    let down = c.descend-low.ensures.down in
    let less = low_lower gr c.args.goal c.requires.parts c.args.part low c.requires.are c.requires.has down c.if-low-part.true in
    let done = subst (λ (i : ImageBytes). Searched (graph_of (word_at i) memory) c.args.goal low c.args.work.now.entries.items c.leads_to_source-far.new.work.entries.items) c.descend-low.ensures.image c.leads_to_source-far.ensures.searched in
    let r = low_room image memory c.args.goal c.args.work.now.parts c.args.part low c.args.work.now.entries.items c.leads_to_source-far.new.work.entries.items c.requires less down done c.leads_to_source-far.new.work.once (c.in_default.ensures.none refl) in
    omega (arith, c.leads_to_source-far.ensures.parts)

pub add-requires-clause-fresh : goal.add-requires-clause-fresh
add-requires-clause-fresh g t c =
    let image = word_at (image_of c.args.reader.now) in
    let memory = g.M.Memory.meaning c.args.memory.now in
    let gr = graph_of image memory in
    let low = c.descend-low.result in
    let less = low_lower gr c.args.goal c.requires.parts c.args.part low c.requires.are c.requires.has c.descend-low.ensures.down c.if-low-part.true in
    let done = subst (λ (i : ImageBytes). Searched (graph_of (word_at i) memory) c.args.goal low c.args.work.now.entries.items c.leads_to_source-far.new.work.entries.items) c.descend-low.ensures.image c.leads_to_source-far.ensures.searched in
    low_new gr c.args.goal c.args.part low _ _ less done (c.in_default.ensures.none refl)

pub returns-then-not-far-clause-searched : goal.returns-then-not-far-clause-searched
returns-then-not-far-clause-searched g t c =
    let image = word_at (image_of c.args.reader.now) in
    let memory = g.M.Memory.meaning c.args.memory.now in
    let gr = graph_of image memory in
    let low = c.descend-low.result in
    let down = c.descend-low.ensures.down in
    let less = low_lower gr c.args.goal c.requires.parts c.args.part low c.requires.are c.requires.has down c.if-low-part.true in
    let tells = subst (λ (i : ImageBytes). TellsOfSource (graph_of (word_at i) memory) c.args.goal low c.leads_to_source-far.result) c.descend-low.ensures.image c.leads_to_source-far.ensures.tells in
    let done = subst (λ (i : ImageBytes). Searched (graph_of (word_at i) memory) c.args.goal low c.args.work.now.entries.items c.leads_to_source-far.new.work.entries.items) c.descend-low.ensures.image c.leads_to_source-far.ensures.searched in
    let x : Entry = part_entry c.args.part c.info-info.result.class c.nothing.result (link_for c.leads_to_source-far.new.work.heads.items c.leads_to_source-far.new.work.entries.items c.args.part) in
    subst (λ xs. Searched gr c.args.goal c.args.part c.args.work.now.entries.items xs) (sym c.add.ensures.entries)
    (low_end gr c.args.goal x low c.args.work.now.entries.items c.leads_to_source-far.new.work.entries.items c.leads_to_source-far.result less down c.if-not-far.true tells done)

pub returns-else-not-far-clause-tells : goal.returns-else-not-far-clause-tells
returns-else-not-far-clause-tells g t c =
    let image = word_at (image_of c.args.reader.now) in
    let memory = g.M.Memory.meaning c.args.memory.now in
    let gr = graph_of image memory in
    let low = c.descend-low.result in
    let tells = subst (λ (i : ImageBytes). TellsOfSource (graph_of (word_at i) memory) c.args.goal low c.leads_to_source-far.result) c.descend-low.ensures.image c.leads_to_source-far.ensures.tells in
    low_tells_of gr c.args.goal c.args.part low c.leads_to_source-far.result c.descend-low.ensures.down tells

pub returns-else-not-far-clause-searched : goal.returns-else-not-far-clause-searched
returns-else-not-far-clause-searched g t c =
    let image = word_at (image_of c.args.reader.now) in
    let memory = g.M.Memory.meaning c.args.memory.now in
    let gr = graph_of image memory in
    let low = c.descend-low.result in
    let down = c.descend-low.ensures.down in
    let less = low_lower gr c.args.goal c.requires.parts c.args.part low c.requires.are c.requires.has down c.if-low-part.true in
    let done = subst (λ (i : ImageBytes). Searched (graph_of (word_at i) memory) c.args.goal low c.args.work.now.entries.items c.leads_to_source-far.new.work.entries.items) c.descend-low.ensures.image c.leads_to_source-far.ensures.searched in
    low_searched gr c.args.goal c.args.part low _ _ less down done
