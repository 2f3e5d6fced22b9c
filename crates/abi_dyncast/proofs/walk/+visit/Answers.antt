use Rattle.std.proofs.Common.{◌≡◌, ◌<◌, ap, sym, subst, refl, ◌∙◌, arith}
use Rattle.byte_code.specs.Images.{word_at}
use Rattle.byte_code.specs.Readers.{image_of, visits_of}
use Rattle.byte_code.specs.Records.{IsInfoAt}
use Rattle.byte_code.specs.declared.code.ImageBytes.{ImageBytes}
use Rattle.byte_code.specs.declared.image.InfoRecord.{InfoRecord}
use Rattle.abi_dyncast.specs.declared.parts.Edge.{Edge}
use Rattle.abi_dyncast.specs.declared.work.Entry.{Entry}
use Rattle.abi_dyncast.specs.Graph.{graph_of, info_at}
use Rattle.abi_dyncast.specs.Casts.{CanStep}
use Rattle.abi_dyncast.specs.invariants.Chain.{part_entry, link_for}
use Rattle.abi_dyncast.specs.invariants.Finding.{TellsBelow}
use Rattle.abi_dyncast.specs.invariants.Walks.{MayBeginWalk, Visited, HasRead}
use Rattle.abi_dyncast.proofs.Findings.{TellsTo, tells_end}
use Rattle.abi_dyncast.proofs.Going.{Going, found_tells, found_visited, going_from, going_next, going_past, going_ready, going_new, going_room, going_end}
use Rattle.abi_dyncast.proofs.Reading.{nothing_read, reading_from, reading_next, reading_end}
use Rattle.abi_dyncast.proofs.walk.+visit.Goals as goal

pub returns-in-Some-clause-tells : goal.returns-in-Some-clause-tells
returns-in-Some-clause-tells g t c = found_tells _ _ _ _ c.in-Some.entry c.requires.done c.in-Some.ensures.some

pub returns-in-Some-clause-visited : goal.returns-in-Some-clause-visited
returns-in-Some-clause-visited g t c = found_visited _ _ _ _ c.in-Some.entry c.requires.done c.in-Some.ensures.some

pub returns-in-Some-clause-read : goal.returns-in-Some-clause-read
returns-in-Some-clause-read g t c = nothing_read _ _ _

pub loop-number-init : goal.loop-number-init
loop-number-init g t c =
    let image = word_at (image_of c.args.reader.now) in
    let info : c.info-info.result ≡ info_at image c.args.part.info = c.info-info.ensures (info_at image c.args.part.info) (c.requires.read.info c.args.part c.requires.has) in
    record {
      going = going_from _ _ _ _ _ _ c.requires.done (ap (λ (i : InfoRecord). i.class) info) c.found_at-found.ensures;
      reading = reading_from _ _ _;
      image = refl;
      parts = refl;
    }

pub edge_at-way-requires : goal.edge_at-way-requires
edge_at-way-requires g t c =
    let image = word_at (image_of c.args.reader.now) in
    let memory = g.M.Memory.meaning c.args.memory.now in
    let gr = graph_of image memory in
    let info : c.info-info.result ≡ info_at image c.args.part.info = c.info-info.ensures (info_at image c.args.part.info) (c.requires.read.info c.args.part c.requires.has) in
    let bases : c.info-info.result.bases ≡ gr.count c.args.part = ap (λ (i : InfoRecord). i.bases) info in
    let lt : c.loop-number.number < gr.count c.args.part = omega (arith, c.loop-number-test.true) in
    let same = sym c.loop-number.invariant.image in
    record {
      info = subst (λ (i : ImageBytes). c.info-info.result ≡ info_at (word_at i) c.args.part.info) same info;
      number = c.loop-number-test.true;
      step = subst (λ (i : ImageBytes). CanStep (word_at i) memory c.args.part c.loop-number.number) same (c.requires.read.steps c.args.part c.loop-number.number c.requires.has lt);
    }

pub is_told-requires : goal.is_told-requires
is_told-requires g t c =
    let image = image_of c.args.reader.now in
    let memory = g.M.Memory.meaning c.args.memory.now in
    let gr = graph_of (word_at image) memory in
    let info = c.info-info.ensures (info_at (word_at image) c.args.part.info) (c.requires.read.info c.args.part c.requires.has) in
    let bases : c.info-info.result.bases ≡ gr.count c.args.part = ap (λ (i : InfoRecord). i.bases) info in
    let lt : c.loop-number.number < gr.count c.args.part = omega (arith, c.loop-number-test.true) in
    let way : c.edge_at-way.result ≡ gr.edge c.args.part c.loop-number.number = subst (λ (i : ImageBytes). c.edge_at-way.result ≡ (graph_of (word_at i) memory).edge c.args.part c.loop-number.number) c.loop-number.invariant.image c.edge_at-way.ensures.edge in
    let on : image_of c.edge_at-way.new.reader ≡ image = c.edge_at-way.ensures.image ∙ c.loop-number.invariant.image in
    let there = c.requires.read.info (gr.edge c.args.part c.loop-number.number).part (c.requires.are.inside c.args.part c.loop-number.number c.requires.has lt) in
    let of_way = subst (λ (w : Edge). IsInfoAt (word_at image) w.part.info (info_at (word_at image) w.part.info)) (sym way) there in
    subst (λ (i : ImageBytes). IsInfoAt (word_at i) c.edge_at-way.result.part.info (info_at (word_at i) c.edge_at-way.result.part.info)) (sym on) of_way

pub loop-number-preserved-then-is_told : goal.loop-number-preserved-then-is_told
loop-number-preserved-then-is_told g t c =
    let image = image_of c.args.reader.now in
    let memory = g.M.Memory.meaning c.args.memory.now in
    let gr = graph_of (word_at image) memory in
    let info = c.info-info.ensures (info_at (word_at image) c.args.part.info) (c.requires.read.info c.args.part c.requires.has) in
    let bases : c.info-info.result.bases ≡ gr.count c.args.part = ap (λ (i : InfoRecord). i.bases) info in
    let lt : c.loop-number.number < gr.count c.args.part = omega (arith, c.loop-number-test.true) in
    let way : c.edge_at-way.result ≡ gr.edge c.args.part c.loop-number.number = subst (λ (i : ImageBytes). c.edge_at-way.result ≡ (graph_of (word_at i) memory).edge c.args.part c.loop-number.number) c.loop-number.invariant.image c.edge_at-way.ensures.edge in
    let on : image_of c.edge_at-way.new.reader ≡ image = c.edge_at-way.ensures.image ∙ c.loop-number.invariant.image in
    let class : (info_at (word_at (image_of c.edge_at-way.new.reader)) c.edge_at-way.result.part.info).class ≡ gr.class c.edge_at-way.result.part = ap (λ (i : ImageBytes). (info_at (word_at i) c.edge_at-way.result.part.info).class) on in
    record {
      going = going_past gr _ c.requires.parts _ _ _ c.edge_at-way.result _ _ _ c.requires.are c.requires.has c.loop-number.invariant.going lt way class (c.is_told.ensures c.if-is_told.true);
      reading = reading_next gr _ _ _ _ _ _ _ _ c.loop-number.invariant.reading c.edge_at-way.ensures.visits (nothing_read gr _ _);
      image = on;
      parts = c.loop-number.invariant.parts;
    }

pub visit-below-requires : goal.visit-below-requires
visit-below-requires g t c κs within =
    let image = image_of c.args.reader.now in
    let memory = g.M.Memory.meaning c.args.memory.now in
    let gr = graph_of (word_at image) memory in
    let info = c.info-info.ensures (info_at (word_at image) c.args.part.info) (c.requires.read.info c.args.part c.requires.has) in
    let bases : c.info-info.result.bases ≡ gr.count c.args.part = ap (λ (i : InfoRecord). i.bases) info in
    let lt : c.loop-number.number < gr.count c.args.part = omega (arith, c.loop-number-test.true) in
    let way : c.edge_at-way.result ≡ gr.edge c.args.part c.loop-number.number = subst (λ (i : ImageBytes). c.edge_at-way.result ≡ (graph_of (word_at i) memory).edge c.args.part c.loop-number.number) c.loop-number.invariant.image c.edge_at-way.ensures.edge in
    let back : image ≡ image_of c.edge_at-way.new.reader = sym (c.edge_at-way.ensures.image ∙ c.loop-number.invariant.image) in
    let ready = going_ready (word_at image) memory c.args.goal _ c.args.part _ _ _ _ c.requires c.loop-number.invariant.going lt in
    let falls = c.requires.are.falls c.args.part c.loop-number.number c.requires.has lt in
    let lower : gr.class c.edge_at-way.result.part ≡ gr.class (gr.edge c.args.part c.loop-number.number).part = ap (λ (w : Edge). gr.class w.part) way in
    let there : (graph_of (word_at (image_of c.edge_at-way.new.reader)) memory).class c.edge_at-way.result.part ≡ gr.class c.edge_at-way.result.part = ap (λ (i : ImageBytes). (graph_of (word_at i) memory).class c.edge_at-way.result.part) (sym back) in
    (omega (arith, c.decreases), (within, subst (λ (i : ImageBytes). MayBeginWalk (word_at i) memory c.args.goal c.loop-number.work.parts c.loop-number.work.entries.items c.edge_at-way.result.part) back (subst (λ (w : Edge). MayBeginWalk (word_at image) memory c.args.goal c.loop-number.work.parts c.loop-number.work.entries.items w.part) (sym way) (subst (λ n. MayBeginWalk (word_at image) memory c.args.goal n c.loop-number.work.entries.items (gr.edge c.args.part c.loop-number.number).part) (sym c.loop-number.invariant.parts) ready))))

pub loop-number-preserved : goal.loop-number-preserved
loop-number-preserved g t c =
    let image = image_of c.args.reader.now in
    let memory = g.M.Memory.meaning c.args.memory.now in
    let gr = graph_of (word_at image) memory in
    let info = c.info-info.ensures (info_at (word_at image) c.args.part.info) (c.requires.read.info c.args.part c.requires.has) in
    let bases : c.info-info.result.bases ≡ gr.count c.args.part = ap (λ (i : InfoRecord). i.bases) info in
    let lt : c.loop-number.number < gr.count c.args.part = omega (arith, c.loop-number-test.true) in
    let falls = c.requires.are.falls c.args.part c.loop-number.number c.requires.has lt in
    let way : c.edge_at-way.result ≡ gr.edge c.args.part c.loop-number.number = subst (λ (i : ImageBytes). c.edge_at-way.result ≡ (graph_of (word_at i) memory).edge c.args.part c.loop-number.number) c.loop-number.invariant.image c.edge_at-way.ensures.edge in
    let on : image_of c.edge_at-way.new.reader ≡ image = c.edge_at-way.ensures.image ∙ c.loop-number.invariant.image in
    let tells = subst (λ (i : ImageBytes). TellsBelow (graph_of (word_at i) memory) c.args.goal c.edge_at-way.result.part c.visit-below.result) on c.visit-below.ensures.tells in
    let visited = subst (λ (i : ImageBytes). Visited (graph_of (word_at i) memory) c.args.goal c.edge_at-way.result.part c.loop-number.work.entries.items c.visit-below.new.work.entries.items) on c.visit-below.ensures.visited in
    let read = subst (λ (i : ImageBytes). HasRead (graph_of (word_at i) memory) c.loop-number.work.entries.items c.visit-below.new.work.entries.items (visits_of c.edge_at-way.new.reader) (visits_of c.visit-below.new.reader)) on c.visit-below.ensures.read in
    record {
      going = going_next gr _ _ _ _ c.visit-below.result _ c.edge_at-way.result _ _ _ c.loop-number.invariant.going lt falls way c.joined-found.ensures tells visited;
      reading = reading_next gr _ _ _ _ _ _ _ _ c.loop-number.invariant.reading c.edge_at-way.ensures.visits read;
      image = c.visit-below.ensures.image ∙ on;
      parts = c.visit-below.ensures.parts ∙ c.loop-number.invariant.parts;
    }

pub add-requires-clause-space : goal.add-requires-clause-space
add-requires-clause-space g t c =
    let r = going_room _ _ _ _ _ _ _ _ _ c.requires c.loop-number.invariant.going c.loop-number.work.once (c.in_default.ensures.none refl) in
    omega (arith, c.loop-number.invariant.parts)

pub add-requires-clause-fresh : goal.add-requires-clause-fresh
add-requires-clause-fresh g t c = going_new _ _ _ _ _ _ _ c.loop-number.invariant.going (c.in_default.ensures.none refl)

pub returns-clause-tells : goal.returns-clause-tells
returns-clause-tells g t c =
    let gr = graph_of (word_at (image_of c.args.reader.now)) (g.M.Memory.meaning c.args.memory.now) in
    let info = c.info-info.ensures (info_at (word_at (image_of c.args.reader.now)) c.args.part.info) (c.requires.read.info c.args.part c.requires.has) in
    let bases : c.info-info.result.bases ≡ gr.count c.args.part = ap (λ (i : InfoRecord). i.bases) info in
    let all : c.loop-number.number ≡ gr.count c.args.part = omega (arith, c.loop-number-test.false, c.loop-number.auto.number-end) in
    tells_end gr c.args.goal c.args.part c.loop-number.found (subst (λ k. TellsTo gr c.args.goal c.args.part k c.loop-number.found) all c.loop-number.invariant.going.tells)

pub returns-clause-visited : goal.returns-clause-visited
returns-clause-visited g t c =
    let gr = graph_of (word_at (image_of c.args.reader.now)) (g.M.Memory.meaning c.args.memory.now) in
    let info = c.info-info.ensures (info_at (word_at (image_of c.args.reader.now)) c.args.part.info) (c.requires.read.info c.args.part c.requires.has) in
    let bases : c.info-info.result.bases ≡ gr.count c.args.part = ap (λ (i : InfoRecord). i.bases) info in
    let all : c.loop-number.number ≡ gr.count c.args.part = omega (arith, c.loop-number-test.false, c.loop-number.auto.number-end) in
    let x : Entry = part_entry c.args.part c.info-info.result.class c.loop-number.found (link_for c.loop-number.work.heads.items c.loop-number.work.entries.items c.args.part) in
    let going = subst (λ k. Going gr c.args.goal c.args.part k c.loop-number.found c.args.work.now.entries.items c.loop-number.work.entries.items) all c.loop-number.invariant.going in
    subst (λ xs. Visited gr c.args.goal c.args.part c.args.work.now.entries.items xs) (sym c.add.ensures.entries) (going_end gr c.args.goal x c.args.work.now.entries.items c.loop-number.work.entries.items going (ap (λ (i : InfoRecord). i.class) info))

pub returns-clause-read : goal.returns-clause-read
returns-clause-read g t c =
    let gr = graph_of (word_at (image_of c.args.reader.now)) (g.M.Memory.meaning c.args.memory.now) in
    let info = c.info-info.ensures (info_at (word_at (image_of c.args.reader.now)) c.args.part.info) (c.requires.read.info c.args.part c.requires.has) in
    let bases : c.info-info.result.bases ≡ gr.count c.args.part = ap (λ (i : InfoRecord). i.bases) info in
    let all : c.loop-number.number ≡ gr.count c.args.part = omega (arith, c.loop-number-test.false, c.loop-number.auto.number-end) in
    let x : Entry = part_entry c.args.part c.info-info.result.class c.loop-number.found (link_for c.loop-number.work.heads.items c.loop-number.work.entries.items c.args.part) in
    reading_end gr c.loop-number.number c.args.work.now.entries.items c.loop-number.work.entries.items _ x _ _ c.loop-number.invariant.reading all c.add.ensures.entries
