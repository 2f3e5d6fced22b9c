use Rattle.std.proofs.Common.{false, ap, refl, arith}
use Rattle.cxx_hierarchy.specs.declared.records.ClassId.{ClassId}
use Rattle.cxx_subobject.specs.declared.Root.TheVariants.{Shared}
use Rattle.std.proofs.lemmas.Result.{on_ok_weaker}
use Rattle.path_places.specs.declared.locations.Spot.{Spot}
use Rattle.path_places.proofs.Walking.{walk_ends, walk_base, walk_shared, walk_element, way_base, way_shared, way_element, kid_below}
use Rattle.path_places.proofs.locations.+walk.Goals as goal

pub returns-in_default : goal.returns-in_default
returns-in_default t c = walk_ends c.args.world.now.h.now c.requires.hierarchy c.args.spot c.args.n c.kid_of.result c.in_default.is c.kid_of.ensures c.args.hops.now.items c.push.new.self.items c.hop.result c.hop.ensures c.in_ok-push.ensures.items

pub walk-requires : goal.walk-requires
walk-requires t c =
    let lt = kid_below c.args.world.now.h.now c.requires.hierarchy c.args.spot.class c.args.spot.is_full c.args.n c.kid_of.result c.in-Some.kid c.in-Some.is c.kid_of.ensures in
    let d = c.decreases in
    (omega arith, c.requires)

pub walk-requires-in-Shared : goal.walk-requires-in-Shared
walk-requires-in-Shared t c =
    let lt = kid_below c.args.world.now.h.now c.requires.hierarchy c.args.spot.class c.args.spot.is_full c.args.n c.kid_of.result c.in-Some.kid c.in-Some.is c.kid_of.ensures in
    let d = c.decreases in
    (omega arith, c.requires)

pub walk-requires-in-Element : goal.walk-requires-in-Element
walk-requires-in-Element t c =
    let lt = kid_below c.args.world.now.h.now c.requires.hierarchy c.args.spot.class c.args.spot.is_full c.args.n c.kid_of.result c.in-Some.kid c.in-Some.is c.kid_of.ensures in
    let d = c.decreases in
    let class = ap (λ (x : ClassId). x.0) c.in_ok-below-in-Element.ensures.class in
    (omega arith, c.requires)

pub returns-in_ok-push-in-Base : goal.returns-in_ok-push-in-Base
returns-in_ok-push-in-Base t c =
    let h = c.args.world.now.h.now in
    let below : Spot = record { class = c.in-Some.kid.class; is_full = false; root = c.args.spot.root; path = c.push-in-Base.new.self } in
    on_ok_weaker c.walk.result
    (walk_base h c.requires.hierarchy c.args.spot c.args.n c.in-Some.kid (way_base h c.args.spot.class c.args.spot.is_full c.args.n c.kid_of.result c.in-Some.kid c.in-Some.is c.kid_of.ensures c.in-Base.is)
    below refl refl refl c.in_ok-push-in-Base.ensures.items c.args.hops.now.items c.walk.new.hops.items) c.walk.ensures

pub returns-in_ok-from_slice-in-Shared : goal.returns-in_ok-from_slice-in-Shared
returns-in_ok-from_slice-in-Shared t c =
    let h = c.args.world.now.h.now in
    let below : Spot = record { class = c.in-Some.kid.class; is_full = false; root = Shared c.in-Some.kid.class; path = c.in_ok-from_slice-in-Shared.field-0 } in
    on_ok_weaker c.walk-in-Shared.result
    (walk_shared h c.requires.hierarchy c.args.spot c.args.n c.in-Some.kid (way_shared h c.args.spot.class c.args.spot.is_full c.args.n c.kid_of.result c.in-Some.kid c.in-Some.is c.kid_of.ensures c.in-Shared.is)
    below refl refl refl c.in_ok-from_slice-in-Shared.ensures.items c.args.hops.now.items c.walk-in-Shared.new.hops.items) c.walk-in-Shared.ensures

pub returns-in_ok-below-in-Element : goal.returns-in_ok-below-in-Element
returns-in_ok-below-in-Element t c =
    let h = c.args.world.now.h.now in
    let kid = c.in-Some.kid in
    let below = c.in_ok-below-in-Element.below in
    let more = c.push-in-Element-2.new.self.items in
    on_ok_weaker c.walk-in-Element.result
    (walk_element h c.requires.hierarchy c.args.spot c.args.n kid c.in-Element.member c.in-Element.index c.in-Element.is (way_element h c.args.spot.class c.args.spot.is_full c.args.n c.kid_of.result kid c.in-Element.member c.in-Element.index c.in-Some.is c.kid_of.ensures c.in-Element.is)
    below c.in_ok-below-in-Element.ensures.class c.in_ok-below-in-Element.ensures.full c.in_ok-below-in-Element.ensures.root c.in_ok-below-in-Element.ensures.path
    c.args.hops.now.items c.push-in-Element.new.self.items more c.walk-in-Element.new.hops.items c.hop-in-Element.result c.hop-in-Element.ensures c.in_ok-push-in-Element.ensures.items c.in_ok-push-in-Element-2.ensures.items) c.walk-in-Element.ensures
