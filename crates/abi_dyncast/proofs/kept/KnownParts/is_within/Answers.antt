use Rattle.std.proofs.Common.{◌<◌, length, arith, subst, sym}
use Rattle.std.proofs.lemmas.List.Elements.{All-set, All-get_or}
use Rattle.byte_code.specs.Images.{word_at}
use Rattle.abi_dyncast.specs.declared.kept.KnownPart.{KnownPart}
use Rattle.abi_dyncast.specs.Known.{IsTrueEntry}
use Rattle.abi_dyncast.proofs.Directly.{known_tells, kept_tells}
use Rattle.abi_dyncast.proofs.kept.KnownParts.is_within.Goals as goal

pub returns-then-kept-clause-tells : goal.returns-then-kept-clause-tells
returns-then-kept-clause-tells g c =
    let image = word_at c.args.image.now in
    let base = c.args.image.now.base in
    let kept : KnownPart = c.index-kept.result.now in
    let inside : c.place-number.result < length c.args.self.now.parts.items = omega (arith, c.place-number.ensures, c.args.self.now.sized) in
    let entry = All-get_or (IsTrueEntry image base) c.args.self.now.parts.items c.place-number.result kept inside c.requires.known in
    let truth : IsTrueEntry image base kept = subst (λ k. IsTrueEntry image base k) (sym c.index-kept.ensures) entry in
    kept_tells image base (g.M.Memory.meaning c.args.memory.now) _ c.args.view_at c.args.view_class c.args.at c.args.class c.distance-distance.result kept c.requires.can (truth c.if-kept.true) c.ranges.view_at.fits c.distance-distance.ensures c.if-kept-distance.true c.if-kept-class.true c.if-kept-view_class.true

pub returns-then-asked-clause-tells : goal.returns-then-asked-clause-tells
returns-then-asked-clause-tells g c =
    known_tells (word_at c.args.image.now) c.args.image.now.base (g.M.Memory.meaning c.args.memory.now) _ c.args.view_at c.args.view_class c.args.at c.args.class c.distance-distance.result c.requires.can (c.is_there.ensures c.if-asked.true) c.ranges.view_at.fits c.distance-distance.ensures

pub returns-then-asked-clause-known : goal.returns-then-asked-clause-known
returns-then-asked-clause-known g c =
    let put : KnownPart = record { view_class = c.args.view_class; class = c.args.class; distance = c.distance-distance.result; is_there = c.is_there.result } in
    All-set (IsTrueEntry (word_at c.args.image.now) c.args.image.now.base) c.args.self.now.parts.items c.place-number.result put (λ there. c.is_there.ensures there) c.requires.known
