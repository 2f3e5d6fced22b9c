use Rattle.std.proofs.Common.{arith}
use Rattle.foundation.proofs.Places.{contains_at}
use Rattle.std.proofs.lemmas.Option.{slice_get_within}
use Rattle.cxx_hierarchy.specs.Classes.{members_of}
use Rattle.path_places.proofs.Holding.{member_before, member_value, member_past, member_holds}
use Rattle.path_places.proofs.kids.member_rest.Goals as goal

pub in_full-requires : goal.in_full-requires
in_full-requires c =
    let less = c.keeps.ensures.objects c.args.c c.in-Object.d c.args.member.now (contains_at (members_of c.args.world.now.h.now c.args.c) c.args.m c.args.member.now c.requires.listed) c.in-Object.is in
    let size = c.requires.world.are_numbers.size in
    let known = c.requires.known in
    omega arith

pub returns-then-n-offset : goal.returns-then-n-offset
returns-then-n-offset c =
    let h = c.args.world.now.h.now in
    member_before h c.args.c c.args.n c.args.m c.args.member.now c.member_offset-offset.result
    (c.member_offset-offset.ensures h c.requires.world.are_numbers (slice_get_within (members_of h c.args.c) c.args.m c.args.member.now c.requires.listed)) c.if-n-offset.true

pub returns-in-Value : goal.returns-in-Value
returns-in-Value c = member_value c.args.world.now.h.now c.args.c c.args.n c.args.m c.args.member.now _ c.in-Value.is

pub returns-in-None : goal.returns-in-None
returns-in-None c =
    let h = c.args.world.now.h.now in
    member_past h c.args.c c.args.n c.args.m c.args.member.now c.in-Object.d c.in-Object.is c.member_offset-offset.result c.in_full.result c.elements.result
    (c.member_offset-offset.ensures h c.requires.world.are_numbers (slice_get_within (members_of h c.args.c) c.args.m c.args.member.now c.requires.listed)) c.if-n-offset.false (c.in_full.ensures h c.requires.world.are_numbers) c.elements.ensures c.in-None.ensures

pub returns-in-Some : goal.returns-in-Some
returns-in-Some c =
    let h = c.args.world.now.h.now in
    member_holds h c.args.c c.args.n c.args.m c.args.member.now c.in-Object.d c.in-Object.is c.member_offset-offset.result c.in_full.result c.elements.result
    (c.member_offset-offset.ensures h c.requires.world.are_numbers (slice_get_within (members_of h c.args.c) c.args.m c.args.member.now c.requires.listed)) c.if-n-offset.false (c.in_full.ensures h c.requires.world.are_numbers) c.elements.ensures _ c.in-Some.ensures
