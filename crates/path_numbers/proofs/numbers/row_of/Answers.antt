use Rattle.std.proofs.Common.{◌∙◌, ap, sym, refl, List, []}
use Rattle.std.specs.List.{flat_map}
use Rattle.cxx_hierarchy.specs.declared.records.ClassId.{ClassId}
use Rattle.cxx_hierarchy.specs.declared.records.Base.{Base}
use Rattle.path_numbers.specs.invariants.Sharing.{meet_all, brings}
use Rattle.path_numbers.proofs.Rows.{bases_are, members_are, bases_known, members_known, bases_room, members_room, own_is, shared_room, row_made}
use Rattle.path_numbers.proofs.numbers.row_of.Goals as goal

pub base_line-requires-clause-known : goal.base_line-requires-clause-known
base_line-requires-clause-known c =
    bases_known c.args.h.now c.keeps.ensures c.args.c _ c.as_slice.result.now (bases_are c.args.h.now c.args.c c.class-class.result.now c.as_slice.result.now c.class-class.ensures c.as_slice.ensures) c.requires.next

pub base_line-requires-clause-room : goal.base_line-requires-clause-room
base_line-requires-clause-room c =
    bases_room c.args.h.now c.keeps.ensures c.requires.small c.args.c c.requires.known c.as_slice.result.now (bases_are c.args.h.now c.args.c c.class-class.result.now c.as_slice.result.now c.class-class.ensures c.as_slice.ensures)

pub member_line-requires-clause-known : goal.member_line-requires-clause-known
member_line-requires-clause-known c =
    members_known c.args.h.now c.keeps.ensures c.args.c _ c.as_slice-2.result.now (members_are c.args.h.now c.args.c c.class-class.result.now c.as_slice-2.result.now c.class-class.ensures c.as_slice-2.ensures) c.requires.next

pub member_line-requires-clause-room : goal.member_line-requires-clause-room
member_line-requires-clause-room c =
    let eb = bases_are c.args.h.now c.args.c c.class-class.result.now c.as_slice.result.now c.class-class.ensures c.as_slice.ensures in
    let em = members_are c.args.h.now c.args.c c.class-class.result.now c.as_slice-2.result.now c.class-class.ensures c.as_slice-2.ensures in
    members_room c.args.h.now c.keeps.ensures c.requires.small c.args.c c.requires.known c.as_slice.result.now c.as_slice-2.result.now c.in_ok-bases.bases.end eb em c.in_ok-bases.ensures.end

pub shared_of-requires-clause-known : goal.shared_of-requires-clause-known
shared_of-requires-clause-known c =
    bases_known c.args.h.now c.keeps.ensures c.args.c _ c.as_slice-3.result.now (bases_are c.args.h.now c.args.c c.class-class.result.now c.as_slice-3.result.now c.class-class.ensures c.as_slice-3.ensures) c.requires.next

pub shared_of-requires-clause-room : goal.shared_of-requires-clause-room
shared_of-requires-clause-room c =
    let eb = bases_are c.args.h.now c.args.c c.class-class.result.now c.as_slice.result.now c.class-class.ensures c.as_slice.ensures in
    let em = members_are c.args.h.now c.args.c c.class-class.result.now c.as_slice-2.result.now c.class-class.ensures c.as_slice-2.ensures in
    let e3 = bases_are c.args.h.now c.args.c c.class-class.result.now c.as_slice-3.result.now c.class-class.ensures c.as_slice-3.ensures in
    shared_room c.args.h.now c.keeps.ensures c.requires.small c.args.c c.requires.known c.as_slice-3.result.now c.in_ok-members.members.end e3
    (own_is c.args.h.now c.keeps.ensures c.args.c c.as_slice.result.now c.as_slice-2.result.now c.in_ok-bases.bases.end c.in_ok-members.members.end eb em c.in_ok-bases.ensures.end c.in_ok-members.ensures.end)

pub returns : goal.returns
returns c =
    let eb = bases_are c.args.h.now c.args.c c.class-class.result.now c.as_slice.result.now c.class-class.ensures c.as_slice.ensures in
    let em = members_are c.args.h.now c.args.c c.class-class.result.now c.as_slice-2.result.now c.class-class.ensures c.as_slice-2.ensures in
    let e3 = bases_are c.args.h.now c.args.c c.class-class.result.now c.as_slice-3.result.now c.class-class.ensures c.as_slice-3.ensures in
    let shape = c.in_ok-shared.ensures.shape in
    row_made c.args.h.now c.keeps.ensures c.args.c c.as_slice.result.now c.as_slice-2.result.now c.in_ok-bases.bases c.in_ok-members.members c.in_ok-shared.shared _ eb em
    c.in_ok-bases.ensures c.in_ok-members.ensures c.in_ok-shared.ensures.sharing (shape.0 ∙ ap (λ (bs : List (Base ClassId)). meet_all [] (flat_map (brings c.args.h.now) bs)) (e3 ∙ sym eb)) shape.1 (shape.2 ∙ c.requires.next)
    refl refl c.from_vec.ensures c.from_vec-2.ensures c.from_vec-3.ensures c.from_vec-4.ensures
