use Rattle.std.proofs.Common.{◌≡◌, ◌∙◌, List, [], ◌∷◌, length, map, arith, refl, sym, ap, subst}
use Rattle.std.proofs.lemmas.List.{length-map}
use Rattle.cxx_hierarchy.specs.declared.records.ClassId.{ClassId}
use Rattle.cxx_hierarchy.specs.declared.records.Member.{Member}
use Rattle.cxx_hierarchy.specs.Classes.{members_in, members_of}
use Rattle.cxx_subobject.specs.declared.Subobject.{Subobject}
use Rattle.cxx_subobject.specs.Preorder.{preorder}
use Rattle.abi_print.specs.LayoutTexts.{proper}
use Rattle.abi_foreign.specs.declared.listing_stop.ListingStop.TheVariants.{NoMemory}
use Rattle.abi_foreign.specs.declared.said.ClassSaid.{ClassSaid}
use Rattle.abi_foreign.specs.Lines.{sizes_line, primary_line, base_line, member_line}
use Rattle.abi_foreign.specs.invariants.Reading.{StopsReading, no_memory}
use Rattle.abi_foreign.specs.invariants.Said.{AreBasesRead, AreMembersRead}
use Rattle.abi_foreign.proofs.Found.{err_ok, err_stop}
use Rattle.abi_foreign.proofs.ReadLines.{one_read}
use Rattle.abi_foreign.proofs.ClassReads.{room_left, sizes_stop, read2, primary_stop, bases_stop, members_stop, class_read, lines_count}
use Rattle.abi_foreign.proofs.class_lines.read_class.Goals as goal

pub list_subobjects-requires : goal.list_subobjects-requires
list_subobjects-requires c = c.requires.known

pub returns-in_err-list-clause-said : goal.returns-in_err-list-clause-said
returns-in_err-list-clause-said c = err_ok _ _ c.from_residual.result c.from_residual.ensures.1

pub returns-in_err-list-clause-lines : goal.returns-in_err-list-clause-lines
returns-in_err-list-clause-lines c = err_ok _ _ c.from_residual.result c.from_residual.ensures.1

pub returns-in_err-list-clause-number : goal.returns-in_err-list-clause-number
returns-in_err-list-clause-number c = err_ok _ _ c.from_residual.result c.from_residual.ensures.1

pub returns-in_err-list-clause-err : goal.returns-in_err-list-clause-err
returns-in_err-list-clause-err c = err_stop _ c.from_residual.result NoMemory c.from_residual.ensures.1 no_memory

pub read_sizes-requires : goal.read_sizes-requires
read_sizes-requires c = c.requires.room

pub returns-in_err-sizes-clause-said : goal.returns-in_err-sizes-clause-said
returns-in_err-sizes-clause-said c = err_ok _ _ c.from_residual-in_err-sizes.result c.from_residual-in_err-sizes.ensures.1

pub returns-in_err-sizes-clause-lines : goal.returns-in_err-sizes-clause-lines
returns-in_err-sizes-clause-lines c = err_ok _ _ c.from_residual-in_err-sizes.result c.from_residual-in_err-sizes.ensures.1

pub returns-in_err-sizes-clause-number : goal.returns-in_err-sizes-clause-number
returns-in_err-sizes-clause-number c = err_ok _ _ c.from_residual-in_err-sizes.result c.from_residual-in_err-sizes.ensures.1

pub returns-in_err-sizes-clause-err : goal.returns-in_err-sizes-clause-err
returns-in_err-sizes-clause-err c = err_stop _ c.from_residual-in_err-sizes.result c.in_err-sizes.field-0.0 c.from_residual-in_err-sizes.ensures.1 (sizes_stop c.args.h.now c.args.c c.args.start.rest.now c.args.start.line c.in_err-sizes.field-0.0 c.in_err-sizes.ensures.err)

pub read_primary-requires : goal.read_primary-requires
read_primary-requires c =
    room_left c.args.h.now (sizes_line c.args.c ∷ []) c.args.start.rest.now c.in_ok-sizes.cursor.rest.now c.args.start.line c.in_ok-sizes.cursor.line c.requires.room
    (one_read c.args.h.now (sizes_line c.args.c) c.args.start.rest.now c.in_ok-sizes.cursor.rest.now c.in_ok-sizes.ensures.ok.0.line) c.in_ok-sizes.ensures.ok.1

pub returns-in_err-primary-clause-said : goal.returns-in_err-primary-clause-said
returns-in_err-primary-clause-said c = err_ok _ _ c.from_residual-in_err-primary.result c.from_residual-in_err-primary.ensures.1

pub returns-in_err-primary-clause-lines : goal.returns-in_err-primary-clause-lines
returns-in_err-primary-clause-lines c = err_ok _ _ c.from_residual-in_err-primary.result c.from_residual-in_err-primary.ensures.1

pub returns-in_err-primary-clause-number : goal.returns-in_err-primary-clause-number
returns-in_err-primary-clause-number c = err_ok _ _ c.from_residual-in_err-primary.result c.from_residual-in_err-primary.ensures.1

pub returns-in_err-primary-clause-err : goal.returns-in_err-primary-clause-err
returns-in_err-primary-clause-err c =
    err_stop _ c.from_residual-in_err-primary.result c.in_err-primary.field-0.0 c.from_residual-in_err-primary.ensures.1
    (primary_stop c.args.h.now c.args.c c.args.start.rest.now c.in_ok-sizes.cursor.rest.now c.in_ok-sizes.sizes c.in_ok-sizes.ensures.ok.0 c.args.start.line c.in_ok-sizes.cursor.line c.in_err-primary.field-0.0 c.in_ok-sizes.ensures.ok.1 c.in_err-primary.ensures.err)

pub read_bases-requires : goal.read_bases-requires
read_bases-requires c =
    let n1 = c.in_ok-sizes.ensures.ok.1 in
    let n2 = c.in_ok-primary.ensures.ok.1 in
    room_left c.args.h.now (sizes_line c.args.c ∷ primary_line ∷ []) c.args.start.rest.now c.in_ok-primary.cursor.rest.now c.args.start.line c.in_ok-primary.cursor.line c.requires.room
    (read2 c.args.h.now c.args.c c.args.start.rest.now c.in_ok-sizes.cursor.rest.now c.in_ok-sizes.sizes c.in_ok-sizes.ensures.ok.0 c.args.start.line c.in_ok-primary.primary c.in_ok-primary.cursor.rest.now c.in_ok-primary.ensures.ok.0) (omega (arith, n1, n2))

pub returns-in_err-places-clause-said : goal.returns-in_err-places-clause-said
returns-in_err-places-clause-said c = err_ok _ _ c.from_residual-in_err-places.result c.from_residual-in_err-places.ensures.1

pub returns-in_err-places-clause-lines : goal.returns-in_err-places-clause-lines
returns-in_err-places-clause-lines c = err_ok _ _ c.from_residual-in_err-places.result c.from_residual-in_err-places.ensures.1

pub returns-in_err-places-clause-number : goal.returns-in_err-places-clause-number
returns-in_err-places-clause-number c = err_ok _ _ c.from_residual-in_err-places.result c.from_residual-in_err-places.ensures.1

pub returns-in_err-places-clause-err : goal.returns-in_err-places-clause-err
returns-in_err-places-clause-err c =
    let list : c.proper_of.result.now ≡ proper (preorder c.args.h.now c.args.c) = c.proper_of.ensures ∙ ap proper (c.as_slice.ensures ∙ c.in_ok-list.ensures.preorder) in
    let n1 = c.in_ok-sizes.ensures.ok.1 in
    let n2 = c.in_ok-primary.ensures.ok.1 in
    err_stop _ c.from_residual-in_err-places.result c.in_err-places.field-0.0 c.from_residual-in_err-places.ensures.1
    (bases_stop c.args.h.now c.args.c c.args.start.rest.now c.in_ok-sizes.cursor.rest.now c.in_ok-sizes.sizes c.in_ok-sizes.ensures.ok.0 c.args.start.line c.in_ok-primary.primary c.in_ok-primary.cursor.rest.now c.in_ok-primary.ensures.ok.0 c.in_ok-primary.cursor.line c.in_err-places.field-0.0 (omega (arith, n1, n2))
    (subst (λ (l : List Subobject). StopsReading c.args.h.now (map base_line l) c.in_ok-primary.cursor.rest.now c.in_ok-primary.cursor.line c.in_err-places.field-0.0) list c.in_err-places.ensures.err))

pub class-requires : goal.class-requires
class-requires c = c.requires.known

pub read_members-requires : goal.read_members-requires
read_members-requires c =
    let list : c.proper_of.result.now ≡ proper (preorder c.args.h.now c.args.c) = c.proper_of.ensures ∙ ap proper (c.as_slice.ensures ∙ c.in_ok-list.ensures.preorder) in
    let third : AreBasesRead c.args.h.now (proper (preorder c.args.h.now c.args.c)) c.in_ok-primary.cursor.rest.now c.in_ok-places.places c.in_ok-places.cursor.rest.now =
    subst (λ (l : List Subobject). AreBasesRead c.args.h.now l c.in_ok-primary.cursor.rest.now c.in_ok-places.places c.in_ok-places.cursor.rest.now) list c.in_ok-places.ensures.ok.0 in
    let n1 = c.in_ok-sizes.ensures.ok.1 in
    let n2 = c.in_ok-primary.ensures.ok.1 in
    let n3 = c.in_ok-places.ensures.ok.1 in
    let bases = ap (λ (l : List Subobject). length l) list in
    let count = length-map (proper (preorder c.args.h.now c.args.c)) base_line in
    let room = room_left c.args.h.now (sizes_line c.args.c ∷ primary_line ∷ []) c.args.start.rest.now c.in_ok-primary.cursor.rest.now c.args.start.line c.in_ok-primary.cursor.line c.requires.room
    (read2 c.args.h.now c.args.c c.args.start.rest.now c.in_ok-sizes.cursor.rest.now c.in_ok-sizes.sizes c.in_ok-sizes.ensures.ok.0 c.args.start.line c.in_ok-primary.primary c.in_ok-primary.cursor.rest.now c.in_ok-primary.ensures.ok.0) (omega (arith, n1, n2)) in
    room_left c.args.h.now (map base_line (proper (preorder c.args.h.now c.args.c))) c.in_ok-primary.cursor.rest.now c.in_ok-places.cursor.rest.now c.in_ok-primary.cursor.line c.in_ok-places.cursor.line room third.lines (omega (arith, n3, bases, count))

pub returns-in_err-members-clause-said : goal.returns-in_err-members-clause-said
returns-in_err-members-clause-said c = err_ok _ _ c.from_residual-in_err-members.result c.from_residual-in_err-members.ensures.1

pub returns-in_err-members-clause-lines : goal.returns-in_err-members-clause-lines
returns-in_err-members-clause-lines c = err_ok _ _ c.from_residual-in_err-members.result c.from_residual-in_err-members.ensures.1

pub returns-in_err-members-clause-number : goal.returns-in_err-members-clause-number
returns-in_err-members-clause-number c = err_ok _ _ c.from_residual-in_err-members.result c.from_residual-in_err-members.ensures.1

pub returns-in_err-members-clause-err : goal.returns-in_err-members-clause-err
returns-in_err-members-clause-err c =
    let list : c.proper_of.result.now ≡ proper (preorder c.args.h.now c.args.c) = c.proper_of.ensures ∙ ap proper (c.as_slice.ensures ∙ c.in_ok-list.ensures.preorder) in
    let third : AreBasesRead c.args.h.now (proper (preorder c.args.h.now c.args.c)) c.in_ok-primary.cursor.rest.now c.in_ok-places.places c.in_ok-places.cursor.rest.now =
    subst (λ (l : List Subobject). AreBasesRead c.args.h.now l c.in_ok-primary.cursor.rest.now c.in_ok-places.places c.in_ok-places.cursor.rest.now) list c.in_ok-places.ensures.ok.0 in
    let n1 = c.in_ok-sizes.ensures.ok.1 in
    let n2 = c.in_ok-primary.ensures.ok.1 in
    let n3 = c.in_ok-places.ensures.ok.1 in
    let bases = ap (λ (l : List Subobject). length l) list in
    let members : c.as_slice-2.result.now ≡ members_of c.args.h.now c.args.c = c.as_slice-2.ensures ∙ sym (ap members_in c.class.ensures) in
    err_stop _ c.from_residual-in_err-members.result c.in_err-members.field-0.0 c.from_residual-in_err-members.ensures.1
    (members_stop c.args.h.now c.args.c c.args.start.rest.now c.in_ok-sizes.cursor.rest.now c.in_ok-sizes.sizes c.in_ok-sizes.ensures.ok.0 c.args.start.line c.in_ok-primary.primary c.in_ok-primary.cursor.rest.now c.in_ok-primary.ensures.ok.0 c.in_ok-places.places c.in_ok-places.cursor.rest.now third c.in_ok-places.cursor.line c.in_err-members.field-0.0 (omega (arith, n1, n2, n3, bases))
    (subst (λ (l : List (Member ClassId)). StopsReading c.args.h.now (map member_line l) c.in_ok-places.cursor.rest.now c.in_ok-places.cursor.line c.in_err-members.field-0.0) members c.in_err-members.ensures.err))

pub returns-clause-said : goal.returns-clause-said
returns-clause-said c =
    let list : c.proper_of.result.now ≡ proper (preorder c.args.h.now c.args.c) = c.proper_of.ensures ∙ ap proper (c.as_slice.ensures ∙ c.in_ok-list.ensures.preorder) in
    let third : AreBasesRead c.args.h.now (proper (preorder c.args.h.now c.args.c)) c.in_ok-primary.cursor.rest.now c.in_ok-places.places c.in_ok-places.cursor.rest.now =
    subst (λ (l : List Subobject). AreBasesRead c.args.h.now l c.in_ok-primary.cursor.rest.now c.in_ok-places.places c.in_ok-places.cursor.rest.now) list c.in_ok-places.ensures.ok.0 in
    let members : c.as_slice-2.result.now ≡ members_of c.args.h.now c.args.c = c.as_slice-2.ensures ∙ sym (ap members_in c.class.ensures) in
    let fourth : AreMembersRead c.args.h.now (members_of c.args.h.now c.args.c) c.in_ok-places.cursor.rest.now c.in_ok-members.members c.in_ok-members.cursor.rest.now =
    subst (λ (l : List (Member ClassId)). AreMembersRead c.args.h.now l c.in_ok-places.cursor.rest.now c.in_ok-members.members c.in_ok-members.cursor.rest.now) members c.in_ok-members.ensures.ok.0 in
    record {
      first = refl;
      sizes = c.in_ok-sizes.ensures.ok.0.small;
      primary = c.in_ok-primary.ensures.ok.0.writable;
      in_preorder = c.in_ok-list.ensures.preorder;
      lists = c.in_ok-list.ensures.lists;
      each = third.each ∙ ap (λ (l : List Subobject). length (proper l)) (sym c.in_ok-list.ensures.preorder);
      small = third.small;
      members = fourth.small;
    }

pub returns-clause-lines : goal.returns-clause-lines
returns-clause-lines c =
    let list : c.proper_of.result.now ≡ proper (preorder c.args.h.now c.args.c) = c.proper_of.ensures ∙ ap proper (c.as_slice.ensures ∙ c.in_ok-list.ensures.preorder) in
    let third : AreBasesRead c.args.h.now (proper (preorder c.args.h.now c.args.c)) c.in_ok-primary.cursor.rest.now c.in_ok-places.places c.in_ok-places.cursor.rest.now =
    subst (λ (l : List Subobject). AreBasesRead c.args.h.now l c.in_ok-primary.cursor.rest.now c.in_ok-places.places c.in_ok-places.cursor.rest.now) list c.in_ok-places.ensures.ok.0 in
    let members : c.as_slice-2.result.now ≡ members_of c.args.h.now c.args.c = c.as_slice-2.ensures ∙ sym (ap members_in c.class.ensures) in
    let fourth : AreMembersRead c.args.h.now (members_of c.args.h.now c.args.c) c.in_ok-places.cursor.rest.now c.in_ok-members.members c.in_ok-members.cursor.rest.now =
    subst (λ (l : List (Member ClassId)). AreMembersRead c.args.h.now l c.in_ok-places.cursor.rest.now c.in_ok-members.members c.in_ok-members.cursor.rest.now) members c.in_ok-members.ensures.ok.0 in
    let said : ClassSaid = record { line = c.args.start.line; sizes = c.in_ok-sizes.sizes; primary = c.in_ok-primary.primary; list = c.in_ok-list.list; places = c.in_ok-places.places; members = c.in_ok-members.members } in
    class_read c.args.h.now c.args.c c.args.start.rest.now c.in_ok-sizes.cursor.rest.now c.in_ok-sizes.sizes c.in_ok-sizes.ensures.ok.0 c.args.start.line c.in_ok-primary.primary c.in_ok-primary.cursor.rest.now c.in_ok-primary.ensures.ok.0 c.in_ok-places.places c.in_ok-places.cursor.rest.now third said c.in_ok-members.members c.in_ok-members.cursor.rest.now fourth refl refl c.in_ok-list.ensures.preorder refl refl

pub returns-clause-number : goal.returns-clause-number
returns-clause-number c =
    let list : c.proper_of.result.now ≡ proper (preorder c.args.h.now c.args.c) = c.proper_of.ensures ∙ ap proper (c.as_slice.ensures ∙ c.in_ok-list.ensures.preorder) in
    let third : AreBasesRead c.args.h.now (proper (preorder c.args.h.now c.args.c)) c.in_ok-primary.cursor.rest.now c.in_ok-places.places c.in_ok-places.cursor.rest.now =
    subst (λ (l : List Subobject). AreBasesRead c.args.h.now l c.in_ok-primary.cursor.rest.now c.in_ok-places.places c.in_ok-places.cursor.rest.now) list c.in_ok-places.ensures.ok.0 in
    let n1 = c.in_ok-sizes.ensures.ok.1 in
    let n2 = c.in_ok-primary.ensures.ok.1 in
    let n3 = c.in_ok-places.ensures.ok.1 in
    let bases = ap (λ (l : List Subobject). length l) list in
    let members : c.as_slice-2.result.now ≡ members_of c.args.h.now c.args.c = c.as_slice-2.ensures ∙ sym (ap members_in c.class.ensures) in
    let n4 = c.in_ok-members.ensures.ok.1 in
    let others = ap (λ (l : List (Member ClassId)). length l) members in
    lines_count c.args.h.now c.args.c c.args.start.rest.now c.in_ok-sizes.cursor.rest.now c.in_ok-sizes.sizes c.in_ok-sizes.ensures.ok.0 c.args.start.line c.in_ok-primary.primary c.in_ok-primary.cursor.rest.now c.in_ok-primary.ensures.ok.0 c.in_ok-places.places c.in_ok-places.cursor.rest.now third c.in_ok-places.cursor.line c.in_ok-members.cursor.line (omega (arith, n1, n2, n3, bases)) (omega (arith, n4, others))
