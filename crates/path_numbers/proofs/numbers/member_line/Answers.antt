use Rattle.std.proofs.Common.{◌∙◌, ap, sym, arith, refl}
use Rattle.std.specs.Prelude.{Some}
use Rattle.std.proofs.lemmas.Option.{slice_get-get_or}
use Rattle.foundation.proofs.Places.{contains_at}
use Rattle.path_numbers.specs.Sizes.{sizes_of, member_size}
use Rattle.path_numbers.proofs.Intervals.{before_within}
use Rattle.path_numbers.proofs.Lining.{line_none, line_more, line_all, line_room}
use Rattle.path_numbers.proofs.numbers.member_line.Goals as goal

pub loop-member-init : goal.loop-member-init
loop-member-init c = line_none (member_size (sizes_of c.args.h.now)) c.args.start c.args.members.now _ c.new.ensures.items refl

pub member_width-requires-clause-known : goal.member_width-requires-clause-known
member_width-requires-clause-known c = λ d ty.
    let at = slice_get-get_or c.args.members.now c.loop-member.member-index c.member-item.result c.loop-member-test.true ∙ ap Some (sym c.member-item.is) in
    c.requires.known c.member-item.result d (contains_at c.args.members.now c.loop-member.member-index c.member-item.result at) ty

pub member_width-requires-clause-room : goal.member_width-requires-clause-room
member_width-requires-clause-room c =
    let at = slice_get-get_or c.args.members.now c.loop-member.member-index c.member-item.result c.loop-member-test.true ∙ ap Some (sym c.member-item.is) in
    let w = before_within (member_size (sizes_of c.args.h.now)) c.loop-member.member-index c.args.members.now c.member-item.result at in
    let r = c.requires.room in omega arith

pub push-requires : goal.push-requires
push-requires c =
    let at = slice_get-get_or c.args.members.now c.loop-member.member-index c.member-item.result c.loop-member-test.true ∙ ap Some (sym c.member-item.is) in
    let r = line_room (member_size (sizes_of c.args.h.now)) c.args.start c.args.members.now c.loop-member.member-index c.loop-member.line c.member-item.result c.member_width.result c.loop-member.invariant at c.member_width.ensures c.requires.room in omega arith

pub loop-member-preserved : goal.loop-member-preserved
loop-member-preserved c =
    let at = slice_get-get_or c.args.members.now c.loop-member.member-index c.member-item.result c.loop-member-test.true ∙ ap Some (sym c.member-item.is) in
    line_more (member_size (sizes_of c.args.h.now)) c.args.start c.args.members.now c.loop-member.member-index c.loop-member.line c.push.new.self c.member-item.result c.member_width.result c.loop-member.invariant at c.member_width.ensures c.in_ok-push.ensures.offsets c.in_ok-push.ensures.end

pub returns : goal.returns
returns c = line_all (member_size (sizes_of c.args.h.now)) c.args.start c.args.members.now c.loop-member.member-index c.loop-member.line c.loop-member.invariant c.loop-member-test.false
