use Rattle.std.proofs.Common.{◌<◌, ap, arith, length, refl, sym, ◌∙◌}
use Rattle.abi_slots.specs.Images.{point_at}
use Rattle.abi_image.proofs.FirstPoints.{firsts_kept, firsts_set}
use Rattle.abi_image.proofs.directory.note_first.Goals as goal

pub returns-in-Some : goal.returns-in-Some
returns-in-Some c = λ groups group_at classes at points h.
    let below = c.in-Some.ensures.own.0 in
    let less : c.in-Some.class < length c.args.firsts.now.items = omega (arith, below, c.len.ensures) in
    firsts_set groups c.args.group.now group_at classes c.args.firsts.now.items _ c.in-Some.class c.first_of.result less c.in-Some.ensures.own.1 (c.first_of.ensures c.args.group.now points ∙ ap (λ n. point_at n c.args.group.now.tables 0) (sym at)) refl h

pub returns-in-None : goal.returns-in-None
returns-in-None c = λ groups group_at classes at points h.
    firsts_kept groups c.args.group.now group_at classes c.args.firsts.now.items
    (λ id less named. let below : id.0 < c.len.result = omega (arith, c.len.ensures) in c.in-None.ensures.none id below named) h
