use Rattle.std.proofs.Common.{◌≡◌, rules, arith, get_or, refl}
use Rattle.std.proofs.lemmas.List.{length-set}
use Rattle.path_numbers.specs.Sizes.{sizes_of}
use Rattle.path_numbers.proofs.Shares.{unmet_zero, room_new, sharing_new}
use Rattle.path_numbers.proofs.sharing.Sharing.meet.Goals as goal

pub overflow_add-self : goal.overflow_add-self
overflow_add-self c =
    let zero_there : get_or c.args.self.now.offsets.items c.args.v.0 0 ≡ 0 = search rules in
    let fresh = unmet_zero (sizes_of c.args.h.now) c.args.self.now c.args.v c.requires.sharing c.requires.places zero_there in
    let r = room_new (sizes_of c.args.h.now) c.args.self.now c.args.v c.row_at.result.now.as_base c.requires.sharing fresh (c.row_at.ensures c.args.h.now c.requires.rows).as_base c.requires.room in omega arith

pub returns-in_ok-push-clause-sharing : goal.returns-in_ok-push-clause-sharing
returns-in_ok-push-clause-sharing c =
    let zero_there : get_or c.args.self.now.offsets.items c.args.v.0 0 ≡ 0 = search rules in
    let fresh = unmet_zero (sizes_of c.args.h.now) c.args.self.now c.args.v c.requires.sharing c.requires.places zero_there in
    sharing_new (sizes_of c.args.h.now) c.args.self.now _ c.args.v c.row_at.result.now.as_base c.requires.sharing c.requires.places fresh (c.row_at.ensures c.args.h.now c.requires.rows).as_base refl c.in_ok-push.ensures.items refl
    (length-set c.args.self.now.offsets.items c.args.v.0 c.args.self.now.end) refl
