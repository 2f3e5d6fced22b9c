use Rattle.std.proofs.Common.{◌∙◌, ◌+◌, ◌≤◌, sym, ap, subst, arith, Ok, pos}
use Rattle.byte_code.specs.Images.{word_at}
use Rattle.byte_code.specs.declared.code.ImageBytes.{ImageBytes}
use Rattle.abi_dyncast.specs.Casts.{CanCastHinted, room}
use Rattle.worked_cases.proofs.CastingPairs.{can_hinted}
use Rattle.worked_cases.proofs.hinted_visits.visits_over.Goals as goal

pub cast_hinted-found-requires : goal.cast_hinted-found-requires
cast_hinted-found-requires g c =
    let few : 3 ≤ room c.args.work.now = let n = c.requires.room in omega arith in
    let low = c.requires.low in
    let pair = c.args.pair.now in
    subst (λ (image : ImageBytes). CanCastHinted (word_at image) (g.M.Memory.meaning c.args.memory.now) (room c.args.work.now) (c.args.start + 16) pair.second_class.class pair.whole.class (pos 16)) (sym c.new-reader.ensures.image)
    (can_hinted (word_at c.args.image.now) (g.M.Memory.meaning c.args.memory.now) pair c.args.start c.args.point c.requires.pair c.requires.table (sym c.load.ensures.value ∙ (c.in-Ok.is ∙ ap (λ n. Ok n) c.if-pointer-point.false)) low (room c.args.work.now) few)
