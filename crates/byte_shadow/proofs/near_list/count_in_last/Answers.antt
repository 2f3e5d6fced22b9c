use Rattle.std.proofs.Common.{◌≡◌, List, refl, ◌-◌, ◌<◌, ◌≤◌, subst, length, take, drop, arith}
use Rattle.std.proofs.lemmas.List.{take_all, length-drop}
use Rattle.std.proofs.lemmas.Option.{slice_get_read}
use Rattle.byte_memory.specs.Regions.{CountsStarts}
use Rattle.byte_shadow.specs.declared.near_list.NearPlace.{NearPlace}
use Rattle.byte_shadow.specs.NearLists.{near_rank}
use Rattle.byte_shadow.proofs.ListLemmas.{count-tail}
use Rattle.byte_shadow.proofs.near_list.count_in_last.Goals as goal

pub returns-then-near_rank-rank : goal.returns-then-near_rank-rank
returns-then-near_rank-rank g c =
    let items = c.args.items.now in
    let start = length items - c.args.searched in
    let count = c.count_among.result in
    let inside : start < length items = omega (arith, c.if-len-searched.false, c.requires.some) in
    let long : length (drop start items) ≡ length items - start = length-drop start items in
    let whole : take (length items - start) (drop start items) ≡ drop start items = take_all (length items - start) (drop start items) (omega (arith, long)) in
    let bound : count ≤ length (drop start items) = subst (λ (xs : List (NearPlace _)). count ≤ length xs) whole c.count_among.ensures.bound in
    let tail : CountsStarts near_rank (drop start items) c.args.rank count = subst (λ (xs : List (NearPlace _)). CountsStarts near_rank xs c.args.rank count) whole c.count_among.ensures.count in
    (omega (arith, bound, long, inside), count-tail items start c.args.rank count _ c.requires.ascending (slice_get_read items (length items) start c.index-items-start.result refl inside c.index-items-start.is) (subst (λ r. r ≤ c.args.rank) c.near_rank.ensures c.if-near_rank-rank.true) tail)
