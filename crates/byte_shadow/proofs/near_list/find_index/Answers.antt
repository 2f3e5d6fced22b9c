use Rattle.std.proofs.Common.{refl, ◌≡◌, ◌+◌, ◌-◌, ◌<◌, ◌∙◌, sym, subst, length, arith}
use Rattle.byte_memory.specs.Regions.{CountsStarts}
use Rattle.std.proofs.lemmas.Option.{slice_get_read}
use Rattle.byte_memory.proofs.Ascending.{find-empty, find-last, find-fails}
use Rattle.byte_shadow.specs.NearLists.{rank_of_place, near_rank, is_near_at}
use Rattle.byte_shadow.proofs.ListLemmas.{near-rank}
use Rattle.byte_shadow.proofs.near_list.find_index.Goals as goal

pub returns-then-count-eq0 : goal.returns-then-count-eq0
returns-then-count-eq0 g c = find-empty near_rank (λ o. 1) c.args.items.now (rank_of_place c.args.at c.args.class) (is_near_at c.args.at c.args.class) (near-rank _ _ _) (subst (λ r. CountsStarts near_rank c.args.items.now r 0) c.rank_at.ensures (rw c.if-count-eq0.true at c.count_up_to-count.ensures.count))

pub returns-then-is_near_at : goal.returns-then-is_near_at
returns-then-is_near_at g c =
    let items = c.args.items.now in
    let inside : c.count_up_to-count.result - 1 < length items = omega (arith, c.if-count-eq0.false, c.count_up_to-count.ensures.bound) in
    let here = slice_get_read items (length items) (c.count_up_to-count.result - 1) c.index-items-count.result refl inside c.index-items-count.is in
    (inside, find-last near_rank (λ o. 1) items (rank_of_place c.args.at c.args.class) (is_near_at c.args.at c.args.class) _ _ c.requires (near-rank _ _ _) here (sym c.is_near_at.ensures ∙ c.if-is_near_at.true) ∙ sym here)

pub returns-else-is_near_at : goal.returns-else-is_near_at
returns-else-is_near_at g c =
    let items = c.args.items.now in
    let inside : c.count_up_to-count.result - 1 < length items = omega (arith, c.if-count-eq0.false, c.count_up_to-count.ensures.bound) in
    let more : c.count_up_to-count.result - 1 + 1 ≡ c.count_up_to-count.result = omega (arith, c.if-count-eq0.false) in
    find-fails near_rank (λ o. 1) items (rank_of_place c.args.at c.args.class) (is_near_at c.args.at c.args.class) (c.count_up_to-count.result - 1) _ c.requires (near-rank _ _ _) (subst (λ r. CountsStarts near_rank items r (c.count_up_to-count.result - 1 + 1)) c.rank_at.ensures (rw more c.count_up_to-count.ensures.count)) (slice_get_read items (length items) (c.count_up_to-count.result - 1) c.index-items-count.result refl inside c.index-items-count.is) (sym c.is_near_at.ensures ∙ c.if-is_near_at.false)
