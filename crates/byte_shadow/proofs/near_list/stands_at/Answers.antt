use Rattle.std.proofs.Common.{refl, ◌<◌, ◌∙◌, sym, length, arith}
use Rattle.std.proofs.lemmas.Option.{slice_get_read}
use Rattle.byte_memory.proofs.Ascending.{find-last}
use Rattle.byte_shadow.specs.NearLists.{rank_of_place, near_rank, is_near_at}
use Rattle.byte_shadow.proofs.ListLemmas.{near-rank}
use Rattle.byte_shadow.proofs.near_list.stands_at.Goals as goal

pub returns : goal.returns
returns g c pass =
    let items = c.args.items.now in
    let inside : c.args.index < length items = omega (arith, c.if-index-items.false) in
    let here = slice_get_read items (length items) c.args.index c.index-items-index.result refl inside c.index-items-index.is in
    (inside, find-last near_rank (λ o. 1) items (rank_of_place c.args.at c.args.class) (is_near_at c.args.at c.args.class) _ _ c.requires (near-rank _ _ _) here (sym c.is_near_at.ensures ∙ pass) ∙ sym here)
