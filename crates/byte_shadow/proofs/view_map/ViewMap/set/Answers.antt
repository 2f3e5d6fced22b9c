use Rattle.std.proofs.Common.{refl}
use Rattle.byte_shadow.specs.Meaning.{shadow_place}
use Rattle.byte_shadow.proofs.ViewLemmas.{put-wide-view}
use Rattle.byte_shadow.proofs.view_map.ViewMap.set.Goals as goal

pub returns-clause-ok : goal.returns-clause-ok
returns-clause-ok c =
    let mid = c.list_view.new.self in
    put-wide-view c.args.self.now mid (record { list = mid.list; wide = c.insert.new.self }) c.args.owner c.args.view (c.in_ok-list_view.ensures.left c.if-branch.false) refl (λ a d. c.in_ok-insert.ensures.updates.0 (shadow_place a d))
