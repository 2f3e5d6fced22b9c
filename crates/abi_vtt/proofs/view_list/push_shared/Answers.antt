use Rattle.abi_vtt.proofs.ViewLemmas.{nothing_shared, base_shared}
use Rattle.abi_vtt.proofs.view_list.push_shared.Goals as goal

pub returns-else-is_marked : goal.returns-else-is_marked
returns-else-is_marked c = nothing_shared c.args.h.now c.args.marks.now c.args.v c.args.list.now c.is_marked.result c.requires.marks c.requires.known c.is_marked.ensures c.if-is_marked.false

pub returns-in_ok-push_views : goal.returns-in_ok-push_views
returns-in_ok-push_views c = base_shared c.args.h.now c.args.marks.now c.args.v c.args.list.now c.push_views.new.list c.is_marked.result c.in_ok-longer_path.field-0 c.requires.marks c.requires.known c.is_marked.ensures c.if-is_marked.true c.in_ok-longer_path.ensures c.in_ok-push_views.ensures
