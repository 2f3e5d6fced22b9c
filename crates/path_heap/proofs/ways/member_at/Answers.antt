use Rattle.foundation.proofs.Places.{get_read}
use Rattle.path_heap.proofs.ways.member_at.Goals as goal

pub returns : goal.returns
returns c = get_read c.args.members.now c.args.i c.index-members-i.result c.requires c.index-members-i.is
