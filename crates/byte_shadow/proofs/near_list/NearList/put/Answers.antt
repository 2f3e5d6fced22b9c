use Rattle.byte_shadow.proofs.ListLemmas.{put-there}
use Rattle.byte_shadow.proofs.near_list.NearList.put.Goals as goal

pub returns-in-Some-clause-put : goal.returns-in-Some-clause-put
returns-in-Some-clause-put g c done = put-there c.args.self.now.items.items c.change.new.self.items.items c.in-Some.index c.args.item c.in-Some.ensures.0 c.in-Some.ensures.1 c.change.ensures
