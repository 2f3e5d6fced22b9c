use Rattle.std.proofs.Common.{◌^◌, ◌≤◌, rules}
use Rattle.byte_shadow.proofs.ListLemmas.{none-far}
use Rattle.byte_shadow.proofs.near_list.NearList.index_of.Goals as goal

pub returns-in-Err : goal.returns-in-Err
returns-in-Err g c =
    let far : 2 ^ 32 ≤ c.args.at = search rules in
    none-far c.args.self.now.items.items c.args.at c.args.class c.args.self.now.narrow far
