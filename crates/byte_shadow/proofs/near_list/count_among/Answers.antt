use Rattle.std.proofs.Common.{rules, of_calls}
use Rattle.std.proofs.lemmas.Fn.{always_returns_same}
use Rattle.std.specs.Prelude.{nat_le}
use Rattle.std.proofs.lemmas.List.Sorted.{IsPartitionedBy-leb}
use Rattle.byte_memory.proofs.Ascending.{partition-count, IsAscendingBy-ordered}
use Rattle.byte_shadow.specs.declared.near_list.NearPlace.{NearPlace}
use Rattle.byte_shadow.specs.NearLists.{near_rank}
use Rattle.byte_shadow.proofs.near_list.count_among.Goals as goal

pub returns-clause-count : goal.returns-clause-count
returns-clause-count g c =
    let test = λ (o : NearPlace _). nat_le (near_rank o) c.args.rank in
    let ordered = IsAscendingBy-ordered near_rank (λ (o : NearPlace _). 1) c.args.items.now c.requires in
    partition-count near_rank c.args.items.now c.args.rank c.partition_point.result
    (c.partition_point.ensures.partitioned test (always_returns_same _ _ _ (λ a r f k. search (rules, of_calls))) (IsPartitionedBy-leb near_rank c.args.items.now c.args.rank ordered))
    c.partition_point.ensures.bound
