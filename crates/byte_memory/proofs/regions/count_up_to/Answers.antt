use Rattle.std.proofs.Common.{rules, of_calls}
use Rattle.std.proofs.lemmas.Fn.{always_returns_same}
use Rattle.std.specs.Prelude.{nat_le}
use Rattle.std.proofs.Common.{rules}
use Rattle.byte_memory.specs.declared.memory.Region.{Region}
use Rattle.byte_memory.proofs.Ascending.{partition-count, IsAscendingBy-ordered}
use Rattle.std.proofs.lemmas.List.Sorted.{IsPartitionedBy-leb}
use Rattle.byte_memory.proofs.regions.count_up_to.Goals as goal

pub returns-clause-count : goal.returns-clause-count
returns-clause-count c =
    let test = λ (r : Region). nat_le r.start c.args.at in
    let ordered = IsAscendingBy-ordered (λ (r : Region). r.start) (λ r. r.size) c.args.regions.now c.requires in
    partition-count (λ (r : Region). r.start) c.args.regions.now c.args.at c.partition_point.result
    (c.partition_point.ensures.partitioned test (always_returns_same _ _ _ (λ a r f k. search (rules, of_calls))) (IsPartitionedBy-leb (λ (r : Region). r.start) c.args.regions.now c.args.at ordered))
    c.partition_point.ensures.bound
