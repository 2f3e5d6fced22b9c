use Rattle.std.proofs.Common.{rules, of_calls}
use Rattle.std.proofs.lemmas.Fn.{always_returns_same}
use Rattle.std.specs.Prelude.{nat_le}
use Rattle.std.proofs.Common.{rules}
use Rattle.byte_machine.specs.declared.heap.Opened.{Opened}
use Rattle.byte_memory.proofs.Ascending.{partition-count, IsAscendingBy-ordered}
use Rattle.std.proofs.lemmas.List.Sorted.{IsPartitionedBy-leb}
use Rattle.byte_machine.proofs.heap.count_up_to.Goals as goal

pub returns-clause-count : goal.returns-clause-count
returns-clause-count c =
    let test = λ (r : Opened). nat_le r.start c.args.at in
    let ordered = IsAscendingBy-ordered (λ (r : Opened). r.start) (λ r. r.size) c.args.objects.now c.requires in
    partition-count (λ (r : Opened). r.start) c.args.objects.now c.args.at c.partition_point.result
    (c.partition_point.ensures.partitioned test (always_returns_same _ _ _ (λ a r f k. search (rules, of_calls))) (IsPartitionedBy-leb (λ (r : Opened). r.start) c.args.objects.now c.args.at ordered))
    c.partition_point.ensures.bound
