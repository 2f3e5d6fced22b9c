use Rattle.std.proofs.Common.{rules, of_calls}
use Rattle.std.proofs.lemmas.Fn.{always_returns_same}
use Rattle.std.specs.Prelude.{nat_le}
use Rattle.byte_memory.specs.declared.page.Page.{Page}
use Rattle.byte_memory.proofs.Ascending.{partition-count, IsAscendingBy-ordered}
use Rattle.std.proofs.lemmas.List.Sorted.{IsPartitionedBy-leb}
use Rattle.byte_memory.proofs.table.count_up_to.Goals as goal

pub returns-clause-count : goal.returns-clause-count
returns-clause-count c =
    let test = λ (p : Page). nat_le p.number c.args.number in
    let ordered = IsAscendingBy-ordered (λ (p : Page). p.number) (λ p. 1) c.args.pages.now c.requires in
    partition-count (λ (p : Page). p.number) c.args.pages.now c.args.number c.partition_point.result
    (c.partition_point.ensures.partitioned test (always_returns_same _ _ _ (λ a r f k. search (rules, of_calls))) (IsPartitionedBy-leb (λ (p : Page). p.number) c.args.pages.now c.args.number ordered))
    c.partition_point.ensures.bound
