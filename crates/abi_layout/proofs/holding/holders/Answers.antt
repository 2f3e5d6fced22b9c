use Rattle.std.proofs.Common.{◌+◌, List, Option, ℕ, arith, subst, sym}
use Rattle.cxx_subobject.specs.Subobjects.{whole_of}
use Rattle.abi_layout.proofs.lists.Lists.{number}
use Rattle.abi_layout.proofs.rules.HoldingLemmas.{AreFirst, one_more_first, all_first}
use Rattle.abi_layout.proofs.holding.holders.Goals as goal

pub loop-n-preserved : goal.loop-n-preserved
loop-n-preserved c =
    subst (λ (holders : List (Option ℕ)). AreFirst c.args.primaries.now c.args.list.now c.args.count (c.loop-n.n + 1) holders) (sym c.put_holder.ensures)
    (one_more_first c.args.primaries.now c.args.list.now c.args.count c.loop-n.n c.loop-n.holders.items c.index-list-n.result c.virtual_primary_of.result c.loop-n-test.true c.index-list-n.is c.virtual_primary_of.ensures c.loop-n.invariant)

pub returns : goal.returns
returns c =
    let le = c.loop-n-test.false in
    let bound = c.loop-n.auto.n-end in
    all_first c.args.primaries.now c.args.list.now c.args.count c.loop-n.n c.loop-n.holders.items (whole_of (number 0)) (omega arith) c.loop-n.invariant
