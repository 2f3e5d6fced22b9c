use Rattle.std.proofs.Common.{◌≡◌, List, true, length, get_or, ap, subst, sym, arith, ◌∙◌}
use Rattle.std.specs.Prelude.{nat_lt}
use Rattle.std.proofs.lemmas.Bool.Decides.{nat_tests}
use Rattle.std.proofs.lemmas.Option.{get_or_from_slice_get}
use Rattle.byte_code.specs.declared.code.Block.{Block}
use Rattle.byte_code.specs.declared.op.Op.{Op}
use Rattle.byte_machine.specs.declared.flat.FlatOp.{FlatOp}
use Rattle.byte_machine.specs.Runs.{RunsBlock}
use Rattle.byte_machine.specs.invariants.Flat.{AreFlatOps}
use Rattle.byte_machine.specs.invariants.States.{fixed_by, running_of}
use Rattle.byte_machine.specs.invariants.Steps.{started}
use Rattle.byte_machine.proofs.Flattened.{flat_by_index, flat_within}
use Rattle.byte_machine.proofs.KeptTwice.{kept_then}
use Rattle.byte_machine.proofs.step.run_next.Goals as goal

pub unreachable-requires-in_default-get : goal.unreachable-requires-in_default-get
unreachable-requires-in_default-get g c =
    let n = c.args.running.now.top.block in
    let within = flat_within c.args.code.now.blocks c.args.flat.now n c.requires.next.block c.requires.flat c.requires.next.there in
    let test : nat_lt n (length c.args.flat.now) ≡ true = grind (arith, nat_tests) in
    let no = c.in_default-get.ensures.lookup.0 in
    cc

pub run_block-requires-clause-flat : goal.run_block-requires-clause-flat
run_block-requires-clause-flat g c =
    let n = c.args.running.now.top.block in
    let block = c.requires.next.block in
    let zip : AreFlatOps block.ops c.in-Some-get.flat.now.ops = flat_by_index c.args.code.now.blocks c.args.flat.now n block c.in-Some-get.flat.now c.requires.flat c.requires.next.there c.in-Some-get.ensures.lookup.1 in
    let read : c.in-Some.block.now ≡ get_or c.args.code.now.blocks n c.in-Some.block.now = subst (λ (bs : List Block). c.in-Some.block.now ≡ get_or bs n c.in-Some.block.now) c.as_slice.ensures c.in-Some.ensures.lookup.1 in
    let same : c.in-Some.block.now ≡ block = read ∙ get_or_from_slice_get c.args.code.now.blocks n block c.in-Some.block.now c.requires.next.there in
    let ops : c.as_slice-2.result.now ≡ block.ops = c.as_slice-2.ensures ∙ ap (λ (b : Block). b.ops) same in
    subst (λ (xs : List Op). AreFlatOps xs c.as_slice-3.result.now) (sym ops) (subst (λ (ys : List FlatOp). AreFlatOps block.ops ys) (sym c.as_slice-3.ensures) zip)

pub returns-in_err-settle-clause-kept : goal.returns-in_err-settle-clause-kept
returns-in_err-settle-clause-kept g c =
    let first = c.run_block.ensures.kept in
    kept_then c.args.setup.now.image c.args.running.now c.run_block.new.running c.settle.new.running (record { room = first.room; known = first.known; outs = first.outs }) c.settle.ensures.kept

pub returns-clause-kept : goal.returns-clause-kept
returns-clause-kept g c =
    let first = c.run_block.ensures.kept in
    kept_then c.args.setup.now.image c.args.running.now c.run_block.new.running c.settle.new.running (record { room = first.room; known = first.known; outs = first.outs }) c.settle.ensures.kept

pub returns-clause-ran : goal.returns-clause-ran
returns-clause-ran g c =
    let f = fixed_by c.args.setup.now in
    let s = running_of c.args.running.now in
    let last = running_of c.run_block.new.running in
    let n = c.args.running.now.top.block in
    let block = c.requires.next.block in
    let read : c.in-Some.block.now ≡ get_or c.args.code.now.blocks n c.in-Some.block.now = subst (λ (bs : List Block). c.in-Some.block.now ≡ get_or bs n c.in-Some.block.now) c.as_slice.ensures c.in-Some.ensures.lookup.1 in
    let same : c.in-Some.block.now ≡ block = read ∙ get_or_from_slice_get c.args.code.now.blocks n block c.in-Some.block.now c.requires.next.there in
    let by_ops : RunsBlock f c.in-Some.block.now.ops (started s c.in-Some.block.now.line) last c.in_ok-turn.turn = subst (λ (xs : List Op). RunsBlock f xs (started s c.in-Some.block.now.line) last c.in_ok-turn.turn) c.as_slice-2.ensures c.in_ok-turn.ensures.runs in
    record {
      block = block;
      there = c.requires.next.there;
      last = last;
      runs = subst (λ (b : Block). RunsBlock f b.ops (started s b.line) last c.in_ok-turn.turn) same by_ops;
      settles = c.in_ok-settle.ensures.settles;
    }
