use Rattle.std.proofs.lemmas.List.{length-set}
use Rattle.std.proofs.Common.{◌≡◌, ◌<◌, ◌∙◌, arith, refl}
use Rattle.byte_memory.proofs.CellBits.{write-none}
use Rattle.byte_memory.proofs.WordBytes.{written-more, written_byte}
use Rattle.byte_memory.proofs.cells.write_word.Goals as goal

pub loop-i-init : goal.loop-i-init
loop-i-init c = record { bits = write-none _ c.args.at c.args.word 0 refl; len = refl }

pub loop-i-preserved : goal.loop-i-preserved
loop-i-preserved c =
    let eight : c.loop-i.i < 8 = omega arith in
    record {
      bits = written-more c.loop-i.cells _ c.args.at c.loop-i.i _ _ c.args.word (rw c.loop-i.invariant.len (omega arith)) c.loop-i.invariant.bits
          (written_byte c.write_u64.new.buf c.loop-i.i c.args.word.value c.write_u64.ensures eight)
          (written_byte c.write_u64-2.new.buf c.loop-i.i c.args.word.set c.write_u64-2.ensures eight);
      len = length-set c.loop-i.cells _ _ ∙ c.loop-i.invariant.len;
    }

pub returns : goal.returns
returns c = let n : c.loop-i.i ≡ c.args.n = omega arith in rw (← n) c.loop-i.invariant.bits
