use Rattle.std.proofs.Common.{◌≡◌, ◌<◌, refl, rules, arith, subst}
use Rattle.byte_memory.proofs.WordBytes.{AreFirst, read-bits, read-below, value_of, mask_of, first-none, first-more}
use Rattle.byte_memory.proofs.cells.read_word.Goals as goal

pub loop-i-init : goal.loop-i-init
loop-i-init c = record { value = first-none value_of c.args.cells.now c.args.at _ refl; mask = first-none mask_of c.args.cells.now c.args.at _ refl }

pub loop-i-preserved : goal.loop-i-preserved
loop-i-preserved c =
    let value : c.cell_at-cell.result.value < 256 = search rules in
    let mask : c.cell_at-cell.result.set < 256 = search rules in
    let here = c.cell_at-cell.ensures in
    record {
      value = first-more value_of c.args.cells.now c.args.at c.loop-i.i c.loop-i.values c.cell_at-cell.result c.loop-i.invariant.value (omega arith) value here;
      mask = first-more mask_of c.args.cells.now c.args.at c.loop-i.i c.loop-i.sets c.cell_at-cell.result c.loop-i.invariant.mask (omega arith) mask here;
    }

pub returns-clause-bits : goal.returns-clause-bits
returns-clause-bits c = let n : c.loop-i.i ≡ c.args.n = omega arith in λ place inside. read-bits c.args.cells.now c.args.at c.args.n _ _ (record { value = c.read_u64.result; set = c.read_u64-2.result }) place c.requires.small (subst (λ i. AreFirst value_of c.args.cells.now c.args.at i c.loop-i.values) n c.loop-i.invariant.value) (subst (λ i. AreFirst mask_of c.args.cells.now c.args.at i c.loop-i.sets) n c.loop-i.invariant.mask) c.read_u64.ensures c.read_u64-2.ensures inside

pub returns-clause-value : goal.returns-clause-value
returns-clause-value c = let n : c.loop-i.i ≡ c.args.n = omega arith in read-below value_of c.args.cells.now c.args.at c.args.n _ c.read_u64.result (subst (λ i. AreFirst value_of c.args.cells.now c.args.at i c.loop-i.values) n c.loop-i.invariant.value) c.read_u64.ensures

pub returns-clause-set : goal.returns-clause-set
returns-clause-set c = let n : c.loop-i.i ≡ c.args.n = omega arith in read-below mask_of c.args.cells.now c.args.at c.args.n _ c.read_u64-2.result (subst (λ i. AreFirst mask_of c.args.cells.now c.args.at i c.loop-i.sets) n c.loop-i.invariant.mask) c.read_u64-2.ensures
