use Rattle.std.proofs.Common.{sym, ◌∙◌, arith}
use Rattle.foundation.proofs.Truth.{never, always}
use Rattle.cxx_hierarchy.specs.Classes.{bases_of}
use Rattle.abi_primary.proofs.Nth.{nth, all_nth}
use Rattle.abi_primary.proofs.KindLemmas.{bases_are, listed_base}
use Rattle.abi_layout.proofs.algorithm.NextShifted.{IsStayed, base_shifts, no_shift}
use Rattle.abi_layout.proofs.shifted.+shifted.Goals as goal

pub has_shifted-returns-then-is_base_shifted : goal.has_shifted-returns-then-is_base_shifted
has_shifted-returns-then-is_base_shifted t c =
    let xs = c.as_slice-base-items.result.now in
    let i = c.loop-base.base-index in
    let has = listed_base c.args.h.now c.args.d c.class-class.result.now xs i c.class-class.ensures c.as_slice-base-items.ensures c.loop-base-test.true in
    always (base_shifts c.args.h.now c.args.rows.now c.args.known.now c.args.d c.args.is_moved (nth xs i) has (c.is_base_shifted.ensures.0 c.if-is_base_shifted.true))

pub has_shifted-returns : goal.has_shifted-returns
has_shifted-returns t c =
    let h = c.args.h.now in
    let xs = c.as_slice-base-items.result.now in
    let same = c.as_slice-base-items.ensures ∙ sym (bases_are h c.args.d c.class-class.result.now c.class-class.ensures) in
    never (no_shift h c.args.rows.now c.args.known.now c.args.d c.args.is_moved
    (λ base has. (all_nth (IsStayed h c.args.rows.now c.args.known.now c.args.d c.args.is_moved) xs (bases_of h c.args.d) c.loop-base.base-index same c.loop-base-test.false c.loop-base.invariant base has).stays))

pub is_base_shifted-has_shifted-requires : goal.is_base_shifted-has_shifted-requires
is_base_shifted-has_shifted-requires t c =
    let falls = c.keeps.ensures.bases c.args.d c.args.base.now c.requires.base in
    let class = c.requires.class in
    let row = c.requires.row in
    (omega arith, (omega arith, omega arith))
