use Rattle.std.proofs.Common.{◌≡◌, ◌++◌, ◌∷◌, [], ℕ, List, length, subst, sym, ap, arith, length-append, rules}
use Rattle.cxx_overrider.specs.invariants.Numbers.{IsNumbering}
use Rattle.cxx_overrider.proofs.Numbering.{HasRows, rows_more, numbering_made}
use Rattle.cxx_overrider.proofs.signatures.number_signatures.Goals as goal

pub loop-number-preserved : goal.loop-number-preserved
loop-number-preserved c =
    let old = c.loop-number.firsts.items in
    let new = c.number_class.new.firsts.items in
    let e : c.push.new.self.items ≡ c.loop-number.rows.items ++ c.in_ok-row.row ∷ [] = c.in_ok-push.ensures.items in
    record {
      firsts = c.in_ok-row.ensures.firsts;
      keyed = c.in_ok-row.ensures.keyed;
      size = let n = c.loop-number.invariant.size in omega (arith, ap length e, length-append {A = List ℕ});
      rows = subst (λ (x : List (List ℕ)). HasRows c.args.h.now new x) (sym e)
          (rows_more c.args.h.now old new c.loop-number.rows.items c.loop-number.number c.in_ok-row.row c.loop-number.invariant.rows c.in_ok-row.ensures.kept c.loop-number.invariant.size c.in_ok-row.ensures.row);
    }

pub returns : goal.returns
returns c =
    let end = c.loop-number.auto.number-end in
    let size : length c.loop-number.rows.items ≡ length c.args.h.now = let n = c.loop-number.invariant.size in omega arith in
    let count : c.len-count.result ≡ length c.loop-number.firsts.items = search rules in
    subst (λ (n : ℕ). IsNumbering c.args.h.now c.loop-number.rows.items n) (sym count)
    (numbering_made c.args.h.now c.loop-number.firsts.items c.loop-number.rows.items c.keeps.ensures c.loop-number.invariant.firsts size c.loop-number.invariant.rows)
