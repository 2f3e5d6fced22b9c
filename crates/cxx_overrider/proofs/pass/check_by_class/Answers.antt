use Rattle.std.proofs.Common.{◌≡◌, ◌≤◌, ℕ, Bool, List, length, refl, ap, sym, subst, ◌∙◌, arith}
use Rattle.cxx_overrider.specs.invariants.Pass.{TellsAbstract}
use Rattle.cxx_overrider.specs.invariants.EntryTables.{ServesTo}
use Rattle.cxx_overrider.specs.invariants.Settling.{IsMade}
use Rattle.cxx_overrider.proofs.Made.{made_start}
use Rattle.cxx_overrider.proofs.PassLemmas.{fine_start, fine_end, no_abstracts}
use Rattle.cxx_overrider.proofs.pass.check_by_class.Goals as goal

pub loop-number-init : goal.loop-number-init
loop-number-init c =
    let h = c.args.h.now in
    record {
      made = made_start h c.in_ok-tables.tables.numbering.rows.items c.in_ok-entries.entries c.in_ok-entries.ensures.none (subst (λ (n : ℕ). ServesTo n 0 c.in_ok-entries.entries) c.len-classes.ensures c.in_ok-entries.ensures.serves);
      size = ap length c.new-abstracts.ensures.items;
      abstracts = subst (λ (x : List Bool). TellsAbstract h x) (sym c.new-abstracts.ensures.items) (no_abstracts h);
      fine = fine_start h (record { 0 = 0 }) refl;
    }

pub loop-number-preserved : goal.loop-number-preserved
loop-number-preserved c = record {
  made = c.in-Ok.ensures.made;
  size = c.in-Ok.ensures.size;
  abstracts = c.in-Ok.ensures.abstracts;
  fine = c.in-Ok.ensures.fine;
}

pub returns-clause-ok : goal.returns-clause-ok
returns-clause-ok c =
    let h = c.args.h.now in
    let last = c.loop-number.auto.number-end in
    let size = c.len-number-end.ensures in
    let all : c.loop-number.number ≡ length h = let f = c.loop-number-test.false in omega arith in
    record {
      tables = c.in_ok-tables.ensures;
      made = subst (λ (n : ℕ). IsMade h c.in_ok-tables.tables.numbering.rows.items c.loop-number.entries n 0 0) all c.loop-number.invariant.made;
      abstracts = c.loop-number.invariant.abstracts;
      all_abstracts = c.loop-number.invariant.size ∙ all;
      fine = fine_end h (record { 0 = c.loop-number.number }) (omega arith) c.loop-number.invariant.fine;
    }

pub returns-clause-fine : goal.returns-clause-fine
returns-clause-fine c =
    let h = c.args.h.now in
    let last = c.loop-number.auto.number-end in
    let size = c.len-number-end.ensures in
    let all : length h ≤ c.loop-number.number = let f = c.loop-number-test.false in omega arith in
    fine_end h (record { 0 = c.loop-number.number }) all c.loop-number.invariant.fine
