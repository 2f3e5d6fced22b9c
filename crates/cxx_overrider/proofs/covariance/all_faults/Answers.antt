use Rattle.std.proofs.Common.{◌≡◌, ◌<◌, ◌+◌, ◌↔◌, ℕ, Bool, true, List, subst, sym, arith}
use Rattle.cxx_hierarchy.specs.declared.records.ClassId.{ClassId}
use Rattle.cxx_overrider.specs.declared.covariance.ReturnFaults.{ReturnFaults}
use Rattle.cxx_overrider.specs.invariants.Marks.{HasMarkedBase}
use Rattle.cxx_overrider.specs.invariants.ReturnFlags.{AreFaults}
use Rattle.cxx_overrider.proofs.CovarianceLemmas.{none_faults, no_base, more_faults}
use Rattle.cxx_overrider.proofs.covariance.all_faults.Goals as goal

pub returns-then-not-has_marked_base : goal.returns-then-not-has_marked_base
returns-then-not-has_marked_base c =
    let h = c.args.h.now in
    let is = subst (λ (r : List (List Bool)). (c.has_marked_base.result ≡ true) ↔ HasMarkedBase h r c.args.f.class c.args.n) c.deref.ensures.value c.has_marked_base.ensures in
    none_faults h c.args.f (λ x. x.0 < c.args.f.class.0)
    (λ g o lt. no_base h c.keeps.ensures c.args.tables.now c.requires.tables c.args.f c.requires.known c.args.n c.requires.number c.has_marked_base.result is c.if-not-has_marked_base.true g o)

pub loop-number-preserved : goal.loop-number-preserved
loop-number-preserved c =
    let h = c.args.h.now in
    let d : ClassId = record { 0 = c.loop-number.number } in
    subst (λ (r : ReturnFaults). AreFaults h c.args.f (λ x. x.0 < c.loop-number.number + 1) r) (sym c.merged-faults.ensures)
    (more_faults h c.args.f c.loop-number.number d c.loop-number.faults c.faults_with.result (omega arith) c.loop-number.invariant c.faults_with.ensures)

pub returns : goal.returns
returns c =
    let last = c.loop-number.auto.number-end in
    let all : c.loop-number.number ≡ c.args.f.class.0 = let f = c.loop-number-test.false in omega arith in
    subst (λ (n : ℕ). AreFaults c.args.h.now c.args.f (λ x. x.0 < n) c.loop-number.faults) all c.loop-number.invariant
