use Rattle.std.proofs.Common.{◌≡◌, ◌⊎◌, ⊎_elim, inl, inr, Err, sym, subst, rules}
use Rattle.std.specs.Prelude.{IfErr}
use Rattle.cxx_hierarchy.specs.declared.stop.Stop.TheVariants as stop
use Rattle.cxxabi_cmd.specs.Verdict.{StopsFirst}
use Rattle.cxxabi_cmd.proofs.ClassFaults.{none_met, layout_first}
use Rattle.cxxabi_cmd.proofs.verdict.check_classes.Goals as goal

pub returns-in_err-layout-in-Ok-clause-err : goal.returns-in_err-layout-in-Ok-clause-err
returns-in_err-layout-in-Ok-clause-err c =
    let r : c.from_residual.result ≡ Err c.in_err-layout-in-Ok.field-0.0 = search rules in
    subst (λ r. IfErr r (λ e. (e ≡ stop.NoMemory) ⊎ StopsFirst c.args.h.now e)) (sym r)
    (⊎_elim (λ memory. inl memory) (λ first. inr (layout_first c.args.h.now c.in_err-layout-in-Ok.field-0.0 c.keeps.ensures c.in-Ok.ensures.fine first)) c.in_err-layout-in-Ok.ensures.stop)

pub returns-in_ok-layout-in-Ok-clause-none : goal.returns-in_ok-layout-in-Ok-clause-none
returns-in_ok-layout-in-Ok-clause-none c = none_met c.args.h.now c.in_ok-layout-in-Ok.layout c.keeps.ensures c.in-Ok.ensures.fine c.in_ok-layout-in-Ok.ensures.layout.laid
