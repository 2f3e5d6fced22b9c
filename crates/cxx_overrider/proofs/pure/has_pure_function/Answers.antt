use Rattle.std.proofs.Common.{rules, ◌≡◌, ⊎_elim, arith}
use Rattle.std.proofs.lemmas.Bool.{cases_lt}
use Rattle.cxx_hierarchy.specs.declared.records.ClassId.{ClassId}
use Rattle.cxx_hierarchy.specs.Classes.{functions_of}
use Rattle.cxx_subobject.proofs.PathLemmas.{same_id}
use Rattle.cxx_overrider.proofs.PureLemmas.{none_pure_in}
use Rattle.cxx_overrider.proofs.pure.has_pure_function.Goals as goal

pub loop-number-preserved : goal.loop-number-preserved
loop-number-preserved c = λ f lt. ⊎_elim (λ small. c.loop-number.invariant f small) (λ ge.
    let d : ClassId = record { 0 = c.loop-number.number } in
    let is : c.as_slice.result.now ≡ functions_of c.args.h.now d = search rules in
    none_pure_in c.args.h.now d c.as_slice.result.now is (c.has_pure.ensures c.if-has_pure.false) f (same_id f.class d (omega arith))) (cases_lt f.class.0 c.loop-number.number)

pub returns : goal.returns
returns c = λ t f lt. let size = c.len-number-end.ensures in let end = c.loop-number-test.false in c.loop-number.invariant f (omega arith)
