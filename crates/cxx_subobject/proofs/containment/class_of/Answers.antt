use Rattle.std.proofs.Common.{◌≡◌, sym, false, ◌∙◌, ap, length, arith}
use Rattle.std.specs.Prelude.{◌==◌}
use Rattle.std.proofs.lemmas.Bool.Decides.{nat_tests}
use Rattle.cxx_subobject.specs.Subobjects.{class_of_path}
use Rattle.cxx_subobject.proofs.TestLemmas.{last_there}
use Rattle.cxx_subobject.proofs.containment.class_of.Goals as goal

pub returns-else-is_empty : goal.returns-else-is_empty
returns-else-is_empty c = last_there c.as_slice-path.result.now _ (let e : (length c.as_slice-path.result.now == 0) ≡ false = sym c.is_empty.ensures ∙ c.if-is_empty.false in grind (arith, nat_tests)) ∙ ap class_of_path c.as_slice-path.ensures
