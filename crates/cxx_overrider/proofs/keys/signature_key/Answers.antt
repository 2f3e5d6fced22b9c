use Rattle.std.proofs.Common.{sym, arith}
use Rattle.cxx_hierarchy.specs.Classes.{functions_of}
use Rattle.foundation.proofs.Places.{contains_at}
use Rattle.cxx_overrider.proofs.keys.signature_key.Goals as goal

pub declaration_key-requires-clause-few : goal.declaration_key-requires-clause-few
declaration_key-requires-clause-few c =
    c.keeps.ensures.few_params c.args.f.class c.in-Some.function.now (contains_at (functions_of c.args.h.now c.args.f.class) c.args.f.index c.in-Some.function.now (sym c.in-Some.ensures))

pub declaration_key-requires-clause-known : goal.declaration_key-requires-clause-known
declaration_key-requires-clause-known c = λ x p there is.
    let few = c.keeps.ensures.few in
    let lt = c.keeps.ensures.params c.args.f.class x c.in-Some.function.now p (contains_at (functions_of c.args.h.now c.args.f.class) c.args.f.index c.in-Some.function.now (sym c.in-Some.ensures)) there is in
    omega arith
