use Rattle.std.proofs.Common.{◌≡◌, length, Some, ap, sym, arith}
use Rattle.cxx_hierarchy.specs.Classes.{functions_of}
use Rattle.cxx_overrider.specs.Functions.{return_of, return_at}
use Rattle.foundation.proofs.Places.{contains_at}
use Rattle.cxx_overrider.proofs.CovarianceLemmas.{none_faults, one_faults}
use Rattle.cxx_overrider.proofs.covariance.faults_with.Goals as goal

pub returns-in-None : goal.returns-in-None
returns-in-None c = none_faults c.args.h.now c.args.f (λ x. x ≡ c.args.d) (λ g o class. c.in-None.ensures g class o)

pub faults_between-requires-clause-known : goal.faults_between-requires-clause-known
faults_between-requires-clause-known c = λ x e.
    let h = c.args.h.now in
    let f = c.in-Some-declaration.a.now in
    let lt = c.keeps.ensures.returns c.args.f.class x f (contains_at (functions_of h c.args.f.class) c.args.f.index f (sym c.in-Some-declaration.ensures)) e in
    let all = c.requires.tables.all_kinds in
    let kinds : length c.deref.result.now ≡ length c.args.tables.now.kinds.items = ap length c.deref.ensures.value in
    omega arith

pub returns-in-Some-declaration-2 : goal.returns-in-Some-declaration-2
returns-in-Some-declaration-2 c =
    let h = c.args.h.now in
    let a = c.in-Some-declaration.a.now in
    let b = c.in-Some-declaration-2.b.now in
    let ea : return_of h c.args.f ≡ Some a.ret = ap return_at (sym c.in-Some-declaration.ensures) in
    let eb : return_of h c.in-Some.g ≡ Some b.ret = ap return_at (sym c.in-Some-declaration-2.ensures) in
    one_faults h c.keeps.ensures c.args.f c.in-Some.g a.ret b.ret c.args.d c.faults_between.result c.in-Some.ensures.0 c.in-Some.ensures.1 ea eb c.faults_between.ensures
