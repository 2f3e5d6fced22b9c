-- What the tests of a primary base say.
use Rattle.std.proofs.Common.{◌≡◌, true, false, ap}
use Rattle.std.proofs.lemmas.Bool.{eqb-true}
use Rattle.cxx_hierarchy.specs.declared.records.ClassId.{ClassId}
use Rattle.cxx_subobject.proofs.PathLemmas.{same_id}
use Rattle.abi_primary.specs.declared.Primary.{Primary}
use Rattle.abi_primary.specs.declared.Primary.TheVariants.{None as NoPrimary, Direct, Virtual}
use Rattle.abi_primary.specs.PrimaryBase.{is_direct_primary}

-- a base that is the direct primary base
pub direct_is : (p : Primary) (b : ClassId) → is_direct_primary p b ≡ true → p ≡ Direct b
direct_is NoPrimary b e = let n : false ≡ true = e in absurd (cc)
direct_is (Direct d) b e = ap Direct (same_id d b (eqb-true d.0 b.0 e))
direct_is (Virtual v) b e = let n : false ≡ true = e in absurd (cc)
