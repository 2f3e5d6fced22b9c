-- When the entries of a class serve for a class that has it as its one base.
use Rattle.std.specs.Prelude.{◌≡◌, true, Some, Contains, length, slice_get}
use Rattle.cxx_hierarchy.specs.declared.records.ClassId.{ClassId}
use Rattle.cxx_hierarchy.specs.declared.records.Base.{Base}
use Rattle.cxx_hierarchy.specs.Classes.{Classes, bases_of}
use Rattle.cxx_overrider.specs.Functions.{Signature}
use Rattle.cxx_overrider.specs.invariants.Pure.{DeclaresNone}

-- c has no base but the virtual base b, which has virtual bases alone and declares nothing that c does not
pub record HasEntriesOf (h : Classes) (c b : ClassId) : Type 0 where
  pub base : Base ClassId
  pub listed : slice_get (bases_of h c) 0 ≡ Some base
  pub alone : length (bases_of h c) ≡ 1
  pub class : base.class ≡ b
  pub is_virtual : base.is_virtual ≡ true
  pub plain_none : (x : Base ClassId) → Contains (bases_of h b) x → x.is_virtual ≡ true
  pub declares : (s : Signature) → DeclaresNone h c s → DeclaresNone h b s
