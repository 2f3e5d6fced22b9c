-- Which subobject a class means as a base of another (ISO C++03 4.10, 10.2).
use Rattle.std.specs.Prelude.{◌≡◌}
use Rattle.cxx_hierarchy.specs.declared.records.ClassId.{ClassId}
use Rattle.cxx_hierarchy.specs.Classes.{Classes}
use Rattle.cxx_subobject.specs.declared.Subobject.{Subobject}
use Rattle.cxx_subobject.specs.Subobjects.{IsOfClass}
use Rattle.cxx_lookup.specs.declared.BaseFault.{BaseFault}
use Rattle.cxx_lookup.specs.declared.BaseFault.TheVariants.{AmbiguousBase, NotBase, NoMemory}

-- s is the one subobject of c that is of the class of the base
pub record IsUniqueBase (h : Classes) (c base : ClassId) (s : Subobject) : Type 0 where
  pub is : IsOfClass h c base s
  pub only : (t : Subobject) → IsOfClass h c base t → t ≡ s

-- c has two subobjects of the class of the base
pub record HasTwoBases (h : Classes) (c base : ClassId) : Type 0 where
  pub one : Subobject
  pub other : Subobject
  pub is_one : IsOfClass h c base one
  pub is_other : IsOfClass h c base other
  pub differ : one ≡ other → ⊥

-- the fault that stands in place of an answer; want of memory is free
abbrev pub IsBaseFault : Classes → ClassId → ClassId → BaseFault → Type 0
IsBaseFault h c base AmbiguousBase = HasTwoBases h c base
IsBaseFault h c base NotBase = (s : Subobject) → IsOfClass h c base s → ⊥
IsBaseFault h c base NoMemory = Unit {0}
