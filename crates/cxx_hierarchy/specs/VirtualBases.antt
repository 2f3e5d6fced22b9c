-- Direct bases and virtual bases (ISO C++03 10.1), and which of them are reached by public edges alone (10.2, 11.2).
use Rattle.std.specs.Prelude.{◌≡◌, Bool, true, false, Contains}
use Rattle.cxx_hierarchy.specs.declared.records.ClassId.{ClassId}
use Rattle.cxx_hierarchy.specs.declared.records.Base.{Base}
use Rattle.cxx_hierarchy.specs.Classes.{Classes, bases_of}

-- b stands in the class head of c, virtual or not
pub record IsDirectBase (h : Classes) (c : ClassId) (is_virtual : Bool) (b : ClassId) : Type 0 where
  pub base : Base ClassId
  pub listed : Contains (bases_of h c) base
  pub class : base.class ≡ b
  pub way : base.is_virtual ≡ is_virtual

-- v is a virtual base of c: c names it, or a base of c has it
pub data HasVirtualBase (h : Classes) : ClassId → ClassId → Type 0 where
  direct : (c v : ClassId) → IsDirectBase h c true v → HasVirtualBase h c v
  further : (c b v : ClassId) (way : Bool) → IsDirectBase h c way b → HasVirtualBase h b v → HasVirtualBase h c v

-- b stands in the class head of c as a public base, virtual or not
pub record IsPublicBase (h : Classes) (c : ClassId) (is_virtual : Bool) (b : ClassId) : Type 0 where
  pub edge : IsDirectBase h c is_virtual b
  pub is_public : edge.base.is_public ≡ true

-- v is a virtual base of c that public edges alone lead to
pub data HasPublicVirtualBase (h : Classes) : ClassId → ClassId → Type 0 where
  public_direct : (c v : ClassId) → IsPublicBase h c true v → HasPublicVirtualBase h c v
  public_further : (c b v : ClassId) (way : Bool) → IsPublicBase h c way b → HasPublicVirtualBase h b v → HasPublicVirtualBase h c v
