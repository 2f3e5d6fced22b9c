-- Where a dynamic_cast leads, as a relation (ISO C++03 5.2.7 p8). The view x is the subobject whose class the object has at the
-- time of the cast, and y is the subobject that is cast from.
use Rattle.std.specs.Prelude.{◌≡◌, Option, Some, None}
use Rattle.cxx_hierarchy.specs.declared.records.ClassId.{ClassId}
use Rattle.cxx_hierarchy.specs.Classes.{Classes}
use Rattle.cxx_subobject.specs.declared.Subobject.{Subobject}
use Rattle.cxx_subobject.specs.Subobjects.{class_of}
use Rattle.cxx_subobject.specs.Inside.{IsInside, IsPublicWalk}
use Rattle.foundation.specs.Only.{IsOnly}

-- t is a subobject of class `target` in the view
pub record IsTarget (h : Classes) (target : ClassId) (x t : Subobject) : Type 0 where
  pub inside : IsInside h x t
  pub class : class_of t ≡ Some target

-- t is one in which y lies
pub record IsTargetOver (h : Classes) (target : ClassId) (x y t : Subobject) : Type 0 where
  pub is_target : IsTarget h target x t
  pub contains : IsInside h t y

-- down: exactly one subobject of the class contains y, and y is a public base of it
pub record CastsDown (h : Classes) (target : ClassId) (x y t : Subobject) : Type 0 where
  pub over : IsOnly (IsTargetOver h target x y) t
  pub source : IsPublicWalk h t y

-- across: y is a public base of the view, the view has exactly one subobject of the class, and that is a public base too
pub record CastsAcross (h : Classes) (target : ClassId) (x y t : Subobject) : Type 0 where
  pub source : IsPublicWalk h x y
  pub target_is : IsOnly (IsTarget h target x) t
  pub reached : IsPublicWalk h x t

-- the answer of a cast: where it leads down, else where it leads across, and none where it does neither
pub data IsCast (h : Classes) (target : ClassId) (x y : Subobject) : Option Subobject → Type 0 where
  leads_down : (t : Subobject) → CastsDown h target x y t → IsCast h target x y (Some t)
  leads_across : (t : Subobject) → ((other : Subobject) → CastsDown h target x y other → ⊥) → CastsAcross h target x y t → IsCast h target x y (Some t)
  leads_nowhere : ((t : Subobject) → CastsDown h target x y t → ⊥) → ((t : Subobject) → CastsAcross h target x y t → ⊥) → IsCast h target x y None
