-- What is left to ask of a list, item by item.
use Rattle.std.specs.Prelude.{◌≡◌, ℕ, ◌-◌, List, ◌∷◌, slice_get}
use Rattle.std.specs.List.{flat_map}
use Rattle.cxx_hierarchy.specs.declared.records.ClassId.{ClassId}
use Rattle.cxx_hierarchy.specs.Classes.{Classes, members_of}
use Rattle.cxx_subobject.specs.Locations.{ObjectPart}
use Rattle.path_plan.specs.Places.{element}
use Rattle.path_plan.specs.Plans.{count_from, upto}
use Rattle.path_model.specs.Values.{Objects}
use Rattle.path_model.specs.Uses.{StatementUse, Passes, member_uses}
use Rattle.path_model.specs.Rules.{refused}
use Rattle.path_model.specs.Order.{asked_covers}

-- the items from number i on are refused as all n are
abbrev pub LeftSame : Classes → Objects → (ℕ → List StatementUse) → ℕ → ℕ → Type 0
LeftSame h s f n i = refused h s (flat_map f (count_from i (n - i))) ≡ refused h s (flat_map f (upto n))

-- what is asked of an element of a member, of class d
abbrev pub element_asked : Classes → ℕ → ObjectPart → ℕ → ClassId → ℕ → List StatementUse
element_asked h k p m d i = Passes (element p m i d) ∷ asked_covers h k d (element p m i d)

-- what is asked of a member of class c
abbrev pub member_asked : Classes → ℕ → ObjectPart → ClassId → ℕ → List StatementUse
member_asked h k p c m = member_uses (asked_covers h k) p m (slice_get (members_of h c) m)
