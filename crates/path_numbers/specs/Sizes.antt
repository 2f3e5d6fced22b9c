-- How many numbers a part takes: one for itself, then those of its bases, of its members, and, where it is a complete
-- object, of its virtual bases.
use Rattle.std.specs.Prelude.{◌≡◌, ℕ, zero, suc, ◌+◌, ◌*◌, if◌then◌else◌, List, [], ◌∷◌}
use Rattle.cxx_hierarchy.specs.declared.records.ClassId.{ClassId}
use Rattle.cxx_hierarchy.specs.declared.records.Base.{Base}
use Rattle.cxx_hierarchy.specs.declared.records.Member.{Member}
use Rattle.cxx_hierarchy.specs.declared.records.FieldType.{FieldType}
use Rattle.cxx_hierarchy.specs.declared.records.FieldType.TheVariants.{Value, Object}
use Rattle.cxx_hierarchy.specs.Classes.{Classes, bases_of, members_of}
use Rattle.cxx_subobject.specs.Parts.{elements_of}
use Rattle.path_plan.specs.declared.form.Form.{Form}
use Rattle.path_plan.specs.declared.form.Form.TheVariants.{InFull, AsBase}
use Rattle.path_plan.specs.Plans.{virtual_order}

abbrev pub Sizes : Type 0
Sizes = Form → ClassId → ℕ

abbrev pub total : {X : Type 0} → (X → ℕ) → List X → ℕ
total f [] = 0
total f (x ∷ xs) = f x + total f xs

-- what the first i take
abbrev pub before : {X : Type 0} → (X → ℕ) → ℕ → List X → ℕ
before f zero xs = 0
before f (suc i) [] = 0
before f (suc i) (x ∷ xs) = f x + before f i xs

abbrev pub base_size : Sizes → Base ClassId → ℕ
base_size size b = if b.is_virtual then 0 else size AsBase b.class

-- a number or a pointer takes one
abbrev pub unit_size : Sizes → FieldType ClassId → ℕ
unit_size size (Value t) = 1
unit_size size (Object d) = size InFull d

abbrev pub member_size : Sizes → Member ClassId → ℕ
member_size size m = elements_of m.count * unit_size size m.ty

-- the numbers of a part of class c, by those of its bases and members
abbrev pub own_by : Classes → Sizes → ClassId → ℕ
own_by h size c = 1 + (total (base_size size) (bases_of h c) + total (member_size size) (members_of h c))

abbrev pub sized_by : Classes → Sizes → Sizes
sized_by h size AsBase c = own_by h size c
sized_by h size InFull c = own_by h size c + total (size AsBase) (virtual_order h c)

-- the same to a depth of n: bases, members and virtual bases are of classes of smaller numbers
unfoldable pub sized : Classes → ℕ → Sizes
sized h zero f c = 0
sized h (suc n) f c = sized_by h (sized h n) f c

-- the numbers that a part of class c takes, as a base or with its virtual bases
unfoldable pub sizes_of : Classes → Sizes
sizes_of h f c = sized h (c.0 + 1) f c

-- one equation a class, and no recursion: tables that are filled in the order of the classes meet it row by row
pub record IsSizes (h : Classes) (size : Sizes) : Type 0 where
  pub own : (c : ClassId) → size AsBase c ≡ 1 + (total (base_size size) (bases_of h c) + total (member_size size) (members_of h c))
  pub full : (c : ClassId) → size InFull c ≡ size AsBase c + total (size AsBase) (virtual_order h c)

-- from a part to its direct base number i, to element 0 of its member number m, to its shared base number j in their order
unfoldable pub base_offset : Classes → Sizes → ClassId → ℕ → ℕ
base_offset h size c i = 1 + before (base_size size) i (bases_of h c)

unfoldable pub member_offset : Classes → Sizes → ClassId → ℕ → ℕ
member_offset h size c m = 1 + (total (base_size size) (bases_of h c) + before (member_size size) m (members_of h c))

unfoldable pub shared_offset : Classes → Sizes → ClassId → ℕ → ℕ
shared_offset h size c j = size AsBase c + before (size AsBase) j (virtual_order h c)
