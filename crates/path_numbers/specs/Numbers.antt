-- The number of a subobject within its complete object, and what the table of all classes tells.
use Rattle.std.specs.Prelude.{◌≡◌, ℕ, ◌+◌, ◌<◌, Bool, nat_eq, if◌then◌else◌, Option, Some, None, List, [], ◌∷◌, slice_get, length, get_or}
use Rattle.cxx_hierarchy.specs.declared.records.ClassId.{ClassId}
use Rattle.cxx_hierarchy.specs.Classes.{Classes, bases_of, members_of}
use Rattle.cxx_hierarchy.specs.VirtualBases.{HasVirtualBase}
use Rattle.cxx_subobject.specs.declared.Root.{Root}
use Rattle.cxx_subobject.specs.declared.Root.TheVariants.{Whole, Shared}
use Rattle.cxx_subobject.specs.declared.Subobject.{Subobject}
use Rattle.cxx_subobject.specs.Subobjects.{tail_of}
use Rattle.path_plan.specs.declared.form.Form.TheVariants.{InFull, AsBase}
use Rattle.path_plan.specs.Plans.{is_among, virtual_order}
use Rattle.path_numbers.specs.declared.numbers.ClassNumbers.{ClassNumbers}
use Rattle.path_numbers.specs.Sizes.{Sizes, base_size, sizes_of, base_offset, member_offset}

-- what those before the first that is meant take
abbrev pub before_first : {X : Type 0} → (X → ℕ) → (X → Bool) → List X → ℕ
before_first f is [] = 0
before_first f is (x ∷ xs) = if is x then 0 else f x + before_first f is xs

-- from a part of class c to its direct non-virtual base of class b
unfoldable pub base_number : Classes → ClassId → ClassId → ℕ
base_number h c b = 1 + before_first (base_size (sizes_of h)) (λ base. nat_eq base.class.0 b.0) (bases_of h c)

-- where v stands behind what comes before the virtual bases, which are in this order
abbrev pub place_among : Sizes → ℕ → List ClassId → ClassId → ℕ
place_among size start order v = start + before_first (size AsBase) (λ w. nat_eq w.0 v.0) order

-- from a complete object of class c to its virtual base v
unfoldable pub shared_number : Classes → ClassId → ClassId → ℕ
shared_number h c v = place_among (sizes_of h) (sizes_of h AsBase c) (virtual_order h c) v

-- along direct non-virtual bases
abbrev pub path_number : Classes → ClassId → List ClassId → ℕ
path_number h c [] = 0
path_number h c (b ∷ path) = base_number h c b + path_number h b path

-- from a complete object of class c to what the path leads to, from the whole or from a virtual base
abbrev pub rooted_number : Classes → ClassId → Root → List ClassId → ℕ
rooted_number h c Whole path = path_number h c path
rooted_number h c (Shared v) path = shared_number h c v + path_number h v path

-- from a complete object of class c to its subobject s
abbrev pub subobject_number : Classes → ClassId → Subobject → ℕ
subobject_number h c s = rooted_number h c s.root (tail_of s.path)

-- how far v stands in a complete object of class c, where it is a virtual base of it
abbrev pub IsSharedAt : Classes → ClassId → ClassId → Option ℕ → Type 0
IsSharedAt h c v None = HasVirtualBase h c v → ⊥
IsSharedAt h c v (Some n) = HasVirtualBase h c v × (n ≡ shared_number h c v)

-- a row has the sizes of class c, and the offsets of its bases, members and virtual bases; 0 tells that a class is none of these
pub record HasClassNumbers (h : Classes) (c : ClassId) (row : ClassNumbers) : Type 0 where
  pub as_base : row.as_base ≡ sizes_of h AsBase c
  pub in_full : row.in_full ≡ sizes_of h InFull c
  pub bases : (i : ℕ) → i < length (bases_of h c) → get_or row.bases i 0 ≡ base_offset h (sizes_of h) c i
  pub members : (m : ℕ) → m < length (members_of h c) → get_or row.members m 0 ≡ member_offset h (sizes_of h) c m
  pub order : row.order ≡ virtual_order h c
  pub shared_count : length row.shared ≡ c.0
  pub shared : (v : ClassId) → v.0 < c.0 → get_or row.shared v.0 0 ≡ (if is_among (virtual_order h c) v then shared_number h c v else 0)

-- each row is that of the class of its number
pub record AreNumberRows (h : Classes) (rows : List ClassNumbers) : Type 0 where
  pub row : (c : ClassId) (row : ClassNumbers) → slice_get rows c.0 ≡ Some row → HasClassNumbers h c row

-- the table of all classes of the hierarchy
pub record AreClassNumbers (h : Classes) (list : List ClassNumbers) : Type 0 where
  pub size : length list ≡ length h
  pub rows : AreNumberRows h list
