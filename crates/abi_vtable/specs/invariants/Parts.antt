-- The parts of a view, as code keeps them: a subobject is a number in their list.
use Rattle.std.specs.Prelude.{◌≡◌, ℕ, ◌<◌, ◌≤◌, ◌↔◌, get_or, Bool, false, IsTrue, nat_eq, Option, Some, None, List, map, filter, length, slice_get, take}
use Rattle.std.specs.List.{flat_map, filter_map, list_any}
use Rattle.cxx_hierarchy.specs.Classes.{Classes}
use Rattle.cxx_hierarchy.specs.Hierarchies.{IsHierarchy}
use Rattle.cxx_subobject.specs.declared.Root.{Root}
use Rattle.cxx_subobject.specs.declared.Root.TheVariants.{Shared}
use Rattle.cxx_subobject.specs.declared.Subobject.{Subobject}
use Rattle.cxx_subobject.specs.Subobjects.{IsSubobject, class_of, whole_of}
use Rattle.cxx_subobject.specs.Preorder.{preorder}
use Rattle.cxx_subobject.specs.VirtualBases.{shared_class}
use Rattle.abi_primary.specs.Kinds.{IsDynamic}
use Rattle.abi_sound.specs.Places.{Places}
use Rattle.abi_slots.specs.Views.{View, IsView, place, next, is_head, of_root}
use Rattle.abi_vtable.specs.declared.view.ViewPart.{ViewPart}
use Rattle.abi_vtable.specs.declared.view.ViewParts.{ViewParts}

-- the number is that of the subobject, where there is one
pub data NumbersSubobject (list : List Subobject) : Option ℕ → Option Subobject → Type 0 where
  nothing : NumbersSubobject list None None
  number : (n : ℕ) (s : Subobject) → slice_get list n ≡ Some s → NumbersSubobject list (Some n) (Some s)

-- for each subobject the number of the next one
pub record AreNexts (l : Places) (x : View) (list : List Subobject) (nexts : List (Option ℕ)) : Type 0 where
  pub size : length list ≤ length nexts
  pub each : (j : ℕ) (s : Subobject) (n : Option ℕ) → slice_get list j ≡ Some s → slice_get nexts j ≡ Some n → NumbersSubobject list n (next l x s)

-- the same of the first i
pub record AreNextsTo (l : Places) (x : View) (list : List Subobject) (i : ℕ) (nexts : List (Option ℕ)) : Type 0 where
  pub size : length nexts ≡ i
  pub each : (j : ℕ) (s : Subobject) (n : Option ℕ) → slice_get list j ≡ Some s → slice_get nexts j ≡ Some n → NumbersSubobject list n (next l x s)

-- what is kept of a subobject of the view
pub record IsViewPart (h : Classes) (l : Places) (x : View) (list : List Subobject) (part : ViewPart) : Type 0 where
  pub valid : IsSubobject h x.class part.at
  pub class : class_of part.at ≡ Some part.class
  pub dynamic : IsTrue part.is_dynamic ↔ IsDynamic h part.class
  pub next : NumbersSubobject list part.next (next l x part.at)

abbrev pub at_of : ViewPart → Subobject
at_of part = part.at

-- the parts are the subobjects of the view's class in preorder
pub record AreParts (h : Classes) (l : Places) (x : View) (parts : List ViewPart) : Type 0 where
  pub subobjects : map at_of parts ≡ preorder h x.class
  pub each : (i : ℕ) (part : ViewPart) → slice_get parts i ≡ Some part → IsViewPart h l x (preorder h x.class) part

abbrev pub view_of_parts : ViewParts → View
view_of_parts v = record { complete = v.complete; at_sub = v.at; class = v.class }

-- no part of a class stands before the number that is noted for the class
pub record AreStarts (starts : List ℕ) (parts : List ViewPart) : Type 0 where
  pub each : (k : ℕ) (part : ViewPart) → slice_get parts k ≡ Some part → get_or starts part.class.0 0 ≤ k

-- the same of the parts before a place
pub record AreStartsTo (starts : List ℕ) (parts : List ViewPart) (i : ℕ) : Type 0 where
  pub each : (k : ℕ) (part : ViewPart) → k < i → slice_get parts k ≡ Some part → get_or starts part.class.0 0 ≤ k

pub record IsViewParts (h : Classes) (l : Places) (v : ViewParts) : Type 0 where
  pub view : IsView h (view_of_parts v)
  pub parts : AreParts h l (view_of_parts v) v.parts
  pub starts : AreStarts v.starts v.parts
  pub start : v.start ≡ place l (view_of_parts v) (whole_of v.class)

-- the same for some places
pub record IsSomeView (h : Classes) (v : ViewParts) : Type 0 where
  pub places : Places
  pub view : IsViewParts h places v

-- a test of the number of the next one
abbrev pub leads_to : ℕ → Option ℕ → Bool
leads_to n None = false
leads_to n (Some m) = nat_eq m n

-- the marks say by number which parts are the next of one of the first i
pub record AreNextMarks (parts : List ViewPart) (i : ℕ) (marks : List Bool) : Type 0 where
  pub size : length marks ≡ length parts
  pub each : (n : ℕ) → n < length parts → get_or marks n false ≡ list_any (λ (part : ViewPart). leads_to n part.next) (take i parts)

-- the subobjects of some numbers
abbrev pub subobjects_numbered : List Subobject → List ℕ → List (Option Subobject)
subobjects_numbered list numbers = map (slice_get list) numbers

-- of these parts the heads among those of a root
abbrev pub heads_of_root : Classes → Places → View → Root → List ViewPart → List (Option Subobject)
heads_of_root h l x root parts = map Some (filter (is_head h l x) (of_root root (map at_of parts)))

-- of the virtual bases among these parts the heads below each
abbrev pub heads_of_bases : Classes → Places → View → List ViewPart → List (Option Subobject)
heads_of_bases h l x parts = map Some (filter (is_head h l x) (flat_map (λ v. of_root (Shared v) (preorder h x.class)) (filter_map shared_class (map at_of parts))))

-- the parts of the subobjects that were taken from the list
pub record ArePartsTo (h : Classes) (l : Places) (x : View) (list taken : List Subobject) (parts : List ViewPart) : Type 0 where
  pub subobjects : map at_of parts ≡ taken
  pub each : (j : ℕ) (part : ViewPart) → slice_get parts j ≡ Some part → IsViewPart h l x list part

-- what the parts of a view are of
pub record AreKeptParts (h : Classes) (l : Places) (v : ViewParts) : Type 0 where
  pub keeps : IsHierarchy h
  pub view : IsViewParts h l v
