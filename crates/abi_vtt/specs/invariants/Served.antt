-- The numbers of the tables that serve the subobjects of a view.
use Rattle.std.specs.Prelude.{◌≡◌, ℕ, ◌<◌, Option, Some, List, length, slice_get, IfSome}
use Rattle.cxx_hierarchy.specs.declared.records.ClassId.{ClassId}
use Rattle.cxx_hierarchy.specs.Classes.{Classes}
use Rattle.cxx_subobject.specs.declared.Subobject.{Subobject}
use Rattle.cxx_subobject.specs.Subobjects.{class_of}
use Rattle.cxx_subobject.specs.Preorder.{preorder}
use Rattle.abi_primary.specs.Kinds.{IsDynamic}
use Rattle.abi_sound.specs.Places.{Places}
use Rattle.abi_slots.specs.Views.{View, next, along_chain, heads, Serves}
use Rattle.abi_vtable.specs.declared.view.ViewPart.{ViewPart}
use Rattle.abi_vtable.specs.invariants.Parts.{NumbersSubobject}

-- a part leads to a number within their list
pub record LeadWithin (parts : List ViewPart) : Type 0 where
  pub each : (n : ℕ) (part : ViewPart) → slice_get parts n ≡ Some part → IfSome part.next (λ m. m < length parts)

-- the parts are the subobjects of a list, each with the number of the next one
pub record AreNumbered (list : List Subobject) (go : Subobject → Option Subobject) (parts : List ViewPart) : Type 0 where
  pub once : (i j : ℕ) (s : Subobject) → slice_get list i ≡ Some s → slice_get list j ≡ Some s → i ≡ j
  pub there : (n : ℕ) (part : ViewPart) → slice_get parts n ≡ Some part → slice_get list n ≡ Some part.at
  pub next : (n : ℕ) (part : ViewPart) → slice_get parts n ≡ Some part → NumbersSubobject list part.next (go part.at)

-- some number is noted
abbrev pub HasNote : List (Option ℕ) → ℕ → Type 0
HasNote tables n = (k : ℕ) × (slice_get tables n ≡ Some (Some k))

-- what stands at a place was there, or is the new number for a subobject of the chain
pub data IsFrom (go : Subobject → Option Subobject) (s : Option Subobject) (table : ℕ) (old : List (Option ℕ)) (n k : ℕ) (u : Subobject) : Type 0 where
  from_before : slice_get old n ≡ Some (Some k) → IsFrom go s table old n k u
  from_chain : (i : ℕ) → k ≡ table → along_chain go i s ≡ Some u → IsFrom go s table old n k u

-- the number of a table is noted for so many subobjects of a chain
pub record IsNoted (list : List Subobject) (go : Subobject → Option Subobject) (s : Option Subobject) (table steps : ℕ) (old new : List (Option ℕ)) : Type 0 where
  pub size : length new ≡ length old
  pub sound : (n k : ℕ) (u : Subobject) → slice_get list n ≡ Some u → slice_get new n ≡ Some (Some k) → IsFrom go s table old n k u
  pub stays : (n : ℕ) → HasNote old n → HasNote new n
  pub noted : (i n : ℕ) (u : Subobject) → i < steps → along_chain go i s ≡ Some u → slice_get list n ≡ Some u → HasNote new n

-- the table of a number serves a subobject of the view
pub record IsServedAt (h : Classes) (l : Places) (x : View) (k : ℕ) (u : Subobject) : Type 0 where
  pub head : Subobject
  pub there : slice_get (heads h l x) k ≡ Some head
  pub serves : Serves h l x head u

-- what is noted serves, and each subobject of the chains of the first tables has a note
pub record AreServingTo (h : Classes) (l : Places) (x : View) (m : ℕ) (tables : List (Option ℕ)) : Type 0 where
  pub size : length tables ≡ length (preorder h x.class)
  pub sound : (n k : ℕ) (u : Subobject) → slice_get (preorder h x.class) n ≡ Some u → slice_get tables n ≡ Some (Some k) → IsServedAt h l x k u
  pub noted : (k i n : ℕ) (head u : Subobject) → k < m → slice_get (heads h l x) k ≡ Some head → along_chain (next l x) i (Some head) ≡ Some u → slice_get (preorder h x.class) n ≡ Some u → HasNote tables n

-- each dynamic subobject of the view has the number of a table that serves it
pub record AreServing (h : Classes) (l : Places) (x : View) (tables : List (Option ℕ)) : Type 0 where
  pub size : length tables ≡ length (preorder h x.class)
  pub sound : (n k : ℕ) (u : Subobject) → slice_get (preorder h x.class) n ≡ Some u → slice_get tables n ≡ Some (Some k) → IsServedAt h l x k u
  pub noted : (n : ℕ) (u : Subobject) (d : ClassId) → slice_get (preorder h x.class) n ≡ Some u → class_of u ≡ Some d → IsDynamic h d → HasNote tables n
