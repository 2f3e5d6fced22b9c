-- How the code names forms and items, and members one after the other.
use Rattle.std.specs.Prelude.{ℕ, suc, Option, Some, List, [], ◌∷◌, ◌++◌, map}
use Rattle.cxx_hierarchy.specs.declared.records.ClassId.{ClassId}
use Rattle.cxx_hierarchy.specs.declared.records.Member.{Member}
use Rattle.cxx_hierarchy.specs.Classes.{Classes}
use Rattle.cxx_hierarchy.specs.Hierarchies.{IsHierarchy}
use Rattle.cxx_program.specs.declared.program.TypedProgram.{TypedProgram}
use Rattle.path_numbers.specs.declared.numbers.ClassNumbers.{ClassNumbers}
use Rattle.path_numbers.specs.Numbers.{AreClassNumbers}
use Rattle.path_bodies.specs.declared.index.BodyIndex.{BodyIndex}
use Rattle.path_bodies.specs.Places.{IsIndexOf}
use Rattle.code_blocks.specs.declared.items.Item.{Item as ItemCode}
use Rattle.code_blocks.specs.declared.items.Item.TheVariants.{Does as DoesCode, Shares as SharesCode, Inherits as InheritsCode, Holds as HoldsCode}
use Rattle.code_blocks.specs.Items.{Item, Does, Shares, Inherits, Holds}

abbrev pub item_code : Item → ItemCode
item_code (Does k) = DoesCode k
item_code (Shares v) = SharesCode v
item_code (Inherits b) = InheritsCode b.class
item_code (Holds way m d n) = HoldsCode way m d n

abbrev pub item_codes : List Item → List ItemCode
item_codes items = map item_code items

-- what members give, from number m on, one after the other or from the last one back
abbrev pub items_in_turn : (ℕ → Option (Member ClassId) → List Item) → ℕ → List (Member ClassId) → List Item
items_in_turn give m [] = []
items_in_turn give m (x ∷ xs) = give m (Some x) ++ items_in_turn give (suc m) xs

abbrev pub from_the_end : (ℕ → Option (Member ClassId) → List Item) → ℕ → List (Member ClassId) → List Item
from_the_end give m [] = []
from_the_end give m (x ∷ xs) = from_the_end give (suc m) xs ++ give m (Some x)

-- what the plans of classes are found by
pub record ArePlans (h : Classes) (program : TypedProgram) (index : BodyIndex) (orders : List ClassNumbers) : Type 0 where
  pub keeps : IsHierarchy h
  pub is_index : IsIndexOf program index
  pub are_orders : AreClassNumbers h orders
