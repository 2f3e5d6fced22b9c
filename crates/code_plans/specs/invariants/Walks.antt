-- The walk over the subobjects of a class that finds the tables of their virtual pointers.
use Rattle.std.specs.Prelude.{◌≡◌, ℕ, ◌+◌, min, if◌then◌else◌, Option, Some, None, List, [], ◌∷◌, ◌++◌, length, filter}
use Rattle.std.specs.List.{sum_by}
use Rattle.cxx_hierarchy.specs.declared.records.ClassId.{ClassId}
use Rattle.cxx_hierarchy.specs.Classes.{Classes}
use Rattle.cxx_subobject.specs.declared.Root.TheVariants.{Whole}
use Rattle.cxx_subobject.specs.declared.Subobject.{Subobject}
use Rattle.cxx_subobject.specs.Subobjects.{class_of}
use Rattle.cxx_subobject.specs.Preorder.{preorder}
use Rattle.abi_sound.specs.Places.{Places}
use Rattle.abi_slots.specs.Views.{of_root}
use Rattle.abi_vtt.specs.Vtts.{needs_word}
use Rattle.abi_vtt.specs.Blocks.{is_front_head, words_by_class, before_by_class, lengths_of, built_classes, item_number}
use Rattle.code_ops.specs.Setups.{Setup, places}
use Rattle.code_blocks.specs.Blocks.{is_in_run}
use Rattle.code_plans.specs.declared.walks.Walk.{Walk}

-- a number, or the largest one of 32 bits where it is larger
abbrev pub capped_count : ℕ → ℕ
capped_count n = min n 4294967295

-- of these subobjects those whose tables come first in a group
abbrev pub first_tables : Classes → Places → List Subobject → List Subobject
first_tables h l list = filter (is_front_head h l) (of_root Whole list)

-- the words of the table of a subobject
abbrev pub table_word_count : Classes → Places → Subobject → ℕ
table_word_count h l s = words_by_class h l (class_of s)

-- the words before the address point of the first of these tables
abbrev pub words_before_first : Classes → Places → List Subobject → Option ℕ
words_before_first h l [] = None
words_before_first h l (s ∷ rest) = Some (before_by_class h l (class_of s))

-- the words before the first address point, where a table with so many words before its own comes next
abbrev pub first_words_or : Option ℕ → ℕ → ℕ
first_words_or None before = before
first_words_or (Some first) before = first

-- the number of the word that comes next in a sub-VTT of class c behind those for these base subobjects
abbrev pub next_item : Classes → Places → ClassId → List Subobject → ℕ
next_item h l c list = 1 + lengths_of h l (built_classes h c) + length (filter (needs_word h l) list)

-- the walk has passed these subobjects of class c
pub record IsPast (h : Classes) (l : Places) (c : ClassId) (passed : List Subobject) (walk : Walk) : Type 0 where
  pub words : walk.words ≡ capped_count (sum_by (table_word_count h l) (first_tables h l passed))
  pub first : walk.first ≡ words_before_first h l (first_tables h l passed)
  pub item : walk.item ≡ capped_count (next_item h l c passed)

-- the walk has come to this subobject
pub record IsAtPart (h : Classes) (l : Places) (c : ClassId) (s : Subobject) (walk : Walk) : Type 0 where
  pub passed : List Subobject
  pub rest : List Subobject
  pub is : preorder h c ≡ passed ++ s ∷ rest
  pub past : IsPast h l c passed walk

-- the number of the word of the sub-VTT that leads to the table of a subobject: the first one where the table comes first in its group
abbrev pub vtt_word_number : Setup → ClassId → Subobject → ℕ
vtt_word_number x c s = if is_in_run x c s then 0 else item_number x.h (places x) c s
