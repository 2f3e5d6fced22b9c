-- By what numbers of classes the words of groups and VTTs are summed (Itanium C++ ABI 2.5.2, 2.6.2).
use Rattle.std.specs.Prelude.{◌≡◌, ℕ, ◌+◌, ◌<◌, min, true, false, ◌&&◌, ◌||◌, if◌then◌else◌, Some, List, length, get_or}
use Rattle.std.specs.List.{sum_by}
use Rattle.cxx_hierarchy.specs.declared.records.ClassId.{ClassId}
use Rattle.cxx_hierarchy.specs.declared.records.Base.{Base}
use Rattle.cxx_hierarchy.specs.Classes.{Classes, bases_of}
use Rattle.cxx_subobject.specs.declared.Subobject.{Subobject}
use Rattle.cxx_subobject.specs.Subobjects.{shared_base}
use Rattle.cxx_subobject.specs.Inside.{IsInside}
use Rattle.cxx_subobject.specs.VirtualBases.{virtual_bases}
use Rattle.cxx_subobject.specs.invariants.Counts.{own_of}
use Rattle.abi_sound.specs.Places.{Places}
use Rattle.abi_primary.specs.PrimaryBase.{is_direct_primary}
use Rattle.abi_slots.specs.Views.{View, is_dynamic, is_head}
use Rattle.abi_vtt.specs.Vtts.{has_vtt}
use Rattle.abi_tables.specs.Counts.{most_words, words_of_class}

-- what a direct base of class k weighs as the head of a chain: nothing where it is virtual, or the primary base
abbrev pub side : Places → (ClassId → ℕ) → ClassId → Base ClassId → ℕ
side l f k base = if base.is_virtual || is_direct_primary (l.primary k) base.class then 0 else f base.class

abbrev pub sides : Classes → Places → (ClassId → ℕ) → ClassId → ℕ
sides h l f k = sum_by (side l f k) (bases_of h k)

-- what all these heads weigh that lie in class c, outside its virtual bases
abbrev pub sides_of : Classes → Places → (ClassId → ℕ) → ClassId → ℕ
sides_of h l f c = own_of (sides h l f) h c

-- the words of the table of a head of class b that is no virtual base
abbrev pub head_words : Classes → Places → ClassId → ℕ
head_words h l b = if is_dynamic h b then words_of_class h l false (Some b) else 0

-- the words of the table of a virtual base in the group of a view, if it has one there
abbrev pub top_words : Classes → Places → View → ClassId → ℕ
top_words h l x v = if is_head h l x (shared_base v) then words_of_class h l true (Some v) else 0

-- a word for each dynamic class
abbrev pub dynamic_word : Classes → ClassId → ℕ
dynamic_word h b = if is_dynamic h b then 1 else 0

-- a word for each dynamic class with virtual bases
abbrev pub virtual_word : Classes → ClassId → ℕ
virtual_word h b = if is_dynamic h b && has_vtt h b then 1 else 0

-- the words of a VTT for the bases below a virtual base, with that base
abbrev pub shared_words : Classes → Places → ClassId → ℕ
shared_words h l v = dynamic_word h v + sides_of h l (dynamic_word h) v

-- the words of a sub-VTT for the bases of its view
abbrev pub base_words : Classes → Places → ClassId → ℕ
base_words h l c = sides_of h l (virtual_word h) c + sum_by (shared_words h l) (virtual_bases h c)

-- the words of a sub-VTT without those of the sub-VTTs in it
abbrev pub sub_words : Classes → Places → ClassId → ℕ
sub_words h l c = if has_vtt h c then 1 + base_words h l c else 0

-- the words of a sub-VTT
abbrev pub sub_vtt_words : Classes → Places → ClassId → ℕ
sub_vtt_words h l c = own_of (sub_words h l) h c

-- a number of each of the first n classes, one past the limit on words where it is larger
pub record AreNumbersTo (n : ℕ) (f : ClassId → ℕ) (numbers : List ℕ) : Type 0 where
  pub size : length numbers ≡ n
  pub each : (c : ClassId) → c.0 < n → get_or numbers c.0 0 ≡ min (f c) (most_words + 1)

abbrev pub AreNumbers : Classes → (ClassId → ℕ) → List ℕ → Type 0
AreNumbers h f numbers = AreNumbersTo (length h) f numbers

-- a subobject of class c that lies in s holds this virtual base of c
pub record IsHeldIn (h : Classes) (l : Places) (c : ClassId) (s : Subobject) (v : ClassId) : Type 0 where
  pub holder : Subobject
  pub is : l.holder c v ≡ Some holder
  pub inside : IsInside h s holder

-- the number of a class, and 0 behind the end
abbrev pub number_by_class : List ℕ → ClassId → ℕ
number_by_class numbers c = get_or numbers c.0 0

-- a number, or one past the limit on words where it is larger
abbrev pub cut : ℕ → ℕ
cut n = min n (most_words + 1)

-- the subobject s of class d, of an object of class c, as a view
abbrev pub view_at : ClassId → Subobject → ClassId → View
view_at c s d = record { complete = c; at_sub = s; class = d }
