-- The lines of a listing, and the form of each.
use Rattle.std.specs.Prelude.{◌≡◌, ℕ, zero, suc, ◌<◌, ◌≤◌, List, [], ◌∷◌, ◌++◌, Contains, codes, length, map}
use Rattle.std.specs.Fmt.{decimal}
use Rattle.abi_sound.specs.Sound.{most_class_bytes}
use Rattle.cxx_hierarchy.specs.declared.records.ClassId.{ClassId}
use Rattle.cxx_hierarchy.specs.declared.records.Member.{Member}
use Rattle.cxx_hierarchy.specs.Classes.{Classes, members_of, class_by_number}
use Rattle.cxx_subobject.specs.declared.Subobject.{Subobject}
use Rattle.cxx_subobject.specs.Preorder.{preorder}
use Rattle.abi_primary.specs.declared.Primary.{Primary}
use Rattle.abi_primary.specs.declared.Primary.TheVariants.{None as NoPrimary, Direct, Virtual}
use Rattle.abi_print.specs.LayoutTexts.{declared_class_name, subobject_text, primary_text, field_text, proper}

-- the largest number that a listing may have: no place and no size of a class is larger
abbrev pub most_number : ℕ
most_number = most_class_bytes

-- what a line tells: the sizes of a class, its primary base, the place of a base subobject, or that of a member
pub data ListingLine : Type 0 where
  sizes_line : ClassId → ListingLine
  primary_line : ListingLine
  base_line : Subobject → ListingLine
  member_line : Member ClassId → ListingLine

-- the lines of a class: its sizes, its primary base, its base subobjects in preorder, and the members that it declares
abbrev pub class_lines : Classes → ClassId → List ListingLine
class_lines h c = sizes_line c ∷ primary_line ∷ (map base_line (proper (preorder h c)) ++ map member_line (members_of h c))

-- the lines of the first classes, as many as are asked for
abbrev pub lines_before : Classes → ℕ → List ListingLine
lines_before h zero = []
lines_before h (suc n) = lines_before h n ++ class_lines h (class_by_number n)

-- the lines of a listing: those of all classes in the order of the source
abbrev pub listing_lines : Classes → List ListingLine
listing_lines h = lines_before h (length h)

-- the number of a class's first line, from 1
abbrev pub first_line : Classes → ClassId → ℕ
first_line h c = suc (length (lines_before h c.0))

-- the name of a direct base that a line can tell from `none` and from a virtual base
pub record IsPlainName (name : List ℕ) : Type 0 where
  pub one_line : Contains name 10 → ⊥
  pub not_none : name ≡ codes "none" → ⊥
  pub not_virtual : (rest : List ℕ) → name ≡ codes "virtual " ++ rest → ⊥

-- a primary base as a line may name it: any class of the source, or none; `none` always says that there is none
abbrev pub IsWritable : Classes → Primary → Type 0
IsWritable h NoPrimary = Unit {0}
IsWritable h (Direct b) = (b.0 < length h) × IsPlainName (declared_class_name h b)
IsWritable h (Virtual v) = (v.0 < length h) × (Contains (declared_class_name h v) 10 → ⊥)

-- the line of the sizes of a class
pub record IsSizesLine (h : Classes) (c : ClassId) (text : List ℕ) : Type 0 where
  pub size : ℕ
  pub align : ℕ
  pub dsize : ℕ
  pub nvsize : ℕ
  pub nvalign : ℕ
  pub small : (size ≤ most_number) × (align ≤ most_number) × (dsize ≤ most_number) × (nvsize ≤ most_number) × (nvalign ≤ most_number)
  pub is : text ≡ codes "class " ++ declared_class_name h c ++ codes " size " ++ decimal size ++ codes " align " ++ decimal align
      ++ codes " dsize " ++ decimal dsize ++ codes " nvsize " ++ decimal nvsize ++ codes " nvalign " ++ decimal nvalign ++ codes "\n"

-- the line of a primary base
pub record IsPrimaryLine (h : Classes) (text : List ℕ) : Type 0 where
  pub primary : Primary
  pub writable : IsWritable h primary
  pub is : text ≡ codes "primary " ++ primary_text h primary ++ codes "\n"

-- the line of a base subobject
pub record IsBaseLine (h : Classes) (s : Subobject) (text : List ℕ) : Type 0 where
  pub place : ℕ
  pub small : place ≤ most_number
  pub is : text ≡ decimal place ++ codes " base " ++ subobject_text h s ++ codes "\n"

-- the line of a member: its place, and the first bit of a bit-field
pub record IsMemberLine (h : Classes) (member : Member ClassId) (text : List ℕ) : Type 0 where
  pub place : ℕ
  pub first : ℕ
  pub small : (place ≤ most_number) × (first ≤ most_number)
  pub is : text ≡ field_text h place first member

-- the text is a line of the form that stands at its place, with its line feed
abbrev pub IsLine : Classes → ListingLine → List ℕ → Type 0
IsLine h (sizes_line c) text = IsSizesLine h c text
IsLine h primary_line text = IsPrimaryLine h text
IsLine h (base_line s) text = IsBaseLine h s text
IsLine h (member_line member) text = IsMemberLine h member text

-- a text in two parts
pub record SplitsInto (First Second : List ℕ → Type 0) (text : List ℕ) : Type 0 where
  pub front : List ℕ
  pub rest : List ℕ
  pub is : text ≡ front ++ rest
  pub first : First front
  pub second : Second rest

-- the text is these lines, one after the other
abbrev pub AreLines : Classes → List ListingLine → List ℕ → Type 0
AreLines h [] text = text ≡ []
AreLines h (line ∷ lines) text = SplitsInto (IsLine h line) (AreLines h lines) text

-- the text begins with these lines, one after the other
abbrev pub BeginsWithLines : Classes → List ListingLine → List ℕ → Type 0
BeginsWithLines h [] text = Unit {0}
BeginsWithLines h (line ∷ lines) text = SplitsInto (IsLine h line) (BeginsWithLines h lines) text
