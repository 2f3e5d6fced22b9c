-- What the lines of a class say, and their text.
use Rattle.std.specs.Prelude.{◌≡◌, ℕ, zero, suc, ◌≤◌, Contains, Option, Some, None, List, [], ◌∷◌, ◌++◌, codes, length, map, slice_get}
use Rattle.std.specs.Fmt.{decimal}
use Rattle.cxx_hierarchy.specs.declared.records.ClassId.{ClassId}
use Rattle.cxx_hierarchy.specs.declared.records.Member.{Member}
use Rattle.cxx_hierarchy.specs.Classes.{Classes, members_of, class_by_number}
use Rattle.cxx_subobject.specs.declared.Subobject.{Subobject}
use Rattle.cxx_subobject.specs.Preorder.{preorder, ListsSubobjects}
use Rattle.abi_primary.specs.declared.Primary.{Primary}
use Rattle.abi_print.specs.LayoutTexts.{declared_class_name, primary_text, subobject_text, type_text, length_text, field_text, proper}
use Rattle.abi_foreign.specs.declared.said.Sizes.{Sizes}
use Rattle.abi_foreign.specs.declared.said.MemberPlace.{MemberPlace}
use Rattle.abi_foreign.specs.declared.said.ClassSaid.{ClassSaid}
use Rattle.abi_foreign.specs.Lines.{most_number, sizes_line, primary_line, base_line, member_line, class_lines, lines_before, first_line, IsWritable}
use Rattle.abi_foreign.specs.invariants.Pieces.{HasNoneBefore, IsNumberBefore}
use Rattle.abi_foreign.specs.invariants.Reading.{IsRead, IsReadTo}

-- the numbers are small enough for a listing
abbrev pub FitListing : Sizes → Type 0
FitListing sizes = (sizes.size ≤ most_number) × (sizes.align ≤ most_number) × (sizes.dsize ≤ most_number) × (sizes.nvsize ≤ most_number) × (sizes.nvalign ≤ most_number)

-- what stands behind each number of a class's first line, and a text behind
abbrev pub after_nvsize : Sizes → List ℕ → List ℕ
after_nvsize sizes rest = decimal sizes.nvalign ++ (codes "\n" ++ rest)

abbrev pub after_dsize : Sizes → List ℕ → List ℕ
after_dsize sizes rest = decimal sizes.nvsize ++ (codes " nvalign " ++ after_nvsize sizes rest)

abbrev pub after_align : Sizes → List ℕ → List ℕ
after_align sizes rest = decimal sizes.dsize ++ (codes " nvsize " ++ after_dsize sizes rest)

abbrev pub after_size : Sizes → List ℕ → List ℕ
after_size sizes rest = decimal sizes.align ++ (codes " dsize " ++ after_align sizes rest)

-- the numbers of a class's first line and the words between, from the first number on, and a text behind
abbrev pub sizes_then : Sizes → List ℕ → List ℕ
sizes_then sizes rest = decimal sizes.size ++ (codes " align " ++ after_size sizes rest)

abbrev pub HasNoSizes : List ℕ → List ℕ → Type 0
HasNoSizes text head = (sizes : Sizes) (rest : List ℕ) → FitListing sizes → text ≡ head ++ sizes_then sizes rest → ⊥

-- the text begins with the head and these numbers, in one way
pub record AreSizes (text head : List ℕ) (sizes : Sizes) (rest : List ℕ) : Type 0 where
  pub is : text ≡ head ++ sizes_then sizes rest
  pub small : FitListing sizes
  pub only : (other : Sizes) (after : List ℕ) → FitListing other → text ≡ head ++ sizes_then other after → after ≡ rest

abbrev pub sizes_head : Classes → ClassId → List ℕ
sizes_head h c = codes "class " ++ declared_class_name h c ++ codes " size "

abbrev pub primary_line_text : Classes → Primary → List ℕ
primary_line_text h primary = codes "primary " ++ primary_text h primary ++ codes "\n"

-- the first line of a class says these sizes
pub record AreSizesRead (h : Classes) (c : ClassId) (text : List ℕ) (sizes : Sizes) (rest : List ℕ) : Type 0 where
  pub is : text ≡ sizes_head h c ++ sizes_then sizes rest
  pub small : FitListing sizes
  pub line : IsRead h (sizes_line c) text rest

-- the second line says this primary base
pub record IsPrimaryRead (h : Classes) (text : List ℕ) (primary : Primary) (rest : List ℕ) : Type 0 where
  pub is : text ≡ primary_line_text h primary ++ rest
  pub writable : IsWritable h primary
  pub line : IsRead h primary_line text rest

-- a text up to a line feed, and what follows that
pub record IsWord (text word rest : List ℕ) : Type 0 where
  pub is : text ≡ word ++ (10 ∷ rest)
  pub one_line : Contains word 10 → ⊥

-- what a word of a line says of a primary base
abbrev pub IsPrimaryWord : Classes → List ℕ → Option Primary → Type 0
IsPrimaryWord h word None = (primary : Primary) → IsWritable h primary → word ≡ primary_text h primary → ⊥
IsPrimaryWord h word (Some primary) = IsWritable h primary × (word ≡ primary_text h primary)

abbrev pub base_tail : Classes → Subobject → List ℕ
base_tail h s = codes " base " ++ subobject_text h s ++ codes "\n"

-- the lines of base subobjects at these places
abbrev pub base_lines : Classes → List Subobject → List ℕ → List ℕ
base_lines h [] places = []
base_lines h (s ∷ list) [] = []
base_lines h (s ∷ list) (place ∷ places) = decimal place ++ base_tail h s ++ base_lines h list places

abbrev pub AreSmallNumbers : List ℕ → Type 0
AreSmallNumbers [] = Unit {0}
AreSmallNumbers (place ∷ places) = (place ≤ most_number) × AreSmallNumbers places

-- the lines of these base subobjects say these places
pub record AreBasesRead (h : Classes) (list : List Subobject) (text places rest : List ℕ) : Type 0 where
  pub is : text ≡ base_lines h list places ++ rest
  pub each : length places ≡ length list
  pub small : AreSmallNumbers places
  pub lines : IsReadTo h (map base_line list) text rest

-- the lines of members at these places
abbrev pub members_text : Classes → List (Member ClassId) → List MemberPlace → List ℕ
members_text h [] places = []
members_text h (member ∷ members) [] = []
members_text h (member ∷ members) (at ∷ places) = field_text h at.place at.first member ++ members_text h members places

-- none but a bit-field has a first bit, other than that of its byte
abbrev pub IsSmallPlace : Member ClassId → MemberPlace → Type 0
IsSmallPlace member at = (at.place ≤ most_number) × (at.first ≤ most_number) × (member.width ≡ None → at.first ≡ 0)

-- what stands behind the place and the bits of a member in its line
abbrev pub declared_text : Classes → Member ClassId → List ℕ
declared_text h member = codes " " ++ type_text h member.ty ++ length_text member.count ++ codes " " ++ member.name ++ codes "\n"

-- what stands behind the last number of a member's line: that of a bit-field begins with its width
abbrev pub tail_by : Option ℕ → List ℕ
tail_by None = codes " field"
tail_by (Some width) = codes " " ++ decimal width

abbrev pub member_tail : Classes → Member ClassId → List ℕ
member_tail h member = tail_by member.width ++ declared_text h member

-- the place and the first bit of a bit-field, and a text behind
abbrev pub bits_then : MemberPlace → List ℕ → List ℕ
bits_then at rest = decimal at.place ++ (codes " bits " ++ (decimal at.first ++ rest))

abbrev pub IsSmallBits : MemberPlace → Type 0
IsSmallBits at = (at.place ≤ most_number) × (at.first ≤ most_number)

abbrev pub HasNoBits : List ℕ → List ℕ → Type 0
HasNoBits text tail = (at : MemberPlace) (rest : List ℕ) → IsSmallBits at → text ≡ bits_then at (tail ++ rest) → ⊥

-- the text begins with these places of a bit-field and the tail, in one way
pub record AreBits (text tail : List ℕ) (at : MemberPlace) (rest : List ℕ) : Type 0 where
  pub is : text ≡ bits_then at (tail ++ rest)
  pub small : IsSmallBits at
  pub only : (other : MemberPlace) (after : List ℕ) → IsSmallBits other → text ≡ bits_then other (tail ++ after) → after ≡ rest

-- the same of a member that may be a bit-field
abbrev pub HasNoMember : Option ℕ → List ℕ → List ℕ → Type 0
HasNoMember None text tail = HasNoneBefore text tail
HasNoMember (Some width) text tail = HasNoBits text tail

abbrev pub IsMember : Option ℕ → List ℕ → List ℕ → MemberPlace → List ℕ → Type 0
IsMember None text tail at rest = IsNumberBefore text tail at.place rest × (at.first ≡ 0)
IsMember (Some width) text tail at rest = AreBits text tail at rest

-- the line of the member says this place
pub record IsMemberRead (h : Classes) (member : Member ClassId) (text : List ℕ) (at : MemberPlace) (rest : List ℕ) : Type 0 where
  pub is : text ≡ field_text h at.place at.first member ++ rest
  pub small : IsSmallPlace member at
  pub line : IsRead h (member_line member) text rest

-- each of the members has such a place
abbrev pub AreSmallPlaces : List (Member ClassId) → List MemberPlace → Type 0
AreSmallPlaces [] [] = Unit {0}
AreSmallPlaces [] (at ∷ places) = ⊥
AreSmallPlaces (member ∷ members) [] = ⊥
AreSmallPlaces (member ∷ members) (at ∷ places) = IsSmallPlace member at × AreSmallPlaces members places

-- the lines of these members say these places
pub record AreMembersRead (h : Classes) (members : List (Member ClassId)) (text : List ℕ) (places : List MemberPlace) (rest : List ℕ) : Type 0 where
  pub is : text ≡ members_text h members places ++ rest
  pub small : AreSmallPlaces members places
  pub lines : IsReadTo h (map member_line members) text rest

-- the text of the lines of a class
abbrev pub said_text : Classes → ClassId → ClassSaid → List ℕ
said_text h c said =
    sizes_head h c ++ sizes_then said.sizes
    (primary_line_text h said.primary ++ (base_lines h (proper said.list) said.places ++ members_text h (members_of h c) said.members))

-- what is said of a class is what its lines may say, of which the first has this number
pub record IsSaid (h : Classes) (c : ClassId) (number : ℕ) (said : ClassSaid) : Type 0 where
  pub first : said.line ≡ number
  pub sizes : FitListing said.sizes
  pub primary : IsWritable h said.primary
  pub in_preorder : said.list ≡ preorder h c
  pub lists : ListsSubobjects h c said.list
  pub each : length said.places ≡ length (proper said.list)
  pub small : AreSmallNumbers said.places
  pub members : AreSmallPlaces (members_of h c) said.members

-- the lines of class c say this
pub record IsClassRead (h : Classes) (c : ClassId) (text : List ℕ) (said : ClassSaid) (rest : List ℕ) : Type 0 where
  pub is : text ≡ said_text h c said ++ rest
  pub lines : IsReadTo h (class_lines h c) text rest

-- the texts of what is said of the first classes, as many as are asked for
abbrev pub said_in : Classes → ClassId → Option ClassSaid → List ℕ
said_in h c None = []
said_in h c (Some said) = said_text h c said

abbrev pub said_before : Classes → List ClassSaid → ℕ → List ℕ
said_before h saids zero = []
said_before h saids (suc n) = said_before h saids n ++ said_in h (class_by_number n) (slice_get saids n)

-- the text is that of what is said of all classes
pub record AreSaid (h : Classes) (text : List ℕ) (saids : List ClassSaid) : Type 0 where
  pub is : text ≡ said_before h saids (length h)
  pub each : (c : ClassId) (said : ClassSaid) → slice_get saids c.0 ≡ Some said → IsSaid h c (first_line h c) said
  pub count : length saids ≡ length h

-- the lines of the first n classes say this, and the rest follows, of which the first line has this number
pub record AreSaidTo (h : Classes) (text : List ℕ) (n : ℕ) (saids : List ClassSaid) (rest : List ℕ) (number : ℕ) : Type 0 where
  pub is : text ≡ said_before h saids n ++ rest
  pub lines : IsReadTo h (lines_before h n) text rest
  pub count : length saids ≡ n
  pub each : (c : ClassId) (said : ClassSaid) → slice_get saids c.0 ≡ Some said → IsSaid h c (first_line h c) said
  pub first : number ≡ suc (length (lines_before h n))
