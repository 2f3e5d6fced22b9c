-- What a cast and a test of containment answer, over the words of an image and a memory. For the layers above:
--   CastsTo image memory at class target result        the answer of a cast of the part of `class` at `at`, an address or none
--   CanCast image memory parts at                      it can be had: all that is read stands there, and there is room for it
--   CanCastHinted image memory parts at class target hint    it can be had with a hint: besides, the hint is true
--   CountsVisits graph view at target hint old new     how far a cast with a hint raises the count of records of bases read
--   TellsWithin image base memory view_at view_class at class result    whether the view has a part of `class` at `at`
--   CanTellWithin image base memory parts view_at view_class            it can be had
-- `image` has the word at each address, `base` is where its directory begins, and a work list is reserved for so many `parts`.
use Rattle.std.specs.Prelude.{◌≡◌, ◌↔◌, ℕ, ◌+◌, ◌-◌, ◌*◌, ◌<◌, ◌≤◌, ◌^◌, Bool, true, Option, Some, None, IsSome, IsOk, IsTrue, List, length, sum_by, Contains, ℤ, pos, negsuc}
use Rattle.byte_memory.specs.Store.{Store, load_of}
use Rattle.byte_code.specs.Records.{IsInfoAt, HasBaseRecord, IsTableWord}
use Rattle.abi_dyncast.specs.declared.parts.TypedPart.{TypedPart}
use Rattle.abi_dyncast.specs.declared.work.WorkList.{WorkList}
use Rattle.abi_dyncast.specs.Rule.{Parts, AnswersCast}
use Rattle.abi_dyncast.specs.Graph.{moved}
use Rattle.abi_dyncast.specs.Graph.{Graph, graph_of, word_in, pointer_at, info_at, record_at, base_record, has_virtual_flag, vbase_at, any_edge, public_edge, LeadsByEdges, LeadsToSome}

-- for how many parts a work list was reserved
abbrev pub room : WorkList → ℕ
room work = work.parts

-- what is read

-- the record of the i-th base of a part, and where the base is virtual the part's virtual pointer and the word that it leads to,
-- which is one of a table
pub record CanStep (image : ℕ → Option ℕ) (memory : Store) (part : TypedPart) (i : ℕ) : Type 0 where
  pub low : record_at image part i < 2 ^ 64
  pub base : HasBaseRecord image (record_at image part i) (base_record image part i)
  pub pointer : has_virtual_flag (base_record image part i) ≡ true → IsOk (load_of memory part.at 8)
  pub word : has_virtual_flag (base_record image part i) ≡ true → IsSome (image (vbase_at memory part.at (base_record image part i)))
  pub table : has_virtual_flag (base_record image part i) ≡ true → IsTableWord image (vbase_at memory part.at (base_record image part i))

-- the type information of parts, and all that leads from them to their bases
pub record CanReadParts (image : ℕ → Option ℕ) (memory : Store) (parts : List TypedPart) : Type 0 where
  pub info : (part : TypedPart) → Contains parts part → IsInfoAt image part.info (info_at image part.info)
  pub steps : (part : TypedPart) (i : ℕ) → Contains parts part → i < (graph_of image memory).count part → CanStep image memory part i

-- parts that no edge leaves, each of a greater class than those to which its edges lead
pub record AreClosedParts (g : Graph) (parts : List TypedPart) : Type 0 where
  pub inside : (part : TypedPart) (i : ℕ) → Contains parts part → i < g.count part → Contains parts (g.edge part i).part
  pub falls : (part : TypedPart) (i : ℕ) → Contains parts part → i < g.count part → g.class (g.edge part i).part < g.class part

-- a walk over all that lies below a part can be had
pub record CanWalk (image : ℕ → Option ℕ) (memory : Store) (room : ℕ) (part : TypedPart) : Type 0 where
  pub parts : List TypedPart
  pub are : AreClosedParts (graph_of image memory) parts
  pub read : CanReadParts image memory parts
  pub has : Contains parts part
  pub few : length parts ≤ room

-- casts

-- a part of a class at an address
pub record IsPartAtAddress (g : Graph) (at class : ℕ) (part : TypedPart) : Type 0 where
  pub same_place : part.at ≡ at
  pub same_class : g.class part ≡ class

-- a part of the target class, below the view
pub record IsTargetPart (g : Graph) (target : ℕ) (view part : TypedPart) : Type 0 where
  pub below : LeadsByEdges g any_edge view part
  pub class : g.class part ≡ target

-- the rule's questions, over the parts below a view, for a source of a class at an address
abbrev pub parts_below : Graph → TypedPart → (at class target : ℕ) → Parts TypedPart
parts_below g view at class target = record {
  is_target = IsTargetPart g target view;
  contains = LeadsToSome g any_edge (IsPartAtAddress g at class);
  is_above = LeadsToSome g public_edge (IsPartAtAddress g at class);
  is_seen = LeadsToSome g public_edge (IsPartAtAddress g at class) view;
  is_reached = LeadsByEdges g public_edge view;
}

-- the view of what stands at an address, by its virtual pointer: the word 16 bytes before the address point says where it lies, and
-- the word 8 bytes before is its type information
abbrev pub view_at_address : (ℕ → Option ℕ) → Store → ℕ → TypedPart
view_at_address image memory at = record { at = moved at (word_in (image (pointer_at memory at - 16))); info = word_in (image (pointer_at memory at - 8)) }

abbrev pub found_address : Option TypedPart → Option ℕ
found_address None = None
found_address (Some part) = Some part.at

-- the place of what the rule gives
pub record CastsTo (image : ℕ → Option ℕ) (memory : Store) (at class target : ℕ) (result : Option ℕ) : Type 0 where
  pub answer : Option TypedPart
  pub rule : AnswersCast (parts_below (graph_of image memory) (view_at_address image memory at) at class target) answer
  pub is : result ≡ found_address answer

pub record CanCast (image : ℕ → Option ℕ) (memory : Store) (parts at : ℕ) : Type 0 where
  pub pointer : IsOk (load_of memory at 8)
  pub top : IsSome (image (pointer_at memory at - 16))
  pub info : IsSome (image (pointer_at memory at - 8))
  pub top_word : IsTableWord image (pointer_at memory at - 16)
  pub info_word : IsTableWord image (pointer_at memory at - 8)
  pub walk : CanWalk image memory parts (view_at_address image memory at)

-- hints

-- what is asked of a hint: where it is at least 0, each part of the target class below the view has a part of the source's class
-- so many bytes behind itself, along public edges; of other hints nothing is asked
abbrev pub IsTrueHint : Graph → TypedPart → (class target : ℕ) → ℤ → Type 0
IsTrueHint g view class target (pos n) = (part : TypedPart) → IsTargetPart g target view part → LeadsToSome g public_edge (IsPartAtAddress g (part.at + n) class) part
IsTrueHint g view class target (negsuc n) = Unit {0}

pub record CanCastHinted (image : ℕ → Option ℕ) (memory : Store) (parts at class target : ℕ) (hint : ℤ) : Type 0 where
  pub can : CanCast image memory parts at
  pub truth : IsTrueHint (graph_of image memory) (view_at_address image memory at) class target hint

-- a list has all parts below a view
abbrev pub HasAllBelow : Graph → TypedPart → List TypedPart → Type 0
HasAllBelow g view parts = (part : TypedPart) → LeadsByEdges g any_edge view part → Contains parts part

-- how many edges leave parts: of all parts below a view, the pairs of a subobject and a direct base
abbrev pub edges_of : Graph → List TypedPart → ℕ
edges_of g parts = sum_by g.count parts

-- how far the count of records of bases is raised: by at most two for each edge of the view, and not at all where the view is of
-- the target class and the source lies so many bytes behind it as the hint says
pub record CountsVisits (g : Graph) (view : TypedPart) (at target : ℕ) (hint : ℤ) (old new : ℕ) : Type 0 where
  pub more : old ≤ new
  pub few : (parts : List TypedPart) → HasAllBelow g view parts → new ≤ old + 2 * edges_of g parts
  pub hinted : (n : ℕ) → hint ≡ pos n → g.class view ≡ target → view.at + n ≡ at → new ≡ old

-- containment

-- the first address point of the group of a class, by the directory; 0 where it has none
abbrev pub point_of : (ℕ → Option ℕ) → (base class : ℕ) → ℕ
point_of image base class = word_in (image (base + 16 * class))

-- the view of a class at an address
abbrev pub complete_view_at : (ℕ → Option ℕ) → (base at class : ℕ) → TypedPart
complete_view_at image base at class = record { at = at; info = word_in (image (point_of image base class - 8)) }

-- the class of the view has a table, and the view has a part of a class at an address
pub record ViewHasPart (image : ℕ → Option ℕ) (base : ℕ) (memory : Store) (view_at view_class at class : ℕ) : Type 0 where
  pub dynamic : 0 < point_of image base view_class
  pub named : LeadsToSome (graph_of image memory) any_edge (IsPartAtAddress (graph_of image memory) at class) (complete_view_at image base view_at view_class)

abbrev pub TellsWithin : (image : ℕ → Option ℕ) (base : ℕ) (memory : Store) (view_at view_class at class : ℕ) → Bool → Type 0
TellsWithin image base memory view_at view_class at class result = IsTrue result ↔ ViewHasPart image base memory view_at view_class at class

-- the word of the view's class in the directory stands there; where it is 0, nothing else is read
pub record CanTellWithin (image : ℕ → Option ℕ) (base : ℕ) (memory : Store) (parts view_at view_class : ℕ) : Type 0 where
  pub low : base + 16 * view_class < 2 ^ 64
  pub directory : IsSome (image (base + 16 * view_class))
  pub info : 0 < point_of image base view_class → IsSome (image (point_of image base view_class - 8))
  pub walk : 0 < point_of image base view_class → CanWalk image memory parts (complete_view_at image base view_at view_class)

-- what depends on what

-- another image has all words of the image, and of the virtual pointers at the places of parts another memory has the same
pub record KeepsReads (image other : ℕ → Option ℕ) (memory next : Store) (parts : List TypedPart) : Type 0 where
  pub words : (at word : ℕ) → image at ≡ Some word → other at ≡ Some word
  pub pointers : (part : TypedPart) → Contains parts part → load_of next part.at 8 ≡ load_of memory part.at 8
