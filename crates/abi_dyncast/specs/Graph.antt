-- The graph of parts that type information and virtual pointers span (Itanium C++ ABI 2.5.2, 2.9.5). A word that does not stand in
-- the image or in memory is read as 0.
use Rattle.std.specs.Prelude.{◌≡◌, ℕ, ◌+◌, ◌*◌, ◌/◌, ◌%◌, ◌<◌, ◌^◌, Bool, true, nat_eq, if◌then◌else◌, Option, Some, None, Result, Ok, Err, pos}
use Rattle.std.specs.Int.{int_div_euclid}
use Rattle.byte_memory.specs.declared.memory.MemoryFault.{MemoryFault}
use Rattle.byte_memory.specs.Store.{Store, load_of}
use Rattle.byte_code.specs.Numbers.{signed_of, word_of}
use Rattle.byte_code.specs.declared.image.InfoRecord.{InfoRecord}
use Rattle.byte_code.specs.declared.image.BaseRecord.{BaseRecord}
use Rattle.abi_dyncast.specs.declared.parts.TypedPart.{TypedPart}
use Rattle.abi_dyncast.specs.declared.parts.Edge.{Edge}

-- of each part the number of its class, how many edges leave it, and where each of them leads
pub record Graph : Type 0 where
  pub class : TypedPart → ℕ
  pub count : TypedPart → ℕ
  pub edge : TypedPart → ℕ → Edge

abbrev pub word_in : Option ℕ → ℕ
word_in None = 0
word_in (Some word) = word

abbrev pub loaded_or_zero : Result ℕ MemoryFault → ℕ
loaded_or_zero (Ok word) = word
loaded_or_zero (Err fault) = 0

-- the virtual pointer at an address
abbrev pub pointer_at : Store → ℕ → ℕ
pointer_at memory at = loaded_or_zero (load_of memory at 8)

-- an address, or a word, moved by another; addresses wrap at 2 ^ 64
abbrev pub moved : ℕ → ℕ → ℕ
moved at by = (at + by) % 2 ^ 64

-- the type information at an address: the number of the class, its flags, how many bases it has, and where the first one stands
abbrev pub info_at : (ℕ → Option ℕ) → ℕ → InfoRecord
info_at image at = record { class = word_in (image at); flags = word_in (image (at + 8)); bases = word_in (image (at + 16)); first = word_in (image (at + 24)) }

-- the base at an address: its type information, and where it lies and what it is
abbrev pub base_record_at : (ℕ → Option ℕ) → ℕ → BaseRecord
base_record_at image at = record { info = word_in (image at); offset_flags = signed_of 8 true (word_in (image (at + 8))) }

-- the two lowest bits of the flags: a virtual base has the first, and a public one the second
abbrev pub has_virtual_flag : BaseRecord → Bool
has_virtual_flag base = nat_eq (word_of base.offset_flags % 2) 1

abbrev pub is_public : BaseRecord → Bool
is_public base = nat_eq (word_of base.offset_flags / 2 % 2) 1

-- behind the eight bits of flags: how far the base lies from the part, and of a virtual base where the word that says it stands, from
-- the address point
abbrev pub offset_word : BaseRecord → ℕ
offset_word base = word_of (int_div_euclid base.offset_flags (pos 256))

-- where the word of a virtual base stands, for a part at an address
abbrev pub vbase_at : Store → ℕ → BaseRecord → ℕ
vbase_at memory at base = moved (pointer_at memory at) (offset_word base)

-- how far a base lies from the part at an address, as a word
abbrev pub distance_word : (ℕ → Option ℕ) → Store → ℕ → BaseRecord → ℕ
distance_word image memory at base = if has_virtual_flag base then word_in (image (vbase_at memory at base)) else offset_word base

abbrev pub edge_by : (ℕ → Option ℕ) → Store → ℕ → BaseRecord → Edge
edge_by image memory at base = record { part = record { at = moved at (distance_word image memory at base); info = base.info }; is_public = is_public base }

-- where the record of the i-th base of the class of a part stands
abbrev pub record_at : (ℕ → Option ℕ) → TypedPart → ℕ → ℕ
record_at image part i = (info_at image part.info).first + 16 * i

abbrev pub base_record : (ℕ → Option ℕ) → TypedPart → ℕ → BaseRecord
base_record image part i = base_record_at image (record_at image part i)

abbrev pub graph_of : (ℕ → Option ℕ) → Store → Graph
graph_of image memory = record {
  class = λ part. (info_at image part.info).class;
  count = λ part. (info_at image part.info).bases;
  edge = λ part i. edge_by image memory part.at (base_record image part i);
}

-- edges along which a walk goes
abbrev pub any_edge : Edge → Bool
any_edge edge = true

abbrev pub public_edge : Edge → Bool
public_edge edge = edge.is_public

-- allowed edges lead from a part to another
pub data LeadsByEdges (g : Graph) (allow : Edge → Bool) : TypedPart → TypedPart → Type 0 where
  stays : (part : TypedPart) → LeadsByEdges g allow part part
  steps : (part end : TypedPart) (i : ℕ) → i < g.count part → allow (g.edge part i) ≡ true → LeadsByEdges g allow (g.edge part i).part end → LeadsByEdges g allow part end

-- they lead to one of which something holds
pub record LeadsToSome (g : Graph) (allow : Edge → Bool) (Q : TypedPart → Type 0) (part : TypedPart) : Type 0 where
  pub end : TypedPart
  pub leads : LeadsByEdges g allow part end
  pub is : Q end
