-- What the table words of a view that stands lead to.
use Rattle.std.proofs.Common.{◌≡◌, ℕ, ◌+◌, ◌-◌, ◌*◌, ◌<◌, ◌^◌, Some, List, [], ap, subst, sym, ◌∙◌, arith, ℤ}
use Rattle.cxx_hierarchy.specs.declared.records.ClassId.{ClassId}
use Rattle.cxx_hierarchy.specs.Classes.{Classes}
use Rattle.cxx_hierarchy.specs.VirtualBases.{HasVirtualBase}
use Rattle.cxx_subobject.specs.declared.Subobject.{Subobject}
use Rattle.cxx_subobject.specs.Subobjects.{IsSubobject, whole, shared, shared_base, whole_of, class_of, join}
use Rattle.cxx_subobject.proofs.PathLemmas.{part_virtual}
use Rattle.cxx_subobject.proofs.InsideLemmas.{join_valid, join_whole}
use Rattle.abi_primary.specs.Kinds.{IsDynamic}
use Rattle.abi_primary.proofs.KindLemmas.{base_dynamic}
use Rattle.abi_sound.specs.declared.class_layout.ClassLayout.{ClassLayout}
use Rattle.abi_sound.specs.Places.{Places, places_of}
use Rattle.abi_sound.proofs.Depth.{below}
use Rattle.abi_slots.specs.declared.words.TypeInfo.{TypeInfo}
use Rattle.abi_slots.specs.Dispatch.{LeadsByDistance}
use Rattle.abi_slots.specs.Images.{Image, HasInfo}
use Rattle.abi_slots.specs.Listing.{vbase_number}
use Rattle.abi_slots.specs.Slots.{word_number}
use Rattle.abi_slots.specs.Views.{View, place}
use Rattle.abi_slots.specs.Seen.{PlacedTables, IsPointOf, HasDistance, Sees}
use Rattle.byte_memory.specs.Store.{Store}
use Rattle.byte_code.specs.declared.code.ImageBytes.{ImageBytes}
use Rattle.byte_code.specs.Images.{word_at}
use Rattle.byte_code.specs.Numbers.{word_of}
use Rattle.byte_code.proofs.Numbers.{word_inside}
use Rattle.abi_dyncast.proofs.Distances.{moved_between}
use Rattle.byte_machine.specs.Running.{moved, table_of, table_word, word_behind}
use Rattle.byte_machine.specs.Plans.{word_offset}
use Rattle.agree_dispatch.specs.Standing.{IsViewAt, address_in_object}
use Rattle.agree_dispatch.specs.Words.{MovesTo, NamesClass}
use Rattle.agree_dispatch.proofs.Numbers.{moved_back, number_word}

-- a word of a table is read where the pointer and the word are there
pub table_read : (image : ImageBytes) (memory : Store) (from point bytes place word : ℕ) → table_of memory from ≡ Some point → moved point bytes ≡ place → word_at image place ≡ Some word → table_word image memory from bytes ≡ Some word
table_read image memory from point bytes place word pointer there is = ap (word_behind image bytes) pointer ∙ (ap (word_at image) there ∙ is)

module _ (h : Classes) (rows : List ClassLayout) (image : ImageBytes) (memory : Store) (d : ClassId) (at : ℕ) (y : Subobject) (x : View) (placed : PlacedTables) (stands : IsViewAt h rows image memory d at y x placed) where
  abbrev l : Places
  l = places_of h rows

  -- the address of a subobject of the view
  abbrev address : Subobject → ℕ
  address s = address_in_object (places_of h rows) d at y s

  pub low_part : (s : Subobject) → IsSubobject h x.class s → address_in_object (places_of h rows) d at y s < 2 ^ 63
  low_part s there = let b = below h rows stands.sound d (join y s) stands.known (join_valid h d x.class y s stands.valid stands.of_class there) in let f = stands.fits in omega arith

  -- a distance between places of the view is one between addresses
  pub moves : (s o : Subobject) → IsSubobject h x.class s → IsSubobject h x.class o → (n : ℤ) → LeadsByDistance (places_of h rows) x s n o → moved (address_in_object (places_of h rows) d at y s) (word_of n) ≡ address_in_object (places_of h rows) d at y o
  moves s o there other n leads =
      let a = stands.alike.each s there in
      let b = stands.alike.each o other in
      let low = low_part s there in
      let high = low_part o other in
      ap (λ k. moved k (word_of n)) a ∙ (moved_between stands.alike.start (place l x s) (place l x o) n leads (omega arith) (omega arith) ∙ sym b)

  -- what the virtual pointer of a dynamic subobject leads to
  pub record IsPointing (s : Subobject) (c : ClassId) : Type 0 where
    pub point : ℕ
    pub pointer : table_of memory (address_in_object (places_of h rows) d at y s) ≡ Some point
    pub of : IsPointOf h (places_of h rows) x placed s point
    pub sees : Sees h (places_of h rows) x placed s c point
    pub low : point < 2 ^ 64

  -- a word of the placed image is one of the image, and stands low
  pub placed_word : (place word : ℕ) → placed.image place ≡ Some word → word_at image place ≡ Some word
  placed_word place word is = ap (λ (i : Image). i place) (sym stands.image_is) ∙ is

  pub placed_low : (place word : ℕ) → placed.image place ≡ Some word → place < 2 ^ 63
  placed_low place word is = let a = word_inside image place word (placed_word place word is) in let b = stands.low in omega arith

  pub pointing : (s : Subobject) (c : ClassId) → IsSubobject h x.class s → class_of s ≡ Some c → IsDynamic h c → IsPointing s c
  pointing s c there class dynamic =
      let p = stands.pointed s c there class dynamic in
      let sees = stands.seen.sees s c p.0 there class p.2 in
      let before = sees.top.before in
      let low = placed_low sees.top.at (word_of sees.top.distance) sees.top.there in
      record { point = p.0; pointer = p.1; of = p.2; sees = sees; low = omega arith }

  -- a word so many bytes before an address point
  pub word_before : (from point k place word : ℕ) → table_of memory from ≡ Some point → place + k ≡ point → 0 < k → point < 2 ^ 64 → placed.image place ≡ Some word → table_word image memory from (18446744073709551616 - k) ≡ Some word
  word_before from point k place word pointer before some low is =
      table_read image memory from point (18446744073709551616 - k) place word pointer (moved_back point place k before some low) (placed_word place word is)

  -- a distance that stands before the address point moves there
  pub moves_to : (s o : Subobject) (point k : ℕ) → IsSubobject h x.class s → IsSubobject h x.class o → table_of memory (address_in_object (places_of h rows) d at y s) ≡ Some point → HasDistance (places_of h rows) x placed.image s o k point → 0 < k → point < 2 ^ 64 → MovesTo image memory (address_in_object (places_of h rows) d at y s) (18446744073709551616 - k) (address_in_object (places_of h rows) d at y o)
  moves_to s o point k there other pointer has some low = record {
    by = word_of has.distance;
    there = word_before (address_in_object (places_of h rows) d at y s) point k has.at (word_of has.distance) pointer has.before some low has.there;
    leads = moves s o there other has.distance has.leads;
  }

  pub base_valid : (s : Subobject) (c v : ClassId) → IsSubobject h x.class s → class_of s ≡ Some c → HasVirtualBase h c v → IsSubobject h x.class (shared_base v)
  base_valid s c v there class has = shared v [] (part_virtual h x.class c v s there class has) tt

  pub to_vbase : (s : Subobject) (c v : ClassId) → IsSubobject h x.class s → class_of s ≡ Some c → HasVirtualBase h c v → MovesTo image memory (address_in_object (places_of h rows) d at y s) (word_offset (word_number (vbase_number h (places_of h rows) c v))) (at + (places_of h rows).place d (shared_base v))
  to_vbase s c v there class has =
      let p = pointing s c there class (base_dynamic h c v has) in
      let n = vbase_number h l c v in
      let before = (p.sees.converts v has).before in
      let low = p.low in
      let read = moves_to s (shared_base v) p.point (8 * (n + 3)) there (base_valid s c v there class has) p.pointer (p.sees.converts v has) (omega arith) p.low in
      subst (λ w. MovesTo image memory (address s) w (address (shared_base v))) (sym (number_word n (omega arith))) read

  pub to_top : (s : Subobject) (c : ClassId) → IsSubobject h x.class s → class_of s ≡ Some c → IsDynamic h c → MovesTo image memory (address_in_object (places_of h rows) d at y s) 18446744073709551600 (at + (places_of h rows).place d y)
  to_top s c there class dynamic =
      let p = pointing s c there class dynamic in
      let read = moves_to s (whole_of x.class) p.point 16 there (whole [] tt) p.pointer p.sees.top (omega arith) p.low in
      subst (λ (t : Subobject). MovesTo image memory (address s) 18446744073709551600 (at + (places_of h rows).place d t)) (join_whole y x.class) read

  pub to_type : (s : Subobject) (c : ClassId) (type_info : TypeInfo) → IsSubobject h x.class s → class_of s ≡ Some c → IsDynamic h c → HasInfo placed.image placed.info x.class type_info (placed.info x.class) → NamesClass image memory (address_in_object (places_of h rows) d at y s) x.class.0
  to_type s c type_info there class dynamic info =
      let p = pointing s c there class dynamic in
      let has = p.sees.type_of in
      record {
        info = placed.info x.class;
        there = word_before (address s) p.point 8 has.at (placed.info x.class) p.pointer has.before (omega arith) p.low has.there;
        names = placed_word (placed.info x.class) x.class.0 info.class;
      }
