-- The entry of a virtual function runs its final overrider in a view that stands.
use Rattle.std.proofs.Common.{◌≡◌, ℕ, ◌+◌, ◌-◌, ◌*◌, ◌<◌, ◌^◌, Option, Some, None, List, [], refl, ap, subst, sym, ◌∙◌, arith}
use Rattle.std.specs.Prelude.{Contains}
use Rattle.cxx_hierarchy.specs.declared.records.ClassId.{ClassId}
use Rattle.cxx_hierarchy.specs.Classes.{Classes}
use Rattle.cxx_subobject.specs.declared.Subobject.{Subobject}
use Rattle.cxx_subobject.specs.Subobjects.{IsSubobject, shared, shared_base, class_of, join}
use Rattle.cxx_subobject.proofs.InsideLemmas.{join_class}
use Rattle.cxx_overrider.specs.declared.Overrider.{Overrider}
use Rattle.cxx_overrider.proofs.ViewLaws.{view_final}
use Rattle.cxx_search.specs.Searches.{final_in}
use Rattle.cxx_search.proofs.Finals.{final_found}
use Rattle.abi_sound.specs.declared.class_layout.ClassLayout.{ClassLayout}
use Rattle.abi_sound.specs.Places.{Places, places_of}
use Rattle.abi_slots.specs.declared.words.EntryKey.{EntryKey}
use Rattle.abi_slots.specs.declared.words.EntryWord.{EntryWord}
use Rattle.abi_slots.specs.declared.words.ReturnAdjust.{ReturnAdjust}
use Rattle.abi_slots.specs.declared.words.ThisAdjust.{ThisAdjust}
use Rattle.abi_slots.specs.Groups.{offset_bytes, return_for}
use Rattle.abi_slots.specs.Images.{Image, HasEntry, HasThunk, return_vbase, return_constant}
use Rattle.abi_slots.specs.Listing.{entry_number, listing, own_keys}
use Rattle.abi_slots.specs.Views.{View, place}
use Rattle.abi_slots.specs.Seen.{PlacedTables, HasDistance, Adjusts, as_it_stands, by_number, by_word, Calls, calls_pure, calls_code}
use Rattle.abi_slots.proofs.Bases.{item_contains}
use Rattle.abi_slots.proofs.Owns.{own_virtual}
use Rattle.abi_slots.proofs.ClassEntries.{own_key}
use Rattle.abi_slots.proofs.Dynamics.{virtual_dynamic}
use Rattle.byte_memory.specs.Store.{Store}
use Rattle.byte_code.specs.declared.code.ImageBytes.{ImageBytes}
use Rattle.byte_code.specs.Images.{word_at}
use Rattle.byte_code.specs.Numbers.{word_of}
use Rattle.byte_code.proofs.Numbers.{word_inside}
use Rattle.byte_machine.specs.Running.{moved, table_of}
use Rattle.byte_machine.specs.Calls.{Callee, moved_by_word}
use Rattle.agree_dispatch.specs.Standing.{IsViewAt, address_in_object}
use Rattle.agree_dispatch.specs.Words.{HasEntryWord}
use Rattle.agree_dispatch.proofs.Numbers.{moved_up, offset_word}
use Rattle.agree_dispatch.proofs.Reading.{table_read, low_part, moves, pointing, moves_to}
use Rattle.agree_dispatch.proofs.Returning.{same_returns, final_runs}
use Rattle.agree_dispatch.proofs.Entering.{code_record, pure_word, ThunkDoes, no_thunk, some_thunk, word_moves, callee_read}

module _ (h : Classes) (rows : List ClassLayout) (image : ImageBytes) (memory : Store) (d : ClassId) (at : ℕ) (y : Subobject) (x : View) (placed : PlacedTables) (stands : IsViewAt h rows image memory d at y x placed) where
  abbrev l : Places
  l = places_of h rows

  abbrev address : Subobject → ℕ
  address s = address_in_object (places_of h rows) d at y s

  same_address : (s o : Subobject) → IsSubobject h x.class s → IsSubobject h x.class o → place (places_of h rows) x s ≡ place (places_of h rows) x o → address_in_object (places_of h rows) d at y s ≡ address_in_object (places_of h rows) d at y o
  same_address s o there other same = stands.alike.each s there ∙ (ap (λ n. stands.alike.start + n) same ∙ sym (stands.alike.each o other))

  -- an address moved by nothing
  stays : (s : Subobject) → IsSubobject h x.class s → moved (address_in_object (places_of h rows) d at y s) 0 ≡ address_in_object (places_of h rows) d at y s
  stays s there = let low = low_part h rows image memory d at y x placed stands s there in omega arith

  -- the vcall word of a virtual base leads on
  moves_on : (o : Subobject) (v : ClassId) (n point : ℕ) → IsSubobject h x.class (shared_base v) → IsSubobject h x.class o → table_of memory (address_in_object (places_of h rows) d at y (shared_base v)) ≡ Some point → point < 2 ^ 64 →
      HasDistance (places_of h rows) x placed.image (shared_base v) o (8 * (n + 3)) point → moved_by_word image memory (address_in_object (places_of h rows) d at y (shared_base v)) (word_of (offset_bytes n)) ≡ Some (address_in_object (places_of h rows) d at y o)
  moves_on o v n point base other pointer low has =
      let before = has.before in
      let k : ℕ = 8 * (n + 3) in
      let m = moves_to h rows image memory d at y x placed stands (shared_base v) o point (8 * (n + 3)) base other pointer has (omega arith) low in
      let moved_there = word_moves image memory (address (shared_base v)) (18446744073709551616 - 8 * (n + 3)) m.by (address o) (omega arith) m.there m.leads in
      ap (moved_by_word image memory (address (shared_base v))) (offset_word n (omega arith)) ∙ moved_there

  thunk_does : (s o : Subobject) (thunk : ℕ) (this : Option ThisAdjust) (result : Option ReturnAdjust) → IsSubobject h x.class s → IsSubobject h x.class o → Adjusts h (places_of h rows) x placed s o this → HasThunk (word_at image) thunk this result →
      ThunkDoes image memory (address_in_object (places_of h rows) d at y s) (address_in_object (places_of h rows) d at y o) thunk result
  thunk_does s o thunk _ None there other (as_it_stands same) has = no_thunk image memory (address s) (address o) thunk has (same_address s o there other same)
  thunk_does s o thunk _ (Some result) there other (as_it_stands same) has =
      some_thunk image memory (address s) (address s) (address o) thunk None (Some result) has (stays s there) (ap (λ a. Some a) (same_address s o there other same))
  thunk_does s o thunk _ result there other (by_number distance leads) has =
      some_thunk image memory (address s) (address o) (address o) thunk (Some (record { constant = distance; vcall = None })) result has (moves h rows image memory d at y x placed stands s o there other distance leads) refl
  thunk_does s o thunk _ result there other (by_word v distance n base dynamic leads next) has =
      let valid : IsSubobject h x.class (shared_base v) = shared v [] base tt in
      let p = pointing h rows image memory d at y x placed stands (shared_base v) v valid refl dynamic in
      some_thunk image memory (address s) (address (shared_base v)) (address o) thunk (Some (record { constant = distance; vcall = Some (offset_bytes n) })) result has
      (moves h rows image memory d at y x placed stands s (shared_base v) there valid distance leads)
      (moves_on o v n p.point valid other p.pointer p.low (next p.point p.of))

  -- the word of an entry and what runs by it
  entry_word : (s : Subobject) (k : EntryKey) (o : Overrider) (point : ℕ) (word : EntryWord) → IsSubobject h x.class s → IsSubobject h x.class o.at → table_of memory (address_in_object (places_of h rows) d at y s) ≡ Some point → point < 2 ^ 64 →
      HasEntry (word_at image) placed.codes (point + 8 * entry_number h (places_of h rows) k) word → Calls h (places_of h rows) x placed s k o word →
      return_for h (places_of h rows) o.function (listing h (places_of h rows) k).function ≡ return_for h (places_of h rows) o.function k.function →
      HasEntryWord h (places_of h rows) image placed.codes memory k (record { at = join y o.at; function = o.function }) (address_in_object (places_of h rows) d at y s) (address_in_object (places_of h rows) d at y o.at)
  entry_word s k o point _ there other pointer low has (calls_pure pure) same =
      let n = 8 * entry_number h l k in
      let at_word = pure_word (word_at image) placed.codes (point + n) o.function has in
      let inside = word_inside image (point + n) 0 at_word in
      let room = stands.low in
      record {
        word = 0;
        there = table_read image memory (address s) point n (point + n) 0 pointer (moved_up point n (omega arith)) at_word;
        pure = λ p. refl;
        above = λ p. absurd (cc);
        runs = λ p. absurd (cc);
      }
  entry_word s k o point _ there other pointer low has (calls_code this code adjusts) same =
      let n = 8 * entry_number h l k in
      let result = return_for h l o.function (listing h l k).function in
      let r = code_record (word_at image) placed.codes (point + n) o.function k.kind this result has in
      let inside = word_inside image (point + n) r.place r.there in
      let room = stands.low in
      let word = table_read image memory (address s) point n (point + n) r.place pointer (moved_up point n (omega arith)) r.there in
      let does = thunk_does s o.at r.thunk this result there other adjusts r.has in
      let read = callee_read image memory (address s) (address o.at) (entry_number h l k) r.place r.code r.thunk result word r.above r.first r.second r.small does in
      let make : Option ReturnAdjust → Option Callee = λ a. Some (record { block = r.code; this = address o.at; vbase = word_of (return_vbase a); add = word_of (return_constant a) }) in
      record {
        word = r.place;
        there = word;
        pure = λ p. absurd (cc);
        above = λ p. r.above;
        runs = λ p. record { block = r.code; coded = r.coded; small = r.small; called = read ∙ ap make same };
      }

  -- the entry of a function that the class of a subobject declares
  pub entry_runs : (s : Subobject) (k : EntryKey) (o : Overrider) → IsSubobject h x.class s → class_of s ≡ Some k.function.class → Contains (own_keys h k.function.class) k → final_in h y (join y s) k.function ≡ Some o →
      HasEntryWord h (places_of h rows) image placed.codes memory k o (address_in_object (places_of h rows) d at y s) (at + (places_of h rows).place d o.at)
  entry_runs s k o there class own found =
      let mine = own_key h k.function.class k (item_contains (own_keys h k.function.class) k own) in
      let is = own_virtual h stands.keeps k.function.class k.function mine.1.declares in
      let p = pointing h rows image memory d at y x placed stands s k.function.class there class (virtual_dynamic h k.function is) in
      let call = p.sees.calls k own in
      let seen : Overrider = record { at = join y call.overrider.at; function = call.overrider.function } in
      let view = view_final h stands.keeps d x.class y stands.valid stands.of_class s k.function call.overrider call.final in
      let one : Some seen ≡ Some o = sym (final_found h stands.keeps d y stands.valid (join y s) k.function seen view) ∙ found in
      let same : seen ≡ o = cc in
      let word = entry_word s k call.overrider p.point call.word there call.final.left.candidate.valid p.pointer p.low (subst (λ (i : Image). HasEntry i placed.codes (p.point + 8 * entry_number h l k) call.word) stands.image_is call.there) call.calls
      (same_returns h rows stands.keeps stands.faultless stands.sound call.overrider.function k own (final_runs h stands.keeps d y (join y s) k.function seen stands.valid (join_class h x.class y s stands.of_class there ∙ class) is (final_found h stands.keeps d y stands.valid (join y s) k.function seen view))) in
      subst (λ (q : Overrider). HasEntryWord h l image placed.codes memory k q (address s) (at + l.place d q.at)) same word
