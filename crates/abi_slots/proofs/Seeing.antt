-- What an image gives for a view whose tables stand in it.
use Rattle.std.proofs.Common.{◌≡◌, ℕ, ◌+◌, ◌*◌, Option, Some, List, refl, ap, subst, sym, ◌∙◌, arith}
use Rattle.std.specs.Prelude.{slice_get}
use Rattle.cxx_hierarchy.specs.declared.records.ClassId.{ClassId}
use Rattle.cxx_hierarchy.specs.Classes.{Classes}
use Rattle.cxx_subobject.specs.declared.Subobject.{Subobject}
use Rattle.cxx_subobject.specs.Subobjects.{IsSubobject, shared_base, class_of}
use Rattle.cxx_overrider.specs.declared.Overrider.{Overrider}
use Rattle.cxx_overrider.specs.Faults.{HasNoFault}
use Rattle.abi_primary.specs.Kinds.{IsDynamic}
use Rattle.abi_sound.specs.Places.{Places}
use Rattle.abi_slots.specs.declared.code_numbers.CodeRow.{CodeRow}
use Rattle.abi_slots.specs.declared.words.ThisAdjust.{ThisAdjust}
use Rattle.abi_slots.specs.declared.words.EntryWord.{EntryWord}
use Rattle.abi_slots.specs.declared.words.TableWord.{TableWord}
use Rattle.abi_slots.specs.declared.words.TableWord.TheVariants.{Vcall, Vbase, Top, Info, Entry}
use Rattle.abi_slots.specs.declared.words.EntryKey.{EntryKey}
use Rattle.abi_slots.specs.declared.words.Table.{Table}
use Rattle.abi_slots.specs.declared.words.Group.{Group}
use Rattle.abi_slots.specs.Listing.{own_keys, entry_number, vbase_number}
use Rattle.abi_slots.specs.Views.{View, heads}
use Rattle.abi_slots.specs.Groups.{IsTable, view_of_group, IsGroup}
use Rattle.abi_slots.specs.Dispatch.{IsServedBy, HasOffset, LeadsOn, ThisLeads, as_it_is, by_constant, by_base, RunsOverrider, runs_pure, runs_code}
use Rattle.abi_slots.specs.Images.{Image, HasEntry, StandsAt, point_at}
use Rattle.abi_slots.specs.Seen.{PlacedTables, IsPointOf, HasDistance, Adjusts, as_it_stands, by_number, by_word, Calls, calls_pure, calls_code, Sees, IsSeen}
use Rattle.abi_slots.proofs.Bases.{item_contains}
use Rattle.abi_slots.proofs.Chains.{Setting}
use Rattle.abi_slots.proofs.Heads.{some_table}
use Rattle.abi_slots.proofs.Dispatching.{dispatches, converts, has_top}
use Rattle.abi_slots.proofs.HeadsOnce.{one_number}
use Rattle.abi_slots.proofs.ImageWords.{IsBefore, word_before, word_from}
use Rattle.abi_slots.proofs.OneHead.{one_head}
use Rattle.abi_slots.proofs.WordPlaces.{partner}

module _ (h : Classes) (l : Places) (group : Group) (of : IsGroup h l group) (set : Setting h l (view_of_group group of.class)) (image : Image) (codes : List CodeRow) (info : ClassId → ℕ) (at : ℕ) (stands : StandsAt image codes info group at) where
  abbrev here : View
  here = view_of_group group of.class

  abbrev placed : PlacedTables
  placed = record { image = image; codes = codes; info = info; tables = group.tables; at = at }

  -- the table of an address point
  record IsTableOf (s : Subobject) (point : ℕ) : Type 0 where
    number : ℕ
    table : Table
    there : slice_get group.tables number ≡ Some table
    served : IsServedBy h l (view_of_group group of.class) group s table
    is : point ≡ point_at at group.tables number

  table_at : (s : Subobject) (point : ℕ) → IsPointOf h l here placed s point → IsTableOf s point
  table_at s point p =
      let r = partner (IsTable h l here) (heads h l here) group.tables of.tables p.number p.head p.at_head in
      record { number = p.number; table = r.0; there = r.1; served = record { number = p.number; head = p.head; at_head = p.at_head; at_table = r.1; serves = p.serves }; is = p.is }

  -- a word before the address point
  before : (s : Subobject) (point : ℕ) (t : IsTableOf s point) (j k : ℕ) (word : TableWord) → slice_get t.table.words j ≡ Some word → j + k ≡ t.table.before → IsBefore image codes info (8 * k) point word
  before s point t j k word e is = subst (λ p. IsBefore image codes info (8 * k) p word) (sym t.is) (word_before image codes info group at stands t.number t.table j k word t.there e is)

  offset_before : (s : Subobject) (point : ℕ) (t : IsTableOf s point) (n : ℕ) (word : TableWord) → HasOffset t.table n word → IsBefore image codes info (8 * (n + 3)) point word
  offset_before s point t n word has = before s point t has.number (n + 3) word has.there (let e = has.before in omega arith)

  -- the way from the place of a virtual base on
  on_words : (v : ClassId) (n : ℕ) (o : Subobject) → LeadsOn h l here group v n o → (point : ℕ) → IsPointOf h l here placed (shared_base v) point → HasDistance l here image (shared_base v) o (8 * (n + 3)) point
  on_words v n o on point p =
      let t = table_at (shared_base v) point p in
      let has = on.each t.table t.served in
      let word = offset_before (shared_base v) point t n (Vcall on.distance has.0) has.1 in
      record { at = word.at; before = word.before; distance = on.distance; there = word.there; leads = on.leads }

  adjusts : (s o : Subobject) (this : Option ThisAdjust) → ThisLeads h l here group s o this → Adjusts h l here placed s o this
  adjusts s o _ (as_it_is same) = as_it_stands same
  adjusts s o _ (by_constant distance leads) = by_number distance leads
  adjusts s o _ (by_base v distance n has dyn leads on) = by_word v distance n has dyn leads (on_words v n o on)

  calls : (s : Subobject) (k : EntryKey) (o : Overrider) (word : EntryWord) → RunsOverrider h l here group s k o word → Calls h l here placed s k o word
  calls s k o _ (runs_pure pure) = calls_pure pure
  calls s k o _ (runs_code this code leads) = calls_code this code (adjusts s o.at this leads)

  some_point : (s : Subobject) (c : ClassId) → IsSubobject h of.class s → class_of s ≡ Some c → IsDynamic h c → (point : ℕ) × IsPointOf h l here placed s point
  some_point s c valid e dyn =
      let r = some_table h l group of set s c valid e dyn in
      let at_number = r.1 in
      (point_at at group.tables at_number.number, record { number = at_number.number; head = at_number.head; at_head = at_number.at_head; serves = at_number.serves; is = refl })

  one_point : (s : Subobject) (p q : ℕ) → IsPointOf h l here placed s p → IsPointOf h l here placed s q → p ≡ q
  one_point s p q a b =
      let head : b.head ≡ a.head = one_head h l here set b.head a.head s b.serves a.serves in
      let number : a.number ≡ b.number = one_number h l here a.number b.number a.head a.at_head (b.at_head ∙ ap (λ t. Some t) head) in
      a.is ∙ ap (point_at at group.tables) number ∙ sym b.is

  sees : HasNoFault h → (s : Subobject) (c : ClassId) (point : ℕ) → IsSubobject h of.class s → class_of s ≡ Some c → IsPointOf h l here placed s point → Sees h l here placed s c point
  sees fine s c point valid e p =
      let t = table_at s point p in
      let up = has_top h l group of set s t.table t.served in
      let first = before s point t up.number 2 (Top up.distance) up.top up.before in
      let second = before s point t (up.number + 1) 1 (Info of.class) up.info (let f = up.before in omega arith) in
      record {
        calls = λ k own.
            let d = dispatches h l group of set fine s c t.table k valid e (item_contains (own_keys h c) k own) t.served in
            let word = word_from image codes info group at stands t.number t.table (entry_number h l k) (Entry d.word) t.there d.there in
            record {
              overrider = d.overrider;
              final = d.final;
              word = d.word;
              there = subst (λ a. HasEntry image codes (a + 8 * entry_number h l k) d.word) (sym t.is) word;
              calls = calls s k d.overrider d.word d.runs;
            };
        converts = λ v has.
            let d = converts h l group of set s c t.table v valid e has t.served in
            let word = offset_before s point t (vbase_number h l c v) (Vbase d.distance v) d.there in
            record { at = word.at; before = word.before; distance = d.distance; there = word.there; leads = d.leads };
        top = record { at = first.at; before = first.before; distance = up.distance; there = first.there; leads = up.leads };
        type_of = record { at = second.at; before = second.before; there = second.there };
      }

  pub seen : HasNoFault h → IsSeen h l here placed
  seen fine = record { some_point = some_point; one_point = one_point; sees = sees fine }
