-- Each dynamic subobject of a class has a group, where no condition refuses the hierarchy.
use Rattle.std.proofs.Common.{◌≡◌, ℕ, zero, suc, ◌+◌, ◌<◌, Bool, true, Option, Some, None, List, ◌∷◌, ◌++◌, map, length, reverse, refl, ap, subst, sym, ◌∙◌}
use Rattle.std.specs.Prelude.{◌&&◌, if◌then◌else◌}
use Rattle.std.proofs.lemmas.Bool.{and_parts}
use Rattle.foundation.proofs.Truth.{split}
use Rattle.cxx_hierarchy.specs.declared.records.ClassId.{ClassId}
use Rattle.cxx_hierarchy.specs.Classes.{Classes}
use Rattle.cxx_subobject.specs.declared.Subobject.{Subobject}
use Rattle.cxx_subobject.specs.Subobjects.{IsSubobject, shared_base, whole_of, class_of}
use Rattle.cxx_subobject.proofs.PathLemmas.{class_there}
use Rattle.cxx_overrider.specs.declared.FunctionId.{FunctionId}
use Rattle.cxx_overrider.specs.Faults.{HasNoFault}
use Rattle.cxx_overrider.specs.Overriding.{IsVirtualIn}
use Rattle.cxx_overrider.proofs.FinalLaws.{some_final}
use Rattle.abi_sound.specs.Places.{Places}
use Rattle.abi_slots.specs.declared.words.EntryKey.{EntryKey}
use Rattle.abi_slots.specs.declared.words.EntryWord.{EntryWord}
use Rattle.abi_slots.specs.declared.words.EntryWord.TheVariants.{Unused}
use Rattle.abi_slots.specs.declared.words.Group.{Group}
use Rattle.abi_slots.specs.declared.words.Offset.{Offset}
use Rattle.abi_slots.specs.declared.words.Offset.TheVariants.{ToBase, ToOverrider}
use Rattle.abi_slots.specs.declared.words.Table.{Table}
use Rattle.abi_slots.specs.declared.words.TableWord.{TableWord}
use Rattle.abi_slots.specs.declared.words.TableWord.TheVariants.{Vcall, Vbase, Top, Info, Entry}
use Rattle.cxx_overrider.specs.Virtuals.{same_name, own}
use Rattle.abi_slots.specs.Listing.{entry_key, same_entry_key, listing, entries, offsets}
use Rattle.abi_slots.specs.Views.{View, seen, place, next, along_chain, first_in, heads}
use Rattle.abi_slots.specs.Groups.{GoAlong, between, named_in, IsOffsetWord, to_base, to_overrider, declares_in, declares_at, declarer, code_word, IsEntryWord, nothing, runs, is_shared_base, IsTable}
use Rattle.abi_slots.proofs.Lists.{Item, item_any}
use Rattle.abi_slots.proofs.Owns.{own_class, own_virtual}
use Rattle.abi_slots.proofs.Chains.{Setting, walk_under}
use Rattle.abi_vtable.specs.invariants.Words.{NamesVirtual as IsNamedOffset}
use Rattle.abi_vtable.proofs.Offsets.{offset_named}
use Rattle.abi_vtable.proofs.Over.{other_name}
use Rattle.abi_tables.specs.Tables.{IsNamed, group_name}
use Rattle.abi_tables.proofs.Along.{some_along}
use Rattle.abi_vtt.proofs.Serving.{head_valid}
use Rattle.abi_tables.proofs.GroupViews.{IsDynamicPart, view_of_part}

-- what is found down a chain stands in it, and passes
record IsFoundDown (p : Subobject → Bool) (go : Subobject → Option Subobject) (t s : Subobject) : Type 0 where
  steps : ℕ
  leads : along_chain go steps (Some t) ≡ Some s
  passes : p s ≡ true

found_down : (p : Subobject → Bool) (go : Subobject → Option Subobject) (fuel : ℕ) (t s : Subobject) → first_in p go fuel (Some t) ≡ Some s → IsFoundDown p go t s
found_down p go zero t s e = cc
found_down p go (suc fuel) t s e = split (p t) (λ b. p t ≡ b → (if b then Some t else first_in p go fuel (go t)) ≡ Some s → IsFoundDown p go t s)
    (λ b passes f. let same : t ≡ s = cc in record { steps = 0; leads = ap (λ a. Some a) same; passes = ap p (sym same) ∙ passes })
    (λ b fails f. by_next (go t) refl f (λ u g. found_down p go fuel u s g))
    refl e
  where
    none_found : (n : ℕ) → first_in p go n None ≡ None
    none_found zero = refl
    none_found (suc n) = refl

    by_next : (o : Option Subobject) → go t ≡ o → first_in p go fuel o ≡ Some s → ((u : Subobject) → first_in p go fuel (Some u) ≡ Some s → IsFoundDown p go u s) → IsFoundDown p go t s
    by_next None is f rest = absurd (let none = none_found fuel in cc)
    by_next (Some u) is f rest = let r = rest u f in record { steps = suc r.steps; leads = ap (along_chain go r.steps) is ∙ r.leads; passes = r.passes }

-- a function that a class declares at an entry
record Declares (h : Classes) (k : EntryKey) (c : ClassId) : Type 0 where
  function : FunctionId
  item : Item (own h c) function
  named : same_name h function k.function ≡ true

some_declared : (h : Classes) (l : Places) (k : EntryKey) (o : Option ClassId) (c : ClassId) → o ≡ Some c → declares_in h l k o ≡ true → Declares h k c
some_declared h l k None c is e = cc
some_declared h l k (Some d) c is e =
    let r = item_any (λ f. same_name h f k.function && same_entry_key (listing h l (entry_key f k.kind)) k) (own h d) e in
    let both = and_parts (same_name h r.0 k.function) (same_entry_key (listing h l (entry_key r.0 k.kind)) k) r.2 in
    let same : d ≡ c = cc in
    record { function = r.0; item = subst (λ a. Item (own h a) r.0) same r.1; named = both.0 }

module _ (h : Classes) (l : Places) (x : View) (set : Setting h l x) (fine : HasNoFault h) where
  some_offset : (t : Subobject) (y : Offset) → IsNamedOffset h x.class y → (w : TableWord) × IsOffsetWord h l x t y w
  some_offset t (ToBase v) named = (Vbase (between l x.complete (seen x t) (seen x (shared_base v))) v, to_base v)
  some_offset t (ToOverrider path f) named =
      let r = some_final h set.keeps fine x.class (named_in x.class path) f named in
      (Vcall (between l x.complete (seen x t) (seen x r.0.at)) f, to_overrider path f r.0 r.1)

  -- the function that is declared at the entry has a final overrider there
  some_run : (t s : Subobject) (k : EntryKey) → IsSubobject h x.class t → declarer h l x t k ≡ Some s → (w : EntryWord) × IsEntryWord h l x t k w
  some_run t s k valid e =
      let down = found_down (declares_at h l k) (next l x) (x.class.0 + 1) t s e in
      let inner = (walk_under h l x set down.steps t s valid down.leads).under.valid_below in
      let c = class_there h x.class s inner in
      let d = some_declared h l k (class_of s) c.0 c.1 down.passes in
      let is_virtual : IsVirtualIn h x.class s d.function = record {
        valid = inner;
        class = c.1 ∙ ap (λ a. Some a) (sym (own_class h c.0 d.function d.item));
        is_virtual = own_virtual h set.keeps c.0 d.function d.item;
      } in
      let r = some_final h set.keeps fine x.class s d.function is_virtual in
      (code_word h l x k s r.0, runs s r.0 e (other_name h x.class s d.function k.function r.0 d.named r.1))

  some_entry : (t : Subobject) (k : EntryKey) → IsSubobject h x.class t → (w : EntryWord) × IsEntryWord h l x t k w
  some_entry t k valid = by_declarer (declarer h l x t k) refl
    where
      by_declarer : (o : Option Subobject) → declarer h l x t k ≡ o → (w : EntryWord) × IsEntryWord h l x t k w
      by_declarer None e = (Unused, nothing e)
      by_declarer (Some s) e = some_run t s k valid e

  -- each head has a table
  some_table : (t : Subobject) → IsSubobject h x.class t → (table : Table) × IsTable h l x t table
  some_table t valid =
      let c = class_there h x.class t valid in
      let shared_one = is_shared_base (seen x t) in
      let os = some_along (IsOffsetWord h l x t) (offsets h l shared_one c.0) (λ y i. some_offset t y (offset_named h l x set t c.0 valid c.1 i.index y i.there)) in
      let es = some_along (IsEntryWord h l x t) (entries h l c.0) (λ k i. some_entry t k valid) in
      let table : Table = record {
        class = c.0;
        place = place l x t;
        before = length os.0 + 2;
        words = reverse os.0 ++ Top (between l x.complete (seen x t) (seen x (whole_of x.class))) ∷ Info x.class ∷ map Entry es.0;
      } in
      (table, record { class = c.1; place = refl; offset_words = os.0; are_offsets = os.1; entry_words = es.0; are_entries = es.1; words = refl; before = refl })

  pub some_list : (tables : List Table) × GoAlong (IsTable h l x) (heads h l x) tables
  some_list = some_along (IsTable h l x) (heads h l x) (λ t i. some_table t (head_valid h l set.keeps x t i))

-- the group of a view
pub some_group : (h : Classes) (l : Places) → HasNoFault h → (c : ClassId) (s : Subobject) → c.0 < length h → (part : IsDynamicPart h c s) → Setting h l (record { complete = c; at_sub = s; class = part.class }) → (group : Group) × IsNamed h l (group_name c s) group
some_group h l fine c s known part set =
    let x : View = record { complete = c; at_sub = s; class = part.class } in
    let list = some_list h l x set fine in
    let group : Group = record { name = group_name c s; tables = list.0 } in
    (group, record { is = refl; group = record { class = part.class; view = view_of_part h c s known part; tables = list.1 } })
