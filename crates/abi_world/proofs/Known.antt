-- The words of all tables name known classes, and the code that they run has numbers.
use Rattle.std.proofs.Common.{◌≡◌, ℕ, ◌+◌, ◌-◌, ⊎_elim, Bool, true, false, Option, Some, List, ◌∷◌, ◌++◌, length, map, refl, ap, subst, ◌∙◌, arith}
use Rattle.std.specs.Prelude.{slice_get, if◌then◌else◌, reverse}
use Rattle.std.proofs.lemmas.List.{length-append, length-reverse, reverse-reverse}
use Rattle.std.proofs.lemmas.Option.{slice_get_within}
use Rattle.foundation.proofs.Places.{get_within}
use Rattle.foundation.proofs.Members.{Has, has_at, has_cases, from_map, index_of}
use Rattle.cxx_hierarchy.specs.Hierarchies.{IsHierarchy}
use Rattle.cxx_subobject.specs.declared.Subobject.{Subobject}
use Rattle.cxx_subobject.specs.Subobjects.{whole_of}
use Rattle.cxx_subobject.proofs.PathLemmas.{class_inside}
use Rattle.cxx_overrider.specs.declared.Overrider.{Overrider}
use Rattle.cxx_overrider.specs.Functions.{is_pure}
use Rattle.cxx_overrider.specs.Overriding.{IsFinalOverrider}
use Rattle.cxx_program.specs.Typed.{IsTypedProgram}
use Rattle.abi_sound.specs.Places.{Places}
use Rattle.abi_slots.specs.declared.code_numbers.CodeRow.{CodeRow}
use Rattle.abi_slots.specs.declared.words.EntryKey.{EntryKey}
use Rattle.abi_slots.specs.declared.words.EntryWord.{EntryWord}
use Rattle.abi_slots.specs.declared.words.EntryWord.TheVariants.{Pure, Code}
use Rattle.abi_slots.specs.declared.words.Group.{Group}
use Rattle.abi_slots.specs.declared.words.Offset.{Offset}
use Rattle.abi_slots.specs.declared.words.ReturnAdjust.{ReturnAdjust}
use Rattle.abi_slots.specs.declared.words.ThisAdjust.{ThisAdjust}
use Rattle.abi_slots.specs.declared.words.Table.{Table}
use Rattle.abi_slots.specs.declared.words.TableWord.{TableWord}
use Rattle.abi_slots.specs.declared.words.TableWord.TheVariants.{Top, Info, Entry}
use Rattle.abi_slots.specs.Groups.{IsGroup, IsTable, IsOffsetWord, IsEntryWord, to_base, to_overrider, nothing, runs, between, view_of_group}
use Rattle.abi_slots.specs.Listing.{entries}
use Rattle.abi_slots.specs.Views.{View, IsView, heads, seen}
use Rattle.abi_slots.proofs.ClassEntries.{IsOwnKey, entry_own}
use Rattle.abi_slots.proofs.Lists.{Item}
use Rattle.abi_slots.proofs.WordPlaces.{reversed_at}
use Rattle.abi_vtable.proofs.Parts.{class_known}
use Rattle.abi_tables.specs.Tables.{AreGroups, names_to}
use Rattle.code_ops.specs.Setups.{Setup, places}
use Rattle.abi_image.specs.Conditions.{HasCode, IsKnownWord, IsKnownTable, AreKnownTables, AreKnownGroups}
use Rattle.abi_world.specs.Made.{HaveCodeNumbers}
use Rattle.abi_world.proofs.Codes.{code_there}

-- what is at a place of a reversed list is an item of the list
reversed_has : {A : Type 0} (xs : List A) (n : ℕ) (x : A) → slice_get (reverse xs) n ≡ Some x → Has xs x
reversed_has xs n x e =
    let inside = slice_get_within (reverse xs) n x e in
    let size = length-reverse xs in
    let i = length (reverse xs) - (n + 1) in
    let there : slice_get (reverse (reverse xs)) i ≡ Some x = reversed_at (reverse xs) n i x e (omega (arith, inside)) in
    has_at xs i x (subst (λ ys. slice_get ys i ≡ Some x) (reverse-reverse xs) there)

module _ (x : Setup) (codes : List CodeRow) (keeps : IsHierarchy x.h) (typed : IsTypedProgram x.h x.program) (numbered : HaveCodeNumbers x codes) where
  abbrev l : Places
  l = places x

  abbrev IsFine : TableWord → Type 0
  IsFine = IsKnownWord codes (length x.h)

  offset_fine : (v : View) (t : Subobject) (o : Offset) (word : TableWord) → IsOffsetWord x.h l v t o word → IsFine word
  offset_fine v t _ _ (to_base b) = tt
  offset_fine v t _ _ (to_overrider path f o is) = tt

  runs_fine : (v : View) (k : EntryKey) (s : Subobject) (o : Overrider) → IsView x.h v → IsFinalOverrider x.h v.class s k.function o → IsOwnKey x.h k → (this : Option ThisAdjust) (result : Option ReturnAdjust) (b : Bool) → is_pure x.h o.function ≡ b → HasCode codes (if b then Pure o.function else Code o.function k.kind this result)
  runs_fine v k s o view final own this result true pure = tt
  runs_fine v k s o view final own this result false pure =
      let c = final.left.candidate in
      code_there x codes typed numbered o.function final.signature k.kind c.same (subst (λ g. Item (Rattle.abi_slots.specs.Listing.kinds_in g) k.kind) final.is own.kind) pure (class_known x.h keeps v view o.at o.function.class c.valid c.class)

  entry_fine : (v : View) (t : Subobject) (k : EntryKey) (word : EntryWord) → IsView x.h v → IsOwnKey x.h k → IsEntryWord x.h l v t k word → HasCode codes word
  entry_fine v t k _ view own (nothing none) = tt
  entry_fine v t k _ view own (runs s o first final) = runs_fine v k s o view final own _ _ (is_pure x.h o.function) refl

  -- the words of a table
  table_fine : (v : View) (t : Subobject) (table : Table) → IsView x.h v → IsTable x.h l v t table → IsKnownTable codes (length x.h) table
  table_fine v t table view is = record {
    words = λ i word there. by_part word (has_at (reverse is.offset_words ++ later) i word (subst (λ (ws : List TableWord). slice_get ws i ≡ Some word) is.words there));
    before =
        let size = length-append (reverse is.offset_words) later in
        let all : length table.words ≡ length (reverse is.offset_words) + length later = ap length is.words ∙ size in
        let reversed = length-reverse is.offset_words in
        let b = is.before in
        omega (arith, all, reversed, b);
  }
    where
      -- the words behind the offsets
      later : List TableWord
      later = Top (between l v.complete (seen v t) (seen v (whole_of v.class))) ∷ Info v.class ∷ map Entry is.entry_words

      of_offset : (word : TableWord) → Has (reverse is.offset_words) word → IsFine word
      of_offset word has =
          let at = index_of (reverse is.offset_words) word has in
          let has' = reversed_has is.offset_words at.0 word at.1 in
          let n = index_of is.offset_words word has' in
          let size = is.are_offsets.size in
          let inside = slice_get_within is.offset_words n.0 word n.1 in
          let o = get_within (Rattle.abi_slots.specs.Listing.offsets x.h l _ table.class) n.0 (omega (arith, size, inside)) in
          offset_fine v t o.0 word (is.are_offsets.each n.0 o.0 word o.1 n.1)

      of_entry : (word : TableWord) → Has (map Entry is.entry_words) word → IsFine word
      of_entry word has =
          let r = from_map Entry is.entry_words word has in
          let n = index_of is.entry_words r.0 r.1 in
          let size = is.are_entries.size in
          let inside = slice_get_within is.entry_words n.0 r.0 n.1 in
          let k = get_within (entries x.h l table.class) n.0 (omega (arith, size, inside)) in
          let fine = entry_fine v t k.0 r.0 view (entry_own x.h l table.class k.0 (record { index = n.0; there = k.1 })) (is.are_entries.each n.0 k.0 r.0 k.1 n.1) in
          subst IsFine r.2 fine

      by_part : (word : TableWord) → Has (reverse is.offset_words ++ later) word → IsFine word
      by_part word has = ⊎_elim (of_offset word)
          (λ rest. ⊎_elim (λ top. subst IsFine top tt) (λ more. ⊎_elim (λ info. subst IsFine info (class_inside x.h keeps v.complete v.class v.at_sub view.known view.valid view.of_class)) (of_entry word) more) rest)
          (has_cases (reverse is.offset_words) later word has)

  group_fine : (group : Group) → IsGroup x.h l group → AreKnownTables codes (length x.h) group.tables
  group_fine group of i table there =
      let size = of.tables.size in
      let inside = slice_get_within group.tables i table there in
      let t = get_within (heads x.h l (view_of_group group of.class)) i (omega (arith, size, inside)) in
      table_fine (view_of_group group of.class) t.0 table of.view (of.tables.each i t.0 table t.1 there)

  pub groups_fine : (groups : List Group) → AreGroups x.h l groups → AreKnownGroups codes (length x.h) groups
  groups_fine groups are i group there =
      let size = are.size in
      let inside = slice_get_within groups i group there in
      let name = get_within (names_to x.h (length x.h)) i (omega (arith, size, inside)) in
      group_fine group (are.each i name.0 group name.1 there).group
