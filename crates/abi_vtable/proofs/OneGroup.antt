-- A view has one group at most.
use Rattle.std.proofs.Common.{◌≡◌, ℕ, suc, ◌+◌, Option, Some, None, List, [], ◌∷◌, ◌++◌, map, length, reverse, refl, ap, subst, sym, ◌∙◌, arith}
use Rattle.cxx_hierarchy.specs.declared.records.ClassId.{ClassId}
use Rattle.cxx_hierarchy.specs.Classes.{Classes}
use Rattle.cxx_subobject.specs.declared.Subobject.{Subobject}
use Rattle.cxx_subobject.specs.Subobjects.{shared_base, whole_of, class_of}
use Rattle.cxx_overrider.specs.declared.FunctionId.{FunctionId}
use Rattle.cxx_overrider.specs.declared.Overrider.{Overrider}
use Rattle.cxx_overrider.specs.Overriding.{IsFinalOverrider}
use Rattle.cxx_overrider.proofs.FinalLaws.{one_at_most}
use Rattle.abi_sound.specs.Places.{Places}
use Rattle.abi_slots.specs.declared.words.EntryWord.{EntryWord}
use Rattle.abi_slots.specs.declared.words.EntryWord.TheVariants.{Unused}
use Rattle.abi_slots.specs.declared.words.TableWord.{TableWord}
use Rattle.abi_slots.specs.declared.words.TableWord.TheVariants.{Vcall, Vbase, Top, Info, Entry}
use Rattle.abi_slots.specs.declared.words.EntryKey.{EntryKey}
use Rattle.abi_slots.specs.declared.words.Offset.{Offset}
use Rattle.abi_slots.specs.declared.words.Offset.TheVariants.{ToBase, ToOverrider}
use Rattle.abi_slots.specs.declared.words.Table.{Table}
use Rattle.abi_slots.specs.declared.words.GroupName.{GroupName}
use Rattle.abi_slots.specs.declared.words.Group.{Group}
use Rattle.abi_slots.specs.Listing.{entries, offsets}
use Rattle.abi_slots.specs.Views.{View, seen, heads}
use Rattle.abi_slots.specs.Groups.{GoAlong, between, named_in, IsOffsetWord, to_base, to_overrider, declarer, code_word, IsEntryWord, nothing, runs, is_shared_base, IsTable, view_of_group, IsGroup}
use Rattle.abi_slots.proofs.Chains.{same_some}

-- two lists that go along with one are equal, where an item has one partner
pub along_same : {A : Type 0} {B : Type 0} (R : A → B → Type 0) → ((a : A) (b c : B) → R a b → R a c → b ≡ c) → (xs : List A) (ys zs : List B) → GoAlong R xs ys → GoAlong R xs zs → ys ≡ zs
along_same R one [] [] [] a b = refl
along_same R one [] [] (z ∷ zs) a b = absurd (let e = b.size in omega arith)
along_same R one [] (y ∷ ys) zs a b = absurd (let e = a.size in omega arith)
along_same R one (x ∷ xs) [] zs a b = absurd (let e = a.size in omega arith)
along_same R one (x ∷ xs) (y ∷ ys) [] a b = absurd (let e = b.size in omega arith)
along_same R one (x ∷ xs) (y ∷ ys) (z ∷ zs) a b =
    ap (λ w. w ∷ ys) (one x y z (a.each 0 x y refl refl) (b.each 0 x z refl refl)) ∙ ap (λ ws. z ∷ ws) (along_same R one xs ys zs
    (record { size = (let e = a.size in omega arith); each = λ i p q e f. a.each (suc i) p q e f })
    (record { size = (let e = b.size in omega arith); each = λ i p q e f. b.each (suc i) p q e f }))

module _ (h : Classes) (l : Places) (x : View) where
  base_word : (t : Subobject) (v : ClassId) (w : TableWord) → IsOffsetWord h l x t (ToBase v) w → w ≡ Vbase (between l x.complete (seen x t) (seen x (shared_base v))) v
  base_word t v _ (to_base u) = refl

  record IsCallWord (t : Subobject) (path : List ClassId) (f : FunctionId) (w : TableWord) : Type 0 where
    overrider : Overrider
    final : IsFinalOverrider h x.class (named_in x.class path) f overrider
    is : w ≡ Vcall (between l x.complete (seen x t) (seen x overrider.at)) f

  call_word : (t : Subobject) (path : List ClassId) (f : FunctionId) (w : TableWord) → IsOffsetWord h l x t (ToOverrider path f) w → IsCallWord t path f w
  call_word t path f _ (to_overrider p g o final) = record { overrider = o; final = final; is = refl }

  one_offset : (t : Subobject) (o : Offset) (v w : TableWord) → IsOffsetWord h l x t o v → IsOffsetWord h l x t o w → v ≡ w
  one_offset t (ToBase u) v w a b = base_word t u v a ∙ sym (base_word t u w b)
  one_offset t (ToOverrider path f) v w a b =
      let m = call_word t path f v a in
      let n = call_word t path f w b in
      m.is ∙ ap (λ (o : Overrider). Vcall (between l x.complete (seen x t) (seen x o.at)) f) (one_at_most h x.class (named_in x.class path) f m.overrider n.overrider m.final n.final) ∙ sym n.is

  unused_word : (t : Subobject) (k : EntryKey) (w : EntryWord) → declarer h l x t k ≡ None → IsEntryWord h l x t k w → w ≡ Unused
  unused_word t k _ e (nothing none) = refl
  unused_word t k _ e (runs s o is final) = absurd (let a = e in let b = is in cc)

  record IsRunWord (s : Subobject) (k : EntryKey) (w : EntryWord) : Type 0 where
    overrider : Overrider
    final : IsFinalOverrider h x.class s k.function overrider
    is : w ≡ code_word h l x k s overrider

  run_word : (t : Subobject) (k : EntryKey) (s : Subobject) (w : EntryWord) → declarer h l x t k ≡ Some s → IsEntryWord h l x t k w → IsRunWord s k w
  run_word t k s _ e (nothing none) = absurd (let a = e in let b = none in cc)
  run_word t k s _ e (runs i o is final) =
      let same : i ≡ s = same_some i s (sym is ∙ e) in
      record { overrider = o; final = subst (λ a. IsFinalOverrider h x.class a k.function o) same final; is = ap (λ a. code_word h l x k a o) same }

  one_entry : (t : Subobject) (k : EntryKey) (v w : EntryWord) → IsEntryWord h l x t k v → IsEntryWord h l x t k w → v ≡ w
  one_entry t k v w a b = by_declarer (declarer h l x t k) refl
    where
      by_declarer : (o : Option Subobject) → declarer h l x t k ≡ o → v ≡ w
      by_declarer None e = unused_word t k v e a ∙ sym (unused_word t k w e b)
      by_declarer (Some s) e =
          let m = run_word t k s v e a in
          let n = run_word t k s w e b in
          m.is ∙ ap (code_word h l x k s) (one_at_most h x.class s k.function m.overrider n.overrider m.final n.final) ∙ sym n.is

  one_table : (t : Subobject) (a b : Table) → IsTable h l x t a → IsTable h l x t b → a ≡ b
  one_table t a b m n =
      let class : a.class ≡ b.class = same_some a.class b.class (sym m.class ∙ n.class) in
      let place : a.place ≡ b.place = m.place ∙ sym n.place in
      let offsets_same : m.offset_words ≡ n.offset_words = along_same (IsOffsetWord h l x t) (one_offset t) (offsets h l (is_shared_base (seen x t)) a.class) m.offset_words n.offset_words m.are_offsets
      (subst (λ c. GoAlong (IsOffsetWord h l x t) (offsets h l (is_shared_base (seen x t)) c) n.offset_words) (sym class) n.are_offsets) in
      let entries_same : m.entry_words ≡ n.entry_words = along_same (IsEntryWord h l x t) (one_entry t) (entries h l a.class) m.entry_words n.entry_words m.are_entries
      (subst (λ c. GoAlong (IsEntryWord h l x t) (entries h l c) n.entry_words) (sym class) n.are_entries) in
      let top = Top (between l x.complete (seen x t) (seen x (whole_of x.class))) in
      let words : a.words ≡ b.words = m.words ∙ ap (λ os. reverse os ++ top ∷ Info x.class ∷ map Entry m.entry_words) offsets_same ∙ ap (λ es. reverse n.offset_words ++ top ∷ Info x.class ∷ map Entry es) entries_same ∙ sym n.words in
      let before : a.before ≡ b.before = m.before ∙ ap (λ (os : List TableWord). length os + 2) offsets_same ∙ sym n.before in
      let make : ClassId → ℕ → ℕ → List TableWord → Table = λ c p k ws. record { class = c; place = p; before = k; words = ws } in
      let one : make a.class a.place a.before a.words ≡ make b.class b.place b.before b.words =
      ap (λ c. make c a.place a.before a.words) class ∙ ap (λ p. make b.class p a.before a.words) place ∙ ap (λ k. make b.class b.place k a.words) before ∙ ap (make b.class b.place b.before) words in
      one

abbrev view_by : GroupName → ClassId → View
view_by n c = record { complete = n.complete; at_sub = n.view; class = c }

pub groups_same : (h : Classes) (l : Places) (a b : Group) → IsGroup h l a → IsGroup h l b → a.name ≡ b.name → a ≡ b
groups_same h l a b m n e =
    let class : m.class ≡ n.class = same_some m.class n.class (sym m.view.of_class ∙ ap (λ (g : GroupName). class_of g.view) e ∙ n.view.of_class) in
    let view : view_of_group a m.class ≡ view_of_group b n.class = ap (λ g. view_by g m.class) e ∙ ap (view_by b.name) class in
    let x = view_of_group a m.class in
    let tables : a.tables ≡ b.tables = along_same (IsTable h l x) (one_table h l x) (heads h l x) a.tables b.tables m.tables
    (subst (λ y. GoAlong (IsTable h l y) (heads h l y) b.tables) (sym view) n.tables) in
    let make : GroupName → List Table → Group = λ g ts. record { name = g; tables = ts } in
    let one : make a.name a.tables ≡ make b.name b.tables = ap (λ g. make g a.tables) e ∙ ap (make b.name) tables in
    one
