-- The names of the groups of a class, and those in the words of its VTT, are views of it.
use Rattle.std.proofs.Common.{◌≡◌, ℕ, ◌<◌, Some, List, All, length, get_or, sym, subst, arith}
use Rattle.std.specs.Prelude.{slice_get}
use Rattle.std.proofs.lemmas.Option.{slice_get-get_or, slice_get_within}
use Rattle.foundation.proofs.Places.{get_within}
use Rattle.foundation.proofs.Members.{Has, has_at, has_map, index_of}
use Rattle.cxx_hierarchy.specs.declared.records.ClassId.{ClassId}
use Rattle.cxx_hierarchy.specs.Classes.{Classes}
use Rattle.cxx_subobject.specs.declared.Subobject.{Subobject}
use Rattle.cxx_subobject.specs.Subobjects.{IsSubobject}
use Rattle.abi_sound.specs.Places.{Places}
use Rattle.abi_slots.specs.declared.words.Group.{Group}
use Rattle.abi_slots.specs.declared.words.VttWord.{VttWord}
use Rattle.abi_slots.specs.declared.words.GroupName.{GroupName}
use Rattle.abi_slots.specs.Groups.{GoAlong}
use Rattle.abi_tables.specs.Counts.{group_views}
use Rattle.abi_vtt.specs.Vtts.{VttEntry, IsVttWord}
use Rattle.abi_tables.specs.declared.tables.ClassTables.{ClassTables}
use Rattle.abi_tables.specs.Tables.{AreClassTables, class_items, group_name, group_names, IsNamed}
use Rattle.abi_world.proofs.Named.{item_viewed}
use Rattle.abi_print.specs.TableTexts.{IsViewName}

-- the items with which one goes along
along : {A : Type 0} {B : Type 0} (R : A → B → Type 0) (xs : List A) (ys : List B) (i : ℕ) (b : B) → GoAlong R xs ys → slice_get ys i ≡ Some b → (a : A) × (slice_get xs i ≡ Some a) × R a b
along R xs ys i b go at =
    let size = go.size in
    let lt = slice_get_within ys i b at in
    let a = get_within xs i (omega arith) in
    (a.0, a.1, go.each i a.0 b a.1 at)

beside : {A : Type 0} {B : Type 0} (R : A → B → Type 0) (xs : List A) (ys : List B) (i : ℕ) (a : A) → GoAlong R xs ys → slice_get xs i ≡ Some a → (b : B) × (slice_get ys i ≡ Some b) × R a b
beside R xs ys i a go at =
    let size = go.size in
    let lt = slice_get_within xs i a at in
    let b = get_within ys i (omega arith) in
    (b.0, b.1, go.each i a b.0 at b.1)

-- a view has a group, so that it is a subobject
valid_view : (h : Classes) (l : Places) (c : ClassId) (tables : ClassTables) (s : Subobject) → AreClassTables h l c tables → Has (group_views h c) s → IsSubobject h c s
valid_view h l c tables s are listed =
    let name = index_of (group_names h c) (group_name c s) (has_map (group_name c) (group_views h c) s listed) in
    let group = beside (IsNamed h l) (group_names h c) tables.groups name.0 (group_name c s) are.groups name.1 in
    subst (λ (n : GroupName). IsSubobject h n.complete n.view) group.2.is group.2.group.view.valid

word_named : (h : Classes) (l : Places) (c : ClassId) (tables : ClassTables) (i : VttEntry) (word : VttWord) → c.0 < length h → AreClassTables h l c tables → Has (class_items h l c) i → IsVttWord h l c i word → IsViewName h word.group
word_named h l c tables i word known are has is = record {
  known = subst (λ (k : ClassId). k.0 < length h) (sym is.complete) known;
  valid = subst (λ (k : ClassId). IsSubobject h k word.group.view) (sym is.complete)
      (subst (λ (s : Subobject). IsSubobject h c s) (sym is.view) (valid_view h l c tables i.view are (item_viewed h l c i has)));
}

-- the words of the VTT of a class
pub words_named : (h : Classes) (l : Places) (c : ClassId) (tables : ClassTables) → c.0 < length h → AreClassTables h l c tables → All (λ (word : VttWord). IsViewName h word.group) tables.vtt
words_named h l c tables known are = λ k d lt.
    let there = slice_get-get_or tables.vtt k d lt in
    let i = along (IsVttWord h l c) (class_items h l c) tables.vtt k (get_or tables.vtt k d) are.vtt there in
    word_named h l c tables i.0 (get_or tables.vtt k d) known are (has_at (class_items h l c) k i.0 i.1) i.2

-- the groups of a class
pub groups_named : (h : Classes) (l : Places) (c : ClassId) (tables : ClassTables) → AreClassTables h l c tables → All (λ (group : Group). IsViewName h group.name) tables.groups
groups_named h l c tables are = λ k d lt.
    let there = slice_get-get_or tables.groups k d lt in
    let name = along (IsNamed h l) (group_names h c) tables.groups k (get_or tables.groups k d) are.groups there in
    record { known = name.2.group.view.known; valid = name.2.group.view.valid }
