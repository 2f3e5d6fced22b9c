-- A class has one list of tables at most.
use Rattle.std.proofs.Common.{◌≡◌, ℕ, ◌<◌, Some, List, length, ap, subst, sym, ◌∙◌}
use Rattle.std.specs.Prelude.{slice_get}
use Rattle.cxx_hierarchy.specs.declared.records.ClassId.{ClassId}
use Rattle.cxx_hierarchy.specs.Classes.{Classes}
use Rattle.cxx_hierarchy.specs.Hierarchies.{IsHierarchy}
use Rattle.cxx_subobject.specs.declared.Subobject.{Subobject}
use Rattle.abi_sound.specs.declared.class_layout.ClassLayout.{ClassLayout}
use Rattle.abi_sound.specs.Places.{Places, places_of}
use Rattle.abi_sound.specs.Sound.{IsSoundLayout}
use Rattle.abi_slots.specs.declared.words.Group.{Group}
use Rattle.abi_slots.specs.declared.words.GroupName.{GroupName}
use Rattle.abi_slots.specs.declared.words.TypeInfo.{TypeInfo}
use Rattle.abi_slots.specs.declared.words.VttWord.{VttWord}
use Rattle.abi_slots.specs.Views.{View, heads, Serves}
use Rattle.abi_slots.proofs.Chains.{same_some}
use Rattle.abi_slots.proofs.OneHead.{one_head}
use Rattle.abi_slots.proofs.Settings.{setting_of}
use Rattle.abi_vtable.proofs.OneGroup.{groups_same}
use Rattle.abi_vtt.specs.Vtts.{VttEntry as VttItem, IsVttWord}
use Rattle.abi_tables.specs.declared.tables.ClassTables.{ClassTables}
use Rattle.abi_tables.specs.Tables.{IsNamed, group_names, class_items, AreClassTables}
use Rattle.abi_tables.proofs.Along.{one_along}
use Rattle.abi_tables.proofs.GroupViews.{IsItemOf, view_of_part, class_item}
use Rattle.abi_slots.proofs.HeadsOnce.{one_number}

named_one : (h : Classes) (l : Places) (name : GroupName) (a b : Group) → IsNamed h l name a → IsNamed h l name b → a ≡ b
named_one h l name a b m n = groups_same h l a b m.group n.group (m.is ∙ sym n.is)

abbrev name_by : ClassId → Subobject → GroupName
name_by c x = record { complete = c; view = x }

abbrev view_by : ClassId → Subobject → ClassId → View
view_by c x d = record { complete = c; at_sub = x; class = d }

word_one : (h : Classes) (rows : List ClassLayout) → IsHierarchy h → IsSoundLayout h rows → (c : ClassId) → c.0 < length h → (i : VttItem) → IsItemOf h c i → (a b : VttWord) → IsVttWord h (places_of h rows) c i a → IsVttWord h (places_of h rows) c i b → a ≡ b
word_one h rows keeps sound c known i of a b m n =
    let l = places_of h rows in
    let d = of.view.class in
    let x = view_by c i.view d in
    let one : m.class ≡ d = same_some m.class d (sym m.of_class ∙ of.view.of_class) in
    let other : n.class ≡ d = same_some n.class d (sym n.of_class ∙ of.view.of_class) in
    let at_one : slice_get (heads h l x) a.table ≡ Some m.head = subst (λ e. slice_get (heads h l (view_by c i.view e)) a.table ≡ Some m.head) one m.there in
    let at_other : slice_get (heads h l x) b.table ≡ Some n.head = subst (λ e. slice_get (heads h l (view_by c i.view e)) b.table ≡ Some n.head) other n.there in
    let by_one : Serves h l x m.head i.served = subst (λ e. Serves h l (view_by c i.view e) m.head i.served) one m.serves in
    let by_other : Serves h l x n.head i.served = subst (λ e. Serves h l (view_by c i.view e) n.head i.served) other n.serves in
    let head = one_head h l x (setting_of h rows keeps sound x (view_of_part h c i.view known of.view)) m.head n.head i.served by_one by_other in
    let table : a.table ≡ b.table = one_number h l x a.table b.table n.head (at_one ∙ ap (λ s. Some s) head) at_other in
    let complete : a.group.complete ≡ b.group.complete = m.complete ∙ sym n.complete in
    let view : a.group.view ≡ b.group.view = m.view ∙ sym n.view in
    let make : ClassId → Subobject → ℕ → VttWord = λ e s t. record { group = name_by e s; table = t } in
    let all : make a.group.complete a.group.view a.table ≡ make b.group.complete b.group.view b.table =
    ap (λ e. make e a.group.view a.table) complete ∙ ap (λ s. make b.group.complete s a.table) view ∙ ap (make b.group.complete b.group.view) table in
    all

pub tables_same : (h : Classes) (rows : List ClassLayout) (c : ClassId) (a b : ClassTables) → IsHierarchy h → IsSoundLayout h rows → c.0 < length h → AreClassTables h (places_of h rows) c a → AreClassTables h (places_of h rows) c b → a ≡ b
tables_same h rows c a b keeps sound known m n =
    let l = places_of h rows in
    let groups : a.groups ≡ b.groups = one_along (IsNamed h l) (group_names h c) a.groups b.groups (λ name i p q. named_one h l name p q) m.groups n.groups in
    let vtt : a.vtt ≡ b.vtt = one_along (IsVttWord h l c) (class_items h l c) a.vtt b.vtt (λ i there p q. word_one h rows keeps sound c known i (class_item h keeps l c i there) p q) m.vtt n.vtt in
    let info : a.info ≡ b.info = m.info ∙ sym n.info in
    let make : List Group → List VttWord → TypeInfo → ClassTables = λ gs ws t. record { groups = gs; vtt = ws; info = t } in
    let all : make a.groups a.vtt a.info ≡ make b.groups b.vtt b.info = ap (λ gs. make gs a.vtt a.info) groups ∙ ap (λ ws. make b.groups ws a.info) vtt ∙ ap (make b.groups b.vtt) info in
    all
