-- The tables of one class more, put behind those before.
use Rattle.std.proofs.Common.{◌≡◌, ℕ, suc, ◌+◌, List, [], ◌∷◌, ◌++◌, length, refl, sym, ap, subst, ◌∙◌, arith, ⊎_elim, append_assoc}
use Rattle.std.proofs.lemmas.List.{append-nil}
use Rattle.abi_vtt.proofs.WordSteps.{along_more}
use Rattle.foundation.proofs.Places.{get_pushed, length_pushed}
use Rattle.cxx_hierarchy.specs.declared.records.ClassId.{ClassId}
use Rattle.cxx_hierarchy.specs.Classes.{Classes}
use Rattle.abi_sound.specs.Places.{Places}
use Rattle.abi_slots.specs.declared.words.Group.{Group}
use Rattle.abi_slots.specs.declared.words.VttWord.{VttWord}
use Rattle.abi_slots.specs.declared.words.TypeInfo.{TypeInfo}
use Rattle.abi_slots.specs.Groups.{GoAlong}
use Rattle.abi_rtti.specs.TypeInfos.{type_info}
use Rattle.abi_vtt.specs.Vtts.{IsVttWord}
use Rattle.abi_tables.specs.Tables.{AreClassTables, IsNamed, group_names, names_to, class_items}
use Rattle.abi_tables.specs.declared.tables.ClassTables.{ClassTables}
use Rattle.abi_world.specs.Made.{AreTablesTo}

-- lists that go along, put behind others that do
along_both : {A B : Type 0} (R : A → B → Type 0) (xs more : List A) (ys new : List B) → GoAlong R xs ys → GoAlong R more new → GoAlong R (xs ++ more) (ys ++ new)
along_both R xs [] ys [] along go = subst (λ zs. GoAlong R zs (ys ++ [])) (sym (append-nil xs)) (subst (λ zs. GoAlong R xs zs) (sym (append-nil ys)) along)
along_both R xs [] ys (b ∷ new) along go = absurd (let e = go.size in omega arith)
along_both R xs (a ∷ more) ys [] along go = absurd (let e = go.size in omega arith)
along_both R xs (a ∷ more) ys (b ∷ new) along go =
    let first = along_more R xs ys a b along (go.each 0 a b refl refl) in
    let rest : GoAlong R more new = record { size = (let e = go.size in omega arith); each = λ i p q e f. go.each (suc i) p q e f } in
    let all = along_both R (xs ++ a ∷ []) more (ys ++ b ∷ []) new first rest in
    subst (λ zs. GoAlong R zs (ys ++ b ∷ new)) (append_assoc xs (a ∷ []) more) (subst (λ zs. GoAlong R ((xs ++ a ∷ []) ++ more) zs) (append_assoc ys (b ∷ []) new) all)

pub none_before : (h : Classes) (l : Places) (groups : List Group) (vtts : List (List VttWord)) (infos : List TypeInfo) → groups ≡ [] → vtts ≡ [] → infos ≡ [] → AreTablesTo h l 0 groups vtts infos
none_before h l groups vtts infos a b c =
    let none : AreTablesTo h l 0 [] [] [] = record {
      groups_are = record { size = refl; each = λ i x y e f. cc };
      one_vtt_each = refl;
      vtts_are = λ d words e. cc;
      one_info_each = refl;
      infos_are = λ d info e. cc;
    } in
    subst (λ gs. AreTablesTo h l 0 gs vtts infos) (sym a) (subst (λ vs. AreTablesTo h l 0 [] vs infos) (sym b) (subst (λ is. AreTablesTo h l 0 [] [] is) (sym c) none))

same_class : (c d : ClassId) → c.0 ≡ d.0 → c ≡ d
same_class c d e = λ i. record { 0 = e i }

-- the tables of the class behind the first n
pub one_more : (h : Classes) (l : Places) (n : ℕ) (groups new_groups : List Group) (vtts new_vtts : List (List VttWord)) (infos new_infos : List TypeInfo) (tables : ClassTables) → AreTablesTo h l n groups vtts infos → AreClassTables h l (record { 0 = n }) tables
    → new_groups ≡ groups ++ tables.groups → new_vtts ≡ vtts ++ tables.vtt ∷ [] → new_infos ≡ infos ++ tables.info ∷ [] → AreTablesTo h l (n + 1) new_groups new_vtts new_infos
one_more h l n groups new_groups vtts new_vtts infos new_infos tables before of a b c =
    subst (λ gs. AreTablesTo h l (n + 1) gs new_vtts new_infos) (sym a) (subst (λ vs. AreTablesTo h l (n + 1) (groups ++ tables.groups) vs new_infos) (sym b) (subst (λ is. AreTablesTo h l (n + 1) (groups ++ tables.groups) (vtts ++ tables.vtt ∷ []) is) (sym c) more))
  where
    next : suc n ≡ n + 1
    next = omega arith

    more : AreTablesTo h l (n + 1) (groups ++ tables.groups) (vtts ++ tables.vtt ∷ []) (infos ++ tables.info ∷ [])
    more = record {
      groups_are = subst (λ m. GoAlong (IsNamed h l) (names_to h m) (groups ++ tables.groups)) next (along_both (IsNamed h l) (names_to h n) (group_names h (record { 0 = n })) groups tables.groups before.groups_are of.groups);
      one_vtt_each = length_pushed vtts tables.vtt ∙ ap (λ m. m + 1) before.one_vtt_each;
      vtts_are = λ d words there. ⊎_elim (λ old. before.vtts_are d words old)
          (λ last. let e : d.0 ≡ n = last.0 ∙ before.one_vtt_each in
          subst (λ ws. GoAlong (IsVttWord h l d) (class_items h l d) ws) (sym last.1) (subst (λ (x : ClassId). GoAlong (IsVttWord h l x) (class_items h l x) tables.vtt) (same_class (record { 0 = n }) d (sym e)) of.vtt))
          (get_pushed vtts tables.vtt d.0 words there);
      one_info_each = length_pushed infos tables.info ∙ ap (λ m. m + 1) before.one_info_each;
      infos_are = λ d info there. ⊎_elim (λ old. before.infos_are d info old)
          (λ last. let e : d.0 ≡ n = last.0 ∙ before.one_info_each in
          last.1 ∙ of.info ∙ ap (type_info h l) (same_class (record { 0 = n }) d (sym e)))
          (get_pushed infos tables.info d.0 info there);
    }

pub all_classes : (h : Classes) (l : Places) (n : ℕ) (groups : List Group) (vtts : List (List VttWord)) (infos : List TypeInfo) → n ≡ length h → AreTablesTo h l n groups vtts infos → AreTablesTo h l (length h) groups vtts infos
all_classes h l n groups vtts infos e are = subst (λ m. AreTablesTo h l m groups vtts infos) e are
