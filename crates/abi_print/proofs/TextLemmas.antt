-- The words of a table that are left, the groups of the words of a VTT, and views that differ.
use Rattle.std.proofs.Common.{◌≡◌, ◌∙◌, ℕ, zero, suc, ◌+◌, ◌<◌, ◌≤◌, true, false, Option, Some, None, List, [], ◌∷◌, ◌++◌, length, get_or, drop, ℤ, pos, ◌+ℤ◌, append_assoc, add-one, refl, ap, sym, arith}
use Rattle.std.specs.Prelude.{codes}
use Rattle.std.specs.Fmt.{decimal, signed_decimal}
use Rattle.std.specs.List.{slice_get, find}
use Rattle.std.proofs.Math.Seq.{drop-cons}
use Rattle.std.proofs.lemmas.Option.{slice_get-get_or}
use Rattle.foundation.proofs.Truth.{is_false}
use Rattle.cxx_hierarchy.specs.Classes.{Classes}
use Rattle.cxx_subobject.specs.declared.Subobject.{Subobject}
use Rattle.cxx_subobject.specs.Subobjects.{same_subobject}
use Rattle.cxx_subobject.proofs.TreeLemmas.{subobject_same}
use Rattle.abi_slots.specs.declared.words.Group.{Group}
use Rattle.abi_slots.specs.declared.words.GroupName.{GroupName}
use Rattle.abi_slots.specs.declared.words.VttWord.{VttWord}
use Rattle.abi_slots.specs.declared.words.TableWord.{TableWord}
use Rattle.abi_print.specs.Texts.{PlaceOf}
use Rattle.abi_print.specs.TableTexts.{group_of, group_title, tables_in, table_in, target_text, targets_text, word_text, words_text}

-- names of one view and one complete object are one
pub same_name : (one other : GroupName) → one.complete.0 ≡ other.complete.0 → same_subobject one.view other.view ≡ true → one ≡ other
same_name one other complete same =
    let make : ℕ → Subobject → GroupName = λ n v. record { complete = record { 0 = n }; view = v } in
    let e : make one.complete.0 one.view ≡ make other.complete.0 other.view = ap (λ n. make n one.view) complete ∙ ap (λ v. make other.complete.0 v) (subobject_same one.view other.view same) in e

-- words of one name have one group
pub same_group : (groups : List Group) (one other : VttWord) → one.group ≡ other.group → group_of groups one ≡ group_of groups other
same_group groups one other e = ap (λ (name : GroupName). find (λ (group : Group). same_subobject group.name.view name.view) groups) e

found_first : (group : Group) (groups : List Group) (word : VttWord) → same_subobject group.name.view word.group.view ≡ true → group_of (group ∷ groups) word ≡ Some group
found_first group groups word same = rw same refl

found_later : (group : Group) (groups : List Group) (word : VttWord) → same_subobject group.name.view word.group.view ≡ false → group_of (group ∷ groups) word ≡ group_of groups word
found_later group groups word other = rw other refl

-- the first of the groups that are left is the word's
pub group_here : (groups : List Group) (i : ℕ) (d : Group) (word : VttWord) → i < length groups → same_subobject (get_or groups i d).name.view word.group.view ≡ true → slice_get groups i ≡ group_of (drop i groups) word
group_here groups i d word lt same = slice_get-get_or groups i d lt ∙ sym (ap (λ (gs : List Group). group_of gs word) (drop-cons groups i d lt) ∙ found_first (get_or groups i d) (drop (suc i) groups) word same)

-- the first of the groups that are left is not the word's
pub group_later : (groups : List Group) (i : ℕ) (d : Group) (word : VttWord) → i < length groups → same_subobject (get_or groups i d).name.view word.group.view ≡ false → group_of (drop i groups) word ≡ group_of (drop (i + 1) groups) word
group_later groups i d word lt other = rw add-one (ap (λ (gs : List Group). group_of gs word) (drop-cons groups i d lt) ∙ found_later (get_or groups i d) (drop (suc i) groups) word other)

none_past : (groups : List Group) (n : ℕ) (word : VttWord) → length groups ≤ n → group_of (drop n groups) word ≡ None
none_past [] zero word le = refl
none_past [] (suc n) word le = refl
none_past (group ∷ groups) zero word le = absurd (omega arith)
none_past (group ∷ groups) (suc n) word le = none_past groups n word (omega arith)

get_past : (groups : List Group) → slice_get groups (length groups) ≡ None
get_past [] = refl
get_past (group ∷ groups) = get_past groups

-- no group is left, and none stands at the end
pub none_left : (groups : List Group) (n : ℕ) (word : VttWord) → length groups ≤ n → slice_get groups (length groups) ≡ group_of (drop n groups) word
none_left groups n word le = get_past groups ∙ sym (none_past groups n word le)

regroup : (t a b c d rest : List ℕ) → (t ++ a ++ b ++ c ++ d) ++ rest ≡ t ++ (a ++ b ++ c ++ d ++ rest)
regroup t a b c d rest = simp append_assoc

-- with the line of a word more, the lines that are left still make the whole
pub words_more : (h : Classes) (words : List TableWord) (i : ℕ) (d : TableWord) (number next : ℤ) (text new whole : List ℕ) → i < length words → text ++ words_text h number (drop i words) ≡ whole → new ≡ text ++ signed_decimal number ++ codes " " ++ word_text h (get_or words i d) ++ codes "\n" → next ≡ number +ℤ pos 1 → new ++ words_text h next (drop (i + 1) words) ≡ whole
words_more h words i d number next text new whole lt all grown step =
    rw (add-one, grown, step) (regroup text (signed_decimal number) (codes " ") (word_text h (get_or words i d)) (codes "\n") (words_text h (number +ℤ pos 1) (drop (suc i) words))
    ∙ (ap (λ (ws : List TableWord). text ++ words_text h number ws) (sym (drop-cons words i d lt)) ∙ all))

-- with the line of a word more, the lines of the words that are left still make the whole
pub targets_more : (h : Classes) (place : PlaceOf) (groups : List Group) (words : List VttWord) (i : ℕ) (word : VttWord) (number group : ℕ) (name text new whole : List ℕ) → i < length words → word ≡ get_or words i word
    → text ++ targets_text h place groups number (drop i words) ≡ whole
    → new ≡ text ++ decimal number ++ codes " " ++ (table_in h (slice_get (tables_in (slice_get groups group)) word.table) ++ codes " of " ++ name) ++ codes "\n"
    → slice_get groups group ≡ group_of groups word → name ≡ group_title h place word.group
    → new ++ targets_text h place groups (number + 1) (drop (i + 1) words) ≡ whole
targets_more h place groups words i word number group name text new whole lt is all grown found named =
    let line : List ℕ → List ℕ = λ target. text ++ decimal number ++ codes " " ++ target ++ codes "\n" in
    let shown : table_in h (slice_get (tables_in (slice_get groups group)) word.table) ++ codes " of " ++ name ≡ target_text h place groups word =
    ap (λ (o : Option Group). table_in h (slice_get (tables_in o) word.table) ++ codes " of " ++ name) found
    ∙ ap (λ (x : List ℕ). table_in h (slice_get (tables_in (group_of groups word)) word.table) ++ codes " of " ++ x) named in
    let full : new ≡ line (target_text h place groups word) = grown ∙ ap line shown in
    let rest : List ℕ = targets_text h place groups (number + 1) (drop (suc i) words) in
    let next : drop i words ≡ word ∷ drop (suc i) words = drop-cons words i word lt ∙ ap (λ w. w ∷ drop (suc i) words) (sym is) in
    rw (add-one i) (ap (λ (x : List ℕ). x ++ rest) full
    ∙ (regroup text (decimal number) (codes " ") (target_text h place groups word) (codes "\n") rest
    ∙ (ap (λ (ws : List VttWord). text ++ targets_text h place groups number ws) (sym next) ∙ all)))
