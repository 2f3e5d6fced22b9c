-- The tables of a group have as many words as are counted of its view.
use Rattle.std.proofs.Common.{◌≡◌, ℕ, zero, suc, ◌+◌, List, [], ◌∷◌, ◌++◌, length, refl, ap, arith}
use Rattle.std.specs.Prelude.{map, reverse}
use Rattle.std.specs.List.{sum_by}
use Rattle.std.proofs.lemmas.List.{length-map, length-append, length-reverse}
use Rattle.std.proofs.lemmas.List.Sums.{sum_by-cons}
use Rattle.cxx_hierarchy.specs.Classes.{Classes}
use Rattle.cxx_subobject.specs.declared.Subobject.{Subobject}
use Rattle.cxx_subobject.specs.Subobjects.{whole_of}
use Rattle.abi_sound.specs.Places.{Places}
use Rattle.abi_slots.specs.declared.words.Table.{Table}
use Rattle.abi_slots.specs.declared.words.Group.{Group}
use Rattle.abi_slots.specs.declared.words.TableWord.TheVariants.{Top, Info, Entry}
use Rattle.abi_slots.specs.Listing.{entries, offsets}
use Rattle.abi_slots.specs.Views.{View, seen, heads}
use Rattle.abi_slots.specs.Groups.{GoAlong, IsTable, IsGroup, between, is_shared_base, view_of_group}
use Rattle.abi_tables.specs.Counts.{words_of_class, table_words, group_words}

along_rest : {A B : Type 0} (R : A → B → Type 0) (x : A) (xs : List A) (y : B) (ys : List B) → GoAlong R (x ∷ xs) (y ∷ ys) → GoAlong R xs ys
along_rest R x xs y ys along = record { size = (let s = along.size in omega arith); each = λ i a b p q. along.each (suc i) a b p q }

pub along_sum : {A B : Type 0} (R : A → B → Type 0) (f : A → ℕ) (g : B → ℕ) → ((a : A) (b : B) → R a b → g b ≡ f a) → (xs : List A) (ys : List B) → GoAlong R xs ys → sum_by g ys ≡ sum_by f xs
along_sum R f g same [] [] along = refl
along_sum R f g same [] (y ∷ ys) along = absurd (let s = along.size in omega arith)
along_sum R f g same (x ∷ xs) [] along = absurd (let s = along.size in omega arith)
along_sum R f g same (x ∷ xs) (y ∷ ys) along =
    let a = sum_by-cons g y ys in
    let b = sum_by-cons f x xs in
    let c = same x y (along.each zero x y refl refl) in
    let d = along_sum R f g same xs ys (along_rest R x xs y ys along) in
    omega arith

table_length : (h : Classes) (l : Places) (x : View) (t : Subobject) (table : Table) → IsTable h l x t table → length table.words ≡ table_words h l x t
table_length h l x t table is =
    let top = Top (between l x.complete (seen x t) (seen x (whole_of x.class))) in
    let rest = top ∷ Info x.class ∷ map Entry is.entry_words in
    let a : length table.words ≡ length (reverse is.offset_words ++ rest) = ap length is.words in
    let b : length (reverse is.offset_words ++ rest) ≡ length (reverse is.offset_words) + length rest = length-append (reverse is.offset_words) rest in
    let c : length (reverse is.offset_words) ≡ length is.offset_words = length-reverse is.offset_words in
    let d : length rest ≡ suc (suc (length (map Entry is.entry_words))) = refl in
    let e : length (map Entry is.entry_words) ≡ length is.entry_words = length-map is.entry_words Entry in
    let f = is.are_offsets.size in
    let g = is.are_entries.size in
    let k : table_words h l x t ≡ length (offsets h l (is_shared_base (seen x t)) table.class) + 2 + length (entries h l table.class) = ap (words_of_class h l (is_shared_base (seen x t))) is.class in
    omega arith

pub group_length : (h : Classes) (l : Places) (group : Group) → (of : IsGroup h l group) → sum_by (λ (table : Table). length table.words) group.tables ≡ group_words h l (view_of_group group of.class)
group_length h l group of =
    let x = view_of_group group of.class in
    along_sum (IsTable h l x) (table_words h l x) (λ (table : Table). length table.words) (table_length h l x) (heads h l x) group.tables of.tables
