-- Sums and tables of numbers that are cut at the limit on words.
use Rattle.std.proofs.Common.{◌≡◌, ℕ, ◌+◌, ◌<◌, ◌≤◌, inl, inr, ⊎_elim, true, false, List, [], ◌∷◌, ◌++◌, length, get_or, take, refl, ap, subst, sym, ◌∙◌, arith}
use Rattle.std.specs.Prelude.{Some, Bool, ◌||◌, if◌then◌else◌}
use Rattle.std.specs.List.{sum_by}
use Rattle.std.proofs.lemmas.Bool.{cases_lt}
use Rattle.std.proofs.lemmas.List.{take_more, get_or_push, get_or_append_left, length_push}
use Rattle.std.proofs.lemmas.Option.{slice_get-get_or}
use Rattle.std.proofs.lemmas.List.Sums.{sum_by-cons, sum_by_push}
use Rattle.cxx_hierarchy.specs.declared.records.ClassId.{ClassId}
use Rattle.cxx_hierarchy.specs.declared.records.Base.{Base}
use Rattle.cxx_hierarchy.specs.Classes.{Classes, bases_of}
use Rattle.cxx_hierarchy.specs.Hierarchies.{IsHierarchy}
use Rattle.cxx_subobject.specs.VirtualBases.{virtual_bases}
use Rattle.cxx_subobject.specs.invariants.Counts.{own_bases, own_of}
use Rattle.cxx_subobject.proofs.CountLemmas.{own_opened}
use Rattle.cxx_subobject.proofs.PathLemmas.{same_id}
use Rattle.cxx_subobject.proofs.VirtualBaseLemmas.{listed_below}
use Rattle.foundation.proofs.Truth.{split}
use Rattle.foundation.proofs.Members.{Has, contains_from_has}
use Rattle.abi_sound.specs.Places.{Places}
use Rattle.abi_primary.specs.PrimaryBase.{is_direct_primary}
use Rattle.abi_tables.specs.Counts.{vtt_words, AreVttLengths}
use Rattle.abi_vtt.specs.Vtts.{is_filled, has_vtt}
use Rattle.abi_tables.specs.invariants.Weights.{side, sides, AreNumbersTo, AreNumbers, number_by_class, cut, base_words, sub_words}

pub cut_sum : (a b x y : ℕ) → x ≡ cut a → y ≡ cut b → cut (x + y) ≡ cut (a + b)
cut_sum a b x y p q = omega arith

cut_add : (a b x y : ℕ) → x ≡ cut a → cut y ≡ cut b → cut (x + y) ≡ cut (a + b)
cut_add a b x y p q = omega arith

pub cut_again : (n value : ℕ) → value ≡ cut n → cut value ≡ cut n
cut_again n value e = omega arith

-- one item more of a loop
pub cut_more : {X : Type 0} (f : X → ℕ) (xs : List X) (i : ℕ) (d : X) (sum value new : ℕ) → i < length xs → sum ≡ cut (sum_by f (take i xs)) → cut value ≡ cut (f (get_or xs i d)) → new ≡ cut (sum + value) → new ≡ cut (sum_by f (take (i + 1) xs))
cut_more {X} f xs i d sum value new lt old value_is new_is =
    let more : sum_by f (take (i + 1) xs) ≡ sum_by f (take i xs) + f (get_or xs i d) = ap (sum_by f) (take_more xs i d lt) ∙ sum_by_push f (take i xs) (get_or xs i d) in
    new_is ∙ cut_add (sum_by f (take i xs)) (f (get_or xs i d)) sum value old value_is ∙ ap cut (sym more)

pub cut_same : {X : Type 0} (f g : X → ℕ) (xs : List X) → ((x : X) → Has xs x → cut (f x) ≡ cut (g x)) → cut (sum_by f xs) ≡ cut (sum_by g xs)
cut_same f g [] same = refl
cut_same {X} f g (x ∷ xs) same =
    let a = sum_by-cons f x xs in
    let b = sum_by-cons g x xs in
    let c = same x (inl refl) in
    let d = cut_same f g xs (λ y has. same y (inr has)) in
    omega arith

-- tables

pub numbers_none : (f : ClassId → ℕ) (numbers : List ℕ) → numbers ≡ [] → AreNumbersTo 0 f numbers
numbers_none f numbers e = record { size = ap length e; each = λ c lt. absurd (omega arith) }

pub numbers_push : (n : ℕ) (f : ClassId → ℕ) (numbers new : List ℕ) (value : ℕ) → value ≡ cut (f (record { 0 = n })) → new ≡ numbers ++ value ∷ [] → AreNumbersTo n f numbers → AreNumbersTo (n + 1) f new
numbers_push n f numbers new value is pushed old = record {
  size = ap length pushed ∙ length_push numbers value ∙ ap (λ k. k + 1) old.size;
  each = λ c lt. ⊎_elim
      (λ less. ap (λ (ks : List ℕ). get_or ks c.0 0) pushed ∙ get_or_append_left numbers (value ∷ []) 0 c.0 (let s = old.size in omega arith) ∙ old.each c less)
      (λ far.
      let last : c.0 ≡ n = omega arith in
      let same : record { 0 = n } ≡ c = same_id (record { 0 = n }) c (sym last) in
      ap (λ (ks : List ℕ). get_or ks c.0 0) pushed ∙ get_or_push numbers value 0 c.0 (old.size ∙ sym last) ∙ is ∙ ap (λ (d : ClassId). cut (f d)) same)
      (cases_lt c.0 n);
}

pub numbers_end : (h : Classes) (n end : ℕ) (f : ClassId → ℕ) (numbers : List ℕ) → end ≤ n → n ≤ end → end ≡ length h → AreNumbersTo n f numbers → AreNumbers h f numbers
numbers_end h n end f numbers a b is are = subst (λ k. AreNumbersTo k f numbers) (let e : n ≡ length h = omega arith in e) are

-- what the bases of a class weigh
pub side_cut : (h : Classes) → IsHierarchy h → (l : Places) (f : ClassId → ℕ) (heads : List ℕ) (k : ClassId) (bases : List (Base ClassId)) → AreNumbers h f heads → k.0 < length h → bases ≡ bases_of h k → cut (sum_by (side l (number_by_class heads) k) bases) ≡ cut (sides h l f k)
side_cut h keeps l f heads k bases are known is =
    ap (λ bs. cut (sum_by (side l (number_by_class heads) k) bs)) is
    ∙ cut_same (side l (number_by_class heads) k) (side l f k) (bases_of h k) (λ base has.
    let less = keeps.bases k base (contains_from_has (bases_of h k) base has) in
    let here : number_by_class heads base.class ≡ cut (f base.class) = are.each base.class (omega arith) in
    split (base.is_virtual || is_direct_primary (l.primary k) base.class) (λ b. cut (if b then 0 else number_by_class heads base.class) ≡ cut (if b then 0 else f base.class)) (λ e. refl) (λ e. omega arith))

pub own_cut : (h : Classes) → IsHierarchy h → (f : ClassId → ℕ) (weights sums : List ℕ) (c : ClassId) (bases : List (Base ClassId)) (below value : ℕ) → AreNumbers h f weights → AreNumbersTo c.0 (own_of f h) sums → c.0 < length h → bases ≡ bases_of h c →
    below ≡ cut (own_bases (number_by_class sums) bases) → value ≡ cut (number_by_class weights c + below) → value ≡ cut (own_of f h c)
own_cut h keeps f weights sums c bases below value are old known is below_is value_is =
    let opened = own_opened h keeps f c in
    let here = are.each c known in
    let there : cut (own_bases (number_by_class sums) (bases_of h c)) ≡ cut (own_bases (own_of f h) (bases_of h c)) = cut_same _ _ (bases_of h c) (λ base has.
    let less = keeps.bases c base (contains_from_has (bases_of h c) base has) in
    let inner : number_by_class sums base.class ≡ cut (own_of f h base.class) = old.each base.class (omega arith) in
    split base.is_virtual (λ b. cut (if b then 0 else number_by_class sums base.class) ≡ cut (if b then 0 else own_of f h base.class)) (λ e. refl) (λ e. omega arith)) in
    let told : below ≡ cut (own_bases (own_of f h) (bases_of h c)) = below_is ∙ ap (λ bs. cut (own_bases (number_by_class sums) bs)) is ∙ there in
    value_is ∙ cut_sum (f c) (own_bases (own_of f h) (bases_of h c)) (number_by_class weights c) below here told ∙ ap cut (sym opened)

pub shared_cut : (h : Classes) → IsHierarchy h → (f g : ClassId → ℕ) (own shared : List ℕ) (c : ClassId) (list : List ClassId) (below value : ℕ) → AreNumbers h f own → AreNumbers h g shared → c.0 < length h → list ≡ virtual_bases h c →
    below ≡ cut (sum_by (number_by_class shared) list) → value ≡ cut (number_by_class own c + below) → value ≡ cut (f c + sum_by g (virtual_bases h c))
shared_cut h keeps f g own shared c list below value are also known is below_is value_is =
    let told : below ≡ cut (sum_by g (virtual_bases h c)) = below_is ∙ ap (λ vs. cut (sum_by (number_by_class shared) vs)) is ∙ cut_same (number_by_class shared) g (virtual_bases h c) (λ v has.
    let less = listed_below h keeps c v (contains_from_has (virtual_bases h c) v has) in
    let inner : number_by_class shared v ≡ cut (g v) = also.each v (omega arith) in
    omega arith) in
    value_is ∙ cut_sum (f c) (sum_by g (virtual_bases h c)) (number_by_class own c) below (are.each c known) told

pub numbers_same : (h : Classes) (f g : ClassId → ℕ) (numbers : List ℕ) → ((c : ClassId) → f c ≡ g c) → AreNumbers h f numbers → AreNumbers h g numbers
numbers_same h f g numbers same are = record { size = are.size; each = λ c lt. are.each c lt ∙ ap cut (same c) }

pub vtt_lengths : (h : Classes) (l : Places) (numbers : List ℕ) → AreNumbers h (vtt_words h l) numbers → AreVttLengths h l numbers
vtt_lengths h l numbers are = λ c known. slice_get-get_or numbers c.0 0 (let s = are.size in omega arith) ∙ ap (λ n. Some n) (are.each c known)

-- a word or none
pub word_cut : (b : Bool) → (if b then 1 else 0) ≡ cut (if b then 1 else 0)
word_cut true = refl
word_cut false = refl

-- the words of a sub-VTT
pub sub_none : (h : Classes) (l : Places) (c : ClassId) → has_vtt h c ≡ false → 0 ≡ cut (sub_words h l c)
sub_none h l c e = ap (λ b. cut (if b then 1 + base_words h l c else 0)) (sym e)

pub sub_some : (h : Classes) (l : Places) (c : ClassId) (n sum : ℕ) → has_vtt h c ≡ true → n ≡ cut (base_words h l c) → sum ≡ cut (1 + n) → sum ≡ cut (sub_words h l c)
sub_some h l c n sum e is sum_is =
    let all : cut (1 + n) ≡ cut (1 + base_words h l c) = omega arith in
    sum_is ∙ all ∙ ap (λ b. cut (if b then 1 + base_words h l c else 0)) (sym e)

-- whether a list has an item, by its length
pub none_filled : (vs : List ClassId) → length vs < 1 → false ≡ is_filled vs
none_filled [] lt = refl
none_filled (v ∷ vs) lt = absurd (omega arith)

pub some_filled : (vs : List ClassId) → 1 ≤ length vs → true ≡ is_filled vs
some_filled [] le = absurd (omega arith)
some_filled (v ∷ vs) le = refl
