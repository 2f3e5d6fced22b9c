-- The line of a primary base.
use Rattle.std.proofs.Common.{◌≡◌, ◌∙◌, ℕ, zero, suc, ◌-◌, ◌<◌, ⊎_elim, inl, inr, Some, None, List, [], ◌∷◌, ◌++◌, length, map, take, drop, get_or, refl, sym, ap, subst, arith, append_assoc, length-append}
use Rattle.std.specs.Prelude.{codes, Contains, slice_get}
use Rattle.std.proofs.lemmas.List.{append_cancel_left, take_all}
use Rattle.foundation.proofs.Members.{Has, contains_from_has, has_from_contains, has_cases, has_right, has_at, has_map}
use Rattle.foundation.proofs.Places.{contains_first, contains_later, get_mapped, get_within}
use Rattle.cxx_hierarchy.specs.declared.records.ClassId.{ClassId}
use Rattle.cxx_hierarchy.specs.Classes.{Class, Classes, class_names, IsClassNamed}
use Rattle.abi_primary.specs.declared.Primary.{Primary}
use Rattle.abi_primary.specs.declared.Primary.TheVariants.{None as NoPrimary, Direct, Virtual}
use Rattle.abi_print.specs.LayoutTexts.{name_in_class, declared_class_name, primary_text}
use Rattle.abi_foreign.specs.Lines.{primary_line, IsWritable, IsPrimaryLine}
use Rattle.abi_foreign.specs.invariants.Pieces.{IsNotBehind}
use Rattle.abi_foreign.specs.invariants.Reading.{IsNoLine}
use Rattle.abi_foreign.specs.invariants.Said.{IsWord, IsPrimaryWord, IsPrimaryRead, primary_line_text}

no_feed : (text : List ℕ) (i : ℕ) → ((k : ℕ) → k < i → get_or text k 0 ≡ 10 → ⊥) → Has (take i text) 10 → ⊥
no_feed text zero fails has = absurd has
no_feed [] (suc i) fails has = absurd has
no_feed (c ∷ text) (suc i) fails (inl e) = fails 0 (omega arith) e
no_feed (c ∷ text) (suc i) fails (inr has) = no_feed text i (λ k lt e. fails (suc k) (omega arith) e) has

behind_feed : (text : List ℕ) (i : ℕ) → i < length text → get_or text i 0 ≡ 10 → text ≡ take i text ++ (10 ∷ take (length (drop i text) - 1) (drop 1 (drop i text)))
behind_feed [] i lt found = absurd (omega arith)
behind_feed (c ∷ text) zero lt found = ap (λ (k : ℕ). k ∷ text) found ∙ ap (λ (t : List ℕ). 10 ∷ t) (sym (take_all (length (c ∷ text) - 1) text (omega arith)))
behind_feed (c ∷ text) (suc i) lt found = ap (λ (t : List ℕ). c ∷ t) (behind_feed text i (omega arith) found)

-- the text up to its first line feed
pub word_there : (text front back : List ℕ) (i : ℕ) → i < length text → ((k : ℕ) → k < i → get_or text k 0 ≡ 10 → ⊥) → get_or text i 0 ≡ 10 → front ≡ take i text → back ≡ drop i text → IsWord text front (take (length back - 1) (drop 1 back))
word_there text front back i lt fails found front_is back_is = record {
  is = behind_feed text i lt found ∙ ap (λ (t : List ℕ). t ++ (10 ∷ take (length (drop i text) - 1) (drop 1 (drop i text)))) (sym front_is) ∙ ap (λ (t : List ℕ). front ++ (10 ∷ take (length t - 1) (drop 1 t))) (sym back_is);
  one_line = λ has. no_feed text i fails (subst (λ (t : List ℕ). Has t 10) front_is (has_from_contains front 10 has));
}

-- a text has one first line feed
pub word_once : (a b x y : List ℕ) → (Contains a 10 → ⊥) → (Contains b 10 → ⊥) → a ++ (10 ∷ x) ≡ b ++ (10 ∷ y) → (a ≡ b) × (x ≡ y)
word_once [] [] x y none other e = (refl, (cc))
word_once [] (d ∷ b) x y none other e =
    let first : 10 ≡ d = cc in
    absurd (other (subst (λ (k : ℕ). Contains (k ∷ b) 10) first (contains_first 10 b)))
word_once (c ∷ a) [] x y none other e =
    let first : 10 ≡ c = cc in
    absurd (none (subst (λ (k : ℕ). Contains (k ∷ a) 10) first (contains_first 10 a)))
word_once (c ∷ a) (d ∷ b) x y none other e =
    let first : c ≡ d = cc in
    let rest : a ++ (10 ∷ x) ≡ b ++ (10 ∷ y) = cc in
    let more = word_once a b x y (λ has. none (contains_later c a 10 has)) (λ has. other (contains_later d b 10 has)) rest in
    let same : a ≡ b = more.0 in (cc, more.1)

none_plain : Has (codes "none") 10 → ⊥
none_plain has = ⊎_elim (λ e. absurd (omega arith)) (λ a. ⊎_elim (λ e. absurd (omega arith)) (λ b. ⊎_elim (λ e. absurd (omega arith)) (λ c. ⊎_elim (λ e. absurd (omega arith)) (λ d. absurd d) c) b) a) has

virtual_plain : Has (codes "virtual ") 10 → ⊥
virtual_plain has =
    ⊎_elim (λ e. absurd (omega arith)) (λ a. ⊎_elim (λ e. absurd (omega arith)) (λ b. ⊎_elim (λ e. absurd (omega arith)) (λ c. ⊎_elim (λ e. absurd (omega arith))
    (λ d. ⊎_elim (λ e. absurd (omega arith)) (λ f. ⊎_elim (λ e. absurd (omega arith)) (λ g. ⊎_elim (λ e. absurd (omega arith)) (λ i. ⊎_elim (λ e. absurd (omega arith)) (λ j. absurd j) i) g) f) d) c) b) a) has

-- what a line may say of a primary base is on one line
pub writable_plain : (h : Classes) (primary : Primary) → IsWritable h primary → Contains (primary_text h primary) 10 → ⊥
writable_plain h NoPrimary writable has = none_plain (has_from_contains (codes "none") 10 has)
writable_plain h (Direct b) writable has = writable.1.one_line has
writable_plain h (Virtual v) writable has =
    ⊎_elim virtual_plain (λ in_name. writable.1 (contains_from_has (declared_class_name h v) 10 in_name)) (has_cases (codes "virtual ") (declared_class_name h v) 10 (has_from_contains (codes "virtual " ++ declared_class_name h v) 10 has))

pub split_three : (a b e rest : List ℕ) → (a ++ b ++ e) ++ rest ≡ a ++ (b ++ (e ++ rest))
split_three a b e rest = simp append_assoc

pub split_line : (a b rest : List ℕ) → (a ++ b ++ codes "\n") ++ rest ≡ a ++ (b ++ (10 ∷ rest))
split_line a b rest = split_three a b (codes "\n") rest

-- what a line of a primary base says behind its first word
line_word : (h : Classes) (text r0 front rest : List ℕ) → text ≡ codes "primary " ++ r0 → text ≡ front ++ rest → (line : IsPrimaryLine h front) → r0 ≡ primary_text h line.primary ++ (10 ∷ rest)
line_word h text r0 front rest behind e line =
    append_cancel_left (codes "primary ") r0 (primary_text h line.primary ++ (10 ∷ rest)) (sym behind ∙ e ∙ ap (λ (t : List ℕ). t ++ rest) line.is ∙ split_line (codes "primary ") (primary_text h line.primary) rest)

longer_line : (h : Classes) (primary : Primary) (rest : List ℕ) → length rest < length (primary_line_text h primary ++ rest)
longer_line h primary rest =
    let whole = length-append (primary_line_text h primary) rest in
    let line = length-append (codes "primary " ++ primary_text h primary) (codes "\n") in
    omega (arith, whole, line)

pub primary_read : (h : Classes) (text r0 word rest : List ℕ) (primary : Primary) → text ≡ codes "primary " ++ r0 → IsWord r0 word rest → IsPrimaryWord h word (Some primary) → IsPrimaryRead h text primary rest
primary_read h text r0 word rest primary behind is said =
    let writable = said.0 in
    let whole : text ≡ primary_line_text h primary ++ rest =
    behind ∙ ap (λ (t : List ℕ). codes "primary " ++ t) (is.is ∙ ap (λ (w : List ℕ). w ++ (10 ∷ rest)) said.1) ∙ sym (split_line (codes "primary ") (primary_text h primary) rest) in
    record {
      is = whole;
      writable = writable;
      line = record {
        front = primary_line_text h primary;
        is = whole;
        form = record { primary = primary; writable = writable; is = refl };
        only = λ other after e line.
            (word_once (primary_text h line.primary) word after rest (writable_plain h line.primary line.writable) is.one_line (sym (line_word h text r0 other after behind e line) ∙ is.is)).1;
        shorter = subst (λ (t : List ℕ). length rest < length t) (sym whole) (longer_line h primary rest);
      };
    }

pub no_first_word : (h : Classes) (text : List ℕ) → IsNotBehind text (codes "primary ") → IsNoLine h primary_line text
no_first_word h text none front rest e line = none (primary_text h line.primary ++ (10 ∷ rest)) (e ∙ ap (λ (t : List ℕ). t ++ rest) line.is ∙ split_line (codes "primary ") (primary_text h line.primary) rest)

pub no_line_end : (h : Classes) (text r0 : List ℕ) → text ≡ codes "primary " ++ r0 → (Contains r0 10 → ⊥) → IsNoLine h primary_line text
no_line_end h text r0 behind none front rest e line =
    let is = line_word h text r0 front rest behind e line in
    none (subst (λ (t : List ℕ). Contains t 10) (sym is) (contains_from_has (primary_text h line.primary ++ (10 ∷ rest)) 10 (has_right (primary_text h line.primary) (10 ∷ rest) 10 (has_from_contains (10 ∷ rest) 10 (contains_first 10 rest)))))

pub no_word : (h : Classes) (text r0 word rest : List ℕ) → text ≡ codes "primary " ++ r0 → IsWord r0 word rest → IsPrimaryWord h word None → IsNoLine h primary_line text
no_word h text r0 word rest behind is none front after e line =
    none line.primary line.writable
    (word_once word (primary_text h line.primary) rest after is.one_line (writable_plain h line.primary line.writable) (sym is.is ∙ line_word h text r0 front after behind e line)).0

get_below : (h : Classes) (i : ℕ) (class : Class) → slice_get h i ≡ Some class → i < length h
get_below [] i class e = absurd (cc)
get_below (first ∷ h) zero class e = omega arith
get_below (first ∷ h) (suc i) class e = let more = get_below h i class e in omega arith

contains_mapped : (f : Class → List ℕ) (h : Classes) (i : ℕ) (class : Class) → slice_get h i ≡ Some class → Contains (map f h) (f class)
contains_mapped f h i class e = contains_from_has (map f h) (f class) (has_map f h class (has_at h i class e))

-- the name that was looked for is that of the class found
found_name : (h : Classes) (c : ClassId) (name : List ℕ) → slice_get (class_names h) c.0 ≡ Some name → (c.0 < length h) × (declared_class_name h c ≡ name)
found_name h c name found =
    let class = get_mapped (λ (x : Class). x.name) h c.0 name found in
    (get_below h c.0 class.0 class.1, ap name_in_class class.1 ∙ class.2)

-- a class has its name
name_there : (h : Classes) (c : ClassId) → c.0 < length h → Contains (class_names h) (declared_class_name h c)
name_there h c known =
    let class = get_within h c.0 known in
    subst (λ (name : List ℕ). Contains (class_names h) name) (sym (ap name_in_class class.1)) (contains_mapped (λ (x : Class). x.name) h c.0 class.0 class.1)

pub says_none : (h : Classes) (word : List ℕ) → word ≡ codes "none" → IsPrimaryWord h word (Some NoPrimary)
says_none h word e = (tt, e)

pub says_virtual : (h : Classes) (word name : List ℕ) (v : ClassId) → (Contains word 10 → ⊥) → word ≡ codes "virtual " ++ name → IsClassNamed h name (Some v) → IsPrimaryWord h word (Some (Virtual v))
says_virtual h word name v plain e found =
    let there = found_name h v name found in
    let is : word ≡ codes "virtual " ++ declared_class_name h v = e ∙ ap (λ (t : List ℕ). codes "virtual " ++ t) (sym there.1) in
    ((there.0, λ has. plain (subst (λ (t : List ℕ). Contains t 10) (sym is) (contains_from_has (codes "virtual " ++ declared_class_name h v) 10 (has_right (codes "virtual ") (declared_class_name h v) 10 (has_from_contains (declared_class_name h v) 10 has))))), is)

pub says_no_virtual : (h : Classes) (word name : List ℕ) → word ≡ codes "virtual " ++ name → IsClassNamed h name None → IsPrimaryWord h word None
says_no_virtual h word name e none NoPrimary writable is = let same : codes "none" ≡ codes "virtual " ++ name = sym is ∙ e in absurd (cc)
says_no_virtual h word name e none (Direct b) writable is = writable.1.not_virtual name (sym is ∙ e)
says_no_virtual h word name e none (Virtual v) writable is =
    let same : declared_class_name h v ≡ name = append_cancel_left (codes "virtual ") (declared_class_name h v) name (sym is ∙ e) in
    none (subst (λ (t : List ℕ). Contains (class_names h) t) same (name_there h v writable.0))

pub says_direct : (h : Classes) (word : List ℕ) (b : ClassId) → (Contains word 10 → ⊥) → (word ≡ codes "none" → ⊥) → IsNotBehind word (codes "virtual ") → IsClassNamed h word (Some b) → IsPrimaryWord h word (Some (Direct b))
says_direct h word b plain not_none not_virtual found =
    let there = found_name h b word found in
    let name : word ≡ declared_class_name h b = sym there.1 in (
      (
        there.0,
        record {
          one_line = λ has. plain (subst (λ (t : List ℕ). Contains t 10) there.1 has);
          not_none = λ e. not_none (name ∙ e);
          not_virtual = λ rest e. not_virtual rest (name ∙ e);
        },
      ),
      name,
    )

pub says_no_direct : (h : Classes) (word : List ℕ) → (word ≡ codes "none" → ⊥) → IsNotBehind word (codes "virtual ") → IsClassNamed h word None → IsPrimaryWord h word None
says_no_direct h word not_none not_virtual none NoPrimary writable is = not_none is
says_no_direct h word not_none not_virtual none (Direct b) writable is = none (subst (λ (t : List ℕ). Contains (class_names h) t) (sym is) (name_there h b writable.0))
says_no_direct h word not_none not_virtual none (Virtual v) writable is = not_virtual (declared_class_name h v) is
