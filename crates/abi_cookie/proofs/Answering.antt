-- That there is one answer, and no other.
use Rattle.std.proofs.Common.{◌≡◌, ℕ, zero, suc, ◌+◌, ◌*◌, ◌%◌, ◌<◌, ◌≤◌, ⊎_elim, Bool, true, false, List, [], ◌∷◌, ◌++◌, length, get_or, max, refl, ap, sym, subst, ◌∙◌, arith}
use Rattle.std.specs.Prelude.{◌↔◌, IsTrue, Some, slice_get}
use Rattle.std.proofs.lemmas.Bool.{cases_lt}
use Rattle.std.proofs.lemmas.List.{get_or_append_left, get_or_push}
use Rattle.foundation.proofs.Deciding.{Decided, decide_flag, decide_as}
use Rattle.foundation.proofs.Places.{get_within, length_pushed}
use Rattle.cxx_hierarchy.specs.declared.records.ClassId.{ClassId}
use Rattle.cxx_hierarchy.specs.Classes.{Class, Classes, class_at, class_by_number}
use Rattle.cxx_hierarchy.specs.Hierarchies.{IsHierarchy}
use Rattle.cxx_overrider.specs.Overriding.{IsAbstract}
use Rattle.cxx_overrider.proofs.MeaningDecisions.{decide_abstract}
use Rattle.abi_sound.specs.Places.{Places}
use Rattle.abi_cookie.specs.declared.answers.ArrayAnswer.{ArrayAnswer}
use Rattle.abi_cookie.specs.declared.answers.ArrayAnswer.TheVariants.{Abstract, TooLarge, Text}
use Rattle.abi_cookie.specs.Cookies.{NeedsCookie, IsCookie, some_cookie, no_cookie, array_bytes}
use Rattle.abi_cookie.specs.ArrayTexts.{array_text}
use Rattle.abi_cookie.specs.Answers.{IsArrayAnswer, of_abstract, too_large, told}
use Rattle.abi_cookie.specs.invariants.Marks.{mark_of_class, has_destructor, AreMarked}
use Rattle.abi_cookie.proofs.Marking.{none_marked, one_marked}
use Rattle.byte_memory.specs.Limits.{most_region_bytes}

-- marks for the first classes
record HasMarks (h : Classes) (n : ℕ) : Type 0 where
  marks : List Bool
  size : length marks ≡ n
  are : AreMarked h marks n

some_marks : (h : Classes) → IsHierarchy h → (n : ℕ) → n ≤ length h → HasMarks h n
some_marks h keeps zero le = record { marks = []; size = refl; are = none_marked h [] }
some_marks h keeps (suc n) le = more (some_marks h keeps n (omega arith)) (get_within h n (omega arith))
  where
    more : HasMarks h n → (class : Class) × (slice_get h n ≡ Some class) → HasMarks h (suc n)
    more before class =
        let one : n + 1 ≡ suc n = omega arith in
        let marked = one_marked h keeps before.marks (before.marks ++ has_destructor before.marks class.0 ∷ []) (class_by_number n) class.0 class.1 before.are
        (λ k lt. get_or_append_left before.marks (has_destructor before.marks class.0 ∷ []) false k (let size' = before.size in omega arith))
        (get_or_push before.marks (has_destructor before.marks class.0) false n before.size) in
        record {
          marks = before.marks ++ has_destructor before.marks class.0 ∷ [];
          size = length_pushed before.marks (has_destructor before.marks class.0) ∙ (ap (λ (k : ℕ). k + 1) before.size ∙ one);
          are = record { each = λ c lt. marked.each c (omega arith) };
        }

-- whether a class needs a cookie is decided
decide_needs : (h : Classes) → IsHierarchy h → (c : ClassId) → c.0 < length h → Decided (NeedsCookie h c)
decide_needs h keeps c known =
    let all = some_marks h keeps (length h) (omega arith) in
    let is = all.are.each c known in
    decide_as (decide_flag (mark_of_class all.marks c)) is.0 is.1

some_size : (h : Classes) → IsHierarchy h → (l : Places) (c : ClassId) → c.0 < length h → (cookie : ℕ) × IsCookie h l c cookie
some_size h keeps l c known = ⊎_elim (λ need. (max 8 (l.align c), some_cookie need)) (λ none_needed. (0, no_cookie none_needed)) (decide_needs h keeps c known)

pub one_size : (h : Classes) (l : Places) (c : ClassId) (a b : ℕ) → IsCookie h l c a → IsCookie h l c b → a ≡ b
one_size h l c _ _ (some_cookie need) (some_cookie other) = refl
one_size h l c _ _ (some_cookie need) (no_cookie none_needed) = absurd (none_needed need)
one_size h l c _ _ (no_cookie none_needed) (some_cookie need) = absurd (none_needed need)
one_size h l c _ _ (no_cookie none_needed) (no_cookie others) = refl

pub some_answer : (h : Classes) (l : Places) (c : ClassId) (n : ℕ) → IsHierarchy h → c.0 < length h → (answer : ArrayAnswer) × IsArrayAnswer h l c n answer
some_answer h l c n keeps known = ⊎_elim (λ is. (Abstract, of_abstract is)) (λ no_abstract. sized no_abstract (some_size h keeps l c known)) (decide_abstract h keeps c)
  where
    sized : (IsAbstract h c → ⊥) → (cookie : ℕ) × IsCookie h l c cookie → (answer : ArrayAnswer) × IsArrayAnswer h l c n answer
    sized no_abstract cookie = ⊎_elim
        (λ more. (TooLarge, too_large cookie.0 no_abstract cookie.1 more))
        (λ fits. (Text (array_text (l.size c) cookie.0 n), told cookie.0 no_abstract cookie.1 fits))
        (cases_lt most_region_bytes (array_bytes (l.size c) cookie.0 n))

not_both : (size n a b : ℕ) → a ≡ b → most_region_bytes < array_bytes size a n → array_bytes size b n ≤ most_region_bytes → ⊥
not_both size n a b same more fits = omega arith

pub one_answer : (h : Classes) (l : Places) (c : ClassId) (n : ℕ) (one other : ArrayAnswer) → IsArrayAnswer h l c n one → IsArrayAnswer h l c n other → one ≡ other
one_answer h l c n _ _ (of_abstract is) (of_abstract also) = refl
one_answer h l c n _ _ (of_abstract is) (too_large cookie no_abstract size more) = absurd (no_abstract is)
one_answer h l c n _ _ (of_abstract is) (told cookie no_abstract size fits) = absurd (no_abstract is)
one_answer h l c n _ _ (too_large cookie no_abstract size more) (of_abstract is) = absurd (no_abstract is)
one_answer h l c n _ _ (too_large cookie no_abstract size more) (too_large others none_abstract sizes also) = refl
one_answer h l c n _ _ (too_large cookie no_abstract size more) (told others none_abstract sizes fits) = absurd (not_both (l.size c) n cookie others (one_size h l c cookie others size sizes) more fits)
one_answer h l c n _ _ (told cookie no_abstract size fits) (of_abstract is) = absurd (no_abstract is)
one_answer h l c n _ _ (told cookie no_abstract size fits) (too_large others none_abstract sizes more) = absurd (not_both (l.size c) n others cookie (one_size h l c others cookie sizes size) more fits)
one_answer h l c n _ _ (told cookie no_abstract size fits) (told others none_abstract sizes also) = ap (λ (k : ℕ). Text (array_text (l.size c) k n)) (one_size h l c cookie others size sizes)

-- what a call answers, by the size in the row of the class
pub answer-too_large : (h : Classes) (l : Places) (c : ClassId) (n cookie size : ℕ) → l.size c ≡ size → (IsAbstract h c → ⊥) → IsCookie h l c cookie → most_region_bytes < array_bytes size cookie n → IsArrayAnswer h l c n TooLarge
answer-too_large h l c n cookie size same no_abstract is more = too_large cookie no_abstract is (subst (λ (k : ℕ). most_region_bytes < array_bytes k cookie n) (sym same) more)

pub answer-told : (h : Classes) (l : Places) (c : ClassId) (n cookie size : ℕ) (text : List ℕ) → l.size c ≡ size → (IsAbstract h c → ⊥) → IsCookie h l c cookie → array_bytes size cookie n ≤ most_region_bytes → text ≡ array_text size cookie n → IsArrayAnswer h l c n (Text text)
answer-told h l c n cookie size text same no_abstract is fits text_is =
    subst (λ (t : List ℕ). IsArrayAnswer h l c n (Text t)) (ap (λ (k : ℕ). array_text k cookie n) same ∙ sym text_is)
    (told cookie no_abstract is (subst (λ (k : ℕ). array_bytes k cookie n ≤ most_region_bytes) (sym same) fits))

-- a cookie keeps the alignment of 8 bytes where the class has no greater one
pub whole-cookie : (h : Classes) (l : Places) (c : ClassId) (cookie : ℕ) → l.align c ≤ 8 → IsCookie h l c cookie → cookie % 8 ≡ 0
whole-cookie h l c _ low (some_cookie need) = let e : max 8 (l.align c) ≡ 8 = omega arith in ap (λ (k : ℕ). k % 8) e
whole-cookie h l c _ low (no_cookie none_needed) = refl

-- a test that fails says that it is not so
pub not_so : (b : Bool) (P : Type 0) → (IsTrue b ↔ P) → b ≡ false → P → ⊥
not_so b P is off p = let e : b ≡ true = is.1 p in let f : true ≡ false = sym e ∙ off in cc
