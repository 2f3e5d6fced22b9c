-- A list has one scalar and one value at its front, where a name follows it.
use Rattle.std.proofs.Common.{◌≡◌, ℕ, List, ◌∷◌, Option, Some, None, refl, ap, sym, ◌∙◌}
use Rattle.cxx_grammar.specs.declared.sort.Sort.{Sort}
use Rattle.cxx_grammar.specs.declared.sort.Sort.TheVariants.{Name, OwnName, Boolean, Char, Short, Int, Long, Signed, Unsigned}
use Rattle.cxx_grammar.specs.declared.sort.Lexeme.{Lexeme}
use Rattle.cxx_grammar.specs.Front.{IsName}
use Rattle.cxx_grammar.specs.Lexemes.{bytes_of}
use Rattle.cxx_hierarchy.specs.declared.records.Scalar.{Scalar}
use Rattle.cxx_hierarchy.specs.declared.records.Scalar.TheVariants as scalar
use Rattle.cxx_hierarchy.specs.declared.records.ValueType.{ValueType}
use Rattle.cxx_hierarchy.specs.declared.records.ValueType.TheVariants as value
use Rattle.cxx_syntax.specs.Statements.{ScalarReads, a_bool, a_char, a_signed_char, an_unsigned_char, a_short, an_unsigned_short, an_int, an_unsigned_int, an_unsigned, a_long, an_unsigned_long, a_long_long, an_unsigned_long_long, ValueReads, a_scalar, a_class_pointer}
use Rattle.cxx_readings.proofs.Heads.{head, tail, rests, firsts, by_is, by_name, clash}

-- a scalar, and what is left behind it
abbrev Cut : Type 0
Cut = Option (Scalar × (List Lexeme → List Lexeme))

abbrev one : Scalar → Cut
one k = Some (k, λ ts. tail ts)

abbrev two : Scalar → Cut
two k = Some (k, λ ts. tail (tail ts))

abbrev three : Scalar → Cut
three k = Some (k, λ ts. tail (tail (tail ts)))

abbrev unsigned_long : Sort → Cut
unsigned_long Long = three scalar.ULongLong
unsigned_long _ = two scalar.ULong

abbrev unsigned : Sort → Sort → Cut
unsigned Char y = two scalar.UChar
unsigned Short y = two scalar.UShort
unsigned Int y = two scalar.UInt
unsigned Long y = unsigned_long y
unsigned _ y = one scalar.UInt

abbrev long : Sort → Cut
long Long = two scalar.LongLong
long _ = one scalar.Long

abbrev shape : Sort → Sort → Sort → Cut
shape Boolean x y = one scalar.Bool
shape Char x y = one scalar.Char
shape Signed x y = two scalar.SChar
shape Unsigned x y = unsigned x y
shape Short x y = one scalar.Short
shape Int x y = one scalar.Int
shape Long x y = long x
shape _ x y = None

abbrev apply : Cut → List Lexeme → Option (Scalar × List Lexeme)
apply None ts = None
apply (Some c) ts = Some (c.0, c.1 ts)

abbrev scalar_at : List Lexeme → Option (Scalar × List Lexeme)
scalar_at ts = apply (shape (head ts) (head (tail ts)) (head (tail (tail ts)))) ts

-- what does not follow a scalar: a word that goes on with it
abbrev pub goes_on : Sort → ℕ
goes_on Char = 1
goes_on Short = 1
goes_on Int = 1
goes_on Long = 1
goes_on _ = 0

unsigned_alone : (s y : Sort) → goes_on s ≡ 0 → unsigned s y ≡ one scalar.UInt
unsigned_alone Char y h = absurd (cc)
unsigned_alone Short y h = absurd (cc)
unsigned_alone Int y h = absurd (cc)
unsigned_alone Long y h = absurd (cc)
unsigned_alone _ y h = refl

long_alone : (s : Sort) → goes_on s ≡ 0 → long s ≡ one scalar.Long
long_alone Long h = absurd (cc)
long_alone _ h = refl

unsigned_long_alone : (s : Sort) → goes_on s ≡ 0 → unsigned_long s ≡ two scalar.ULong
unsigned_long_alone Long h = absurd (cc)
unsigned_long_alone _ h = refl

scalar_found : {k : Scalar} {ts r : List Lexeme} → goes_on (head r) ≡ 0 → ScalarReads k ts r → scalar_at ts ≡ Some (k, r)
scalar_found n (a_bool i) = rw (i.front, i.sort) refl
scalar_found n (a_char i) = rw (i.front, i.sort) refl
scalar_found n (a_signed_char i j) = rw (i.front, j.front, i.sort) refl
scalar_found n (an_unsigned_char i j) = rw (i.front, j.front, i.sort, j.sort) refl
scalar_found n (a_short i) = rw (i.front, i.sort) refl
scalar_found n (an_unsigned_short i j) = rw (i.front, j.front, i.sort, j.sort) refl
scalar_found n (an_int i) = rw (i.front, i.sort) refl
scalar_found n (an_unsigned_int i j) = rw (i.front, j.front, i.sort, j.sort) refl
scalar_found {r = r} n (an_unsigned {l = l} i) =
    rw i.front (ap (λ s. apply (shape s (head r) (head (tail r))) (l ∷ r)) i.sort ∙ ap (λ c. apply c (l ∷ r)) (unsigned_alone (head r) (head (tail r)) n))
scalar_found {r = r} n (a_long {l = l} i) =
    rw i.front (ap (λ s. apply (shape s (head r) (head (tail r))) (l ∷ r)) i.sort ∙ ap (λ c. apply c (l ∷ r)) (long_alone (head r) n))
scalar_found {r = r} n (an_unsigned_long {l = l} {m = m} i j) =
    rw (i.front, j.front) (ap (λ s. apply (shape s m.sort (head r)) (l ∷ m ∷ r)) i.sort ∙ (ap (λ s. apply (unsigned s (head r)) (l ∷ m ∷ r)) j.sort ∙
    ap (λ c. apply c (l ∷ m ∷ r)) (unsigned_long_alone (head r) n)))
scalar_found n (a_long_long i j) = rw (i.front, j.front, i.sort, j.sort) refl
scalar_found n (an_unsigned_long_long i j k) = rw (i.front, j.front, k.front, i.sort, j.sort, k.sort) refl

some_same : (k j : Scalar) (r s : List Lexeme) → ◌≡◌ {A = Option (Scalar × List Lexeme)} (Some (k, r)) (Some (j, s)) → (k ≡ j) × (r ≡ s)
some_same k j r s h = (ap (λ o. the_scalar o) h, ap (λ o. the_rest o) h) where
  the_scalar : Option (Scalar × List Lexeme) → Scalar
  the_scalar None = k
  the_scalar (Some p) = p.0

  the_rest : Option (Scalar × List Lexeme) → List Lexeme
  the_rest None = r
  the_rest (Some p) = p.1

pub scalar_same : {k j : Scalar} {ts us r s : List Lexeme} → ts ≡ us → goes_on (head r) ≡ 0 → goes_on (head s) ≡ 0 → ScalarReads k ts r → ScalarReads j us s → (k ≡ j) × (r ≡ s)
scalar_same {k = k} {j = j} {r = r} {s = s} e n m h g = some_same k j r s (sym (scalar_found n h) ∙ (ap scalar_at e ∙ scalar_found m g))

pub scalar_by : {A : Type 0} (f : Sort → A) (a : A) → f Boolean ≡ a → f Char ≡ a → f Signed ≡ a → f Unsigned ≡ a → f Short ≡ a → f Int ≡ a → f Long ≡ a →
    {k : Scalar} {ts r : List Lexeme} → ScalarReads k ts r → f (head ts) ≡ a
scalar_by f a b c s u h i l (a_bool x) = by_is f x ∙ b
scalar_by f a b c s u h i l (a_char x) = by_is f x ∙ c
scalar_by f a b c s u h i l (a_signed_char x y) = by_is f x ∙ s
scalar_by f a b c s u h i l (an_unsigned_char x y) = by_is f x ∙ u
scalar_by f a b c s u h i l (a_short x) = by_is f x ∙ h
scalar_by f a b c s u h i l (an_unsigned_short x y) = by_is f x ∙ u
scalar_by f a b c s u h i l (an_int x) = by_is f x ∙ i
scalar_by f a b c s u h i l (an_unsigned_int x y) = by_is f x ∙ u
scalar_by f a b c s u h i l (an_unsigned x) = by_is f x ∙ u
scalar_by f a b c s u h i l (a_long x) = by_is f x ∙ l
scalar_by f a b c s u h i l (an_unsigned_long x y) = by_is f x ∙ u
scalar_by f a b c s u h i l (a_long_long x y) = by_is f x ∙ l
scalar_by f a b c s u h i l (an_unsigned_long_long x y z) = by_is f x ∙ u

pub value_by : {A : Type 0} (f : Sort → A) (a : A) → f Name ≡ a → f OwnName ≡ a → f Boolean ≡ a → f Char ≡ a → f Signed ≡ a → f Unsigned ≡ a → f Short ≡ a → f Int ≡ a → f Long ≡ a →
    {text : List ℕ} {v : ValueType (List ℕ)} {ts r : List Lexeme} → ValueReads text v ts r → f (head ts) ≡ a
value_by f a n o b c s u h i l (a_scalar x) = scalar_by f a b c s u h i l x
value_by f a n o b c s u h i l (a_class_pointer x y p) = by_name f a n o x

-- a value
value_mark : Sort → ℕ
value_mark Name = 1
value_mark OwnName = 1
value_mark _ = 0

pub value_same : {text : List ℕ} {v w : ValueType (List ℕ)} {ts us r s a b : List Lexeme} {n m : Lexeme} → ts ≡ us → IsName n r a → IsName m s b →
    ValueReads text v ts r → ValueReads text w us s → (v ≡ w) × (r ≡ s)
unfolding value_mark
value_same e n m (a_scalar h) (a_scalar g) = let x = scalar_same e (by_name goes_on 0 refl refl n) (by_name goes_on 0 refl refl m) h g in (ap value.Number x.0, x.1)
value_same e n m (a_scalar h) (a_class_pointer i j p) =
    absurd (let f : 0 ≡ 1 = clash (λ us. value_mark (head us)) e (scalar_by value_mark 0 refl refl refl refl refl refl refl h) (by_name value_mark 1 refl refl i) in cc)
value_same e n m (a_class_pointer i j p) (a_scalar h) =
    absurd (let f : 1 ≡ 0 = clash (λ us. value_mark (head us)) e (by_name value_mark 1 refl refl i) (scalar_by value_mark 0 refl refl refl refl refl refl refl h) in cc)
value_same {text = text} e n m (a_class_pointer i j p) (a_class_pointer i' j' p') =
    (ap value.Pointer (p ∙ (ap (bytes_of text) (firsts e i.front i'.front) ∙ sym p')), rests (rests e i.front i'.front) j.front j'.front)
