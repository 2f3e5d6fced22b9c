-- The first tokens of a list.
use Rattle.std.proofs.Common.{◌≡◌, ℕ, true, List, [], ◌∷◌, ap, sym, ◌∙◌}
use Rattle.cxx_grammar.specs.declared.sort.Sort.{Sort}
use Rattle.cxx_grammar.specs.declared.sort.Sort.TheVariants.{Name, OwnName, Number, Zero, Bad}
use Rattle.cxx_grammar.specs.declared.sort.Lexeme.{Lexeme}
use Rattle.cxx_grammar.specs.Sorts.{is_name, is_number}
use Rattle.cxx_grammar.specs.Front.{Is, IsName, IsNumber}

abbrev pub head : List Lexeme → Sort
head [] = Bad
head (l ∷ ts) = l.sort

abbrev pub tail : List Lexeme → List Lexeme
tail [] = []
tail (l ∷ ts) = ts

abbrev pub first_or : Lexeme → List Lexeme → Lexeme
first_or d [] = d
first_or d (l ∷ ts) = l

-- two readings of the front of one list: the same rest, and the same token
pub rests : {ts us r s : List Lexeme} {l m : Lexeme} → ts ≡ us → ts ≡ l ∷ r → us ≡ m ∷ s → r ≡ s
rests e f g = ap tail (sym f ∙ (e ∙ g))

pub firsts : {ts us r s : List Lexeme} {l m : Lexeme} → ts ≡ us → ts ≡ l ∷ r → us ≡ m ∷ s → l ≡ m
firsts {l = l} e f g = ap (first_or l) (sym f ∙ (e ∙ g))

-- what a function of the first sort gives
pub by_is : {A : Type 0} (f : Sort → A) {s : Sort} {l : Lexeme} {ts r : List Lexeme} → Is s l ts r → f (head ts) ≡ f s
by_is f i = ap (λ us. f (head us)) i.front ∙ ap f i.sort

name_by : {A : Type 0} (f : Sort → A) (a : A) → f Name ≡ a → f OwnName ≡ a → (s : Sort) → is_name s ≡ true → f s ≡ a
name_by f a p q Name h = p
name_by f a p q OwnName h = q
name_by f a p q _ h = absurd (cc)

number_by : {A : Type 0} (f : Sort → A) (a : A) → f Number ≡ a → f Zero ≡ a → (s : Sort) → is_number s ≡ true → f s ≡ a
number_by f a p q Number h = p
number_by f a p q Zero h = q
number_by f a p q _ h = absurd (cc)

pub by_name : {A : Type 0} (f : Sort → A) (a : A) → f Name ≡ a → f OwnName ≡ a → {l : Lexeme} {ts r : List Lexeme} → IsName l ts r → f (head ts) ≡ a
by_name f a p q {l = l} i = ap (λ us. f (head us)) i.front ∙ name_by f a p q l.sort i.name

pub by_number : {A : Type 0} (f : Sort → A) (a : A) → f Number ≡ a → f Zero ≡ a → {l : Lexeme} {ts r : List Lexeme} → IsNumber l ts r → f (head ts) ≡ a
by_number f a p q {l = l} i = ap (λ us. f (head us)) i.front ∙ number_by f a p q l.sort i.number

-- two forms of one list
pub clash : (f : List Lexeme → ℕ) {ts us : List Lexeme} {m n : ℕ} → ts ≡ us → f ts ≡ m → f us ≡ n → m ≡ n
clash f e p q = sym p ∙ (ap f e ∙ q)
