-- Items by number in pages: a page is there only where an item was set, and each other item is the blank one.
use Rattle.std.specs.Prelude.{◌≡◌, ℕ, zero, suc, ◌+◌, ◌*◌, ◌/◌, ◌%◌, ◌<◌, ◌≤◌, List, [], ◌∷◌, slice_index_or}

-- an item of the page that stands at a place, counted from 1; there is no page 0
abbrev pub in_page : {X : Type 0} → List X → X → ℕ → ℕ → ℕ → X
in_page slots blank width zero rest = blank
in_page slots blank width (suc page) rest = slice_index_or slots (page * width + rest) blank

-- the item of a number, where pages have this width, and place says where the page stands that has a number's item
abbrev pub paged : {X : Type 0} → (ℕ → ℕ) → List X → X → ℕ → ℕ → X
paged place slots blank width n = in_page slots blank width (place (n / width)) (n % width)

-- so many pages stand in the slots, each for numbers of its own, and behind them is nothing but blank items
pub record ArePages {X : Type 0} (place : ℕ → ℕ) (slots : List X) (blank : X) (width count : ℕ) : Type 0 where
  pub few : (p page : ℕ) → place p ≡ suc page → page < count
  pub once : (p q page : ℕ) → place p ≡ suc page → place q ≡ suc page → p ≡ q
  pub rest : (i : ℕ) → count * width ≤ i → slice_index_or slots i blank ≡ blank

-- the items of the numbers below n
abbrev pub listed : {X : Type 0} → (ℕ → X) → ℕ → List X
listed item zero = []
listed item (suc n) = item 0 ∷ listed (λ i. item (suc i)) n
