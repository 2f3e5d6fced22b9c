-- Lemmas on lists in which some part stands twice.
use Rattle.std.proofs.Common.{◌≡◌, ℕ, zero, suc, ◌+◌, ◌<◌, ◌≤◌, ⊎_elim, Bool, true, false, Some, List, [], ◌∷◌, ◌++◌, length, get_or, take, refl, ap, subst, sym, ◌∙◌, arith}
use Rattle.std.specs.Prelude.{◌&&◌, ◌||◌, nat_eq}
use Rattle.std.specs.List.{slice_get, list_any}
use Rattle.std.proofs.lemmas.Bool.{eqb-true, cases_order}
use Rattle.std.proofs.lemmas.Bool.Decides.{nat_tests}
use Rattle.std.proofs.lemmas.List.{take_more}
use Rattle.std.proofs.lemmas.Option.{slice_get_read}
use Rattle.abi_emptybase.specs.declared.Part.{Part}
use Rattle.abi_emptybase.specs.Table.{same_placed_part, holds, moved_part, Adds}
use Rattle.abi_layout.specs.Repeats.{HasRepeat}
use Rattle.abi_layout.specs.invariants.Ranks.{rank}
use Rattle.abi_layout.proofs.rules.Parts.{split, opposed, holds_more}
use Rattle.abi_layout.proofs.rules.PlacedLemmas.{moved_none}

abbrev part_with : ℕ → ℕ → Part
part_with class place = record { class = class; place = place }

same_is : (x y : Part) → same_placed_part x y ≡ true → x ≡ y
same_is x y e = split (nat_eq x.class y.class) (λ b. (b && nat_eq x.place y.place) ≡ true → x ≡ y)
    (λ t place. let a = eqb-true x.class y.class t in let b = eqb-true x.place y.place place in let r : part_with x.class x.place ≡ part_with y.class y.place = cc in r)
    (λ f none. let g : false ≡ true = none in cc) e

same_itself : (x : Part) → same_placed_part x x ≡ true
same_itself x = ap (λ b. b && nat_eq x.place x.place) (itself x.class) ∙ itself x.place
  where
    itself : (n : ℕ) → nat_eq n n ≡ true
    itself n = grind (arith, nat_tests)

-- where a part stands
pub record StandsIn (parts : List Part) (part : Part) : Type 0 where
  pub number : ℕ
  pub there : slice_get parts number ≡ Some part

pub stands : (parts : List Part) (part : Part) → holds parts part ≡ true → StandsIn parts part
stands [] part e = let f : false ≡ true = e in cc
stands (x ∷ parts) part e = split (same_placed_part part x) (λ b. (b || holds parts part) ≡ true → StandsIn (x ∷ parts) part)
    (λ t any. record { number = zero; there = ap (λ (y : Part). Some y) (sym (same_is part x t)) })
    (λ f rest. let later = stands parts part rest in record { number = suc later.number; there = later.there }) e

pub held : (parts : List Part) (number : ℕ) (part : Part) → slice_get parts number ≡ Some part → holds parts part ≡ true
held [] number part e = cc
held (x ∷ parts) zero part e = let is : x ≡ part = cc in ap (λ b. b || holds parts part) (ap (same_placed_part part) is ∙ same_itself part)
held (x ∷ parts) (suc number) part e = or_right (same_placed_part part x) (holds parts part) (held parts number part e)
  where
    or_right : (a b : Bool) → b ≡ true → (a || b) ≡ true
    or_right true b t = refl
    or_right false b t = t

get_below : (parts : List Part) (number : ℕ) (part : Part) → slice_get parts number ≡ Some part → number < length parts
get_below [] number part e = cc
get_below (x ∷ parts) zero part e = omega arith
get_below (x ∷ parts) (suc number) part e = let lt = get_below parts number part e in omega arith

from_front : (parts : List Part) (i number : ℕ) (part : Part) → slice_get (take i parts) number ≡ Some part → (number < i) × (slice_get parts number ≡ Some part)
from_front [] zero number part e = cc
from_front [] (suc i) number part e = cc
from_front (x ∷ parts) zero number part e = cc
from_front (x ∷ parts) (suc i) zero part e = (omega arith, e)
from_front (x ∷ parts) (suc i) (suc number) part e = let r = from_front parts i number part e in let lt = r.0 in (omega arith, r.1)

to_front : (parts : List Part) (i number : ℕ) (part : Part) → number < i → slice_get parts number ≡ Some part → slice_get (take i parts) number ≡ Some part
to_front [] i number part lt e = cc
to_front (x ∷ parts) zero number part lt e = absurd (omega arith)
to_front (x ∷ parts) (suc i) zero part lt e = e
to_front (x ∷ parts) (suc i) (suc number) part lt e = to_front parts i number part (omega arith) e

-- none of the first i parts stands twice, and the table has them
pub record AreSingle (parts : List Part) (i : ℕ) (table : List Part) : Type 0 where
  pub same : (q : Part) → holds table q ≡ holds (take i parts) q
  pub once : (j k : ℕ) (part : Part) → j < k → k < i → slice_get parts j ≡ Some part → slice_get parts k ≡ Some part → ⊥

pub repeated : (parts table : List Part) (i : ℕ) (part : Part) → i < length parts → part ≡ get_or parts i part → AreSingle parts i table → holds table part ≡ true → HasRepeat parts
repeated parts table i part lt is single taken =
    let earlier = stands (take i parts) part (sym (single.same part) ∙ taken) in
    let at = from_front parts i earlier.number part earlier.there in
    record { first = earlier.number; second = i; part = part; ordered = at.0; at_first = at.1; at_second = slice_get_read parts (length parts) i part refl lt is }

pub single_more : (parts table new : List Part) (i : ℕ) (part : Part) → i < length parts → part ≡ get_or parts i part → AreSingle parts i table → holds table part ≡ false → Adds table new (part ∷ []) 0 → AreSingle parts (i + 1) new
single_more parts table new i part lt is single free adds = record {
  same = λ q.
      adds.each q
      ∙ (ap (λ b. b || list_any (λ (x : Part). same_placed_part (moved_part 0 x) q) (part ∷ [])) (single.same q)
      ∙ (sym (holds_more (take i parts) (part ∷ []) 0 q)
      ∙ (ap (λ (xs : List Part). holds (take i parts ++ xs) q) (moved_none (part ∷ []))
      ∙ ap (λ (xs : List Part). holds xs q) (ap (λ (x : Part). take i parts ++ x ∷ []) is ∙ sym (take_more parts i part lt)))));
  once = λ j k x less below a b. ⊎_elim
      (λ e. at_end j x (omega arith) a (subst (λ n. slice_get parts n ≡ Some x) e b))
      (λ o. ⊎_elim (λ l. single.once j k x less l a b) (λ g. absurd (omega arith)) o)
      (cases_order k i);
}
  where
    at_end : (j : ℕ) (x : Part) → j < i → slice_get parts j ≡ Some x → slice_get parts i ≡ Some x → ⊥
    at_end j x less a b =
        let here : slice_get parts i ≡ Some part = slice_get_read parts (length parts) i part refl lt is in
        let same : x ≡ part = cc in
        let taken = held (take i parts) j x (to_front parts i j x less a) in
        opposed (single.same part ∙ subst (λ (y : Part). holds (take i parts) y ≡ true) same taken) free

pub none_twice : (parts table : List Part) (i : ℕ) → length parts ≤ i → AreSingle parts i table → HasRepeat parts → ⊥
none_twice parts table i le single twice =
    let lt = get_below parts twice.second twice.part twice.at_second in
    single.once twice.first twice.second twice.part twice.ordered (omega arith) twice.at_first twice.at_second

-- the ranks of the first i parts fall, and none is below the bound
pub record AreFalling (parts : List Part) (i bound : ℕ) : Type 0 where
  pub above : (j : ℕ) (part : Part) → j < i → slice_get parts j ≡ Some part → bound ≤ rank part
  pub once : (j k : ℕ) (part : Part) → j < k → k < i → slice_get parts j ≡ Some part → slice_get parts k ≡ Some part → ⊥

pub none_falls : (parts : List Part) (bound : ℕ) → AreFalling parts 0 bound
none_falls parts bound = record { above = λ j part lt e. absurd (omega arith); once = λ j k part less lt a b. absurd (omega arith) }

pub falls_more : (parts : List Part) (i bound : ℕ) (part : Part) → i < length parts → part ≡ get_or parts i part → AreFalling parts i bound → rank part < bound → AreFalling parts (i + 1) (rank part)
falls_more parts i bound part lt is falling low = record {
  above = λ j x less e. ⊎_elim
      (λ same. let one = here x (subst (λ n. slice_get parts n ≡ Some x) same e) in let c : rank x ≡ rank part = ap rank one in omega arith)
      (λ o. ⊎_elim (λ l. let high = falling.above j x l e in omega (arith, high, low)) (λ g. absurd (omega arith)) o)
      (cases_order j i);
  once = λ j k x less below a b. ⊎_elim
      (λ same.
      let one = here x (subst (λ n. slice_get parts n ≡ Some x) same b) in
      let c : rank x ≡ rank part = ap rank one in
      let before : j < i = omega arith in
      let high = falling.above j x before a in absurd (omega (arith, high, low, c)))
      (λ o. ⊎_elim (λ l. falling.once j k x less l a b) (λ g. absurd (omega arith)) o)
      (cases_order k i);
}
  where
    here : (x : Part) → slice_get parts i ≡ Some x → x ≡ part
    here x e = let at : slice_get parts i ≡ Some part = slice_get_read parts (length parts) i part refl lt is in cc

pub none_repeats : (parts : List Part) (i bound : ℕ) → length parts ≤ i → AreFalling parts i bound → HasRepeat parts → ⊥
none_repeats parts i bound le falling twice =
    let lt = get_below parts twice.second twice.part twice.at_second in
    falling.once twice.first twice.second twice.part twice.ordered (omega arith) twice.at_first twice.at_second
