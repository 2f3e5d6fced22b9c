-- Lemmas on lists of parts.
use Rattle.std.proofs.Common.{◌≡◌, ℕ, zero, suc, ◌+◌, ◌-◌, ◌<◌, ◌≤◌, ◌^◌, ⊎_elim, false, List, [], ◌∷◌, ◌++◌, length, map, take, drop, refl, ap, sym, ◌∙◌, arith}
use Rattle.std.specs.Prelude.{nat_eq, ◌&&◌, ◌||◌, All}
use Rattle.std.specs.List.{list_any}
use Rattle.std.proofs.lemmas.Bool.{eq-eqb, eqb-true}
use Rattle.std.proofs.lemmas.List.Elements.{All-nil, All-cons}
use Rattle.std.proofs.lemmas.List.{length-append, length-drop, take_all, take-append-le, take-append-drop}
use Rattle.std.proofs.lemmas.List.Folds.{list_any-append}
use Rattle.abi_emptybase.specs.declared.Part.{Part}
use Rattle.abi_emptybase.specs.Table.{same_placed_part, holds, moved_part, has_conflict, Adds}
use Rattle.abi_layout.specs.declared.component.Component.{Component}
use Rattle.abi_layout.specs.declared.placing.Placing.{Placing}
use Rattle.abi_layout.specs.invariants.Alignments.{LieUpTo, ListsFirstParts, IsTableReady}
pub use Rattle.foundation.proofs.Truth.{split, not_both as opposed}

-- no part is behind a place, and none once it is moved
pub within_further : (end further : ℕ) (parts : List Part) → end ≤ further → LieUpTo end parts → LieUpTo further parts
within_further end further [] le w = tt
within_further end further (part ∷ parts) le w = (let h = w.0 in omega arith, within_further end further parts le w.1)

pub within_moved : (end at : ℕ) (parts : List Part) → LieUpTo end parts → LieUpTo (at + end) (map (moved_part at) parts)
within_moved end at [] w = tt
within_moved end at (part ∷ parts) w = (let h = w.0 in omega arith, within_moved end at parts w.1)

pub within_both : (end : ℕ) (xs ys : List Part) → LieUpTo end xs → LieUpTo end ys → LieUpTo end (xs ++ ys)
within_both end [] ys v w = w
within_both end (x ∷ xs) ys v w = (v.0, within_both end xs ys v.1 w)

pub within_fits : (end at : ℕ) (parts : List Part) → end + at < 2 ^ 32 → LieUpTo end parts → All (λ (part : Part). part.place + at < 2 ^ 32) parts
within_fits end at [] lt w = All-nil (λ (part : Part). part.place + at < 2 ^ 32)
within_fits end at (part ∷ parts) lt w = All-cons (λ (part : Part). part.place + at < 2 ^ 32) part parts (let h = w.0 in omega arith) (within_fits end at parts lt w.1)

eq_turned : (a b : ℕ) → nat_eq a b ≡ nat_eq b a
eq_turned a b = split (nat_eq a b) (λ x. x ≡ nat_eq b a)
    (λ t. sym (eq-eqb b a (sym (eqb-true a b t))))
    (λ f. sym (split (nat_eq b a) (λ x. x ≡ false) (λ t. absurd (opposed (eq-eqb a b (sym (eqb-true b a t))) f)) (λ g. refl)))

same_turned : (x y : Part) → same_placed_part x y ≡ same_placed_part y x
same_turned x y = ap (λ b. b && nat_eq x.place y.place) (eq_turned x.class y.class) ∙ ap (λ b. nat_eq y.class x.class && b) (eq_turned x.place y.place)

-- a part is among moved parts
pub holds_moved : (parts : List Part) (at : ℕ) (q : Part) → holds (map (moved_part at) parts) q ≡ list_any (λ (part : Part). same_placed_part (moved_part at part) q) parts
holds_moved [] at q = refl
holds_moved (part ∷ parts) at q = ap (λ b. b || holds (map (moved_part at) parts) q) (same_turned q (moved_part at part)) ∙ ap (λ b. same_placed_part (moved_part at part) q || b) (holds_moved parts at q)

-- the list with moved parts behind it
pub holds_more : (xs parts : List Part) (at : ℕ) (q : Part) → holds (xs ++ map (moved_part at) parts) q ≡ (holds xs q || list_any (λ (part : Part). same_placed_part (moved_part at part) q) parts)
holds_more xs parts at q = list_any-append (same_placed_part q) xs (map (moved_part at) parts) ∙ ap (λ b. holds xs q || b) (holds_moved parts at q)

-- what conflicts by a table conflicts by a list of the same parts
pub conflict_same : (table list parts : List Part) (at : ℕ) → ((q : Part) → holds table q ≡ holds list q) → has_conflict table parts at ≡ has_conflict list parts at
conflict_same table list [] at same = refl
conflict_same table list (part ∷ parts) at same = ap (λ b. b || has_conflict table parts at) (same (moved_part at part)) ∙ ap (λ b. holds list (moved_part at part) || b) (conflict_same table list parts at same)

-- the table of the first parts, as they become more

-- a table that stays has the first of more parts
pub table_stays : (old new : Placing) (parts : List Part) → new.table ≡ old.table → new.listed ≡ old.listed → new.stage.parts ≡ old.stage.parts ++ parts → ListsFirstParts old → ListsFirstParts new
table_stays old new parts table listed more has = record {
  within = let some = has.within in let grown : length new.stage.parts ≡ length old.stage.parts + length parts = ap length more ∙ length-append old.stage.parts parts in omega arith;
  same = λ q.
      ap (λ (t : List Part). holds t q) table ∙ has.same q
      ∙ sym (ap (λ (xs : List Part). holds xs q) (ap (λ n. take n new.stage.parts) listed ∙ (ap (take old.listed) more ∙ take-append-le old.listed old.stage.parts parts has.within)));
}

not_moved : (parts : List Part) → map (moved_part 0) parts ≡ parts
not_moved [] = refl
not_moved (part ∷ parts) = let e : part.place + 0 ≡ part.place = omega arith in ap (λ n. record { class = part.class; place = n } ∷ map (moved_part 0) parts) e ∙ ap (λ (xs : List Part). part ∷ xs) (not_moved parts)

pub within_rest : (n end : ℕ) (parts : List Part) → LieUpTo end parts → LieUpTo end (drop n parts)
within_rest zero end parts w = w
within_rest (suc n) end [] w = tt
within_rest (suc n) end (part ∷ parts) w = within_rest n end parts w.1

pub rest_is : (n : ℕ) (xs ys : List Part) → xs ≡ ys → take (length xs - n) (drop n xs) ≡ drop n ys
rest_is n xs ys e = take_all (length xs - n) (drop n xs) (let rest = length-drop n xs in omega arith) ∙ ap (λ (zs : List Part). drop n zs) e

-- a table to which the rest was added has all parts
pub table_of_all : (old : Placing) (table rest : List Part) → ListsFirstParts old → rest ≡ drop old.listed old.stage.parts → Adds old.table table rest 0 → (q : Part) → holds table q ≡ holds (take (length old.stage.parts) old.stage.parts) q
table_of_all old table rest has is added q =
    let parts = old.stage.parts in
    added.each q
    ∙ (ap (λ b. b || list_any (λ (part : Part). same_placed_part (moved_part 0 part) q) rest) (has.same q)
    ∙ (sym (holds_more (take old.listed parts) rest 0 q)
    ∙ ap (λ (xs : List Part). holds xs q) (ap (λ (xs : List Part). take old.listed parts ++ xs) (not_moved rest ∙ is) ∙ (take-append-drop old.listed parts ∙ sym (take_all (length parts) parts (omega arith))))))

-- what conflicts by the table conflicts by the parts, where the table is ready for the component
pub conflict_ready : (placing : Placing) (component : Component) (at : ℕ) → ListsFirstParts placing → 8 < length placing.stage.parts → IsTableReady placing component → has_conflict placing.table component.parts at ≡ has_conflict placing.stage.parts component.parts at
conflict_ready placing component at has many ready =
    let parts = placing.stage.parts in
    ⊎_elim
    (λ few. absurd (omega arith))
    (λ asked. ⊎_elim
    (λ none. ap (λ (xs : List Part). has_conflict placing.table xs at) none ∙ sym (ap (λ (xs : List Part). has_conflict parts xs at) none))
    (λ all. conflict_same placing.table parts component.parts at (λ q. has.same q ∙ ap (λ (xs : List Part). holds xs q) (ap (λ n. take n parts) all ∙ take_all (length parts) parts (omega arith))))
    asked)
    ready
