-- Bytes that come or go in pieces.
use Rattle.std.proofs.Common.{◌≡◌, ℕ, ◌≤◌, Option, Some, None, List, [], ◌∷◌, zero, suc, ◌++◌, take, drop, length, refl, sym, ◌∙◌, ap, subst, arith}
use Rattle.std.specs.Prelude.{IfSome}
use Rattle.std.proofs.Math.Seq.{take-append_seam, drop-append_seam}
use Rattle.std.proofs.Math.ListN.{drop_of_length-le}
use Rattle.std.proofs.lemmas.List.{append-nil}
use Rattle.cxxabi_streams.specs.Streams.{Reads, AddsFrontOf}

-- the bytes are those read so far and those that are left
pub record SoFar (bytes text : List ℕ) (after : Option (List ℕ)) : Type 0 where
  pub rest : List ℕ
  pub left : after ≡ Some rest
  pub all : bytes ≡ text ++ rest

-- a front of a list that is no longer than asked is the list
take_whole : (xs : List ℕ) (n : ℕ) → length xs ≤ n → take n xs ≡ xs
take_whole [] zero h = refl
take_whole [] (suc n) h = refl
take_whole (x ∷ xs) zero h = absurd (omega arith)
take_whole (x ∷ xs) (suc n) h = ap (λ r. x ∷ r) (take_whole xs n (omega arith))

-- the limit was reached
pub taken_full : (told : Option (List ℕ)) (text : List ℕ) (after : Option (List ℕ)) (n : ℕ) → IfSome told (λ bytes. SoFar bytes text after) → length text ≡ n → IfSome told (λ bytes. text ≡ take n bytes)
taken_full None text after n so e = so
taken_full (Some bytes) text after n so e = rw (so.all, ← e) (sym (take-append_seam text so.rest))

pub left_full : (told : Option (List ℕ)) (text : List ℕ) (after : Option (List ℕ)) (n : ℕ) → IfSome told (λ bytes. SoFar bytes text after) → length text ≡ n → IfSome told (λ bytes. after ≡ Some (drop n bytes))
left_full None text after n so e = so
left_full (Some bytes) text after n so e = rw (so.all, ← e) (so.left ∙ ap (λ r. Some r) (sym (drop-append_seam text so.rest)))

-- what a read of no byte says
pub nothing_left : (bytes text : List ℕ) (before after : Option (List ℕ)) (k : ℕ) (buffer : List ℕ) → (so : SoFar bytes text before) → Reads before after k buffer → k ≡ 0 → (bytes ≡ text) × (after ≡ Some [])
nothing_left bytes text before after k buffer so reads e =
    let read = subst (λ o. Reads o after k buffer) so.left reads in
    let none : so.rest ≡ [] = read.end.0 e in
    (so.all ∙ ap (λ r. text ++ r) none ∙ append-nil text, read.rest ∙ ap (λ r. Some (drop k r)) none ∙ ap (λ n. Some (drop n [])) e)

-- the end was reached within n bytes
pub taken_ended : (told : Option (List ℕ)) (text : List ℕ) (before after : Option (List ℕ)) (k n : ℕ) (buffer : List ℕ) → IfSome told (λ bytes. SoFar bytes text before) → Reads before after k buffer → k ≡ 0 → length text ≤ n → IfSome told (λ bytes. text ≡ take n bytes)
taken_ended None text before after k n buffer so reads e within = so
taken_ended (Some bytes) text before after k n buffer so reads e within =
    let same = (nothing_left bytes text before after k buffer so reads e).0 in rw same (sym (take_whole text n within))

pub left_ended : (told : Option (List ℕ)) (text : List ℕ) (before after : Option (List ℕ)) (k n : ℕ) (buffer : List ℕ) → IfSome told (λ bytes. SoFar bytes text before) → Reads before after k buffer → k ≡ 0 → length text ≤ n → IfSome told (λ bytes. after ≡ Some (drop n bytes))
left_ended None text before after k n buffer so reads e within = so
left_ended (Some bytes) text before after k n buffer so reads e within =
    let both = nothing_left bytes text before after k buffer so reads e in rw both.0 (both.1 ∙ ap (λ r. Some r) (sym (drop_of_length-le text within)))

-- the text is what was given so far and the rest
pub record IsGiven (bytes text rest : List ℕ) (after : Option (List ℕ)) : Type 0 where
  pub front : List ℕ
  pub taken : after ≡ Some (bytes ++ front)
  pub all : text ≡ front ++ rest

-- a failed write leaves what was given so far
pub part_given : (told : Option (List ℕ)) (text rest : List ℕ) (before after : Option (List ℕ)) → IfSome told (λ bytes. IsGiven bytes text rest before) → after ≡ before → IfSome told (λ bytes. AddsFrontOf bytes text after)
part_given None text rest before after given kept = given
part_given (Some bytes) text rest before after given kept =
    record { count = length given.front; taken = kept ∙ given.taken ∙ ap (λ f. Some (bytes ++ f)) (rw given.all (sym (take-append_seam given.front rest))) }
