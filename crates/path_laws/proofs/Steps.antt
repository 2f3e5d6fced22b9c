-- A leaf by the steps that lead to it from its heap object, the innermost first.
use Rattle.std.proofs.Common.{◌≡◌, arith, List, [], ◌∷◌, ◌++◌, length, ap, sym, ◌∙◌, append_assoc, length-append}
use Rattle.cxx_subobject.specs.Locations.{Step}
use Rattle.path_model.specs.Values.{Leaf}

-- the step into the member, and those to the complete object that the leaf's part belongs to
abbrev pub steps_to : Leaf → List Step
steps_to l = record { base = l.part.at; member = l.member; index = l.index } ∷ l.part.owner

-- behind the steps of o this one is next on the way to the leaf
pub record GoesOn (o : List Step) (step : Step) (l : Leaf) : Type 0 where
  pub front : List Step
  pub is : steps_to l ≡ front ++ step ∷ o

-- what goes on further
pub goes_before : (o : List Step) (a b : Step) (l : Leaf) → GoesOn (a ∷ o) b l → GoesOn o a l
goes_before o a b l t = record { front = t.front ++ b ∷ []; is = t.is ∙ sym (append_assoc t.front (b ∷ []) (a ∷ o)) }

same_behind : (xs ys : List Step) (a b : Step) (o : List Step) → xs ++ a ∷ o ≡ ys ++ b ∷ o → a ≡ b
same_behind [] [] a b o e = cc
same_behind [] (y ∷ ys) a b o e = let f : length (a ∷ o) ≡ length (y ∷ (ys ++ b ∷ o)) = ap length e in let g = length-append ys (b ∷ o) in absurd (omega (arith, f, g))
same_behind (x ∷ xs) [] a b o e = let f : length (x ∷ (xs ++ a ∷ o)) ≡ length (b ∷ o) = ap length e in let g = length-append xs (a ∷ o) in absurd (omega (arith, f, g))
same_behind (x ∷ xs) (y ∷ ys) a b o e = same_behind xs ys a b o (let f : xs ++ a ∷ o ≡ ys ++ b ∷ o = cc in f)

-- to a leaf one step is next
pub one_step : (o : List Step) (a b : Step) (l : Leaf) → GoesOn o a l → GoesOn o b l → a ≡ b
one_step o a b l s t = same_behind s.front t.front a b o (sym s.is ∙ t.is)
