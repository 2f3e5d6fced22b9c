-- The value of a leaf is read from its line.
use Rattle.std.proofs.Common.{◌≡◌, ◌∙◌, ℕ, Option, Some, None, Bor, List, [], ◌∷◌, ◌++◌, ap, sym, subst, append_assoc}
use Rattle.std.specs.Prelude.{Contains, MatchOption, codes}
use Rattle.std.proofs.lemmas.List.{append_cancel_left}
use Rattle.foundation.proofs.Members.{has_from_contains}
use Rattle.cxx_hierarchy.specs.Classes.{Classes}
use Rattle.abi_print.specs.LayoutTexts.{value_type_text as type_text}
use Rattle.abi_inspect.specs.declared.seen.SeenValue.{SeenValue}
use Rattle.abi_inspect.specs.declared.slots.LeafLine.{LeafLine}
use Rattle.abi_inspect.specs.Values.{IsValueOf, value_text}
use Rattle.abi_inspect.specs.SeenTexts.{before_value, leaf_line}
use Rattle.abi_inspect.specs.invariants.Readable.{IsNarrow}
use Rattle.abi_inspect.proofs.Tokens.{no_space}

-- what a call gives that has found nothing
pub none_then : {A : Type 0} (found : Option A) (P : Type 0) (Q : A → Type 0) → found ≡ None → P → MatchOption found P Q
none_then None P Q is p = p
none_then (Some x) P Q is p = cc

-- what a call says that has found nothing, or something
pub said_none : {A : Type 0} (found : Option A) (P : Type 0) (Q : A → Type 0) → found ≡ None → MatchOption found P Q → P
said_none None P Q is m = m
said_none (Some x) P Q is m = cc

pub said_some : {A : Type 0} (found : Option A) (P : Type 0) (Q : A → Type 0) (x : A) → found ≡ Some x → MatchOption found P Q → Q x
said_some None P Q x is m = cc
said_some (Some y) P Q x is m = let same : y ≡ x = cc in subst Q same m

-- what stands behind a line, and behind its line feed
pub fixed_more : (text line rest : List ℕ) (found : Option (Bor (List ℕ))) → text ≡ line ++ rest → MatchOption found ((r : List ℕ) → rest ≡ 10 ∷ r → ⊥) (λ r. rest ≡ 10 ∷ r.now) →
    MatchOption found ((r : List ℕ) → text ≡ (line ++ 10 ∷ []) ++ r → ⊥) (λ r. text ≡ (line ++ 10 ∷ []) ++ r.now)
fixed_more text line rest None is other = λ r e. other r (append_cancel_left line rest (10 ∷ r) (sym is ∙ (e ∙ append_assoc line (10 ∷ []) r)))
fixed_more text line rest (Some x) is behind = is ∙ (ap (λ (l : List ℕ). line ++ l) behind ∙ sym (append_assoc line (10 ∷ []) x.now))

-- what stands behind a text stands behind one that is the same
pub same_line : (text line other : List ℕ) (found : Option (Bor (List ℕ))) → line ≡ other → MatchOption found ((r : List ℕ) → text ≡ line ++ r → ⊥) (λ r. text ≡ line ++ r.now) →
    MatchOption found ((r : List ℕ) → text ≡ other ++ r → ⊥) (λ r. text ≡ other ++ r.now)
same_line text line other None is none = λ r e. none r (e ∙ ap (λ (l : List ℕ). l ++ r) (sym is))
same_line text line other (Some x) is behind = behind ∙ ap (λ (l : List ℕ). l ++ x.now) is

regroup : (b v z r : List ℕ) → ((b ++ v) ++ 32 ∷ z) ++ r ≡ b ++ (v ++ 32 ∷ (z ++ r))
regroup b v z r = simp append_assoc

module _ (h : Classes) (x : LeafLine) where
  -- what stands behind the space that ends a value
  last : List ℕ
  last = type_text h x.ty ++ codes " " ++ x.name ++ codes "\n"

  pub parts : (v : SeenValue) (r : List ℕ) → leaf_line h x v ++ r ≡ before_value x ++ (value_text x.bits.width x.ty v ++ 32 ∷ ((type_text h x.ty ++ codes " " ++ x.name ++ codes "\n") ++ r))
  parts v r = regroup (before_value x) (value_text x.bits.width x.ty v) (type_text h x.ty ++ codes " " ++ x.name ++ codes "\n") r

  -- what is read up to the first space is the value
  pub leaf_value : (text rest token line : List ℕ) (value v : SeenValue) (r : List ℕ) → IsNarrow x.bits.width → line ≡ before_value x → text ≡ line ++ rest →
      ((front more : List ℕ) → rest ≡ front ++ 32 ∷ more → (Contains front 32 → ⊥) → token ≡ front) → ((w : SeenValue) → IsValueOf x.bits.width x.ty w → token ≡ value_text x.bits.width x.ty w → value ≡ w) →
      IsValueOf x.bits.width x.ty v → text ≡ leaf_line h x v ++ r → value ≡ v
  leaf_value text rest token line value v r narrow line_is begins ends each fits is =
      let tail : List ℕ = (type_text h x.ty ++ codes " " ++ x.name ++ codes "\n") ++ r in
      let start : text ≡ before_value x ++ rest = begins ∙ ap (λ (l : List ℕ). l ++ rest) line_is in
      let same : rest ≡ value_text x.bits.width x.ty v ++ 32 ∷ tail = append_cancel_left (before_value x) rest (value_text x.bits.width x.ty v ++ 32 ∷ tail) (sym start ∙ (is ∙ parts v r)) in
      each v fits (ends (value_text x.bits.width x.ty v) tail same (λ has. no_space x.bits.width x.ty v narrow fits (has_from_contains (value_text x.bits.width x.ty v) 32 has)))

  -- a text with the line of a value begins with the line of the value that was read
  pub line_other : (text line : List ℕ) (value v : SeenValue) (r : List ℕ) → line ≡ leaf_line h x value → ((rest : List ℕ) → text ≡ line ++ rest → ⊥) → value ≡ v → text ≡ leaf_line h x v ++ r → ⊥
  line_other text line value v r line_is other same is =
      other r (is ∙ (ap (λ (w : SeenValue). leaf_line h x w ++ r) (sym same) ∙ ap (λ (l : List ℕ). l ++ r) (sym line_is)))
