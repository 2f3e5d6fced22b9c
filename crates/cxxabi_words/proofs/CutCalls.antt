-- What the calls of std give where a word is cut.
use Rattle.std.proofs.Common.{◌≡◌, ◌≢◌, ℕ, ◌<◌, List, [], ◌∷◌, ◌++◌, Option, Some, None, Bor, refl, sym, ◌∙◌, ap, arith}
use Rattle.std.specs.Prelude.{MatchOption, option_map, option_and_then}
use Rattle.std.proofs.lemmas.Str.Pattern.{IsSplitOnceResult, split_parts}
use Rattle.cxxabi_words.specs.invariants.Asked.{cut_at, behind_byte, cut_scope}
use Rattle.cxxabi_words.proofs.NameCuts.{Lacks, cut_nowhere, cut_whole, other_byte, own_byte}

parted : (c : ℕ) (bs : List ℕ) (r : Option (Bor (List ℕ) × Bor (List ℕ))) → MatchOption r (Lacks c bs) (λ x. (bs ≡ x.0.now ++ (c ∷ x.1.now)) × Lacks c x.0.now) → option_map (λ p. (p.0.now, p.1.now)) r ≡ cut_at c bs
parted c bs None lacks = sym (cut_nowhere c bs lacks)
parted c bs (Some x) parts = sym (ap (cut_at c) parts.0 ∙ cut_whole c x.0.now x.1.now parts.1)

-- a text that is split once is cut
pub cut_is : (c : ℕ) (bs : List ℕ) (r : Option (Bor (List ℕ) × Bor (List ℕ))) → IsSplitOnceResult c bs r → c < 128 → option_map (λ p. (p.0.now, p.1.now)) r ≡ cut_at c bs
cut_is c bs r is low = parted c bs r (split_parts c bs r is low)

-- without a colon there is no qualified name
pub no_scope : (bs : List ℕ) → None ≡ cut_at 58 bs → None ≡ cut_scope bs
no_scope bs none = ap (option_and_then (λ (p : List ℕ × List ℕ). option_map (λ member. (p.0, member)) (behind_byte 58 p.1))) none

behind_none : (c : ℕ) (bs : List ℕ) → ((rest : List ℕ) → bs ≢ c ∷ rest) → None ≡ behind_byte c bs
behind_none c [] none = refl
behind_none c (b ∷ bs) none = let off = other_byte b c (λ same. none bs (ap (λ n. n ∷ bs) same)) in rw off refl

behind_some : (c : ℕ) (rest : List ℕ) → Some rest ≡ behind_byte c (c ∷ rest)
behind_some c rest = rw (own_byte c) refl

-- neither is there one without a second colon
pub no_member : (bs class rest : List ℕ) → Some (class, rest) ≡ cut_at 58 bs → ((member : List ℕ) → rest ≢ 58 ∷ member) → None ≡ cut_scope bs
no_member bs class rest cut none =
    ap (option_map (λ member. (class, member))) (behind_none 58 rest none)
    ∙ ap (option_and_then (λ (p : List ℕ × List ℕ). option_map (λ member. (p.0, member)) (behind_byte 58 p.1))) cut

pub some_member : (bs class rest member : List ℕ) → Some (class, rest) ≡ cut_at 58 bs → rest ≡ 58 ∷ member → Some (class, member) ≡ cut_scope bs
some_member bs class rest member cut is =
    ap (option_map (λ m. (class, m))) (behind_some 58 member ∙ ap (behind_byte 58) (sym is))
    ∙ ap (option_and_then (λ (p : List ℕ × List ℕ). option_map (λ m. (p.0, m)) (behind_byte 58 p.1))) cut
