-- Tables of classes that are made class by class.
use Rattle.std.proofs.Common.{◌≡◌, ℕ, ◌+◌, ◌≤◌, ◌<◌, ⊎_elim, true, Some, List, [], ◌∷◌, ◌++◌, length, ap, subst, sym, ◌∙◌, arith}
use Rattle.std.specs.Prelude.{slice_get, min}
use Rattle.foundation.proofs.Places.{get_pushed, length_pushed}
use Rattle.cxx_hierarchy.specs.Classes.{Classes}
use Rattle.abi_sound.specs.Places.{Places}
use Rattle.abi_vtt.specs.Vtts.{has_vtt}
use Rattle.abi_vtt.specs.Blocks.{block_length}
use Rattle.abi_tables.specs.Counts.{most_words}
use Rattle.code_plans.specs.ClassTables.{AreBlocks}

pub none_blocks : (h : Classes) (l : Places) (blocks : List ℕ) → blocks ≡ [] → AreBlocks h l blocks
none_blocks h l blocks e = record {
  few = let size : length blocks ≡ 0 = ap length e in omega arith;
  each = λ n m there has. absurd (let nothing : List ℕ = [] in let at : slice_get nothing n ≡ Some m = subst (λ (xs : List ℕ). slice_get xs n ≡ Some m) e there in cc);
}

pub one_more_block : (h : Classes) (l : Places) (n : ℕ) (blocks new : List ℕ) (block : ℕ) → n < length h → length blocks ≡ n → new ≡ blocks ++ block ∷ [] → (has_vtt h (record { 0 = n }) ≡ true → block ≡ block_length h l (record { 0 = n })) → AreBlocks h l blocks → AreBlocks h l new
one_more_block h l n blocks new block lt size is own are = record {
  few = let more : length new ≡ length blocks + 1 = ap length is ∙ length_pushed blocks block in omega arith;
  each = λ k m there has. ⊎_elim (λ before. are.each k m before has)
      (λ last. let at : k ≡ n = last.0 ∙ size in last.1 ∙ own (subst (λ (i : ℕ). has_vtt h (record { 0 = i }) ≡ true) at has) ∙ ap (λ (i : ℕ). block_length h l (record { 0 = i })) (sym at))
      (get_pushed blocks block k m (subst (λ (xs : List ℕ). slice_get xs k ≡ Some m) is there));
}

pub size_more : {A : Type 0} (n : ℕ) (xs new : List A) (x : A) → length xs ≡ n → new ≡ xs ++ x ∷ [] → length new ≡ n + 1
size_more n xs new x size is = ap length is ∙ length_pushed xs x ∙ ap (λ k. k + 1) size

-- a number of words within the limit is not cut
pub words_are : (words all : ℕ) → words ≡ min all (most_words + 1) → all ≤ most_words → words ≡ all
words_are words all is few = omega arith
