-- How far the part of a base lies.
use Rattle.std.proofs.Common.{◌≡◌, ℕ, true, false, Option, Some, refl, ap, subst, sym, ◌∙◌}
use Rattle.std.specs.Prelude.{IsSome, IsOk, Result, Ok, if◌then◌else◌}
use Rattle.byte_memory.specs.declared.memory.MemoryFault.{MemoryFault}
use Rattle.byte_memory.specs.Store.{Store, load_of}
use Rattle.byte_code.specs.declared.image.BaseRecord.{BaseRecord}
use Rattle.byte_code.specs.Records.{IsTableWord}
use Rattle.abi_dyncast.specs.Graph.{moved}
use Rattle.abi_dyncast.specs.Graph.{word_in, loaded_or_zero, has_virtual_flag, offset_word, vbase_at, distance_word}

-- how far a part's base lies, as the records, the pointer and the word say it
pub record IsFar (image : ℕ → Option ℕ) (memory : Store) (at to : ℕ) (base : BaseRecord) : Type 0 where
  pub there : moved at (distance_word image memory at base) ≡ to
  pub pointer : has_virtual_flag base ≡ true → IsOk (load_of memory at 8)
  pub word : has_virtual_flag base ≡ true → IsSome (image (vbase_at memory at base))
  pub table : has_virtual_flag base ≡ true → IsTableWord image (vbase_at memory at base)

pub far_plain : (image : ℕ → Option ℕ) (memory : Store) (at to : ℕ) (base : BaseRecord) → has_virtual_flag base ≡ false → moved at (offset_word base) ≡ to → IsFar image memory at to base
far_plain image memory at to base plain there = record {
  there = ap (λ b. moved at (if b then word_in (image (vbase_at memory at base)) else offset_word base)) plain ∙ there;
  pointer = λ v. absurd (cc);
  word = λ v. absurd (cc);
  table = λ v. absurd (cc);
}

pub far_virtual : (image : ℕ → Option ℕ) (memory : Store) (at to point place word : ℕ) (base : BaseRecord) → has_virtual_flag base ≡ true → load_of memory at 8 ≡ Ok point → moved point (offset_word base) ≡ place → image place ≡ Some word → moved at word ≡ to → IsTableWord image place → IsFar image memory at to base
far_virtual image memory at to point place word base v load there is leads clear =
    let spot : vbase_at memory at base ≡ place = ap (λ (r : Result ℕ MemoryFault). moved (loaded_or_zero r) (offset_word base)) load ∙ there in
    let found : image (vbase_at memory at base) ≡ Some word = ap image spot ∙ is in
    record {
      there = ap (λ b. moved at (if b then word_in (image (vbase_at memory at base)) else offset_word base)) v ∙ (ap (λ o. moved at (word_in o)) found ∙ leads);
      pointer = λ t. subst (λ (r : Result ℕ MemoryFault). IsOk r) (sym load) refl;
      word = λ t. subst (λ o. IsSome o) (sym found) refl;
      table = λ t. subst (λ n. IsTableWord image n) (sym spot) clear;
    }
