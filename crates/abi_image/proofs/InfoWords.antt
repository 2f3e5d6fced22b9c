use Rattle.std.proofs.Common.{◌≡◌, ℕ, zero, suc, ◌+◌, ◌*◌, ◌<◌, ◌≤◌, ◌^◌, Some, List, [], ◌∷◌, ◌++◌, length, refl, ap, sym, ◌∙◌, subst, arith}
use Rattle.cxx_hierarchy.specs.declared.records.ClassId.{ClassId}
use Rattle.byte_code.specs.Numbers.{word_of}
use Rattle.abi_slots.specs.declared.words.InfoBase.{InfoBase}
use Rattle.abi_slots.specs.declared.words.TypeInfo.{TypeInfo}
use Rattle.abi_slots.specs.Images.{Image, HasBaseWords, HasBases, HasInfo, info_bases, info_flags}
use Rattle.abi_image.specs.declared.draft.Draft.{Draft}
use Rattle.abi_image.specs.declared.TheConstants.{BASE}
use Rattle.abi_image.specs.invariants.Drafts.{HasBasesAt, HasHead, Puts, first_base_address, info_size}
use Rattle.abi_image.proofs.Filling.{puts_as, puts_both, puts_word}

-- two words are put
pub puts_two : (a b c : Draft) (v w : ℕ) → b.words.items ≡ a.words.items ++ v ∷ [] → b.records ≡ a.records → b.records_at ≡ a.records_at →
    c.words.items ≡ b.words.items ++ w ∷ [] → c.records ≡ b.records → c.records_at ≡ b.records_at →
    Puts a c 2 (λ image at. (image at ≡ Some v) × (image (at + 8 * 1) ≡ Some w))
puts_two a b c v w words records place words2 records2 place2 = puts_both a b c 1 1 (λ image at. image at ≡ Some v) (λ image at. image at ≡ Some w) (puts_word a b v words records place) (puts_word b c w words2 records2 place2)

-- the two words of a base
pub puts_base : (a b c : Draft) (info : ClassId → ℕ) (base : InfoBase) (v w : ℕ) → v ≡ info base.class → w ≡ word_of base.offset_flags →
    b.words.items ≡ a.words.items ++ v ∷ [] → b.records ≡ a.records → b.records_at ≡ a.records_at →
    c.words.items ≡ b.words.items ++ w ∷ [] → c.records ≡ b.records → c.records_at ≡ b.records_at →
    Puts a c 2 (λ image at. HasBaseWords image info base at)
puts_base a b c info base v w first second words records place words2 records2 place2 =
    puts_as a c 2 2 (λ image at. (image at ≡ Some v) × (image (at + 8 * 1) ≡ Some w)) (λ image at. HasBaseWords image info base at) (puts_two a b c v w words records place words2 records2 place2) refl
    (λ image at h. record { class = h.0 ∙ ap Some first; offset_flags = h.1 ∙ ap Some second })

-- the four words of the record of a class
pub puts_head : (a b c d e : Draft) (id : ClassId) (info : TypeInfo) (v w x y : ℕ) → v ≡ id.0 → w ≡ info_flags info → x ≡ length (info_bases info) →
    y ≡ first_base_address (BASE + 8 * length a.words.items) x → v < 2 ^ 32 → w < 2 ^ 32 → x < 2 ^ 32 →
    b.words.items ≡ a.words.items ++ v ∷ [] → b.records ≡ a.records → b.records_at ≡ a.records_at →
    c.words.items ≡ b.words.items ++ w ∷ [] → c.records ≡ b.records → c.records_at ≡ b.records_at →
    d.words.items ≡ c.words.items ++ x ∷ [] → d.records ≡ c.records → d.records_at ≡ c.records_at →
    e.words.items ≡ d.words.items ++ y ∷ [] → e.records ≡ d.records → e.records_at ≡ d.records_at →
    Puts a e 4 (λ image at. HasHead image id info at)
puts_head a b c d e id info v w x y class flags count first vs ws xs b1 b2 b3 c1 c2 c3 d1 d2 d3 e1 e2 e3 =
    let front = puts_two a b c v w b1 b2 b3 c1 c2 c3 in
    let back = puts_two c d e x y d1 d2 d3 e1 e2 e3 in
    let all = puts_both a c e 2 2 (λ image at. (image at ≡ Some v) × (image (at + 8 * 1) ≡ Some w)) (λ image at. (image at ≡ Some x) × (image (at + 8 * 1) ≡ Some y)) front back in
    record {
      words = all.words;
      count_is = all.count_is;
      words_are = all.words_are;
      records = all.records;
      records_are = all.records_are;
      few = all.few;
      same_place = all.same_place;
      says = λ image inside.
          let h = all.says image inside in
          let at : ℕ = BASE + 8 * length a.words.items in
          let there : at + 16 + 8 ≡ at + 24 = omega arith in
          record {
            class = h.0.0 ∙ ap Some class;
            flags = h.0.1 ∙ ap Some flags;
            count = h.1.0 ∙ ap Some count;
            first = sym (ap image there) ∙ h.1.1 ∙ ap Some (first ∙ ap (λ n. first_base_address at n) count);
            class_fits = subst (λ n. n < 2 ^ 32) class vs;
            flags_fit = subst (λ n. n < 2 ^ 32) flags ws;
            count_fits = subst (λ n. n < 2 ^ 32) count xs;
          };
    }

first_behind : (at n : ℕ) → 0 < n → at ≤ first_base_address at n
first_behind at zero some = absurd (omega arith)
first_behind at (suc n) some = omega arith

bases_behind : (image : Image) (info : ClassId → ℕ) (bases : List InfoBase) (at : ℕ) → HasBasesAt image info bases (at + 32) → HasBases image info bases (first_base_address at (length bases))
bases_behind image info [] at h = refl
bases_behind image info (base ∷ bases) at h = (omega arith, λ i b e. h i b e)

-- the record of a class, and its bases behind it
pub puts_info : (a b c : Draft) (info_at : ClassId → ℕ) (id : ClassId) (info : TypeInfo) → Puts a b 4 (λ image at. HasHead image id info at) → Puts b c (2 * length (info_bases info)) (λ image at. HasBasesAt image info_at (info_bases info) at) → Puts a c (info_size info) (λ image at. HasInfo image info_at id info at)
puts_info a b c info_at id info head bases = puts_as a c (4 + 2 * length (info_bases info)) (info_size info) (λ image at. HasHead image id info at × HasBasesAt image info_at (info_bases info) (at + 8 * 4)) (λ image at. HasInfo image info_at id info at)
    (puts_both a b c 4 (2 * length (info_bases info)) (λ image at. HasHead image id info at) (λ image at. HasBasesAt image info_at (info_bases info) at) head bases) refl
    (λ image at h. record {
      class = h.0.class;
      flags = h.0.flags;
      count = h.0.count;
      class_fits = h.0.class_fits;
      flags_fit = h.0.flags_fit;
      count_fits = h.0.count_fits;
      first = first_base_address at (length (info_bases info));
      at_first = h.0.first;
      behind = first_behind at (length (info_bases info));
      bases = bases_behind image info_at (info_bases info) at h.1;
    })
