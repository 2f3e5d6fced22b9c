-- The bits of pages, and of the words that stand in them.
use Rattle.std.proofs.Common.{◌≡◌, ℕ, ◌+◌, ◌*◌, ◌/◌, ◌%◌, ◌<◌, ◌≤◌, ◌^◌, Some, None, List, refl, ap, sym, ◌∙◌, arith}
use Rattle.std.specs.List.{find}
use Rattle.std.proofs.lemmas.Bool.Decides.{nat_tests}
use Rattle.byte_memory.specs.declared.cells.Word.{Word}
use Rattle.byte_memory.specs.declared.page.Page.{Page}
use Rattle.byte_memory.specs.Words.{masked, word_bit, words_bits}
use Rattle.byte_memory.specs.Pages.{numbered, page_bit, bits_of}
use Rattle.byte_memory.proofs.Ascending.{HasAddress}
use Rattle.byte_memory.proofs.WordBits.{masked_none}
use Rattle.byte_memory.proofs.ByteViews.{power_of_bytes}

-- a page of a number has it as its address
pub numbered-address : (pages : List Page) (number : ℕ) → HasAddress (λ p. p.number) (λ p. 1) pages number (numbered number)
numbered-address pages number k page here pass = (grind (arith, nat_tests), grind (arith, nat_tests))

-- powers of bytes by bits
pub bytes_power : (n : ℕ) → 256 ^ n ≡ 2 ^ (8 * n)
bytes_power n = sym (power_of_bytes n)

-- the bits of a page that is found
pub bits_of-at : (pages : List Page) (number k : ℕ) → k < 32768 → bits_of pages (32768 * number + k) ≡ page_bit (find (numbered number) pages) k
bits_of-at pages number k small =
    let page : (32768 * number + k) / 32768 ≡ number = omega arith in
    let place : (32768 * number + k) % 32768 ≡ k = omega arith in
    rw (page, place) refl

-- a word in a page that is found
pub read-part : (pages : List Page) (number at n : ℕ) (page : Page) (word : Word) → find (numbered number) pages ≡ Some page → at + n ≤ 4096 →
    ((place : ℕ) → place < 8 * n → word_bit word place ≡ words_bits page.words.items (8 * at + place)) →
    (place : ℕ) → place < 8 * n → word_bit word place ≡ bits_of pages (32768 * number + 8 * at + place)
read-part pages number at n page word here inside read place less =
    let there : 32768 * number + 8 * at + place ≡ 32768 * number + (8 * at + place) = omega arith in
    let found : page_bit (find (numbered number) pages) (8 * at + place) ≡ words_bits page.words.items (8 * at + place) = ap (λ p. page_bit p (8 * at + place)) here in
    read place less ∙ (sym found ∙ (sym (bits_of-at pages number (8 * at + place) (omega arith)) ∙ ap (bits_of pages) (sym there)))

-- no page, no bit
pub read-no_page : (pages : List Page) (number at n place : ℕ) → find (numbered number) pages ≡ None → at + n ≤ 4096 → place < 8 * n → masked 0 0 place ≡ bits_of pages (32768 * number + 8 * at + place)
read-no_page pages number at n place none inside less =
    let there : 32768 * number + 8 * at + place ≡ 32768 * number + (8 * at + place) = omega arith in
    let found : page_bit (find (numbered number) pages) (8 * at + place) ≡ None = ap (λ p. page_bit p (8 * at + place)) none in
    masked_none 0 place ∙ (sym found ∙ (sym (bits_of-at pages number (8 * at + place) (omega arith)) ∙ ap (bits_of pages) (sym there)))
