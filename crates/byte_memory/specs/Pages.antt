use Rattle.std.specs.Prelude.{◌≡◌, ℕ, ◌+◌, ◌-◌, ◌*◌, ◌/◌, ◌%◌, ◌<◌, Bool, nat_lt, nat_eq, ◌&&◌, if◌then◌else◌, Option, Some, None, List, length, slice_get, is_none, is_some, ◌||◌}
use Rattle.std.specs.List.{find, list_any}
use Rattle.byte_memory.specs.declared.memory.Region.{Region}
use Rattle.byte_memory.specs.declared.page.Page.{Page}
use Rattle.byte_memory.specs.Words.{words_bits}
use Rattle.byte_memory.specs.Regions.{fault_at, rounded, IsAscendingBy}
use Rattle.byte_memory.specs.Bits.{is_among_places}

-- the region is open, and one of its bytes is in the page
abbrev pub meets : ℕ → Region → Bool
meets number region = region.is_open && (nat_lt region.start (4096 * (number + 1)) && nat_lt (4096 * number) (region.start + region.size))

-- the numbers of the pages that meet an open region, each once, in ascending order
pub record ArePageNumbers (regions : List Region) (numbers : List ℕ) : Type 0 where
  pub ascending : (i j x y : ℕ) → i < j → slice_get numbers i ≡ Some x → slice_get numbers j ≡ Some y → x < y
  pub met : (number : ℕ) → list_any (nat_eq number) numbers ≡ list_any (meets number) regions

-- where a region starts after the last one before it, if any
abbrev pub start_after : Option Region → ℕ
start_after None = 4096
start_after (Some region) = rounded (region.start + region.size)

-- where the next region starts
abbrev pub next_start : List Region → ℕ
next_start regions = start_after (slice_get regions (length regions - 1))

-- the page has this number
abbrev pub numbered : ℕ → Page → Bool
numbered number page = nat_eq page.number number

-- a bit of a page, None where it is unset or there is no page
abbrev pub page_bit : Option Page → ℕ → Option Bool
page_bit None place = None
page_bit (Some page) place = words_bits page.words.items place

-- the bits of pages, where bit i of the byte at an address a has the place 8 * a + i
abbrev pub bits_of : List Page → ℕ → Option Bool
bits_of pages place = page_bit (find (numbered (place / 32768)) pages) (place % 32768)

-- the bits of bytes that can be reached, and no other
abbrev pub reached_bits : List Region → (ℕ → Option Bool) → ℕ → Option Bool
reached_bits regions bit place = if is_none (fault_at regions (place / 8) 1) then bit place else None

-- how many open regions meet a page, where there is none no region
abbrev pub users_of : Option Page → ℕ
users_of None = 0
users_of (Some page) = page.users

-- each page is still there, met by as many regions
abbrev pub AreUsedAs : List Page → List Page → Type 0
AreUsedAs old new = (number : ℕ) → (is_some (find (numbered number) new) ≡ is_some (find (numbered number) old)) × (users_of (find (numbered number) new) ≡ users_of (find (numbered number) old))

-- the page after one region more meets it
abbrev pub claimed : Option Page → Option Page
claimed None = None
claimed (Some page) = Some (record page { users = page.users + 1 })

-- the page after one region less meets it, None where no region is left
abbrev pub released : Option Page → Option Page
released None = None
released (Some page) = if nat_lt page.users 2 then None else Some (record page { users = page.users - 1 })

-- a page for each of n numbers, from one on, that one region meets, of unset bits
pub record AreFresh (pages : List Page) (first n : ℕ) : Type 0 where
  pub count : length pages ≡ n
  pub each : (k : ℕ) (page : Page) → slice_get pages k ≡ Some page → page.number ≡ first + k
  pub users : (k : ℕ) (page : Page) → slice_get pages k ≡ Some page → page.users ≡ 1
  pub unset : (k place : ℕ) → page_bit (slice_get pages k) place ≡ None

-- the pages after one region more meets each of n of them, from a number on: those that were not there are new, and no bit changes
pub record AreAdded (old new : List Page) (first n : ℕ) : Type 0 where
  pub ordered : IsAscendingBy (λ page. page.number) (λ page. 1) new
  pub users : (number : ℕ) → users_of (find (numbered number) new) ≡ users_of (find (numbered number) old) + (if is_among_places first n number then 1 else 0)
  pub kept : (number : ℕ) → is_some (find (numbered number) new) ≡ (is_some (find (numbered number) old) || is_among_places first n number)
  pub bits : bits_of new ≡ bits_of old
