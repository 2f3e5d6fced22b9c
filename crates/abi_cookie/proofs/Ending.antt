-- The end of an array: its count, and its region.
use Rattle.std.proofs.Common.{◌≡◌, ℕ, zero, suc, ◌+◌, ◌-◌, ◌*◌, ◌%◌, ◌^◌, ◌<◌, ◌≤◌, ◌⊎◌, inl, inr, ⊎_elim, Bool, true, false, Option, Some, None, List, [], ◌∷◌, ◌++◌, length, map, cond, take, refl, ap, sym, ◌∙◌, arith, subst, append_assoc}
use Rattle.std.specs.Prelude.{slice_get, nat_eq, if◌then◌else◌, Ok, Err, Result, MatchResult, OnErr, is_err, reverse}
use Rattle.std.specs.List.{find}
use Rattle.std.proofs.lemmas.Bool.Decides.{nat_tests}
use Rattle.std.proofs.lemmas.List.{append-nil, take-append-le, length-append, length-reverse}
use Rattle.std.proofs.Math.Seq.{take-append_seam}
use Rattle.foundation.proofs.Chosen.{find_passes}
use Rattle.foundation.proofs.Members.{index_of}
use Rattle.byte_memory.specs.declared.memory.Region.{Region}
use Rattle.byte_memory.specs.declared.memory.MemoryFault.{MemoryFault}
use Rattle.byte_memory.specs.declared.memory.MemoryFault.TheVariants.{Closed, NoMemory}
use Rattle.byte_memory.specs.Bits.{number_from}
use Rattle.byte_memory.specs.Regions.{starts, shut, holds_bytes, fault_in, fault_at, close_fault, IsAscending}
use Rattle.byte_memory.specs.Store.{Store, Closes, answer, load_of, close_of}
use Rattle.byte_memory.proofs.Ascending.{find-last}
use Rattle.byte_memory.proofs.Reached.{holds-address}
use Rattle.byte_memory.proofs.ByBits.{number_from-kept}
use Rattle.abi_cookie.specs.Cookies.{array_bytes}
use Rattle.abi_cookie.specs.Arrays.{IsArray, IsCloseRefusal, DiffersBehind, element_at, elements, ended_elements}
use Rattle.abi_cookie.proofs.Elements.{reverse-more, elements-length, ended-some}
use Rattle.abi_cookie.proofs.Stores.{wide-cookie}

-- bytes in a closed region can't be loaded
load-refused : (memory : Store) (at n : ℕ) (fault : MemoryFault) → fault_at memory.regions at n ≡ Some fault → load_of memory at n ≡ Err fault
load-refused memory at n fault is = ap (λ (f : Option MemoryFault). answer at f (number_from memory.bit (8 * at) (8 * n))) is

inside-holds : (region : Region) (at n : ℕ) → region.start ≤ at → at + n ≤ region.start + region.size → holds_bytes at n region ≡ true
inside-holds region at n low high = grind (arith, nat_tests)

closed-bytes : (rs : List Region) (region : Region) (at n : ℕ) → IsAscending rs → find (starts region.start) rs ≡ Some region → region.is_open ≡ false → 0 < n → region.start ≤ at → at + n ≤ region.start + region.size → fault_at rs at n ≡ Some (Closed at)
closed-bytes rs region at n up there shut_is some low high =
    let has = find_passes (starts region.start) rs region there in
    let index = index_of rs region has.0 in
    let found : find (holds_bytes at n) rs ≡ Some region = find-last (λ (q : Region). q.start) (λ (q : Region). q.size) rs at (holds_bytes at n) index.0 region up (holds-address rs at n some) index.1 (inside-holds region at n low high) in
    ap (fault_in at) found ∙ ap (λ (b : Bool). if b then None else Some (Closed at)) shut_is

low-count : (start first cookie : ℕ) → first ≡ start + cookie → 8 ≤ cookie → start ≤ first - 8
low-count start first cookie is wide = omega arith

high-count : (start bytes first size cookie n : ℕ) → first ≡ start + cookie → bytes ≡ cookie + n * size → 8 ≤ cookie → (first - 8) + 8 ≤ start + bytes
high-count start bytes first size cookie n is length' wide = omega arith

back-start : (start first cookie : ℕ) → first ≡ start + cookie → first - cookie ≡ start
back-start start first cookie is = omega arith

-- whether the region is closed already
close-fault-is : (memory : Store) (size cookie n first : ℕ) (array : IsArray memory size cookie n first) (b : Bool) → array.region.is_open ≡ b → close_fault memory.regions (first - cookie) ≡ (if b then None else Some (Closed (first - cookie)))
close-fault-is memory size cookie n first array b is =
    let start : first - cookie ≡ array.region.start = back-start array.region.start first cookie array.behind in
    ap (λ (at : ℕ). fault_in (first - cookie) (find (starts at) memory.regions)) start
    ∙ (ap (fault_in (first - cookie)) array.there ∙ ap (λ (flag : Bool). if flag then None else Some (Closed (first - cookie))) is)

-- what the load of the count answers
pub data IsCounted (memory : Store) (cookie n first : ℕ) : Result ℕ MemoryFault → Type 0 where
  there_counted : close_fault memory.regions (first - cookie) ≡ None → IsCounted memory cookie n first (Ok n)
  closed_already : (fault : MemoryFault) → close_fault memory.regions (first - cookie) ≡ Some (Closed (first - cookie)) → IsCounted memory cookie n first (Err fault)

pub is-counted : (memory : Store) (size cookie n first : ℕ) → IsAscending memory.regions → cookie % 8 ≡ 0 → 0 < cookie → IsArray memory size cookie n first → IsCounted memory cookie n first (load_of memory (first - 8) 8)
is-counted memory size cookie n first up multiple some array = by_open array.region.is_open refl
  where
    by_open : (b : Bool) → array.region.is_open ≡ b → IsCounted memory cookie n first (load_of memory (first - 8) 8)
    by_open true is = subst (λ (r : Result ℕ MemoryFault). IsCounted memory cookie n first r) (sym (array.count some is)) (there_counted (close-fault-is memory size cookie n first array true is))
    by_open false is =
        let wide = wide-cookie cookie multiple some in
        let refused = load-refused memory (first - 8) 8 (Closed (first - 8)) (closed-bytes memory.regions array.region (first - 8) 8 up array.there is (omega arith) (low-count array.region.start first cookie array.behind wide) (high-count array.region.start array.region.size first size cookie n array.behind array.length wide)) in
        subst (λ (r : Result ℕ MemoryFault). IsCounted memory cookie n first r) (sym refused) (closed_already (Closed (first - 8)) (close-fault-is memory size cookie n first array false is))

counted-ok : (memory : Store) (cookie n first count : ℕ) → IsCounted memory cookie n first (Ok count) → (count ≡ n) × (close_fault memory.regions (first - cookie) ≡ None)
counted-ok memory cookie n first _ (there_counted is) = (refl, is)

counted-err : (memory : Store) (cookie n first : ℕ) (fault : MemoryFault) → IsCounted memory cookie n first (Err fault) → close_fault memory.regions (first - cookie) ≡ Some (Closed (first - cookie))
counted-err memory cookie n first _ (closed_already fault is) = is

-- by what the load answered
pub loaded-count : (memory : Store) (size cookie n first count : ℕ) (loaded : Result ℕ MemoryFault) → IsAscending memory.regions → cookie % 8 ≡ 0 → 0 < cookie → IsArray memory size cookie n first → loaded ≡ load_of memory (first - 8) 8 → loaded ≡ Ok count →
    (count ≡ n) × (close_fault memory.regions (first - cookie) ≡ None)
loaded-count memory size cookie n first count loaded up multiple some array is ok =
    counted-ok memory cookie n first count (subst (λ (r : Result ℕ MemoryFault). IsCounted memory cookie n first r) (sym is ∙ ok) (is-counted memory size cookie n first up multiple some array))

pub refused-count : (memory : Store) (size cookie n first : ℕ) (fault : MemoryFault) (loaded : Result ℕ MemoryFault) → IsAscending memory.regions → cookie % 8 ≡ 0 → 0 < cookie → IsArray memory size cookie n first → loaded ≡ load_of memory (first - 8) 8 → loaded ≡ Err fault →
    close_fault memory.regions (first - cookie) ≡ Some (Closed (first - cookie))
refused-count memory size cookie n first fault loaded up multiple some array is err =
    counted-err memory cookie n first fault (subst (λ (r : Result ℕ MemoryFault). IsCounted memory cookie n first r) (sym is ∙ err) (is-counted memory size cookie n first up multiple some array))

-- the elements lie below a limit
pub below-count : (memory : Store) (size cookie n first count : ℕ) → IsArray memory size cookie n first → count ≡ n → first + count * size < 2 ^ 41
below-count memory size cookie n first count array same = ap-below first size n count same array.below
  where
    ap-below : (first size n count : ℕ) → count ≡ n → first + n * size < 2 ^ 41 → first + count * size < 2 ^ 41
    ap-below first size n count same below = subst (λ (k : ℕ). first + k * size < 2 ^ 41) (sym same) below

-- what was appended are the elements that are ended
pub ended-by-count : (old new : List ℕ) (first size cookie n count : ℕ) → 0 < cookie → count ≡ n → new ≡ old ++ reverse (elements first size count) → new ≡ old ++ ended_elements first size cookie n
ended-by-count old new first size cookie n count some same is =
    is ∙ (ap (λ (k : ℕ). old ++ reverse (elements first size k)) same ∙ ap (λ (xs : List ℕ). old ++ xs) (sym (ended-some first size cookie n some)))

-- an address more
pub one-ended : (ended new old : List ℕ) (first size i count : ℕ) → 0 < i → ended ++ reverse (elements first size i) ≡ old ++ reverse (elements first size count) → new ≡ ended ++ (first + (i - 1) * size) ∷ [] →
    new ++ reverse (elements first size (i - 1)) ≡ old ++ reverse (elements first size count)
one-ended ended new old first size zero count some left is = absurd (omega arith)
one-ended ended new old first size (suc i) count some left is =
    let less : suc i - 1 ≡ i = omega arith in
    ap (λ (xs : List ℕ). xs ++ reverse (elements first size (suc i - 1))) is
    ∙ (ap (λ (k : ℕ). (ended ++ (first + k * size) ∷ []) ++ reverse (elements first size k)) less
    ∙ (append_assoc ended (element_at first size i ∷ []) (reverse (elements first size i))
    ∙ (ap (λ (xs : List ℕ). ended ++ xs) (sym (reverse-more first size i)) ∙ left)))

-- the list is as before once the addresses are taken away again
pub taken-back : (ended old : List ℕ) (first size i count : ℕ) → i ≤ count → ended ++ reverse (elements first size i) ≡ old ++ reverse (elements first size count) → take (length old) ended ≡ old
taken-back ended old first size i count less left =
    let part : length (reverse (elements first size i)) ≡ i = length-reverse (elements first size i) ∙ elements-length first size i in
    let whole : length (reverse (elements first size count)) ≡ count = length-reverse (elements first size count) ∙ elements-length first size count in
    let sizes : length ended + length (reverse (elements first size i)) ≡ length old + length (reverse (elements first size count)) =
    sym (length-append ended (reverse (elements first size i))) ∙ (ap length left ∙ length-append old (reverse (elements first size count))) in
    let fits : length old ≤ length ended = omega arith in
    sym (take-append-le (length old) ended (reverse (elements first size i)) fits)
    ∙ (ap (take (length old)) left ∙ take-append_seam old (reverse (elements first size count)))

pub on_err-at : {T E P : Type 0} (r : Result T E) (b : Bool) → b ≡ is_err r → b ≡ true → OnErr r P → P
on_err-at (Ok x) b is on p = let e : false ≡ true = sym is ∙ on in cc
on_err-at (Err e) b is on p = p

-- a refused close changes nothing
pub kept-by-close : {U : Type 0} (P : Type 0) (result : Result U MemoryFault) (old new : Store) (before after : List ℕ) (first size cookie n at : ℕ) →
    MatchResult result (λ _. P) (λ fault. (close_fault old.regions at ≡ Some fault) × (new ≡ old)) →
    (0 < cookie → close_fault old.regions at ≡ None) → after ≡ before ++ ended_elements first size cookie n → OnErr result ((new ≡ old) × (after ≡ before))
kept-by-close P (Ok x) old new before after first size cookie n at is reached ended = tt
kept-by-close P (Err fault) old new before after first size zero n at is reached ended = (is.1, ended ∙ append-nil before)
kept-by-close P (Err fault) old new before after first size (suc cookie) n at is reached ended = let e : None ≡ Some fault = sym (reached (omega arith)) ∙ is.0 in cc

-- other bits behind the first element
number-kept : (n : ℕ) (old new : Store) (at first : ℕ) → DiffersBehind old new first → at + n ≤ first → number_from new.bit (8 * at) (8 * n) ≡ number_from old.bit (8 * at) (8 * n)
number-kept n old new at first differs less = number_from-kept (8 * n) new.bit old.bit (8 * at) (λ place low high. differs.before place (omega arith))

load-kept : (n : ℕ) (old new : Store) (at first : ℕ) → DiffersBehind old new first → at + n ≤ first → load_of new at n ≡ load_of old at n
load-kept n old new at first differs less =
    ap (λ (rs : List Region). answer at (fault_at rs at n) (number_from new.bit (8 * at) (8 * n))) differs.regions
    ∙ ap (answer at (fault_at old.regions at n)) (number-kept n old new at first differs less)

behind-first : (start first cookie : ℕ) → first ≡ start + cookie → 8 ≤ cookie → (first - 8) + 8 ≤ first
behind-first start first cookie is wide = omega arith

pub array-stored : (old new : Store) (size cookie n first : ℕ) → cookie % 8 ≡ 0 → DiffersBehind old new first → IsArray old size cookie n first → IsArray new size cookie n first
array-stored old new size cookie n first multiple differs array = record {
  some = array.some;
  region = array.region;
  there = ap (find (starts array.region.start)) differs.regions ∙ array.there;
  behind = array.behind;
  length = array.length;
  below = array.below;
  count = λ more is_open. load-kept 8 old new (first - 8) first differs (behind-first array.region.start first cookie array.behind (wide-cookie cookie multiple more)) ∙ array.count more is_open;
}

-- the region that starts there after it was closed
find-shut : (at : ℕ) (rs : List Region) (region : Region) → find (starts at) rs ≡ Some region → find (starts at) (map (shut at) rs) ≡ Some (record region { is_open = false })
find-shut at [] region there = cc
find-shut at (r ∷ rs) region there = by_test (nat_eq r.start at) refl (find-shut at rs region) there
  where
    by_test : (b : Bool) → nat_eq r.start at ≡ b → (find (starts at) rs ≡ Some region → find (starts at) (map (shut at) rs) ≡ Some (record region { is_open = false })) → (if b then Some r else find (starts at) rs) ≡ Some region →
        (if nat_eq (shut at r).start at then Some (shut at r) else find (starts at) (map (shut at) rs)) ≡ Some (record region { is_open = false })
    by_test true is again found =
        let same : r ≡ region = cc in
        rw (is, is) (ap (λ (q : Region). Some (record q { is_open = false })) same)
    by_test false is again found = rw (is, is) (again found)

pub array-closed : (old new : Store) (size cookie n first : ℕ) → Closes old new (first - cookie) → IsArray old size cookie n first → IsArray new size cookie n first
array-closed old new size cookie n first closes array =
    let start : first - cookie ≡ array.region.start = back-start array.region.start first cookie array.behind in
    let regions : new.regions ≡ map (shut array.region.start) old.regions = ap (λ (memory : Store). memory.regions) closes.new_is ∙ ap (λ (at : ℕ). map (shut at) old.regions) start in
    record {
      some = array.some;
      region = record array.region { is_open = false };
      there = ap (find (starts array.region.start)) regions ∙ find-shut array.region.start old.regions array.region array.there;
      behind = array.behind;
      length = array.length;
      below = array.below;
      count = λ more is_open. let e : false ≡ true = is_open in cc;
    }
