use Rattle.std.proofs.Common.{◌≡◌, ℕ, ◌+◌, ◌<◌, ◌^◌, Option, Some, true, ℤ, refl, ap, arith, sym, ◌∙◌}
use Rattle.byte_code.specs.Numbers.{signed_of}
use Rattle.byte_code.specs.Records.{IsEntryAt, nothing, runs, HasSigned, IsThunkAt, not_zero}
use Rattle.byte_code.specs.declared.image.EntryRecord.{EntryRecord}
use Rattle.byte_code.specs.declared.image.ThunkRecord.{ThunkRecord}

-- an entry that runs code is read word by word
pub read_entry : (image : ℕ → Option ℕ) (at address code thunk : ℕ) (given : Option ℕ) (r : EntryRecord) →
    ((w : ℕ) → image (at + 0) ≡ Some w → address ≡ w) → (address ≡ 0 → ⊥) →
    ((w : ℕ) → w < 2 ^ 32 → image (address + 0) ≡ Some w → code ≡ w) → ((w : ℕ) → image (address + 8) ≡ Some w → thunk ≡ w) →
    given ≡ not_zero thunk → IsEntryAt image at r → record { code = Some code; thunk = given } ≡ r
read_entry image at address code thunk given r first some number behind is (nothing there) =
    let e : at + 0 ≡ at = omega arith in absurd (some (first 0 (ap image e ∙ there)))
read_entry image at address code thunk given r first some number behind is (runs a c t above there small at_thunk) =
    let e : at + 0 ≡ at = omega arith in
    let same : address ≡ a = first a (ap image e ∙ there) in
    let f : address + 0 ≡ a = omega arith in
    let g : address + 8 ≡ a + 8 = omega arith in
    let codes : code ≡ c = number c small.small (ap image f ∙ small.there) in
    let thunks : thunk ≡ t = behind t (ap image g ∙ at_thunk) in
    rw (is, codes, thunks) refl

signed_there : (image : ℕ → Option ℕ) (at : ℕ) (read number : ℤ) → ((w : ℕ) → image at ≡ Some w → read ≡ signed_of 8 true w) → HasSigned image at number → read ≡ number
signed_there image at read number h there = h there.word there.there ∙ sym there.is

-- a thunk is read word by word
pub read_thunk : (image : ℕ → Option ℕ) (at : ℕ) (a b c d e f g h : ℤ) (r : ThunkRecord) →
    ((w : ℕ) → image (at + 0) ≡ Some w → a ≡ signed_of 8 true w) → ((w : ℕ) → image (at + 8) ≡ Some w → b ≡ signed_of 8 true w) →
    ((w : ℕ) → image (at + 16) ≡ Some w → c ≡ signed_of 8 true w) → ((w : ℕ) → image (at + 24) ≡ Some w → d ≡ signed_of 8 true w) →
    e ≡ a → f ≡ b → g ≡ c → h ≡ d → IsThunkAt image at r → record { this_add = e; this_vcall = f; ret_vbase = g; ret_add = h } ≡ r
read_thunk image at a b c d e f g h r first second third fourth ea fb gc hd there =
    let zero_more : at + 0 ≡ at = omega arith in
    let p : a ≡ r.this_add = signed_there image at a r.this_add (λ w k. first w (ap image zero_more ∙ k)) there.this_add in
    let q : b ≡ r.this_vcall = signed_there image (at + 8) b r.this_vcall second there.this_vcall in
    let s : c ≡ r.ret_vbase = signed_there image (at + 16) c r.ret_vbase third there.ret_vbase in
    let t : d ≡ r.ret_add = signed_there image (at + 24) d r.ret_add fourth there.ret_add in
    rw (ea, fb, gc, hd, p, q, s, t) refl
