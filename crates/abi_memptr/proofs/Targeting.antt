-- What a call reads of an entry is what the entry runs, in an image that stands low.
use Rattle.std.proofs.Common.{◌≡◌, ℕ, zero, suc, ◌+◌, ◌*◌, ◌%◌, ◌<◌, ◌^◌, Option, Some, None, refl, ap, sym, ◌∙◌, arith}
use Rattle.std.specs.Prelude.{length}
use Rattle.std.proofs.Math.Nat.{mod-eq_of_lt}
use Rattle.byte_memory.specs.Store.{Store}
use Rattle.byte_code.specs.declared.code.ImageBytes.{ImageBytes}
use Rattle.byte_code.specs.Images.{word_at}
use Rattle.byte_code.proofs.Numbers.{word_inside}
use Rattle.byte_machine.specs.Running.{moved, table_word}
use Rattle.byte_machine.specs.Calls.{Callee, option_then, moved_by_word, this_by_thunk, thunk_word, callee_by, callee_at, callee}
use Rattle.abi_memptr.specs.declared.calls.Applied.{Applied}
use Rattle.abi_memptr.specs.invariants.Targets.{thunk_this, record_target, entry_target}

-- the first of two questions has an answer where both have
then_some : {A B : Type 0} (o : Option A) (next : A → Option B) (b : B) → option_then o next ≡ Some b → (a : A) × (o ≡ Some a) × (next a ≡ Some b)
then_some None next b e = absurd (cc)
then_some (Some a) next b e = (a, refl, e)

-- the address of a word that stands there does not wrap
no_wrap : (image : ImageBytes) (at w : ℕ) → image.base + length image.bytes < 2 ^ 63 → word_at image (at + 8) ≡ Some w → moved at 8 ≡ at + 8
no_wrap image at w low is = let inside = word_inside image (at + 8) w is in mod-eq_of_lt (omega arith)

thunk_found : (image : ImageBytes) (memory : Store) (this thunk new : ℕ) → image.base + length image.bytes < 2 ^ 63 → this_by_thunk image memory this thunk ≡ Some new → thunk_this image memory this thunk ≡ Some new
thunk_found image memory this zero new low e = e
thunk_found image memory this (suc t) new low e =
    let rest : ℕ → Option ℕ = λ add. option_then (word_at image (suc t + 8)) (λ vcall. moved_by_word image memory (moved this add) vcall) in
    let a = then_some (word_at image (suc t)) rest new e in
    let move : ℕ → Option ℕ = λ vcall. moved_by_word image memory (moved this a.0) vcall in
    let b = then_some (word_at image (suc t + 8)) move new a.2 in
    ap (λ o. option_then o (λ add. option_then (word_at image (moved (suc t) 8)) (λ vcall. moved_by_word image memory (moved this add) vcall))) a.1
    ∙ (ap (λ n. option_then (word_at image n) move) (no_wrap image (suc t) b.0 low b.1)
    ∙ (ap (λ o. option_then o move) b.1 ∙ b.2))

-- what is applied of what is called
abbrev pub applied_to : Option Callee → Option Applied
applied_to None = None
applied_to (Some c) = Some (record { code = c.block; this_at = c.this })

record_found : (image : ImageBytes) (memory : Store) (this place : ℕ) (c : Callee) → image.base + length image.bytes < 2 ^ 63 → callee_at image memory this place ≡ Some c → record_target image memory this place ≡ applied_to (Some c)
record_found image memory this zero c low e = absurd (cc)
record_found image memory this (suc p) c low e =
    let a = then_some (word_at image (suc p)) (λ code. option_then (word_at image (suc p + 8)) (λ thunk. callee_by image memory this code thunk)) c e in
    let b = then_some (word_at image (suc p + 8)) (λ thunk. callee_by image memory this a.0 thunk) c a.2 in
    let make : ℕ → ℕ → ℕ → Callee = λ new vbase add. record { block = a.0 % 2 ^ 32; this = new; vbase = vbase; add = add } in
    let t = then_some (this_by_thunk image memory this b.0) (λ new. option_then (thunk_word image b.0 16) (λ vbase. option_then (thunk_word image b.0 24) (λ add. Some (make new vbase add)))) c b.2 in
    let v = then_some (thunk_word image b.0 16) (λ vbase. option_then (thunk_word image b.0 24) (λ add. Some (make t.0 vbase add))) c t.2 in
    let w = then_some (thunk_word image b.0 24) (λ add. Some (make t.0 v.0 add)) c v.2 in
    let give : ℕ → Option Applied = λ new. Some (record { code = a.0 % 2 ^ 32; this_at = new }) in
    ap (λ o. option_then o (λ code. option_then (word_at image (moved (suc p) 8)) (λ thunk. option_then (thunk_this image memory this thunk) (λ new. Some (record { code = code % 2 ^ 32; this_at = new }))))) a.1
    ∙ (ap (λ n. option_then (word_at image n) (λ thunk. option_then (thunk_this image memory this thunk) give)) (no_wrap image (suc p) b.0 low b.1)
    ∙ (ap (λ o. option_then o (λ thunk. option_then (thunk_this image memory this thunk) give)) b.1
    ∙ (ap (λ o. option_then o give) (thunk_found image memory this b.0 t.0 low t.1)
    ∙ ap applied_to w.2)))

-- an entry that runs code
pub entry_found : (image : ImageBytes) (memory : Store) (this entry : ℕ) (c : Callee) → image.base + length image.bytes < 2 ^ 63 → callee image memory this entry ≡ Some c → entry_target image memory this (8 * entry) ≡ applied_to (Some c)
entry_found image memory this entry c low e =
    let a = then_some (table_word image memory this (8 * entry)) (λ place. callee_at image memory this place) c e in
    ap (λ o. option_then o (λ place. record_target image memory this place)) a.1 ∙ record_found image memory this a.0 c low a.2

-- an entry that runs nothing
pub nothing_found : (image : ImageBytes) (memory : Store) (this bytes : ℕ) → table_word image memory this bytes ≡ Some 0 → entry_target image memory this bytes ≡ None
nothing_found image memory this bytes e = ap (λ o. option_then o (λ place. record_target image memory this place)) e
