-- When a cast goes by what it reads alone.
use Rattle.std.specs.Prelude.{◌≡◌, ◌↔◌, ℕ, Option}
use Rattle.byte_memory.specs.Store.{Store, load_of}
use Rattle.abi_dyncast.specs.Casts.{CanCast, CastsTo, KeepsReads}

-- a cast can be had, and has the same answers, in an image and a memory in which what it reads is the same
abbrev pub ReadsDecideCasts : (ℕ → Option ℕ) → (ℕ → Option ℕ) → Store → Store → Type 0
ReadsDecideCasts image other memory next = (parts at : ℕ) → (can : CanCast image memory parts at) → load_of next at 8 ≡ load_of memory at 8 →
    KeepsReads image other memory next can.walk.parts →
    CanCast other next parts at × ((class target : ℕ) (result : Option ℕ) → CastsTo image memory at class target result ↔ CastsTo other next at class target result)
