-- A class whose non-virtual part is asked about: what is known of the classes before it, and what is told of it.
use Rattle.std.specs.Prelude.{◌≡◌, ◌↔◌, ◌<◌, ℕ, Bool, true, List, length}
use Rattle.cxx_hierarchy.specs.declared.records.ClassId.{ClassId}
use Rattle.cxx_hierarchy.specs.Classes.{Classes}
use Rattle.cxx_overrider.specs.declared.parts.Signatures.{Signatures}
use Rattle.cxx_overrider.specs.declared.parts.NextClass.{NextClass}
use Rattle.cxx_overrider.specs.Functions.{Signature}
use Rattle.cxx_overrider.specs.Overriding.{HasVirtual}
use Rattle.cxx_overrider.specs.invariants.Numbers.{IsNumbering, IsNumberOf}
use Rattle.cxx_overrider.specs.invariants.Marks.{AreMarks}

abbrev pub numbers_of : Signatures → List (List ℕ)
numbers_of signatures = signatures.numbering.now.rows.items

-- the numbers and the marks are those of the hierarchy
pub record AreSignatures (signatures : Signatures) : Type 0 where
  pub numbering : IsNumbering signatures.h.now (numbers_of signatures) signatures.numbering.now.count
  pub virtuals : AreMarks signatures.h.now (numbers_of signatures) (HasVirtual signatures.h.now) signatures.virtuals.now
  pub all : length signatures.virtuals.now ≡ length signatures.h.now

-- the rows mark for each class before this one the signatures that are as P says
pub record IsNextClass (P : Classes → ClassId → Signature → Type 0) (next : NextClass) : Type 0 where
  pub signatures : AreSignatures next.signatures.now
  pub known : next.c.0 < length next.signatures.now.h.now
  pub rows : AreMarks next.signatures.now.h.now (numbers_of next.signatures.now) (P next.signatures.now.h.now) next.rows.now
  pub size : length next.rows.now ≡ next.c.0

-- the flag says whether the signature of the number is as P says in the class
abbrev pub TellsNext : (Classes → ClassId → Signature → Type 0) → NextClass → ℕ → Bool → Type 0
TellsNext P next n flag = (s : Signature) → IsNumberOf next.signatures.now.h.now (numbers_of next.signatures.now) n s → ((flag ≡ true) ↔ P next.signatures.now.h.now next.c s)
