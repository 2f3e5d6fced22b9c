-- The member in which hops end that begin with one.
use Rattle.std.proofs.Common.{◌≡◌, ℕ, Some, List, [], ◌∷◌, length, refl, arith}
use Rattle.cxx_hierarchy.specs.declared.records.ClassId.{ClassId}
use Rattle.cxx_hierarchy.specs.Classes.{Classes}
use Rattle.cxx_subobject.specs.declared.locations.Hop.{Hop}
use Rattle.cxx_subobject.specs.declared.locations.Hop.TheVariants.{Member as MemberHop}
use Rattle.abi_sound.specs.Locations.{element_class, last_member}

pub last_there : (h : Classes) (d : ClassId) (m i : ℕ) (rest : List Hop) → length rest ≡ 0 → last_member h (Some d) (MemberHop m i ∷ rest) ≡ Some (d, m)
last_there h d m i [] none = refl
last_there h d m i (hop ∷ rest) none = absurd (omega arith)

pub last_further : (h : Classes) (d : ClassId) (m i : ℕ) (rest : List Hop) → (length rest ≡ 0 → ⊥) → last_member h (Some d) (MemberHop m i ∷ rest) ≡ last_member h (element_class h (Some d) m) rest
last_further h d m i [] some = absurd (some refl)
last_further h d m i (hop ∷ rest) some = refl
