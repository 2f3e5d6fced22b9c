-- Ways from a part into its bases and members, and how far they lead in numbers.
use Rattle.std.specs.Prelude.{◌≡◌, ℕ, ◌+◌, ◌*◌, ◌<◌, false, Some, List, [], ◌∷◌, slice_get}
use Rattle.cxx_hierarchy.specs.declared.records.ClassId.{ClassId}
use Rattle.cxx_hierarchy.specs.declared.records.Base.{Base}
use Rattle.cxx_hierarchy.specs.declared.records.Member.{Member}
use Rattle.cxx_hierarchy.specs.declared.records.FieldType.TheVariants.{Object}
use Rattle.cxx_hierarchy.specs.Classes.{Classes, bases_of, members_of}
use Rattle.cxx_subobject.specs.declared.Root.TheVariants.{Whole, Shared}
use Rattle.cxx_subobject.specs.declared.Subobject.{Subobject}
use Rattle.cxx_subobject.specs.Subobjects.{subobject, join}
use Rattle.cxx_subobject.specs.Parts.{elements_of}
use Rattle.path_plan.specs.Places.{ObjectPart, part, element}
use Rattle.path_plan.specs.declared.form.Form.{Form}
use Rattle.path_plan.specs.declared.form.Form.TheVariants.{InFull, AsBase}
use Rattle.path_plan.specs.Plans.{virtual_order}
use Rattle.path_numbers.specs.Sizes.{Sizes, base_offset, member_offset, shared_offset}

-- to a base by its path, or into an element of a member, of class d
pub data Hop : Type 0 where
  ToBase : Subobject → Hop
  ToElement : (member index : ℕ) (d : ClassId) → Hop

abbrev pub hop : ObjectPart → Hop → ObjectPart
hop p (ToBase s) = part p.object p.owner (join p.at s)
hop p (ToElement m i d) = element p m i d

abbrev pub arrive : ObjectPart → List Hop → ObjectPart
arrive p [] = p
arrive p (x ∷ hops) = arrive (hop p x) hops

-- the path goes from class c to class e through direct non-virtual bases, n numbers on
abbrev pub IsNumberedPath : Classes → Sizes → ClassId → List ClassId → ℕ → ClassId → Type 0
IsNumberedPath h size c [] n e = (n ≡ 0) × (c ≡ e)
IsNumberedPath h size c (b ∷ path) n e =
    (i : ℕ) × (base : Base ClassId) × (r : ℕ) × (slice_get (bases_of h c) i ≡ Some base) × (base.is_virtual ≡ false) × (base.class ≡ b) × (n ≡ base_offset h size c i + r) × IsNumberedPath h size b path r e

-- the way stays at constant distances: a shared base is entered only from a complete object
pub data IsConstantWay (h : Classes) (size : Sizes) : Form → ClassId → List Hop → ℕ → ClassId → Type 0 where
  stop : (f : Form) (c : ClassId) → IsConstantWay h size f c [] 0 c
  inherit : (f : Form) (c e g : ClassId) (path : List ClassId) (hops : List Hop) (n r : ℕ) → IsNumberedPath h size c path n e → IsConstantWay h size AsBase e hops r g
      → IsConstantWay h size f c (ToBase (subobject Whole (c ∷ path)) ∷ hops) (n + r) g
  share : (c v e g : ClassId) (path : List ClassId) (hops : List Hop) (j n r : ℕ) → slice_get (virtual_order h c) j ≡ Some v → IsNumberedPath h size v path n e → IsConstantWay h size AsBase e hops r g
      → IsConstantWay h size InFull c (ToBase (subobject (Shared v) (v ∷ path)) ∷ hops) (shared_offset h size c j + (n + r)) g
  enter : (f : Form) (c d g : ClassId) (m i : ℕ) (member : Member ClassId) (hops : List Hop) (r : ℕ) → slice_get (members_of h c) m ≡ Some member → member.ty ≡ Object d → i < elements_of member.count → IsConstantWay h size InFull d hops r g
      → IsConstantWay h size f c (ToElement m i d ∷ hops) ((member_offset h size c m + i * size InFull d) + r) g
