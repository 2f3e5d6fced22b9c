-- Tests on paths: whether one subobject lies in another, and whether public edges lead there.
use Rattle.std.specs.Prelude.{Bool, true, not, nat_eq, ◌&&◌, ◌-◌, Option, Some, None, List, [], ◌∷◌, length, drop}
use Rattle.std.specs.List.{list_any}
use Rattle.cxx_hierarchy.specs.declared.records.ClassId.{ClassId}
use Rattle.cxx_hierarchy.specs.declared.records.Base.{Base}
use Rattle.cxx_hierarchy.specs.Classes.{Classes, bases_of}
use Rattle.cxx_hierarchy.specs.VirtualBases.{HasVirtualBase, HasPublicVirtualBase}
use Rattle.cxx_subobject.specs.declared.Root.{Root}
use Rattle.cxx_subobject.specs.declared.Root.TheVariants.{Whole, Shared}
use Rattle.cxx_subobject.specs.declared.Subobject.{Subobject}
pub use Rattle.cxx_subobject.specs.Inside.{path_begins, is_longer}

-- a root that is a virtual base of the class
abbrev pub ReachesRoot : Classes → Option ClassId → Root → Type 0
ReachesRoot h None root = ⊥
ReachesRoot h (Some c) Whole = ⊥
ReachesRoot h (Some c) (Shared v) = HasVirtualBase h c v

-- a root that is a virtual base of the class, to which public edges alone lead
abbrev pub ReachesRootPublicly : Classes → Option ClassId → Root → Type 0
ReachesRootPublicly h None root = ⊥
ReachesRootPublicly h (Some c) Whole = ⊥
ReachesRootPublicly h (Some c) (Shared v) = HasPublicVirtualBase h c v

-- a public non-virtual base of this class
abbrev pub leads_publicly : ClassId → Base ClassId → Bool
leads_publicly b base = nat_eq base.class.0 b.0 && (not base.is_virtual && base.is_public)

-- each class of the path names the next one so
abbrev pub is_public_path : Classes → List ClassId → Bool
is_public_path h [] = true
is_public_path h (c ∷ []) = true
is_public_path h (c ∷ b ∷ path) = list_any (leads_publicly b) (bases_of h c) && is_public_path h (b ∷ path)

-- the inner one's path goes on from that of the outer one by public edges
abbrev pub is_public_down : Classes → Subobject → Subobject → Bool
is_public_down h outer inner = is_longer outer inner && is_public_path h (drop (length outer.path - 1) inner.path)
