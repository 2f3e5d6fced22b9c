-- What copies need of the distances of leaves: they fit into 32 bits. In every sound layout they do.
use Rattle.std.specs.Prelude.{◌≡◌, ℕ, ◌+◌, ◌*◌, ◌<◌, ◌^◌, Some, List, length, slice_get}
use Rattle.cxx_hierarchy.specs.declared.records.ClassId.{ClassId}
use Rattle.cxx_hierarchy.specs.declared.records.FieldType.{FieldType}
use Rattle.cxx_hierarchy.specs.declared.records.FieldType.TheVariants.{Value, Object}
use Rattle.cxx_hierarchy.specs.declared.records.Member.{Member}
use Rattle.cxx_hierarchy.specs.declared.records.ValueType.{ValueType}
use Rattle.cxx_hierarchy.specs.Classes.{Classes, members_of}
use Rattle.cxx_hierarchy.specs.Declarations.{elements_of}
use Rattle.cxx_subobject.specs.declared.locations.Hop.{Hop}
use Rattle.cxx_subobject.specs.Locations.{LeadsTo}
use Rattle.abi_sound.specs.declared.class_layout.ClassLayout.{ClassLayout}
use Rattle.abi_sound.specs.Places.{Places, size_of_value}
use Rattle.abi_sound.specs.Locations.{place_along_hops}
use Rattle.code_ops.specs.declared.sites.Site.{Site}
use Rattle.code_ops.specs.invariants.Sites.{IsLaidSite}

-- all that lies in an object of class d, so many bytes behind a register, is near
pub record FitsObject (h : Classes) (l : Places) (d : ClassId) (offset : ℕ) : Type 0 where
  pub within : (hops : List Hop) (type : FieldType ClassId) → LeadsTo h d hops type → offset + place_along_hops h l d hops < 2 ^ 21

-- each element of a member of class b, of which the first one lies so many bytes behind a register
pub record FitsMember (h : Classes) (l : Places) (b : ClassId) (member : Member ClassId) (start : ℕ) : Type 0 where
  pub values : (i : ℕ) (t : ValueType ClassId) → i < elements_of member.count → member.ty ≡ Value t → start + i * size_of_value t < 2 ^ 21
  pub objects : (i : ℕ) (d : ClassId) → i < elements_of member.count → member.ty ≡ Object d → FitsObject h l d (start + i * l.size d)
  pub below : (d : ClassId) → member.ty ≡ Object d → d.0 < b.0

-- each member of a subobject of class b, so many bytes behind a register
pub record FitsOwn (h : Classes) (l : Places) (b : ClassId) (offset : ℕ) : Type 0 where
  pub members : (m : ℕ) (member : Member ClassId) → slice_get (members_of h b) m ≡ Some member → FitsMember h l b member (offset + l.member b m)

-- a site with a layout, and one of its classes
pub record IsSiteOf {L : Type 0} (lays_out : L → Classes → Type 0) (rows : L → List ClassLayout) (here : Site L) (c : ClassId) : Type 0 where
  pub laid : IsLaidSite lays_out rows here
  pub known : c.0 < length here.h.now
