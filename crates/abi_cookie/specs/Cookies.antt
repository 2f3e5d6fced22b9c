-- Which arrays have a cookie, and how large it is (Itanium C++ ABI 2.7).
use Rattle.std.specs.Prelude.{◌≡◌, ◌+◌, ◌*◌, ℕ, max, Bool, false, Some, Contains}
use Rattle.cxx_hierarchy.specs.declared.records.ClassId.{ClassId}
use Rattle.cxx_hierarchy.specs.declared.records.Member.{Member}
use Rattle.cxx_hierarchy.specs.declared.records.FieldType.TheVariants.{Object}
use Rattle.cxx_hierarchy.specs.Classes.{Class, Classes, class_at, members_of}
use Rattle.cxx_hierarchy.specs.Declarations.{is_implicit}
use Rattle.cxx_hierarchy.specs.VirtualBases.{IsDirectBase}
use Rattle.abi_sound.specs.Places.{Places}

-- the destructor of c is not trivial: c declares one, or a base of it has such a one, or the class of a member (ISO C++03 12.4 p3)
pub data NeedsCookie (h : Classes) : ClassId → Type 0 where
  declared : (c : ClassId) (class : Class) → class_at h c ≡ Some class → is_implicit class.destructor ≡ false → NeedsCookie h c
  by_base : (c b : ClassId) (way : Bool) → IsDirectBase h c way b → NeedsCookie h b → NeedsCookie h c
  by_member : (c d : ClassId) (m : Member ClassId) → Contains (members_of h c) m → m.ty ≡ Object d → NeedsCookie h d → NeedsCookie h c

-- the bytes of the cookie before an array of class c: room for a count of 8 bytes, and the alignment of the class kept
pub data IsCookie (h : Classes) (l : Places) (c : ClassId) : ℕ → Type 0 where
  some_cookie : NeedsCookie h c → IsCookie h l c (max 8 (l.align c))
  no_cookie : (NeedsCookie h c → ⊥) → IsCookie h l c 0

-- the bytes of an array: its cookie, and n elements of this size
abbrev pub array_bytes : ℕ → ℕ → ℕ → ℕ
array_bytes size cookie n = cookie + n * size
