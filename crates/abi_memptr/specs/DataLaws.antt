-- When two pointers to data members are one.
use Rattle.std.specs.Prelude.{◌≡◌, ◌↔◌, ℕ, List}
use Rattle.cxx_hierarchy.specs.declared.records.ClassId.{ClassId}
use Rattle.cxx_hierarchy.specs.Classes.{Classes}
use Rattle.cxx_hierarchy.specs.Hierarchies.{IsHierarchy}
use Rattle.cxx_subobject.specs.declared.Subobject.{Subobject}
use Rattle.abi_sound.specs.declared.class_layout.ClassLayout.{ClassLayout}
use Rattle.abi_sound.specs.Places.{places_of}
use Rattle.abi_sound.specs.Sound.{IsSoundLayout}
use Rattle.abi_slots.specs.declared.code_numbers.CodeRow.{CodeRow}
use Rattle.abi_memptr.specs.declared.pointers.MemberPointer.TheVariants.{Data}
use Rattle.abi_memptr.specs.Pointers.{IsDataIn}
use Rattle.abi_memptr.specs.PointerBytes.{member_pointer_bytes}

-- pointers to members of one type have the same bytes where they lead to one member, and nowhere else
abbrev pub DataBytesAreDistinct : Classes → List ClassLayout → List CodeRow → Type 0
DataBytesAreDistinct h rows codes = (d c e : ClassId) (m n : ℕ) (s t : Subobject) → IsHierarchy h → IsSoundLayout h rows → (a : IsDataIn h d c m s) →
    (b : IsDataIn h d e n t) → a.member.ty ≡ b.member.ty →
    (member_pointer_bytes h (places_of h rows) codes d (Data c m s) ≡ member_pointer_bytes h (places_of h rows) codes d (Data e n t)) ↔ (Data c m s ≡ Data e n t)
