-- A class that declares something is one of the hierarchy.
use Rattle.std.proofs.Common.{◌≡◌, ℕ, ◌<◌, ◌+◌, Option, Some, None, List, refl, subst, sym, arith}
use Rattle.std.specs.Prelude.{length, slice_get}
use Rattle.std.proofs.lemmas.Option.{slice_get_within}
use Rattle.cxx_hierarchy.specs.declared.records.ClassId.{ClassId}
use Rattle.cxx_hierarchy.specs.declared.records.Member.{Member as MemberRecord}
use Rattle.cxx_hierarchy.specs.Classes.{Class, Classes, class_at, members_of, members_in}
use Rattle.cxx_subobject.specs.declared.Subobject.{Subobject}
use Rattle.abi_sound.specs.declared.class_layout.ClassLayout.{ClassLayout}
use Rattle.abi_sound.specs.Sound.{IsSoundLayout}
use Rattle.abi_memptr.specs.Pointers.{IsDataIn}

by_class : (h : Classes) (c : ClassId) (m : ℕ) (member : MemberRecord ClassId) (o : Option Class) → class_at h c ≡ o → slice_get (members_in o) m ≡ Some member → c.0 < length h
by_class h c m member None is there = absurd (cc)
by_class h c m member (Some class) is there = slice_get_within h c.0 class is

-- the class of a data member has a row in each layout
pub data_row : (h : Classes) (rows : List ClassLayout) (d c : ClassId) (m : ℕ) (s : Subobject) → IsSoundLayout h rows → IsDataIn h d c m s → c.0 < length rows
data_row h rows d c m s sound a = subst (λ n. c.0 < n) (sym sound.full.one_each) (by_class h c m a.member (class_at h c) refl a.there)
