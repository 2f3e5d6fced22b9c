-- Two rows with the same numbers are one.
use Rattle.std.proofs.Common.{◌≡◌, ℕ, Option, List}
use Rattle.cxx_hierarchy.specs.declared.records.ClassId.{ClassId}
use Rattle.cxx_subobject.specs.declared.Subobject.{Subobject}
use Rattle.abi_primary.specs.declared.Primary.{Primary}
use Rattle.abi_sound.specs.declared.class_layout.Bits.{Bits}
use Rattle.abi_sound.specs.declared.class_layout.ClassLayout.{ClassLayout}

abbrev pub row_with : ℕ → ℕ → ℕ → ℕ → ℕ → Primary → List ℕ → List ClassId → List ℕ → List (Option Subobject) → List ℕ → List Bits → ClassLayout
row_with size align dsize nvsize nvalign primary bases shared virtuals holders members bits = record { size = size; align = align; dsize = dsize; nvsize = nvsize; nvalign = nvalign; primary = primary; base_places = bases; virtual_bases = shared; virtual_places = virtuals; holders = holders; member_places = members; member_bits = bits }

pub same_row : (x y : ClassLayout) → x.size ≡ y.size → x.align ≡ y.align → x.dsize ≡ y.dsize → x.nvsize ≡ y.nvsize → x.nvalign ≡ y.nvalign → x.primary ≡ y.primary → x.base_places ≡ y.base_places → x.virtual_bases ≡ y.virtual_bases → x.virtual_places ≡ y.virtual_places → x.holders ≡ y.holders → x.member_places ≡ y.member_places → x.member_bits ≡ y.member_bits → x ≡ y
same_row x y a b c d e f g h i j k l =
    let r : row_with x.size x.align x.dsize x.nvsize x.nvalign x.primary x.base_places x.virtual_bases x.virtual_places x.holders x.member_places x.member_bits ≡ row_with y.size y.align y.dsize y.nvsize y.nvalign y.primary y.base_places y.virtual_bases y.virtual_places y.holders y.member_places y.member_bits = cc in r
