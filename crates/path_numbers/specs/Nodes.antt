-- Which part has which number.
use Rattle.std.specs.Prelude.{◌≡◌, ℕ, ◌+◌, ◌*◌, ◌<◌, false, Some, slice_get}
use Rattle.cxx_hierarchy.specs.declared.records.ClassId.{ClassId}
use Rattle.cxx_hierarchy.specs.declared.records.Base.{Base}
use Rattle.cxx_hierarchy.specs.declared.records.Member.{Member}
use Rattle.cxx_hierarchy.specs.declared.records.ValueType.{ValueType}
use Rattle.cxx_hierarchy.specs.declared.records.FieldType.TheVariants.{Value, Object}
use Rattle.cxx_hierarchy.specs.Classes.{Classes, bases_of, members_of}
use Rattle.cxx_subobject.specs.Parts.{elements_of}
use Rattle.cxx_subobject.specs.Subobjects.{class_of, whole_of}
use Rattle.path_plan.specs.Places.{ObjectPart, base_part, shared_part, element}
use Rattle.path_plan.specs.declared.form.Form.{Form}
use Rattle.path_plan.specs.declared.form.Form.TheVariants.{InFull, AsBase}
use Rattle.path_plan.specs.Plans.{virtual_order}
use Rattle.path_plan.specs.Whole.{whole_part}
use Rattle.path_numbers.specs.Sizes.{Sizes, base_offset, member_offset, shared_offset}

-- a part with its class and its number; InFull: it is a complete object
pub record Node : Type 0 where
  pub form : Form
  pub class : ClassId
  pub part : ObjectPart
  pub number : ℕ

abbrev pub node : Form → ClassId → ObjectPart → ℕ → Node
node f c p n = record { form = f; class = c; part = p; number = n }

-- one step down
pub data Kid (h : Classes) (size : Sizes) (x y : Node) : Type 0 where
  base_kid : (i : ℕ) (b : Base ClassId) → slice_get (bases_of h x.class) i ≡ Some b → b.is_virtual ≡ false
      → y ≡ node AsBase b.class (base_part x.part b) (x.number + base_offset h size x.class i) → Kid h size x y
  element_kid : (m i : ℕ) (d : ClassId) (member : Member ClassId) → slice_get (members_of h x.class) m ≡ Some member → member.ty ≡ Object d → i < elements_of member.count
      → y ≡ node InFull d (element x.part m i d) (x.number + (member_offset h size x.class m + i * size InFull d)) → Kid h size x y
  shared_kid : (j : ℕ) (v : ClassId) → x.form ≡ InFull → slice_get (virtual_order h x.class) j ≡ Some v
      → y ≡ node AsBase v (shared_part x.part v) (x.number + shared_offset h size x.class j) → Kid h size x y

-- Under y x: y is x, or lies in it
pub data Under (h : Classes) (size : Sizes) (y : Node) : Node → Type 0 where
  here : (x : Node) → x ≡ y → Under h size y x
  deeper : (x r : Node) → Kid h size x r → Under h size y r → Under h size y x

-- the heap object k of class c
abbrev pub root_node : ℕ → ClassId → Node
root_node k c = node InFull c (whole_part k c) 0

-- the class of a node is its part's, and a complete object's part is a whole
pub record IsGood (x : Node) : Type 0 where
  pub class : class_of x.part.at ≡ Some x.class
  pub whole : x.form ≡ InFull → x.part.at ≡ whole_of x.class

-- element i of the member m of a part, a number or a pointer, has the number n
pub record LeafAt (h : Classes) (size : Sizes) (x : Node) (m i n : ℕ) : Type 0 where
  pub member : Member ClassId
  pub type : ValueType ClassId
  pub listed : slice_get (members_of h x.class) m ≡ Some member
  pub leaf : member.ty ≡ Value type
  pub within : i < elements_of member.count
  pub is : n ≡ x.number + (member_offset h size x.class m + i)
