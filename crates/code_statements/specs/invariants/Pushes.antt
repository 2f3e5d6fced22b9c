-- What the calls put behind other ops, whatever number of classes the definitions are told.
use Rattle.std.specs.Prelude.{◌≡◌, ℕ, ◌+◌, ◌*◌, ◌<◌, ◌≤◌, List, ◌∷◌, ◌++◌, Option, Some, length, slice_get}
use Rattle.std.specs.List.{flat_map}
use Rattle.cxx_hierarchy.specs.declared.records.ClassId.{ClassId}
use Rattle.cxx_hierarchy.specs.declared.records.Member.{Member}
use Rattle.cxx_hierarchy.specs.declared.records.FieldType.{FieldType}
use Rattle.cxx_hierarchy.specs.Classes.{members_of}
use Rattle.cxx_hierarchy.specs.Declarations.{elements_of}
use Rattle.cxx_subobject.specs.declared.Subobject.{Subobject}
use Rattle.cxx_subobject.specs.Subobjects.{class_of}
use Rattle.cxx_subobject.specs.Preorder.{preorder}
use Rattle.path_plan.specs.Plans.{upto}
use Rattle.abi_sound.specs.Locations.{size_of_type, element_place}
use Rattle.byte_code.specs.declared.op.Op.{Op}
use Rattle.code_ops.specs.Setups.{Setup, places}
use Rattle.code_ops.specs.declared.widths.LeafWidth.{LeafWidth}
use Rattle.code_ops.specs.Leaves.{leaf_width}
use Rattle.code_statements.specs.declared.distances.Sides.{Sides}
use Rattle.code_ops.specs.declared.uses.Used.{Used}
use Rattle.code_ops.specs.declared.uses.Used.TheVariants.{Guards}
use Rattle.code_statements.specs.CopyTests.{element_used, member_used, covered_used}
use Rattle.code_statements.specs.CopyOps.{typed_copies, member_copies, own_copies, object_copies}

-- what is put for the first k of some objects of class d, one behind the other, where `give` says what is put for one at a place
pub record PutsObjects {A : Type 0} (give : (n at : ℕ) → List A) (d : ClassId) (start stride k : ℕ) (old new : List A) : Type 0 where
  pub adds : (n : ℕ) → d.0 < n → new ≡ old ++ flat_map (λ i. give n (start + i * stride)) (upto k)

-- what is put for a member of class b
pub record PutsMember {A : Type 0} (give : (n : ℕ) (at : ℕ → ℕ) → List ℕ → FieldType ClassId → List A) (x : Setup) (b : ClassId) (member : Member ClassId) (start : ℕ) (old new : List A) : Type 0 where
  pub adds : (n : ℕ) → b.0 ≤ n → new ≡ old ++ give n (λ i. start + i * size_of_type (places x) member.ty) (upto (elements_of member.count)) member.ty

-- what is put for the first k members of class b
pub record PutsMembers {A : Type 0} (give : (n m : ℕ) (at : ℕ → ℕ) → Option (Member ClassId) → List A) (x : Setup) (b : ClassId) (offset k : ℕ) (old new : List A) : Type 0 where
  pub adds : (n : ℕ) → b.0 ≤ n → new ≡ old ++ flat_map (λ m. give n m (λ i. offset + element_place x.h (places x) (Some b) m i) (slice_get (members_of x.h b) m)) (upto k)

-- the leaves of the first k of some objects of class d
abbrev pub CopiesObjects : Setup → Sides → ClassId → (start stride k : ℕ) → List Op → List Op → Type 0
CopiesObjects x sides d start stride k old new = PutsObjects (λ n at. object_copies x sides n d at) d start stride k old new

-- those of a member of class b
abbrev pub CopiesMember : Setup → Sides → ClassId → LeafWidth → Member ClassId → (start : ℕ) → List Op → List Op → Type 0
CopiesMember x sides b leaf member start old new = PutsMember (λ n at indices ty. typed_copies (object_copies x sides n) sides leaf at indices ty) x b member start old new

-- those of the first k members of class b
abbrev pub CopiesMembers : Setup → Sides → ClassId → (offset k : ℕ) → List Op → List Op → Type 0
CopiesMembers x sides b offset k old new = PutsMembers (λ n m at o. member_copies (object_copies x sides n) sides (leaf_width x b m) at o) x b offset k old new

-- those of all members
abbrev pub CopiesOwn : Setup → Sides → ClassId → ℕ → List Op → List Op → Type 0
CopiesOwn x sides b offset old new = CopiesMembers x sides b offset (length (members_of x.h b)) old new

-- those of some subobjects of an object of class d
pub record CopiesBases (x : Setup) (sides : Sides) (d : ClassId) (offset : ℕ) (bases : List Subobject) (old new : List Op) : Type 0 where
  pub adds : (n : ℕ) → d.0 ≤ n → new ≡ old ++ flat_map (λ s. own_copies x (object_copies x sides n) sides (class_of s) (offset + (places x).place d s)) bases

-- those of all
abbrev pub CopiesWholeObject : Setup → Sides → ClassId → ℕ → List Op → List Op → Type 0
CopiesWholeObject x sides d offset old new = CopiesBases x sides d offset (preorder x.h d) old new

-- the tests of the first k of some objects of class d, and of the class members inside them
abbrev pub CoversObjects : Setup → (r : ℕ) → ClassId → (start stride k : ℕ) → List Used → List Used → Type 0
CoversObjects x r d start stride k old new = PutsObjects (λ n at. Guards r at d.0 ∷ covered_used x r n d at) d start stride k old new

-- those of a member of class b
abbrev pub CoversMember : Setup → (r : ℕ) → ClassId → Member ClassId → (start : ℕ) → List Used → List Used → Type 0
CoversMember x r b member start old new = PutsMember (λ n at indices ty. element_used (covered_used x r n) r at indices ty) x b member start old new

-- those of the first k members of class b
abbrev pub CoversMembers : Setup → (r : ℕ) → ClassId → (offset k : ℕ) → List Used → List Used → Type 0
CoversMembers x r b offset k old new = PutsMembers (λ n m at o. member_used (covered_used x r n) r at o) x b offset k old new

-- those of all members
abbrev pub CoversOwn : Setup → ℕ → ClassId → ℕ → List Used → List Used → Type 0
CoversOwn x r b offset old new = CoversMembers x r b offset (length (members_of x.h b)) old new
