-- One element and one member more, and a member whose elements are objects.
use Rattle.std.proofs.Common.{◌≡◌, ℕ, ◌+◌, ◌*◌, ◌<◌, Option, Some, List, ◌++◌, ap, sym, ◌∙◌, arith}
use Rattle.std.specs.Prelude.{slice_get}
use Rattle.std.specs.List.{flat_map}
use mathlib.Core.Path.{fun_ext}
use Rattle.cxx_hierarchy.specs.declared.records.ClassId.{ClassId}
use Rattle.cxx_hierarchy.specs.declared.records.Member.{Member}
use Rattle.cxx_hierarchy.specs.declared.records.FieldType.{FieldType}
use Rattle.cxx_hierarchy.specs.declared.records.FieldType.TheVariants.{Object}
use Rattle.cxx_hierarchy.specs.Classes.{members_of}
use Rattle.cxx_hierarchy.specs.Declarations.{elements_of}
use Rattle.path_plan.specs.Plans.{upto}
use Rattle.abi_sound.specs.Locations.{size_of_type, stride_in, element_place}
use Rattle.code_ops.specs.Setups.{Setup, places}
use Rattle.code_statements.specs.invariants.Pushes.{PutsObjects, PutsMember, PutsMembers}
use Rattle.code_statements.proofs.Pushed.{numbers_flat}

-- one object more
pub object_more : {A : Type 0} (give : (n at : ℕ) → List A) (d : ClassId) (start stride i at : ℕ) (old mid new : List A) → at ≡ start + i * stride → PutsObjects give d start stride i old mid → ((n : ℕ) → d.0 < n → new ≡ mid ++ give n at) → PutsObjects give d start stride (i + 1) old new
object_more give d start stride i at old mid new is before more = record {
  adds = λ n low.
      let last : new ≡ mid ++ give n (start + i * stride) = more n low ∙ ap (λ (k : ℕ). mid ++ give n k) is in
      numbers_flat (λ i. give n (start + i * stride)) i old mid new (before.adds n low) last;
}

-- a member whose elements are objects
pub objects_whole : {A : Type 0} (give : (n at : ℕ) → List A) (each : (n : ℕ) (at : ℕ → ℕ) → List ℕ → FieldType ClassId → List A) (x : Setup) (b d : ClassId) (member : Member ClassId) (start stride count : ℕ) (old new : List A) → member.ty ≡ Object d → stride ≡ size_of_type (places x) member.ty → count ≡ elements_of member.count → d.0 < b.0 → PutsObjects give d start stride count old new
    → ((n : ℕ) (at : ℕ → ℕ) (indices : List ℕ) → flat_map (λ i. give n (at i)) indices ≡ each n at indices (Object d)) → PutsMember each x b member start old new
objects_whole give each x b d member start stride count old new ty size many below added same = record {
  adds = λ n low.
      let at = λ (i : ℕ). start + i * size_of_type (places x) member.ty in
      added.adds n (omega arith)
      ∙ ap (λ (k : ℕ). old ++ flat_map (λ i. give n (start + i * k)) (upto count)) size
      ∙ ap (λ (k : ℕ). old ++ flat_map (λ i. give n (at i)) (upto k)) many
      ∙ ap (λ (l : List _). old ++ l) (same n at (upto (elements_of member.count)))
      ∙ ap (λ (u : FieldType ClassId). old ++ each n at (upto (elements_of member.count)) u) (sym ty);
}

-- the elements of a member lie its place behind the subobject, and so many elements
elements_there : (x : Setup) (b : ClassId) (offset start m : ℕ) (member : Member ClassId) → slice_get (members_of x.h b) m ≡ Some member → start ≡ offset + (places x).member b m
    → (i : ℕ) → start + i * size_of_type (places x) member.ty ≡ offset + element_place x.h (places x) (Some b) m i
elements_there x b offset start m member there is i =
    let stride : stride_in (places x) (slice_get (members_of x.h b) m) ≡ size_of_type (places x) member.ty = ap (stride_in (places x)) there in
    let total = ap (λ (k : ℕ). i * k) stride in
    omega (arith, is, total)

-- one member more
pub member_more : {A : Type 0} (give : (n m : ℕ) (at : ℕ → ℕ) → Option (Member ClassId) → List A) (each : (n : ℕ) (at : ℕ → ℕ) → List ℕ → FieldType ClassId → List A) (x : Setup) (b : ClassId) (offset start m : ℕ) (member : Member ClassId) (old mid new : List A) → slice_get (members_of x.h b) m ≡ Some member → start ≡ offset + (places x).member b m → PutsMembers give x b offset m old mid → PutsMember each x b member start mid new
    → ((n : ℕ) (at : ℕ → ℕ) → each n at (upto (elements_of member.count)) member.ty ≡ give n m at (Some member)) → PutsMembers give x b offset (m + 1) old new
member_more give each x b offset start m member old mid new there is before more same = record {
  adds = λ n low.
      let at = λ (k i : ℕ). offset + element_place x.h (places x) (Some b) k i in
      let give_at = λ (k : ℕ). give n k (at k) (slice_get (members_of x.h b) k) in
      let last : new ≡ mid ++ give_at m =
      more.adds n low
      ∙ ap (λ (f : ℕ → ℕ). mid ++ each n f (upto (elements_of member.count)) member.ty) (fun_ext (elements_there x b offset start m member there is))
      ∙ ap (λ (l : List _). mid ++ l) (same n (at m))
      ∙ ap (λ (o : Option (Member ClassId)). mid ++ give n m (at m) o) (sym there) in
      numbers_flat give_at m old mid new (before.adds n low) last;
}
