-- One more object: what stood for the objects before still does.
use Rattle.std.proofs.Common.{◌≡◌, ℕ, ◌+◌, ◌<◌, ◌⊎◌, inl, inr, ⊎_elim, false, Option, Some, None, List, [], ◌∷◌, ◌++◌, length, refl, ap, subst, sym, ◌∙◌, arith}
use Rattle.std.specs.Prelude.{slice_get, nat_eq, if◌then◌else◌}
use Rattle.std.proofs.lemmas.Bool.{eqb-true}
use Rattle.std.proofs.lemmas.Option.{slice_get_within}
use Rattle.foundation.proofs.Truth.{is_false}
use Rattle.foundation.proofs.Places.{get_pushed, get_kept}
use Rattle.cxx_hierarchy.specs.declared.records.ClassId.{ClassId}
use Rattle.cxx_hierarchy.specs.Classes.{Classes}
use Rattle.cxx_hierarchy.specs.Hierarchies.{IsHierarchy}
use Rattle.cxx_subobject.specs.declared.Subobject.{Subobject}
use Rattle.path_plan.specs.Places.{Step, ObjectPart, part}
use Rattle.path_plan.specs.Phases.{Phase, Raw, is_running}
use Rattle.path_plan.specs.declared.form.Form.TheVariants.{InFull}
use Rattle.path_numbers.specs.Sizes.{sizes_of, total, before}
use Rattle.path_numbers.specs.Nodes.{Node, Under}
use Rattle.path_numbers.specs.Heap.{IsAt, root_at}
use Rattle.path_numbers.proofs.Heap.{at_more, at_object, before_more}
use Rattle.path_model.specs.Values.{Value, Unset, Number, Null, Pointer}
use Rattle.path_heap.specs.declared.state.Value.{Value as ValueCode}
use Rattle.path_heap.specs.declared.state.Value.TheVariants.{Unset as UnsetCode, Number as NumberCode, Null as NullCode, Pointer as PointerCode}
use Rattle.path_heap.specs.Points.{Points, HasOwner}
use Rattle.path_heap.specs.Running.{entry_in, entry_at, outer_at, AreRunning, StackStands}
use Rattle.path_heap.specs.Stands.{Means}
use Rattle.path_heap.proofs.Viewing.{at_less}

pub total_more : {X : Type 0} (f : X → ℕ) (xs : List X) (x : X) → total f (xs ++ x ∷ []) ≡ total f xs + f x
total_more f [] x = let e : f x + 0 ≡ 0 + f x = omega arith in e
total_more f (y ∷ xs) x = let r = total_more f xs x in omega arith

pub before_all : {X : Type 0} (f : X → ℕ) (xs : List X) (x : X) → before f (length xs) (xs ++ x ∷ []) ≡ total f xs
before_all f [] x = refl
before_all f (y ∷ xs) x = ap (λ n. f y + n) (before_all f xs x)

-- a part of the objects before, or of the new one
pub old_or_new : (h : Classes) (classes : List ClassId) (c : ClassId) (y : Node) → IsAt h (sizes_of h) (classes ++ c ∷ []) y → IsAt h (sizes_of h) classes y ⊎ (y.part.object ≡ length classes)
old_or_new h classes c y a = ⊎_elim
    (λ listed. inl (record {
      object = a.object;
      class = a.class;
      listed = listed;
      under = subst (λ n. Under h (sizes_of h) y (record { form = InFull; class = a.class; part = (root_at (sizes_of h) classes a.object a.class).part; number = n })) (before_more (sizes_of h InFull) a.object classes a.class c listed) a.under;
    }))
    (λ new. inr (at_object h (sizes_of h) (classes ++ c ∷ []) y a ∙ new.0))
    (get_pushed classes c a.object a.class a.listed)

-- an object before is not the new one
pub object_before : {X : Type 0} (xs : List X) (k : ℕ) (x : X) → slice_get xs k ≡ Some x → nat_eq k (length xs) ≡ false
object_before xs k x e = is_false (nat_eq k (length xs)) (λ t. let lt = slice_get_within xs k x e in let f = eqb-true k (length xs) t in omega arith)

pub part_before : (h : Classes) (classes : List ClassId) (y : Node) → IsAt h (sizes_of h) classes y → nat_eq y.part.object (length classes) ≡ false
part_before h classes y a = ap (λ k. nat_eq k (length classes)) (at_object h (sizes_of h) classes y a) ∙ object_before classes a.object a.class a.listed

pub points_more : (h : Classes) (classes : List ClassId) (c : ClassId) (n : ℕ) (p : ObjectPart) → Points h classes n p → Points h (classes ++ c ∷ []) n p
points_more h classes c n p q = record { node = q.node; at = at_more h (sizes_of h) classes c q.node q.at; is_part = q.is_part; is_number = q.is_number }

pub owner_more : (h : Classes) (classes : List ClassId) (c : ClassId) (y : Node) (whole : ℕ) (owner : ClassId) → HasOwner h classes y whole owner → HasOwner h (classes ++ c ∷ []) y whole owner
owner_more h classes c y whole owner o = record {
  node = o.node;
  at = at_more h (sizes_of h) classes c o.node o.at;
  full = o.full;
  same_object = o.same_object;
  same_owner = o.same_owner;
  is_number = o.is_number;
  is_class = o.is_class;
  valid = o.valid;
  itself = o.itself;
}

pub means_more : (h : Classes) (classes : List ClassId) (c : ClassId) (v : ValueCode) (w : Value) → Means h classes v w → Means h (classes ++ c ∷ []) v w
means_more h classes c UnsetCode Unset m = m
means_more h classes c UnsetCode (Number z) m = m
means_more h classes c UnsetCode Null m = m
means_more h classes c UnsetCode (Pointer p) m = m
means_more h classes c (NumberCode a) Unset m = m
means_more h classes c (NumberCode a) (Number z) m = m
means_more h classes c (NumberCode a) Null m = m
means_more h classes c (NumberCode a) (Pointer p) m = m
means_more h classes c NullCode Unset m = m
means_more h classes c NullCode (Number z) m = m
means_more h classes c NullCode Null m = m
means_more h classes c NullCode (Pointer p) m = m
means_more h classes c (PointerCode n) Unset m = m
means_more h classes c (PointerCode n) (Number z) m = m
means_more h classes c (PointerCode n) Null m = m
means_more h classes c (PointerCode n) (Pointer p) m = points_more h classes c n p m

-- the phases of other objects are as they were
pub running_renewed : (phase : ObjectPart → Phase) (new k : ℕ) (o : List Step) (xs : List Subobject) → nat_eq k new ≡ false → AreRunning phase k o xs → AreRunning (λ q. if nat_eq q.object new then Raw else phase q) k o xs
running_renewed phase new k o [] other are = tt
running_renewed phase new k o (x ∷ xs) other are = (ap (λ b. is_running (if b then Raw else phase (part k o x))) other ∙ are.0, are.1, running_renewed phase new k o xs other are.2)

pub stack_more : (h : Classes) → IsHierarchy h → (classes : List ClassId) (c : ClassId) (around more : List (Option ℕ)) → length around ≡ total (sizes_of h InFull) classes → (whole k : ℕ) (o : List Step) (n : Option ℕ) (xs : List Subobject)
    → StackStands h classes around whole k o n xs → StackStands h (classes ++ c ∷ []) (around ++ more) whole k o n xs
stack_more h keeps classes c around more size whole k o None [] s = tt
stack_more h keeps classes c around more size whole k o None (x ∷ xs) s = absurd s
stack_more h keeps classes c around more size whole k o (Some n) [] s = absurd s
stack_more h keeps classes c around more size whole k o (Some n) (x ∷ xs) s =
    let lt : n < length around = subst (λ m. n < m) (sym size) (subst (λ m. m < total (sizes_of h InFull) classes) s.0.is_number (at_less h keeps classes s.0.node s.0.at)) in
    (points_more h classes c n (part k o x) s.0, subst (λ t. StackStands h (classes ++ c ∷ []) (around ++ more) whole k o (outer_at whole t) xs) (sym (ap entry_in (get_kept around more n lt))) (stack_more h keeps classes c around more size whole k o (outer_at whole (entry_at around n)) xs s.1))
