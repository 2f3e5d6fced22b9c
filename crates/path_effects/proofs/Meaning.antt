-- What a value of the code means, where one of the two is known.
use Rattle.std.proofs.Common.{◌≡◌, ℕ, None, List, refl, subst}
use Rattle.foundation.proofs.Members.{Has}
use Rattle.cxx_hierarchy.specs.declared.records.ClassId.{ClassId}
use Rattle.cxx_hierarchy.specs.declared.records.ValueType.TheVariants.{Pointer as PointerType}
use Rattle.cxx_hierarchy.specs.Classes.{Classes}
use Rattle.path_plan.specs.Places.{ObjectPart}
use Rattle.path_model.specs.Values.{Value, Unset, Number, Null, Pointer, Objects}
use Rattle.path_model.specs.Uses.{StatementUse, Guards}
use Rattle.path_model.specs.Rules.{refused}
use Rattle.path_model.specs.TypedStates.{IsValue}
use Rattle.path_heap.specs.declared.state.Value.{Value as ValueCode}
use Rattle.path_heap.specs.declared.state.Value.TheVariants.{Unset as UnsetCode, Number as NumberCode, Null as NullCode, Pointer as PointerCode}
use Rattle.path_heap.specs.Points.{Points}
use Rattle.path_heap.specs.Stands.{Means}
use Rattle.path_effects.specs.invariants.Begun.{IsBegun}
use Rattle.path_effects.proofs.Clear.{ready_begun, guarded}

-- a number of the part
pub points_to : (h : Classes) (cs : List ClassId) (v : ValueCode) (w : Value) (n : ℕ) (p : ObjectPart) → Means h cs v w → v ≡ PointerCode n → w ≡ Pointer p → Points h cs n p
points_to h cs v w n p m code is = subst (λ (x : ValueCode). Means h cs x (Pointer p)) code (subst (λ (x : Value). Means h cs v x) is m)

-- a pointer has a number
pub has_number : (h : Classes) (cs : List ClassId) (v : ValueCode) (w : Value) (p : ObjectPart) → Means h cs v w → w ≡ Pointer p → ((n : ℕ) → v ≡ PointerCode n → ⊥) → ⊥
has_number h cs UnsetCode w p m is other = subst (λ (x : Value). Means h cs UnsetCode x) is m
has_number h cs (NumberCode z) w p m is other = subst (λ (x : Value). Means h cs (NumberCode z) x) is m
has_number h cs NullCode w p m is other = subst (λ (x : Value). Means h cs NullCode x) is m
has_number h cs (PointerCode n) w p m is other = other n refl

-- what is guarded has begun
pub guard_begun : (h : Classes) (s : Objects) (us : List StatementUse) → refused h s us ≡ None → (w : Value) → Has us (Guards w) → IsBegun s w
guard_begun h s us clear Unset has = tt
guard_begun h s us clear (Number z) has = tt
guard_begun h s us clear Null has = tt
guard_begun h s us clear (Pointer p) has = ready_begun s p (guarded h s us clear p has)

-- a pointer that is set and has no number is null
pub null_else : (h : Classes) (cs : List ClassId) (v : ValueCode) (w : Value) (c : ClassId) → Means h cs v w → ((n : ℕ) → v ≡ PointerCode n → ⊥) → (w ≡ Unset → ⊥) → IsValue h cs w (PointerType c) → w ≡ Null
null_else h cs v Unset c m other set a = absurd (set refl)
null_else h cs v (Number z) c m other set a = absurd a
null_else h cs v Null c m other set a = refl
null_else h cs v (Pointer p) c m other set a = absurd (has_number h cs v (Pointer p) p m refl other)
