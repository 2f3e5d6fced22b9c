-- Ops that may all stand in the block of a statement, made up of pieces.
use Rattle.std.proofs.Common.{◌≡◌, Bool, true, false, ◌||◌, ⊎_elim, List, [], ◌∷◌, ◌++◌, map, refl, subst}
use Rattle.std.specs.List.{flat_map}
use Rattle.foundation.proofs.Members.{Has, has_from_contains}
use Rattle.cxx_program.specs.declared.statement.TypedKind.{TypedKind}
use Rattle.byte_code.specs.declared.op.Finish.{Finish}
use Rattle.byte_code.specs.declared.op.Op.{Op}
use Rattle.byte_code.specs.declared.op.Op.TheVariants.{Does}
use Rattle.code_ops.specs.Setups.{Routine}
use Rattle.code_ops.specs.Operands.{ops_of}
use Rattle.code_laws.specs.Kinds.{may_stand, AllMayStand}

abbrev pub May : Routine → TypedKind → Op → Type 0
May r k op = may_stand op r k ≡ true

-- op by op
pub data AllMay (r : Routine) (k : TypedKind) : List Op → Type 0 where
  no_op : AllMay r k []
  one_op : {op : Op} {ops : List Op} → May r k op → AllMay r k ops → AllMay r k (op ∷ ops)

pub last_op : {r : Routine} {k : TypedKind} {op : Op} → May r k op → AllMay r k (op ∷ [])
last_op e = one_op e no_op

pub both_may : {r : Routine} {k : TypedKind} {xs ys : List Op} → AllMay r k xs → AllMay r k ys → AllMay r k (xs ++ ys)
both_may no_op b = b
both_may (one_op e a) b = one_op e (both_may a b)

pub map_may : {X : Type 0} (r : Routine) (k : TypedKind) (f : X → Op) (xs : List X) → ((x : X) → May r k (f x)) → AllMay r k (map f xs)
map_may r k f [] each = no_op
map_may r k f (x ∷ xs) each = one_op (each x) (map_may r k f xs each)

pub flat_may : {X : Type 0} (r : Routine) (k : TypedKind) (f : X → List Op) (xs : List X) → ((x : X) → AllMay r k (f x)) → AllMay r k (flat_map f xs)
flat_may r k f [] each = no_op
flat_may r k f (x ∷ xs) each = both_may (each x) (flat_may r k f xs each)

-- what may follow a return may stand anywhere
pub done_may : (r : Routine) (k : TypedKind) (list : List Finish) → AllMay r k (ops_of list)
done_may r k list = map_may r k Does list (λ x. refl)

has_may : {r : Routine} {k : TypedKind} {ops : List Op} → AllMay r k ops → (op : Op) → Has ops op → May r k op
has_may no_op op h = absurd h
has_may (one_op e a) op h = ⊎_elim (λ same. subst (May _ _) same e) (λ more. has_may a op more) h

pub all_may : (r : Routine) (k : TypedKind) (ops : List Op) → AllMay r k ops → AllMayStand r k ops
all_may r k ops a = λ op c. has_may a op (has_from_contains ops op c)

pub second_holds : (a b : Bool) → b ≡ true → a || b ≡ true
second_holds true b e = refl
second_holds false b e = e
