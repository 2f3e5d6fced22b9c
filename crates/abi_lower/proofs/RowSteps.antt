-- The numbers of routines, one after the other.
use Rattle.std.proofs.Common.{◌≡◌, ℕ, suc, ◌+◌, ◌<◌, ◌^◌, true, List, [], ◌∷◌, length, get_or, drop, ap, subst, sym, ◌∙◌, arith}
use Rattle.std.specs.List.{sum_by}
use Rattle.std.proofs.Math.Seq.{drop-cons}
use Rattle.std.proofs.lemmas.List.Sums.{sum_by-cons}
use Rattle.std.proofs.lemmas.Option.{slice_get-get_or}
use Rattle.foundation.proofs.Members.{Has, has_at, has_map}
use Rattle.abi_slots.specs.declared.code_numbers.CodeRow.{CodeRow}
use Rattle.code_ops.specs.Setups.{Setup, Routine}
use Rattle.code_ops.specs.Routines.{IsRoutine}
use Rattle.abi_lower.specs.declared.routines.Routine.{Routine as RoutineCode}
use Rattle.abi_lower.specs.declared.routines.Routine.TheVariants.{Main}
use Rattle.abi_lower.specs.invariants.Numbers.{plain_routines, routines, blocks_in, block_count, code_rows_from, code_rows}
use Rattle.abi_lower.specs.invariants.Codes.{routine_from, routines_from, runs_no_plan}
use Rattle.abi_lower.specs.invariants.Lowerings.{Completes}
use Rattle.abi_lower.proofs.ListedRoutines.{routine_only, plain_only, plain_is}

completes_none : (x : Setup) (list : List Routine) → list ≡ routines x → Completes x [] 0 list
unfolding code_rows block_count
completes_none x list is = record {
  all = ap (code_rows_from x 0) is;
  count = (let same = ap (sum_by (blocks_in x)) is in omega arith);
}

pub completes_first : (x : Setup) (rows : List CodeRow) (list : List Routine) → rows ≡ [] → list ≡ routines x → Completes x rows 0 list
completes_first x rows list none is = subst (λ (l : List CodeRow). Completes x l 0 list) (sym none) (completes_none x list is)

completes_room : (x : Setup) (rows : List CodeRow) (n : ℕ) (r : Routine) (rest : List Routine) → block_count x < 2 ^ 32 → Completes x rows n (r ∷ rest) → n + blocks_in x r < 2 ^ 32
completes_room x rows n r rest few before = let total = before.count in let sum = sum_by-cons (blocks_in x) r rest in omega arith

-- the routine at a place

pub routine_next : (list : List RoutineCode) (i : ℕ) → i < length list → routines_from (drop i list) ≡ routine_from (get_or list i Main) ∷ routines_from (drop (i + 1) list)
routine_next list i low =
    let next : suc i ≡ i + 1 = omega arith in
    ap (λ (l : List RoutineCode). routines_from l) (drop-cons list i Main low) ∙ ap (λ k. routine_from (get_or list i Main) ∷ routines_from (drop k list)) next

pub room_next : (x : Setup) (rows : List CodeRow) (n : ℕ) (list : List RoutineCode) (i : ℕ) → i < length list → block_count x < 2 ^ 32 → Completes x rows n (routines_from (drop i list)) → n + blocks_in x (routine_from (get_or list i Main)) < 2 ^ 32
room_next x rows n list i low few before =
    completes_room x rows n (routine_from (get_or list i Main)) (routines_from (drop (i + 1) list)) few (subst (λ (l : List Routine). Completes x rows n l) (routine_next list i low) before)

item_there : (list : List RoutineCode) (i : ℕ) (all : List Routine) → routines_from list ≡ all → i < length list → Has all (routine_from (get_or list i Main))
item_there list i all is low =
    subst (λ (l : List Routine). Has l (routine_from (get_or list i Main))) is (has_map routine_from list (get_or list i Main) (has_at list i (get_or list i Main) (slice_get-get_or list i Main low)))

pub routine_item : (x : Setup) (list : List RoutineCode) (i : ℕ) → routines_from list ≡ routines x → i < length list → IsRoutine x (routine_from (get_or list i Main))
routine_item x list i is low = routine_only x (routine_from (get_or list i Main)) (item_there list i (routines x) is low)

-- one of `main` and the functions
pub plain_item : (x : Setup) (list : List RoutineCode) (i : ℕ) → routines_from list ≡ plain_routines x.program → i < length list → IsRoutine x (routine_from (get_or list i Main)) × (runs_no_plan (routine_from (get_or list i Main)) ≡ true)
plain_item x list i is low =
    let has = item_there list i (plain_routines x.program) is low in
    (plain_only x (routine_from (get_or list i Main)) has, plain_is x.program (routine_from (get_or list i Main)) has)
