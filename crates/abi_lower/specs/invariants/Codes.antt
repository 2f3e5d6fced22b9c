-- How the code names routines, and which of its items have blocks of their own.
use Rattle.std.specs.Prelude.{ℕ, Bool, true, false, if◌then◌else◌, Option, Some, None, List, [], ◌∷◌, map}
use Rattle.cxx_hierarchy.specs.declared.records.ClassId.{ClassId}
use Rattle.path_plan.specs.Plans.{count_from}
use Rattle.code_ops.specs.Setups.{Routine, MainCode, FunctionCode, PlanCode}
use Rattle.code_blocks.specs.declared.items.Item.{Item as ItemCode}
use Rattle.code_blocks.specs.declared.items.Item.TheVariants.{Does as DoesCode, Shares as SharesCode, Inherits as InheritsCode, Holds as HoldsCode}
use Rattle.code_blocks.specs.declared.items.Kind.{Kind}
use Rattle.code_blocks.specs.declared.items.Kind.TheVariants.{AtBegin, AtReady, AtInit, AtBody, AtDone, AtEnding, AtBases, AtEnd}
use Rattle.code_blocks.specs.Lowered.{has_own_block}
use Rattle.abi_lower.specs.declared.routines.Routine.{Routine as RoutineCode}
use Rattle.abi_lower.specs.declared.routines.Routine.TheVariants.{Main, Function, Plan}

abbrev pub routine_from : RoutineCode → Routine
routine_from Main = MainCode
routine_from (Function f) = FunctionCode f
routine_from (Plan course form c) = PlanCode course form c

abbrev pub routines_from : List RoutineCode → List Routine
routines_from list = map routine_from list

-- `main` or a function, and no plan
abbrev pub runs_no_plan : Routine → Bool
runs_no_plan MainCode = true
runs_no_plan (FunctionCode f) = true
runs_no_plan (PlanCode course form c) = false

-- n classes, the first of which has the number a
abbrev pub class_ids_from : ℕ → ℕ → List ClassId
class_ids_from a n = map (λ i. record { 0 = i }) (count_from a n)

abbrev pub is_own_code : Bool → ItemCode → Bool
is_own_code has (DoesCode k) = has_own_block has k
is_own_code has (SharesCode v) = false
is_own_code has (InheritsCode c) = false
is_own_code has (HoldsCode way m d n) = false

-- the event of an item that has a block of its own
abbrev pub own_kind : Bool → ItemCode → Option Kind
own_kind has (DoesCode k) = if has_own_block has k then Some k else None
own_kind has (SharesCode v) = None
own_kind has (InheritsCode c) = None
own_kind has (HoldsCode way m d n) = None

abbrev pub is_body_kind : Kind → Bool
is_body_kind AtBegin = false
is_body_kind AtReady = false
is_body_kind (AtInit m) = false
is_body_kind AtBody = true
is_body_kind AtDone = false
is_body_kind AtEnding = false
is_body_kind AtBases = false
is_body_kind AtEnd = false

abbrev pub is_body_code : ItemCode → Bool
is_body_code (DoesCode k) = is_body_kind k
is_body_code (SharesCode v) = false
is_body_code (InheritsCode c) = false
is_body_code (HoldsCode way m d n) = false

-- the next own event is the body
abbrev pub is_body_next : List ItemCode → Bool
is_body_next [] = false
is_body_next (DoesCode k ∷ left) = is_body_kind k
is_body_next (SharesCode v ∷ left) = is_body_next left
is_body_next (InheritsCode c ∷ left) = is_body_next left
is_body_next (HoldsCode way m d n ∷ left) = is_body_next left
