-- What follows the ops of an event or of openings stands behind them.
use Rattle.std.proofs.Common.{◌≡◌, ℕ, Option, Some, None, List, [], ◌∷◌, ◌++◌, map, append_assoc, refl, ap, sym, ◌∙◌}
use Rattle.std.specs.Prelude.{filter, if◌then◌else◌}
use Rattle.foundation.proofs.Truth.{split}
use Rattle.cxx_hierarchy.specs.declared.records.ClassId.{ClassId}
use Rattle.cxx_subobject.specs.declared.Subobject.{Subobject}
use Rattle.cxx_subobject.specs.Preorder.{preorder}
use Rattle.cxx_program.specs.declared.program.TypedInit.{TypedInit}
use Rattle.path_plan.specs.declared.form.Form.{Form}
use Rattle.path_plan.specs.declared.form.Form.TheVariants.{InFull, AsBase}
use Rattle.path_model.specs.States.{member_init}
use Rattle.byte_code.specs.declared.op.Op.{Op}
use Rattle.byte_code.specs.declared.op.Op.TheVariants.{Open, SetTable, SetPhase, SetView, Trace}
use Rattle.byte_code.specs.declared.op.Phase.TheVariants.{ReadyBuilding, Complete, ReadyEnding, Ended}
use Rattle.byte_code.specs.declared.op.TraceKind.TheVariants.{Built, Ending}
use Rattle.code_ops.specs.Setups.{Setup, Routine, PlanCode, places, body_of_routine, free_register}
use Rattle.code_ops.specs.Operands.{operand_ops, converted_ops, ops_of}
use Rattle.code_ops.specs.declared.routines.Course.{Course}
use Rattle.code_blocks.specs.declared.items.Kind.{Kind}
use Rattle.code_blocks.specs.declared.items.Kind.TheVariants.{AtBegin, AtReady, AtInit, AtBody, AtDone, AtEnding, AtBases, AtEnd}
use Rattle.code_blocks.specs.Items.{Item, Does, Shares, Inherits, Holds}
use Rattle.code_ops.specs.Leaves.{leaf_width, store_op}
use Rattle.code_blocks.specs.Blocks.{is_set_apart, setting_by, settings_then, pointers_then, back_then, init_then, event_then, whose_of, opening_of, openings_then}
use Rattle.code_plans.specs.Settings.{settings_of}

-- settings as a list
pub settings_listed : (x : Setup) (form : Form) (c : ClassId) (list : List Subobject) (rest : List Op) → settings_then x form c list rest ≡ map SetTable (settings_of x form c list) ++ rest
settings_listed x form c [] rest = refl
settings_listed x form c (i ∷ list) rest = split (is_set_apart x i)
    (λ b. (if b then SetTable (setting_by x form c i i.root) ∷ settings_then x form c list rest else settings_then x form c list rest) ≡ map SetTable (map (λ (i : Subobject). setting_by x form c i i.root) (if b then i ∷ filter (is_set_apart x) list else filter (is_set_apart x) list)) ++ rest)
    (λ t. ap (λ (ops : List Op). SetTable (setting_by x form c i i.root) ∷ ops) (settings_listed x form c list rest))
    (λ t. settings_listed x form c list rest)

-- what stands between two lists stands behind the first
pub behind : (xs ys : List Op) → (xs ++ []) ++ ys ≡ xs ++ ys
behind xs ys = append_assoc xs [] ys

pub pointers_append : (x : Setup) (form : Form) (c : ClassId) (rest : List Op) → pointers_then x form c rest ≡ pointers_then x form c [] ++ rest
pointers_append x form c rest =
    let ops = map SetTable (settings_of x form c (preorder x.h c)) in
    settings_listed x form c (preorder x.h c) rest ∙ sym (behind ops rest) ∙ ap (λ (l : List Op). l ++ rest) (sym (settings_listed x form c (preorder x.h c) []))

back_append : (form : Form) (rest : List Op) → back_then form rest ≡ back_then form [] ++ rest
back_append InFull rest = refl
back_append AsBase rest = refl

init_append : (x : Setup) (course : Course) (form : Form) (c : ClassId) (m : ℕ) (init : Option TypedInit) (rest : List Op) → init_then x course form c m init rest ≡ init_then x course form c m init [] ++ rest
init_append x course form c m None rest = refl
init_append x course form c m (Some init) rest =
    let r = free_register (body_of_routine x (PlanCode course form c)) 0 in
    let s = free_register (body_of_routine x (PlanCode course form c)) 1 in
    let front = operand_ops r init.operand in
    let middle = ops_of (converted_ops x None init.conversion s r) in
    let store = store_op (leaf_width x c m) s 0 ((places x).member c m) in
    sym (append_assoc front (middle ++ store ∷ []) rest ∙ ap (λ (l : List Op). front ++ l) (append_assoc middle (store ∷ []) rest))

-- what follows an event's ops
pub event_append : (x : Setup) (course : Course) (form : Form) (c : ClassId) (k : Kind) (rest : List Op) → event_then x course form c k rest ≡ event_then x course form c k [] ++ rest
event_append x course form c AtBegin rest = refl
event_append x course form c AtReady rest =
    let more = SetPhase c.0 ReadyBuilding ∷ [] in
    pointers_append x form c (SetPhase c.0 ReadyBuilding ∷ rest) ∙ sym (append_assoc (pointers_then x form c []) more rest) ∙ ap (λ (l : List Op). l ++ rest) (sym (pointers_append x form c more))
event_append x course form c (AtInit m) rest = init_append x course form c m (member_init x.program c m) rest
event_append x course form c AtBody rest = refl
event_append x course form c AtDone rest = ap (λ (l : List Op). SetPhase c.0 Complete ∷ l) (back_append form (Trace (Built c.0) ∷ rest) ∙ sym (append_assoc (back_then form []) (Trace (Built c.0) ∷ []) rest) ∙ ap (λ (l : List Op). l ++ rest) (sym (back_append form (Trace (Built c.0) ∷ []))))
event_append x course form c AtEnding rest =
    let more = SetPhase c.0 ReadyEnding ∷ SetView c.0 (whose_of form) ∷ Trace (Ending c.0) ∷ [] in
    pointers_append x form c (more ++ rest) ∙ sym (append_assoc (pointers_then x form c []) more rest) ∙ ap (λ (l : List Op). l ++ rest) (sym (pointers_append x form c more))
event_append x course form c AtBases rest = refl
event_append x course form c AtEnd rest = ap (λ (l : List Op). SetPhase c.0 Ended ∷ l) (back_append form rest)

-- one op more between two lists
between : (front : List Op → List Op) (op : Op) (rest : List Op) → ((more : List Op) → front more ≡ front [] ++ more) → front (op ∷ rest) ≡ front (op ∷ []) ++ rest
between front op rest goes = goes (op ∷ rest) ∙ sym (append_assoc (front []) (op ∷ []) rest) ∙ ap (λ (l : List Op). l ++ rest) (sym (goes (op ∷ [])))

-- what follows the openings of parts
pub openings_append : (x : Setup) (at : Routine → ℕ) (course : Course) (form : Form) (c : ClassId) (items : List Item) (rest : List Op) → openings_then x at course form c items rest ≡ openings_then x at course form c items [] ++ rest
openings_append x at course form c [] rest = refl
openings_append x at course form c (Does k ∷ left) rest = refl
openings_append x at course form c (Shares v ∷ left) rest = between (openings_then x at course form c left) (Open (opening_of x at course form c (Shares v))) rest (openings_append x at course form c left)
openings_append x at course form c (Inherits b ∷ left) rest = between (openings_then x at course form c left) (Open (opening_of x at course form c (Inherits b))) rest (openings_append x at course form c left)
openings_append x at course form c (Holds way m d n ∷ left) rest = between (openings_then x at course form c left) (Open (opening_of x at course form c (Holds way m d n))) rest (openings_append x at course form c left)
