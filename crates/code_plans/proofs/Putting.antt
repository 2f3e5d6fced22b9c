-- The ops of events, put behind others piece by piece.
use Rattle.std.proofs.Common.{◌≡◌, ℕ, zero, suc, ◌+◌, Some, None, List, [], ◌∷◌, ◌++◌, map, length, take, drop, get_or, append_assoc, ap, sym, ◌∙◌, ◌<◌, ◌≤◌, arith}
use Rattle.std.specs.Prelude.{filter}
use Rattle.std.proofs.lemmas.List.{append-nil, map-append, take_all, take_more}
use Rattle.std.proofs.lemmas.List.Elements.{filter-append}
use Rattle.cxx_hierarchy.specs.declared.records.ClassId.{ClassId}
use Rattle.cxx_subobject.specs.declared.Subobject.{Subobject}
use Rattle.cxx_subobject.specs.Preorder.{preorder}
use Rattle.cxx_program.specs.declared.program.TypedInit.{TypedInit}
use Rattle.path_plan.specs.declared.form.Form.{Form}
use Rattle.byte_code.specs.declared.op.Op.{Op}
use Rattle.byte_code.specs.declared.op.Op.TheVariants.{SetTable, SetPhase, SetView, Trace}
use Rattle.byte_code.specs.declared.op.Phase.TheVariants.{ReadyBuilding, ReadyEnding}
use Rattle.byte_code.specs.declared.op.Setting.{Setting}
use Rattle.byte_code.specs.declared.op.TraceKind.TheVariants.{Ending}
use Rattle.code_ops.specs.Setups.{Setup, PlanCode, places, body_of_routine, locals_in, free_register}
use Rattle.code_ops.specs.Operands.{operand_ops, converted_ops, ops_of}
use Rattle.code_ops.specs.declared.routines.Course.{Course}
use Rattle.code_ops.specs.declared.widths.LeafWidth.{LeafWidth}
use Rattle.code_ops.specs.Leaves.{leaf_width, store_op}
use Rattle.code_blocks.specs.declared.items.Kind.{Kind}
use Rattle.code_blocks.specs.declared.items.Kind.TheVariants.{AtReady, AtEnding}
use Rattle.code_blocks.specs.Items.{Item}
use Rattle.code_blocks.specs.Blocks.{Place, is_set_apart, setting_by, pointers_then, init_then, event_then, event_block, whose_of, plan_tail}
use Rattle.code_plans.specs.Settings.{settings_of}
use Rattle.code_plans.proofs.Appends.{settings_listed, pointers_append, event_append}

-- a list around one of its items
pub around : {A : Type 0} (xs : List A) (i : ℕ) (x : A) → i < length xs → x ≡ get_or xs i x → xs ≡ take i xs ++ x ∷ drop (i + 1) xs
around [] i x lt is = absurd (omega arith)
around (y ∷ xs) zero x lt is = ap (λ z. z ∷ xs) (sym is)
around (y ∷ xs) (suc i) x lt is = let next : suc i + 1 ≡ suc (i + 1) = omega arith in rw next (ap (λ zs. y ∷ zs) (around xs i x (omega arith) is))

-- the first items of a list, and one more
pub next_taken : {A : Type 0} (xs : List A) (i : ℕ) (x : A) → i < length xs → x ≡ get_or xs i x → take i xs ++ x ∷ [] ≡ take (i + 1) xs
next_taken xs i x lt is = ap (λ y. take i xs ++ y ∷ []) is ∙ sym (take_more xs i x lt)

-- and all of them
pub all_taken : {A : Type 0} (xs whole : List A) (i : ℕ) → length xs ≤ i → xs ≡ whole → take i xs ≡ whole
all_taken xs whole i past is = take_all i xs past ∙ is

-- settings of one subobject more
settings_more : (x : Setup) (form : Form) (c : ClassId) (xs : List Subobject) (s : Subobject) → settings_of x form c (xs ++ s ∷ []) ≡ settings_of x form c xs ++ settings_of x form c (s ∷ [])
settings_more x form c xs s =
    let f = λ (i : Subobject). setting_by x form c i i.root in
    ap (map f) (filter-append (is_set_apart x) xs (s ∷ [])) ∙ map-append f (filter (is_set_apart x) xs) (filter (is_set_apart x) (s ∷ []))

pub settings_next : (x : Setup) (form : Form) (c : ClassId) (xs next : List Subobject) (s : Subobject) (old new : List Setting) → xs ++ s ∷ [] ≡ next → old ≡ settings_of x form c xs → new ≡ old ++ settings_of x form c (s ∷ []) → new ≡ settings_of x form c next
settings_next x form c xs next s old new is are put = put ∙ ap (λ (l : List Setting). l ++ settings_of x form c (s ∷ [])) are ∙ sym (settings_more x form c xs s) ∙ ap (settings_of x form c) is

pub settings_all : (x : Setup) (form : Form) (c : ClassId) (taken whole : List Subobject) (made : List Setting) → made ≡ settings_of x form c taken → taken ≡ whole → made ≡ settings_of x form c whole
settings_all x form c taken whole made are is = are ∙ ap (settings_of x form c) is

pub pointers_put : (x : Setup) (form other : Form) (c : ClassId) (settings : List Setting) (old new : List Op) → other ≡ form → settings ≡ settings_of x form c (preorder x.h c) → new ≡ old ++ map SetTable settings → new ≡ old ++ pointers_then x other c []
pointers_put x form other c settings old new same are put =
    put
    ∙ ap (λ (list : List Setting). old ++ map SetTable list) are
    ∙ ap (λ (l : List Op). old ++ l) (sym (settings_listed x form c (preorder x.h c) [] ∙ append-nil (map SetTable (settings_of x form c (preorder x.h c)))))
    ∙ ap (λ f. old ++ pointers_then x f c []) (sym same)

-- the pointers of a part, and ops behind them
with_pointers : (x : Setup) (form : Form) (c : ClassId) (more old mid new : List Op) → mid ≡ old ++ pointers_then x form c [] → new ≡ mid ++ more → new ≡ old ++ pointers_then x form c more
with_pointers x form c more old mid new first put = put ∙ ap (λ (l : List Op). l ++ more) first ∙ append_assoc old (pointers_then x form c []) more ∙ ap (λ (l : List Op). old ++ l) (sym (pointers_append x form c more))

pub ready_put : (x : Setup) (course : Course) (form : Form) (c : ClassId) (kind : Kind) (old mid new : List Op) → kind ≡ AtReady → mid ≡ old ++ pointers_then x form c [] → new ≡ mid ++ SetPhase c.0 ReadyBuilding ∷ [] → new ≡ old ++ event_then x course form c kind []
ready_put x course form c kind old mid new is first put = with_pointers x form c (SetPhase c.0 ReadyBuilding ∷ []) old mid new first put ∙ ap (λ k. old ++ event_then x course form c k []) (sym is)

pub ending_put : (x : Setup) (course : Course) (form : Form) (c : ClassId) (kind : Kind) (old mid new : List Op) → kind ≡ AtEnding → mid ≡ old ++ pointers_then x form c [] → new ≡ mid ++ SetPhase c.0 ReadyEnding ∷ SetView c.0 (whose_of form) ∷ Trace (Ending c.0) ∷ [] → new ≡ old ++ event_then x course form c kind []
ending_put x course form c kind old mid new is first put = with_pointers x form c (SetPhase c.0 ReadyEnding ∷ SetView c.0 (whose_of form) ∷ Trace (Ending c.0) ∷ []) old mid new first put ∙ ap (λ k. old ++ event_then x course form c k []) (sym is)

-- an event's ops, and the end of its block
pub block_put : (x : Setup) (at : Place → ℕ) (course : Course) (form : Form) (c : ClassId) (k : Kind) (left : List Item) (old mid new : List Op) → mid ≡ old ++ event_then x course form c k [] → new ≡ mid ++ plan_tail x at course form c left → new ≡ old ++ event_block x at course form c k left
block_put x at course form c k left old mid new first put =
    let tail = plan_tail x at course form c left in
    put ∙ ap (λ (l : List Op). l ++ tail) first ∙ append_assoc old (event_then x course form c k []) tail ∙ ap (λ (l : List Op). old ++ l) (sym (event_append x course form c k tail))

-- a constant is read, converted and stored
pub constant_put : (x : Setup) (course : Course) (form : Form) (c : ClassId) (m : ℕ) (init : TypedInit) (value place : ℕ) (leaf : LeafWidth) (op : Op) (old a b new : List Op) → value ≡ free_register (body_of_routine x (PlanCode course form c)) 0 → a ≡ old ++ operand_ops value init.operand
    → b ≡ a ++ ops_of (converted_ops x None init.conversion (value + 1) value) → place ≡ (places x).member c m → leaf ≡ leaf_width x c m → op ≡ store_op leaf (value + 1) 0 place → new ≡ b ++ op ∷ [] → new ≡ old ++ init_then x course form c m (Some init) []
constant_put x course form c m init value place leaf op old a b new register read convert at stands is store =
    let first = free_register (body_of_routine x (PlanCode course form c)) 0 in
    let second = free_register (body_of_routine x (PlanCode course form c)) 1 in
    let count = locals_in (body_of_routine x (PlanCode course form c)) in
    let next : value + 1 ≡ second = omega arith in
    let front = operand_ops value init.operand in
    let middle = ops_of (converted_ops x None init.conversion (value + 1) value) in
    let give = λ (r s p : ℕ) (l : LeafWidth). old ++ (operand_ops r init.operand ++ (ops_of (converted_ops x None init.conversion s r) ++ store_op l s 0 p ∷ [])) in
    store
    ∙ ap (λ (l : List Op). l ++ op ∷ []) (convert ∙ ap (λ (l : List Op). l ++ middle) read ∙ append_assoc old front middle)
    ∙ append_assoc old (front ++ middle) (op ∷ [])
    ∙ ap (λ (l : List Op). old ++ l) (append_assoc front middle (op ∷ []))
    ∙ ap (λ (o : Op). old ++ (front ++ (middle ++ o ∷ []))) is
    ∙ ap (λ (n : ℕ). give value n place leaf) next
    ∙ ap (λ (n : ℕ). give n second place leaf) register
    ∙ ap (λ (n : ℕ). give first second n leaf) at
    ∙ ap (λ (l : LeafWidth). give first second ((places x).member c m) l) stands
