-- Where routines begin that stand one after the other.
use Rattle.std.proofs.Common.{◌≡◌, ℕ, zero, suc, ◌+◌, ◌<◌, ◌≤◌, ◌⊎◌, inl, inr, ⊎_elim, Bool, true, Option, Some, None, List, [], ◌∷◌, ◌++◌, length, append_assoc, refl, ap, subst, sym, ◌∙◌, arith, length-append}
use Rattle.std.specs.Prelude.{slice_get, if◌then◌else◌, nat_eq, ◌&&◌}
use Rattle.std.proofs.lemmas.Bool.{eqb-true, eq-eqb}
use Rattle.std.specs.List.{flat_map, sum_by}
use Rattle.std.proofs.lemmas.List.Sums.{sum_by-cons}
use Rattle.foundation.proofs.Members.{Has, EachOnce}
use Rattle.foundation.proofs.Places.{get_front}
use Rattle.abi_slots.proofs.Lists.{get_past}
use Rattle.foundation.proofs.Truth.{split, is_false}
use Rattle.cxx_hierarchy.specs.declared.records.ClassId.{ClassId}
use Rattle.cxx_subobject.proofs.PathLemmas.{same_id}
use Rattle.path_model.proofs.TypedViews.{both_left, both_right}
use Rattle.cxx_overrider.specs.declared.FunctionId.{FunctionId}
use Rattle.byte_code.specs.declared.code.Block.{Block}
use Rattle.abi_slots.specs.declared.code_numbers.BlockKind.{BlockKind}
use Rattle.abi_slots.specs.declared.code_numbers.BlockKind.TheVariants.{Plain, BuildComplete, BuildBase, EndComplete, EndBase, EndDeleting}
use Rattle.abi_slots.specs.declared.code_numbers.CodeRow.{CodeRow}
use Rattle.abi_slots.specs.CodeRows.{is_row, code_of, kind_number, AreDistinctRows}
use Rattle.code_ops.specs.Setups.{Setup, Routine}
use Rattle.code_ops.specs.Routines.{function_of_routine, routine_kind}
use Rattle.abi_lower.specs.invariants.Numbers.{blocks_in, routine_row, code_rows_from}
use Rattle.abi_lower.specs.invariants.Runs.{routine_blocks}

-- among these routines, the first of which begins at block n, r begins at m
abbrev pub BeginsAt : Setup → ℕ → List Routine → Routine → ℕ → Type 0
BeginsAt x n [] r m = ⊥
BeginsAt x n (q ∷ list) r m = ((q ≡ r) × (n ≡ m)) ⊎ BeginsAt x (n + blocks_in x q) list r m

pub begins : (x : Setup) (n : ℕ) (list : List Routine) (r : Routine) → Has list r → (m : ℕ) × BeginsAt x n list r m
begins x n [] r has = absurd has
begins x n (q ∷ list) r has = ⊎_elim (λ e. (n, inl (e, refl))) (λ more. let rest = begins x (n + blocks_in x q) list r more in (rest.0, inr rest.1)) has

-- no routine begins before the first
begins_behind : (x : Setup) (n m : ℕ) (list : List Routine) (r : Routine) → BeginsAt x n list r m → n ≤ m
begins_behind x n m [] r at = absurd at
begins_behind x n m (q ∷ list) r at = ⊎_elim (λ h. let e : n ≡ m = h.1 in omega arith) (λ more. let low = begins_behind x (n + blocks_in x q) m list r more in omega arith) at

-- and none ends behind the last
pub begins_high : (x : Setup) (n m : ℕ) (list : List Routine) (r : Routine) → BeginsAt x n list r m → m + blocks_in x r ≤ n + sum_by (blocks_in x) list
begins_high x n m [] r at = absurd at
begins_high x n m (q ∷ list) r at =
    let sum = sum_by-cons (blocks_in x) q list in
    ⊎_elim (λ h. let e : n ≡ m = h.1 in let same : blocks_in x q ≡ blocks_in x r = ap (blocks_in x) h.0 in omega arith) (λ more. let high = begins_high x (n + blocks_in x q) m list r more in omega arith) at

-- two that begin at one block are one, where each has a block
pub begins_once : (x : Setup) (n m : ℕ) (list : List Routine) (r q : Routine) → ((p : Routine) → Has list p → 0 < blocks_in x p) → BeginsAt x n list r m → BeginsAt x n list q m → r ≡ q
begins_once x n m [] r q some one two = absurd one
begins_once x n m (p ∷ list) r q some one two =
    let here : 0 < blocks_in x p = some p (inl refl) in
    ⊎_elim
    (λ a. ⊎_elim (λ b. sym a.0 ∙ b.0) (λ b. let e : n ≡ m = a.1 in let low = begins_behind x (n + blocks_in x p) m list q b in absurd (omega arith)) two)
    (λ a. ⊎_elim (λ b. let e : n ≡ m = b.1 in let low = begins_behind x (n + blocks_in x p) m list r a in absurd (omega arith)) (λ b. begins_once x (n + blocks_in x p) m list r q (λ o has. some o (inr has)) a b) two)
    one

-- its blocks stand from there on

pub begins_run : (x : Setup) (n m k : ℕ) (list : List Routine) (r : Routine) (b : Block) (before : List Block) → ((q : Routine) → length (routine_blocks x q) ≡ blocks_in x q) → n ≡ length before → BeginsAt x n list r m → slice_get (routine_blocks x r) k ≡ Some b → slice_get (before ++ flat_map (routine_blocks x) list) (m + k) ≡ Some b
begins_run x n m k [] r b before long e at there = absurd at
begins_run x n m k (q ∷ list) r b before long e at there = ⊎_elim
    (λ h. let here : slice_get (routine_blocks x q) k ≡ Some b = ap (λ (o : Routine). slice_get (routine_blocks x o) k) h.0 ∙ there in
    let place : m + k ≡ length before + k = ap (λ i. i + k) (sym h.1 ∙ e) in
    ap (λ i. slice_get (before ++ (routine_blocks x q ++ flat_map (routine_blocks x) list)) i) place ∙ get_past before (routine_blocks x q ++ flat_map (routine_blocks x) list) k b (get_front (routine_blocks x q) (flat_map (routine_blocks x) list) k b here))
    (λ more. let long_here : n + blocks_in x q ≡ length (before ++ routine_blocks x q) = (let l = long q in omega (arith, length-append before (routine_blocks x q))) in
    ap (λ (bs : List Block). slice_get bs (m + k)) (sym (append_assoc before (routine_blocks x q) (flat_map (routine_blocks x) list))) ∙ begins_run x (n + blocks_in x q) m k list r b (before ++ routine_blocks x q) long long_here more there)
    at

-- and its row has the number

-- a kind by its number
abbrev kind_from : ℕ → BlockKind
kind_from zero = Plain
kind_from (suc zero) = BuildComplete
kind_from (suc (suc zero)) = BuildBase
kind_from (suc (suc (suc zero))) = EndComplete
kind_from (suc (suc (suc (suc zero)))) = EndBase
kind_from (suc (suc (suc (suc (suc n))))) = EndDeleting

kind_read : (a : BlockKind) → kind_from (kind_number a) ≡ a
kind_read Plain = refl
kind_read BuildComplete = refl
kind_read BuildBase = refl
kind_read EndComplete = refl
kind_read EndBase = refl
kind_read EndDeleting = refl

kind_same : (a b : BlockKind) → kind_number a ≡ kind_number b → a ≡ b
kind_same a b e = sym (kind_read a) ∙ ap kind_from e ∙ kind_read b

row_itself : (f : FunctionId) (kind : BlockKind) (n : ℕ) → is_row f kind (record { function = f; kind = kind; code = n }) ≡ true
row_itself f kind n = rw (eq-eqb f.class.0 f.class.0 refl, eq-eqb f.index f.index refl, eq-eqb (kind_number kind) (kind_number kind) refl) refl

row_is : (f : FunctionId) (kind : BlockKind) (row : CodeRow) → is_row f kind row ≡ true → (f ≡ row.function) × (kind ≡ row.kind)
row_is f kind row e =
    let class_is = nat_eq f.class.0 row.function.class.0 in
    let index_is = nat_eq f.index row.function.index in
    let kind_is = nat_eq (kind_number kind) (kind_number row.kind) in
    let rest = both_right class_is (index_is && kind_is) e in
    let class = same_id f.class row.function.class (eqb-true f.class.0 row.function.class.0 (both_left class_is (index_is && kind_is) e)) in
    let index = eqb-true f.index row.function.index (both_left index_is kind_is rest) in
    let make : ClassId → ℕ → FunctionId = λ c i. record { class = c; index = i } in
    let function : make f.class f.index ≡ make row.function.class row.function.index = cc (class, index) in
    (function, kind_same kind row.kind (eqb-true (kind_number kind) (kind_number row.kind) (both_right index_is kind_is rest)))

code_here : (kind : BlockKind) (n : ℕ) (f : FunctionId) (rows : List CodeRow) → code_of (routine_row kind n (Some f) ++ rows) f kind ≡ Some n
code_here kind n f rows = ap (λ (b : Bool). if b then Some n else code_of rows f kind) (row_itself f kind n)

code_later : (kind : BlockKind) (n : ℕ) (o : Option FunctionId) (rows : List CodeRow) (f : FunctionId) (k : BlockKind) → (o ≡ Some f → kind ≡ k → ⊥) → code_of (routine_row kind n o ++ rows) f k ≡ code_of rows f k
code_later kind n None rows f k apart = refl
code_later kind n (Some g) rows f k apart =
    let row : CodeRow = record { function = g; kind = kind; code = n } in
    ap (λ (b : Bool). if b then Some n else code_of rows f k) (is_false (is_row f k row) (λ e. let r = row_is f k row e in apart (ap (λ (h : FunctionId). Some h) (sym r.0)) (sym r.1)))

code_cases : (kind : BlockKind) (n m : ℕ) (o : Option FunctionId) (rows : List CodeRow) (f : FunctionId) (k : BlockKind) → code_of (routine_row kind n o ++ rows) f k ≡ Some m → ((o ≡ Some f) × (kind ≡ k)) ⊎ (code_of rows f k ≡ Some m)
code_cases kind n m None rows f k e = inr e
code_cases kind n m (Some g) rows f k e =
    let row : CodeRow = record { function = g; kind = kind; code = n } in
    split (is_row f k row) (λ b. is_row f k row ≡ b → (if b then Some n else code_of rows f k) ≡ Some m → ((Some g ≡ Some f) × (kind ≡ k)) ⊎ (code_of rows f k ≡ Some m))
    (λ _ same _. let r = row_is f k row same in inl (ap (λ (h : FunctionId). Some h) (sym r.0), sym r.1)) (λ _ same g. inr g) refl e

-- no two of these routines are forms of one function
pub record AreApartForms (x : Setup) (list : List Routine) : Type 0 where
  pub once : EachOnce list
  pub one : (r q : Routine) (f : FunctionId) → Has list r → Has list q → function_of_routine x r ≡ Some f → function_of_routine x q ≡ Some f → routine_kind r ≡ routine_kind q → r ≡ q

forms_rest : (x : Setup) (r : Routine) (list : List Routine) → AreApartForms x (r ∷ list) → AreApartForms x list
forms_rest x r list are = record { once = are.once.1; one = λ p q f has_p has_q. are.one p q f (inr has_p) (inr has_q) }

-- a routine that begins among others is one of them
begins_has : (x : Setup) (n m : ℕ) (list : List Routine) (r : Routine) → BeginsAt x n list r m → Has list r
begins_has x n m [] r at = absurd at
begins_has x n m (q ∷ list) r at = ⊎_elim (λ h. inl h.0) (λ more. inr (begins_has x (n + blocks_in x q) m list r more)) at

pub begins_code : (x : Setup) (n m : ℕ) (list : List Routine) (r : Routine) (f : FunctionId) → AreApartForms x list → function_of_routine x r ≡ Some f → BeginsAt x n list r m → code_of (code_rows_from x n list) f (routine_kind r) ≡ Some m
begins_code x n m [] r f are is at = absurd at
begins_code x n m (q ∷ list) r f are is at = ⊎_elim
    (λ h. let function : function_of_routine x q ≡ Some f = ap (λ (o : Routine). function_of_routine x o) h.0 ∙ is in
    let kind : routine_kind q ≡ routine_kind r = ap routine_kind h.0 in
    ap (λ (o : Option FunctionId). code_of (routine_row (routine_kind q) n o ++ code_rows_from x (n + blocks_in x q) list) f (routine_kind r)) function
    ∙ ap (λ (k : BlockKind). code_of (routine_row (routine_kind q) n (Some f) ++ code_rows_from x (n + blocks_in x q) list) f k) (sym kind)
    ∙ code_here (routine_kind q) n f (code_rows_from x (n + blocks_in x q) list) ∙ ap (λ i. Some i) h.1)
    (λ more. let has : Has list r = begins_has x (n + blocks_in x q) m list r more in
    code_later (routine_kind q) n (function_of_routine x q) (code_rows_from x (n + blocks_in x q) list) f (routine_kind r) (λ e k. are.once.0 (subst (λ (o : Routine). Has list o) (sym (are.one q r f (inl refl) (inr has) e is k)) has))
    ∙ begins_code x (n + blocks_in x q) m list r f (forms_rest x q list are) is more)
    at

-- each row is that of a routine
pub code_known : (x : Setup) (n m : ℕ) (list : List Routine) (f : FunctionId) (kind : BlockKind) → code_of (code_rows_from x n list) f kind ≡ Some m → (r : Routine) × Has list r × (function_of_routine x r ≡ Some f) × (routine_kind r ≡ kind)
code_known x n m [] f kind e = cc
code_known x n m (q ∷ list) f kind e = ⊎_elim
    (λ h. (q, inl refl, h.0, h.1))
    (λ more. let r = code_known x (n + blocks_in x q) m list f kind more in (r.0, inr r.1, r.2, r.3))
    (code_cases (routine_kind q) n m (function_of_routine x q) (code_rows_from x (n + blocks_in x q) list) f kind e)

abbrev HasRow : Setup → List Routine → CodeRow → Type 0
HasRow x list a = (r : Routine) × Has list r × (function_of_routine x r ≡ Some a.function) × (routine_kind r ≡ a.kind)

-- what the first row is of
first_row : (kind : BlockKind) (n : ℕ) (f : FunctionId) (a : CodeRow) → slice_get (routine_row kind n (Some f)) 0 ≡ Some a → (Some f ≡ Some a.function) × (kind ≡ a.kind)
first_row kind n f a e =
    let made : CodeRow = record { function = f; kind = kind; code = n } in
    let same : made ≡ a = cc in
    (ap (λ (row : CodeRow). Some row.function) same, ap (λ (row : CodeRow). row.kind) same)

row_cases : (kind : BlockKind) (n i : ℕ) (o : Option FunctionId) (rows : List CodeRow) (a : CodeRow) → slice_get (routine_row kind n o ++ rows) i ≡ Some a → ((o ≡ Some a.function) × (kind ≡ a.kind)) ⊎ ((j : ℕ) × (slice_get rows j ≡ Some a))
row_cases kind n i None rows a e = inr (i, e)
row_cases kind n zero (Some f) rows a e = inl (first_row kind n f a e)
row_cases kind n (suc i) (Some f) rows a e = inr (i, e)

row_known : (x : Setup) (n i : ℕ) (list : List Routine) (a : CodeRow) → slice_get (code_rows_from x n list) i ≡ Some a → HasRow x list a
row_known x n i [] a e = cc
row_known x n i (q ∷ list) a e = ⊎_elim
    (λ h. (q, inl refl, h.0, h.1))
    (λ more. let r = row_known x (n + blocks_in x q) more.0 list a more.1 in (r.0, inr r.1, r.2, r.3))
    (row_cases (routine_kind q) n i (function_of_routine x q) (code_rows_from x (n + blocks_in x q) list) a e)

-- no two rows have one function and one kind
rows_front : (kind : BlockKind) (n : ℕ) (o : Option FunctionId) (rows : List CodeRow) → AreDistinctRows rows → ((j : ℕ) (b : CodeRow) → slice_get rows j ≡ Some b → o ≡ Some b.function → kind ≡ b.kind → ⊥) → AreDistinctRows (routine_row kind n o ++ rows)
rows_front kind n None rows are apart i j a b e g is = are i j a b e g is
rows_front kind n (Some f) rows are apart zero zero a b e g is = refl
rows_front kind n (Some f) rows are apart zero (suc j) a b e g is =
    let first = first_row kind n f a e in
    let r = row_is b.function b.kind a is in
    absurd (apart j b g (first.0 ∙ ap (λ (h : FunctionId). Some h) (sym r.0)) (first.1 ∙ sym r.1))
rows_front kind n (Some f) rows are apart (suc i) zero a b e g is =
    let first = first_row kind n f b g in
    let r = row_is b.function b.kind a is in
    absurd (apart i a e (first.0 ∙ ap (λ (h : FunctionId). Some h) r.0) (first.1 ∙ r.1))
rows_front kind n (Some f) rows are apart (suc i) (suc j) a b e g is = ap suc (are i j a b e g is)

pub rows_distinct : (x : Setup) (n : ℕ) (list : List Routine) → AreApartForms x list → AreDistinctRows (code_rows_from x n list)
rows_distinct x n [] are = λ i j a b e g is. cc
rows_distinct x n (q ∷ list) are = rows_front (routine_kind q) n (function_of_routine x q) (code_rows_from x (n + blocks_in x q) list) (rows_distinct x (n + blocks_in x q) list (forms_rest x q list are))
    (λ j b e function kind. let r = row_known x (n + blocks_in x q) j list b e in
    are.once.0 (subst (λ (o : Routine). Has list o) (sym (are.one q r.0 b.function (inl refl) (inr r.1) function r.2 (kind ∙ sym r.3))) r.1))
