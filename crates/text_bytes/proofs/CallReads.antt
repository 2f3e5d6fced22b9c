-- The block at which a function's code begins names the function.
use Rattle.std.proofs.Common.{◌≡◌, ◌∙◌, ℕ, zero, suc, Bool, true, false, Some, List, [], ◌∷◌, refl, ap, subst, sym, arith}
use Rattle.std.specs.Prelude.{◌&&◌}
use Rattle.std.specs.List.{slice_get}
use Rattle.std.proofs.lemmas.Bool.{eqb-true, eq-eqb, and_parts}
use Rattle.foundation.proofs.Truth.{split, not_both}
use Rattle.cxx_overrider.specs.declared.FunctionId.{FunctionId}
use Rattle.abi_slots.specs.declared.code_numbers.BlockKind.{BlockKind}
use Rattle.abi_slots.specs.declared.code_numbers.BlockKind.TheVariants.{Plain, BuildComplete, BuildBase, EndComplete, EndBase, EndDeleting}
use Rattle.abi_slots.specs.declared.code_numbers.CodeRow.{CodeRow}
use Rattle.abi_slots.specs.CodeRows.{AreDistinctRows, code_of, is_row, kind_number}
use Rattle.code_ops.specs.Routines.{IsRoutine, function_of_routine, routine_kind}
use Rattle.code_ops.specs.Setups.{FunctionCode}
use Rattle.code_blocks.specs.Blocks.{routine_start}
use Rattle.agree_relation.specs.Worlds.{World, IsProgramWorld}
use Rattle.text_bytes.specs.RawTexts.{code_begins_at, function_at_block}

joined : {a b : Bool} → a ≡ true → b ≡ true → (a && b) ≡ true
joined e f = rw (e, f) refl

plain_kind : (kind : BlockKind) → kind_number kind ≡ 0 → kind ≡ Plain
plain_kind Plain e = refl
plain_kind BuildComplete e = absurd (omega arith)
plain_kind BuildBase e = absurd (omega arith)
plain_kind EndComplete e = absurd (omega arith)
plain_kind EndBase e = absurd (omega arith)
plain_kind EndDeleting e = absurd (omega arith)

-- a row that is that of a function's plain code begins at the number of that
row_begins : (f : FunctionId) (block : ℕ) (row : CodeRow) → is_row f Plain row ≡ true → row.code ≡ block → code_begins_at block row ≡ true
row_begins f block row is code =
    let parts = and_parts _ _ (and_parts _ _ is).1 in
    let kind : kind_number Plain ≡ kind_number row.kind = eqb-true (kind_number Plain) (kind_number row.kind) parts.1 in
    joined (eq-eqb row.code block code) (eq-eqb (kind_number row.kind) (kind_number Plain) (sym kind))

-- where every row that begins there is one of f, the first one is
found_first : (f : FunctionId) (block : ℕ) (rows : List CodeRow) → ((i : ℕ) (row : CodeRow) → slice_get rows i ≡ Some row → code_begins_at block row ≡ true → row.function ≡ f) → code_of rows f Plain ≡ Some block → function_at_block rows block ≡ Some f
found_first f block [] each code = absurd (cc)
found_first f block (row ∷ rows) each code =
    split (code_begins_at block row) (λ b. code_begins_at block row ≡ b → function_at_block (row ∷ rows) block ≡ Some f)
    (λ yes same. rw yes (ap Some (each 0 row refl yes)))
    (λ other same. rw other (found_first f block rows (λ i r there begins. each (suc i) r there begins) (later other (is_row f Plain row) refl)))
    refl
  where
    later : code_begins_at block row ≡ false → (b : Bool) → is_row f Plain row ≡ b → code_of rows f Plain ≡ Some block
    later other true is =
        let here : Some row.code ≡ Some block = rw is at code in
        absurd (not_both (row_begins f block row is (let e : row.code ≡ block = cc in e)) other)
    later other false is = rw is at code

same_row : (row : CodeRow) → is_row row.function row.kind row ≡ true
same_row row = joined (eq-eqb row.function.class.0 row.function.class.0 refl) (joined (eq-eqb row.function.index row.function.index refl) (eq-eqb (kind_number row.kind) (kind_number row.kind) refl))

-- distinct rows give their own number
row_code : (rows : List CodeRow) → AreDistinctRows rows → (i : ℕ) (row : CodeRow) → slice_get rows i ≡ Some row → code_of rows row.function row.kind ≡ Some row.code
row_code [] apart i row there = absurd (cc)
row_code (first ∷ rows) apart zero row there = let e : first ≡ row = cc in subst (λ (r : CodeRow). code_of (first ∷ rows) r.function r.kind ≡ Some r.code) e (rw (same_row first) refl)
row_code (first ∷ rows) apart (suc i) row there =
    split (is_row row.function row.kind first) (λ b. is_row row.function row.kind first ≡ b → code_of (first ∷ rows) row.function row.kind ≡ Some row.code)
    (λ yes same. absurd (let e : 0 ≡ suc i = apart 0 (suc i) first row refl there yes in omega arith))
    (λ other same. rw other (row_code rows (λ j k a b here also is. let e : suc j ≡ suc k = apart (suc j) (suc k) a b here also is in omega arith) i row there))
    refl

-- the function of a call
pub call_found : (w : World) → (world : IsProgramWorld w) → (f : FunctionId) → IsRoutine w.setup (FunctionCode f) → function_at_block w.numbers (world.lowered.at (routine_start w.setup (FunctionCode f))) ≡ Some f
call_found w world f routine = found_first f block w.numbers each (world.lowered.numbered (FunctionCode f) f routine refl)
  where
    block : ℕ
    block = world.lowered.at (routine_start w.setup (FunctionCode f))

    each : (i : ℕ) (row : CodeRow) → slice_get w.numbers i ≡ Some row → code_begins_at block row ≡ true → row.function ≡ f
    each i row there begins =
        let parts = and_parts _ _ begins in
        let code : row.code ≡ block = eqb-true row.code block parts.0 in
        let kind : row.kind ≡ Plain = plain_kind row.kind (eqb-true (kind_number row.kind) (kind_number Plain) parts.1) in
        let number : code_of w.numbers row.function row.kind ≡ Some row.code = row_code w.numbers world.lowered.rows i row there in
        let r = world.lowered.known row.function row.kind row.code number in
        let at : code_of w.numbers row.function (routine_kind r.0) ≡ Some (world.lowered.at (routine_start w.setup r.0)) = world.lowered.numbered r.0 row.function r.1 r.2 in
        let again : Some (world.lowered.at (routine_start w.setup r.0)) ≡ Some row.code = sym at ∙ (ap (code_of w.numbers row.function) r.3 ∙ number) in
        let begin : world.lowered.at (routine_start w.setup r.0) ≡ block = let e : world.lowered.at (routine_start w.setup r.0) ≡ row.code = cc in e ∙ code in
        let one : r.0 ≡ FunctionCode f = world.lowered.apart r.0 (FunctionCode f) r.1 routine begin in
        let function : Some row.function ≡ Some f = sym r.2 ∙ ap (function_of_routine w.setup) one in cc
