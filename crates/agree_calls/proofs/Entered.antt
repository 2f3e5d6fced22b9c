-- The frame of a function that was called stands for its body at its first statement.
use Rattle.std.proofs.Common.{◌≡◌, ◌-◌, ◌⊎◌, ⊎_elim, inl, inr, ℕ, zero, suc, ◌+◌, ◌≤◌, ◌<◌, Option, Some, None, List, [], ◌∷◌, ◌++◌, length, map, replicate, refl, ap, sym, subst, ◌∙◌, arith, slice_get}
use Rattle.code_blocks.specs.Blocks.{AtStatement}
use Rattle.code_ops.specs.Setups.{FunctionCode}
use Rattle.agree_parts.specs.Addresses.{address}
use Rattle.agree_parts.specs.Heaps.{Heap}
use Rattle.agree_relation.specs.Frames.{BodyStandsOver, HasVariables, KeepsCall, PlaceNumbers, StandOver, body_below, call_kept, owner_result}
use Rattle.agree_relation.specs.Goings.{Going}
use Rattle.agree_relation.specs.Words.{register_word}
use Rattle.agree_relation.specs.Worlds.{World, world_classes, fixed, places_in}
use Rattle.byte_machine.proofs.Registers.{entered_argument, entered_this, entered_unset, length-entered}
use Rattle.byte_machine.specs.Calls.{frame_at}
use Rattle.byte_machine.specs.Frames.{MachineFrame, Kept, entry_registers, register_of, register_in}
use Rattle.cxx_hierarchy.proofs.Listed.{get_map}
use Rattle.cxx_overrider.specs.Functions.{return_of, pointee}
use Rattle.cxx_overrider.specs.declared.FunctionId.{FunctionId}
use Rattle.cxx_program.specs.declared.operand.Conversion.{Conversion}
use Rattle.cxx_program.specs.declared.program.Owner.{Owner}
use Rattle.cxx_program.specs.declared.program.Owner.TheVariants.{Function}
use Rattle.cxx_program.specs.declared.program.TypedBody.{TypedBody}
use Rattle.cxx_subobject.specs.Locations.{ObjectPart}
use Rattle.path_model.specs.Runs.{open_count, opened_by, opened_for}
use Rattle.path_model.specs.States.{Frame as PathFrame, InBody, RunningBody as Body, Target, owned_body, entered_body as path_entered, start_locals}
use Rattle.path_model.specs.Values.{Pointer, Unset, Value}
use Rattle.std.proofs.lemmas.List.{length-map}
use Rattle.std.proofs.lemmas.List.Sums.{sum_by-cons}
use Rattle.std.proofs.lemmas.Option.{slice_get_within}

-- start_locals are the values, and unset behind them
unset_only : (n i : ℕ) (v : Value) → slice_get (replicate n Unset) i ≡ Some v → v ≡ Unset
unset_only zero i v e = cc
unset_only (suc n) zero v e = cc
unset_only (suc n) (suc i) v e = unset_only n i v e

started : (values : List Value) (n i : ℕ) (v : Value) → slice_get (values ++ replicate n Unset) i ≡ Some v → (slice_get values i ≡ Some v) ⊎ ((length values ≤ i) × (v ≡ Unset))
started [] n i v e = inr (omega arith, unset_only n i v e)
started (x ∷ xs) n zero v e = inl e
started (x ∷ xs) n (suc i) v e = ⊎_elim (λ a. inl a) (λ a. let past = a.0 in inr (omega arith, a.1)) (started xs n i v e)

at_least : (values : List Value) (n : ℕ) → length values ≤ length (values ++ replicate n Unset)
at_least [] n = omega arith
at_least (x ∷ xs) n = let rest = at_least xs n in omega arith

at_next : (words : List (Option ℕ)) (n : ℕ) (v : Option ℕ) → register_of words (suc n) ≡ v → register_of words (n + 1) ≡ v
at_next words n v e = let same : suc n ≡ n + 1 = omega arith in subst (λ k. register_of words k ≡ v) same e

-- the registers of the frame have `this` and the locals
pub entered_variables : (w : World) (g : Heap) (body : TypedBody) (p : ObjectPart) (values : List Value) (words : List (Option ℕ)) (found : Conversion) (target : Option Target) → words ≡ map (register_word w g) values → length values < w.code.registers
    → HasVariables w g (path_entered body (Pointer p) values found target) (entry_registers w.code.registers (address (world_classes w) (places_in w) g p) words)
entered_variables w g body p values words found target are few = record {
  size = length-entered w.code.registers at words (omega (arith, count));
  this = entered_this w.code.registers at words;
  local = λ n v there. at_next (entry_registers w.code.registers at words) n (register_word w g v) (⊎_elim
      (λ (is : slice_get values n ≡ Some v). let inside = slice_get_within values n v is in entered_argument w.code.registers at words n (omega (arith, count, inside)) ∙ (ap (λ (ws : List (Option ℕ)). register_of ws n) are ∙ ap register_in (get_map (register_word w g) values n v is)))
      (λ (past : (length values ≤ n) × (v ≡ Unset)). let far = past.0 in entered_unset w.code.registers at words n (omega (arith, count, far)) ∙ ap (register_word w g) (sym past.1))
      (started values (length body.locals - length values) n v there));
  spare = let least = at_least values (length body.locals - length values) in at_next (entry_registers w.code.registers at words) (length (start_locals body values)) None (entered_unset w.code.registers at words (length (start_locals body values)) (omega (arith, count, least)));
}
  where
    at : ℕ
    at = address (world_classes w) (places_in w) g p

    count : length words ≡ length values
    count = ap length are ∙ simp length-map

module _ (w : World) (at : PlaceNumbers) (g : Heap) where
  -- the frame of a function on top of those that wait
  pub callee_stands : (n : FunctionId) (body : TypedBody) (p : ObjectPart) (values : List Value) (words : List (Option ℕ)) (found : Conversion) (target : Option Target) (kept : Kept) (below : List PathFrame) (gs : List Going) (stack : List MachineFrame) →
      body.owner ≡ Function n → words ≡ map (register_word w g) values → length values < w.code.registers → KeepsCall w (path_entered body (Pointer p) values found target) (body_below w below) kept → StandOver w at g None below gs stack
      → StandOver w at g None (InBody (path_entered body (Pointer p) values found target) ∷ below) gs (frame_at (fixed w) (at (AtStatement (FunctionCode n) 0)) (address (world_classes w) (places_in w) g p) words kept ∷ stack)
  callee_stands n body p values words found target kept below gs stack owner are few keeps stands =
      subst (λ (o : Owner). BodyStandsOver w at g callee o below (StandOver w at g None below) (StandOver w at g (Some callee) below) gs (frame ∷ stack)) (sym owner)
      (record { body = record { variables = entered_variables w g body p values words found target are few; block = refl }; again = refl; is_call = refl; keeps = keeps }, stands)
    where
      callee : Body
      callee = path_entered body (Pointer p) values found target

      frame : MachineFrame
      frame = frame_at (fixed w) (at (AtStatement (FunctionCode n) 0)) (address (world_classes w) (places_in w) g p) words kept

  -- a function is called from a body: what it keeps, by who waits
  pub callee_keeps : (n : FunctionId) (body caller_body : TypedBody) (p : ObjectPart) (values : List Value) (found : Conversion) (target : Option Target) (kept : Kept) (caller : Body) (below : List PathFrame) →
      body.owner ≡ Function n → owned_body w.setup.program caller.owner ≡ Some caller_body → kept ≡ call_kept w caller_body (pointee (return_of (world_classes w) n)) found target
      → KeepsCall w (path_entered body (Pointer p) values found target) (body_below w (InBody caller ∷ below)) kept
  callee_keeps n body caller_body p values found target kept caller below owner there is =
      subst (λ (o : Option TypedBody). KeepsCall w (path_entered body (Pointer p) values found target) o kept) (sym there) (is ∙ ap (λ (o : Owner). call_kept w caller_body (owner_result w o) found target) (sym owner))

  pub callee_counts : (body : TypedBody) (n : FunctionId) (p : ObjectPart) (values : List Value) (found : Conversion) (target : Option Target) (frames : List PathFrame) → body.owner ≡ Function n → open_count (InBody (path_entered body (Pointer p) values found target) ∷ frames) ≡ open_count frames + 1
  callee_counts body n p values found target frames owned =
      let one : opened_for body.owner ≡ 1 = ap opened_for owned in
      sum_by-cons opened_by (InBody (path_entered body (Pointer p) values found target)) frames ∙ omega (arith, one)
