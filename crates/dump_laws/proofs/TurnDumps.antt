-- What a turn tells as a dump is what the step tells, and stands in memory.
use Rattle.std.proofs.Common.{◌≡◌, ◌∙◌, ℕ, suc, ◌+◌, Bool, true, false, List, [], ◌∷◌, ⊎_elim, inl, inr, refl, ap, subst, sym, arith}
use Rattle.std.specs.Prelude.{nat_eq, Contains}
use Rattle.foundation.proofs.Members.{Has, contains_from_has, has_from_contains}
use Rattle.cxx_hierarchy.specs.declared.records.ClassId.{ClassId}
use Rattle.path_model.specs.declared.outs.DumpLeaf.{DumpLeaf}
use Rattle.path_model.specs.declared.outs.Out.{Out}
use Rattle.path_model.specs.declared.outs.Out.TheVariants.{Number as NumberOut, Pointer as PointerOut, TypeName as TypeNameOut, Dump as DumpOut, Call as CallOut, Built as BuiltOut, Ending as EndingOut}
use Rattle.path_model.specs.States.{ProgramState}
use Rattle.path_model.specs.Runs.{Move, Moves, IsRefused, IsLimited, IsOver, IsWrong, outs_in, state_behind}
use Rattle.path_model.specs.TypedStates.{IsTypedState}
use Rattle.byte_code.specs.declared.code.Code.{Code}
use Rattle.byte_machine.specs.declared.turn.MachineTurn.{MachineTurn}
use Rattle.byte_machine.specs.declared.turn.MachineTurn.TheVariants.{Went}
use Rattle.byte_machine.specs.declared.turn.RawOut.{RawOut}
use Rattle.byte_machine.specs.declared.turn.RawOut.TheVariants.{Number, Address, Class, Dump, Call, Built, Ending}
use Rattle.byte_machine.specs.Running.{Fixed}
use Rattle.byte_machine.specs.Turn.{ByteState}
use Rattle.code_ops.specs.Setups.{Setup}
use Rattle.abi_slots.specs.declared.code_numbers.CodeRow.{CodeRow}
use Rattle.agree_parts.specs.Heaps.{Heap}
use Rattle.agree_parts.specs.Placed.{LieIn}
use Rattle.agree_relation.specs.Worlds.{World, IsProgramWorld, world_classes, places_in}
use Rattle.agree_relation.specs.Words.{heap_of}
use Rattle.agree_relation.specs.Frames.{PlaceNumbers}
use Rattle.agree_relation.specs.Stands.{StandsForState}
use Rattle.agree_relation.specs.Agrees.{IsDumpedAt, ReadAs, ReadsAs}
use Rattle.agree_relation.proofs.Listed.{listed_in, object_found}
use Rattle.agree_runs.proofs.Accepted.{world_accepted}
use Rattle.agree_runs.proofs.Dumps.{dumps_are_of_the_state}
use Rattle.agree_runs.proofs.Tops.{state_typed}
use Rattle.abi_refine.specs.Agreed.{AgreedNext, AgreesBy, AgreesTurn, WentTo, move_after}
use Rattle.abi_refine.specs.Standing.{state_after}
use Rattle.dump_laws.specs.DumpsHeld.{AgreeOnDumps, HoldsDump}
use Rattle.dump_laws.proofs.LeavesHeld.{leaves_told}

-- what reads as a dump alone is one
record IsOneDump (w : World) (g : Heap) (told : List RawOut) (number : ℕ) (c : ClassId) : Type 0 where
  pub at : ℕ
  pub alone : told ≡ Dump at ∷ []
  pub dumped : IsDumpedAt w g number c at

read_alone : (w : World) (at : PlaceNumbers) (g : Heap) (told : List RawOut) (number : ℕ) (c : ClassId) (leaves : List DumpLeaf) → ReadAs w at g told (DumpOut number c leaves ∷ []) → IsOneDump w g told number c
read_alone w at g [] number c leaves reads = absurd reads
read_alone w at g (Dump a ∷ []) number c leaves reads = record { at = a; alone = refl; dumped = reads.0 }
read_alone w at g (Dump a ∷ raw ∷ more) number c leaves reads = absurd reads.1
read_alone w at g (Number z ∷ more) number c leaves reads = absurd reads.0
read_alone w at g (Address a ∷ more) number c leaves reads = absurd reads.0
read_alone w at g (Class d ∷ more) number c leaves reads = absurd reads.0
read_alone w at g (Call block this ∷ more) number c leaves reads = absurd reads.0
read_alone w at g (Built d this ∷ more) number c leaves reads = absurd reads.0
read_alone w at g (Ending d this ∷ more) number c leaves reads = absurd reads.0

-- a dump that the machine tells reads as one
abbrev HasDump : List Out → Type 0
HasDump outs = (number : ℕ) × (c : ClassId) × (leaves : List DumpLeaf) × Has outs (DumpOut number c leaves)

dump_is : (w : World) (at : PlaceNumbers) (g : Heap) (a : ℕ) (out : Out) → ReadsAs w at g (Dump a) out → (number : ℕ) × (c : ClassId) × (leaves : List DumpLeaf) × (out ≡ DumpOut number c leaves)
dump_is w at g a (DumpOut number c leaves) reads = (number, c, leaves, refl)
dump_is w at g a (NumberOut z) reads = absurd reads
dump_is w at g a (PointerOut location) reads = absurd reads
dump_is w at g a (TypeNameOut c) reads = absurd reads
dump_is w at g a (CallOut f location) reads = absurd reads
dump_is w at g a (BuiltOut c location) reads = absurd reads
dump_is w at g a (EndingOut c location) reads = absurd reads

dump_read_as : (w : World) (at : PlaceNumbers) (g : Heap) (a : ℕ) (told : List RawOut) (outs : List Out) → ReadAs w at g told outs → Has told (Dump a) → HasDump outs
dump_read_as w at g a [] outs reads has = absurd has
dump_read_as w at g a (raw ∷ told) [] reads has = absurd reads
dump_read_as w at g a (raw ∷ told) (out ∷ outs) reads has =
    ⊎_elim (λ same. let d = dump_is w at g a out (subst (λ (r : RawOut). ReadsAs w at g r out) same reads.0) in (d.0, d.1, d.2, inl d.3)) (λ more. let d = dump_read_as w at g a told outs reads.1 more in (d.0, d.1, d.2, inr d.3)) has

-- over a world: a machine that stands for the state behind a step, and what it told in the turn reads as what the step told
module _ (w : World) (world : IsProgramWorld w) (n : ℕ) (new : ProgramState) (outs : List Out) (moves : move_after w.setup n ≡ Moves new outs) (b : ByteState) (told : List RawOut) (stands : StandsForState w world.lowered.at new b)
    (reads : ReadAs w world.lowered.at (heap_of new.objects.classes b.memory.regions) told outs) where
  typed : IsTypedState (world_classes w) w.setup.program new
  typed =
      let here : state_after w.setup (suc n) ≡ new = ap (λ (m : Move). state_behind m (state_after w.setup n)) moves in
      subst (λ (s : ProgramState). IsTypedState (world_classes w) w.setup.program s) here (state_typed (world_classes w) (places_in w).size w.setup.program (suc n) (world_accepted w world))

  dump_holds : (number : ℕ) (c : ClassId) (leaves : List DumpLeaf) → Contains outs (DumpOut number c leaves) → HoldsDump (world_classes w) (places_in w) b told number c leaves
  dump_holds number c leaves has =
      let g = heap_of new.objects.classes b.memory.regions in
      let is = dumps_are_of_the_state (world_classes w) (places_in w).size w.setup.program (state_after w.setup n) new outs number c leaves moves has in
      let one = read_alone w world.lowered.at g told number c leaves (subst (ReadAs w world.lowered.at g told) is.alone reads) in
      let here : number ≡ is.object + 1 = is.number_is in
      let there : number ≡ one.dumped.object + 1 = one.dumped.number_is in
      let same : one.dumped.object ≡ is.object = omega arith in
      let inside : LieIn (places_in w) g is.object one.at 1 = subst (λ k. LieIn (places_in w) g k one.at 1) same one.dumped.inside in
      record {
        at = one.at;
        alone = one.alone;
        object = listed_in w g is.object c;
        found = object_found w new.objects b.memory.regions b.objects b.heap is.object one.at c stands.stands.columns.objects inside is.class;
        number_is = sym is.number_is;
        class = refl;
        leaf = λ leaf in_dump.
            let held = leaves_told w new.objects b stands.stands.columns typed.leaves is.object c is.class is.open_there leaf (subst (λ (xs : List DumpLeaf). Contains xs leaf) is.leaves_are in_dump) in
            (held.0 ∙ sym is.number_is, held.1, held.2);
      }

  world_dumps : AgreeOnDumps w.setup b told outs
  world_dumps = record {
    holds = dump_holds;
    no_more = λ at has.
        let d = dump_read_as w world.lowered.at (heap_of new.objects.classes b.memory.regions) at told outs reads (has_from_contains told (Dump at) has) in
        (d.0, d.1, d.2, contains_from_has outs (DumpOut d.0 d.1 d.2) d.3);
  }

module _ (x : Setup) (code : Code) (numbers : List CodeRow) (f : Fixed) (b b' : ByteState) (told : List RawOut) (turn : MachineTurn) (went : turn ≡ Went) where
  -- the same over any program, code and machine that are those of a world
  went_dumps : (new : ProgramState) (outs : List Out) → move_after x b.taken ≡ Moves new outs → WentTo x code numbers f new outs b' told → AgreeOnDumps x b' told outs
  went_dumps new outs moves to =
      let st = to.stands in
      let here : move_after st.world.setup b.taken ≡ Moves new outs = subst (λ y. move_after y b.taken ≡ Moves new outs) (sym st.is.setup) moves in
      subst (λ (y : Setup). AgreeOnDumps y b' told outs) st.is.setup (world_dumps st.world st.is.world b.taken new outs here b' told st.stands to.reads)

  by_move : (m : Move) → move_after x b.taken ≡ m → AgreesTurn x code numbers f m b' told turn → AgreeOnDumps x b' told (outs_in m)
  by_move (Moves new outs) is agrees = went_dumps new outs is agrees.0
  by_move (IsRefused rule line) is agrees = cc
  by_move (IsLimited limit) is agrees = cc
  by_move IsOver is agrees = cc
  by_move IsWrong is agrees = absurd agrees

  by_spent : (spent : Bool) → AgreesBy spent x code numbers f (move_after x b.taken) b b' told turn → AgreeOnDumps x b' told (outs_in (move_after x b.taken))
  by_spent true agrees = let none_left = agrees.0 in cc
  by_spent false agrees = by_move (move_after x b.taken) refl agrees.0

pub dumps_agree : (x : Setup) (code : Code) (numbers : List CodeRow) (f : Fixed) (b b' : ByteState) (told : List RawOut) (turn : MachineTurn) → AgreedNext x code numbers f b b' told turn → turn ≡ Went → AgreeOnDumps x b' told (outs_in (move_after x b.taken))
dumps_agree x code numbers f b b' told turn agreed went = by_spent x code numbers f b b' told turn went (nat_eq b.left 0) agreed
