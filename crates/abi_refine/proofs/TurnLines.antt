-- The lines of a turn are those of the step.
use Rattle.std.proofs.Common.{◌≡◌, ℕ, suc, ◌+◌, Bool, true, false, List, ◌∷◌, ◌∙◌, sym, ap, subst, arith}
use Rattle.std.specs.Prelude.{not}
use Rattle.foundation.proofs.Chosen.{has_filter}
use Rattle.foundation.proofs.Members.{Has, contains_from_has, has_from_contains}
use Rattle.path_model.specs.declared.outs.Out.{Out}
use Rattle.path_model.specs.declared.outs.Out.TheVariants.{Number, Pointer, TypeName, Dump, Call, Built, Ending}
use Rattle.path_model.specs.States.{ProgramState as PathState, InBody}
use Rattle.path_model.specs.Runs.{Move, Moves, outs_in, state_behind}
use Rattle.path_model.specs.Typed.{AllSettled}
use Rattle.path_model.specs.TypedStates.{IsTypedState}
use Rattle.byte_code.specs.declared.code.Code.{Code}
use Rattle.byte_code.specs.declared.code.ImageBytes.{ImageBytes}
use Rattle.byte_machine.specs.declared.turn.RawOut.{RawOut}
use Rattle.byte_machine.specs.Running.{Fixed}
use Rattle.byte_machine.specs.Turn.{ByteState as Bytes}
use Rattle.code_ops.specs.Setups.{Setup, places}
use Rattle.path_model.specs.Outs.{is_traced}
use Rattle.text_told.specs.OutTexts.{IsTold, outs_to_show as shown_outs, text_of}
use Rattle.abi_slots.specs.declared.code_numbers.CodeRow.{CodeRow}
use Rattle.agree_relation.specs.Worlds.{World, IsProgramWorld, world_classes, places_in}
use Rattle.agree_relation.specs.Agrees.{ReadAs}
use Rattle.agree_relation.specs.Stands.{StandsForState}
use Rattle.agree_relation.specs.Words.{heap_of}
use Rattle.text_bytes.specs.RawTexts.{HasText}
use Rattle.text_bytes.specs.Reads.{AreShownOf, HasTypedLeaves, IsToldBy}
use Rattle.text_bytes.proofs.RawReads.{shown_read, texts_there}
use Rattle.agree_runs.proofs.Accepted.{world_accepted}
use Rattle.agree_runs.proofs.Dumps.{dumps_are_of_the_state}
use Rattle.agree_runs.proofs.Tops.{all_settled, state_typed}
use Rattle.text_told.proofs.Telling.{HasBody, steps_told}
use Rattle.abi_refine.specs.Agreed.{move_after, WentTo}
use Rattle.abi_refine.specs.Executions.{text_of_turn}
use Rattle.abi_refine.specs.Standing.{StandsInSomeWorld, state_after}
use Rattle.abi_refine.proofs.DumpTops.{dumps_are_in_bodies}

-- what is shown is told
shown_told : (trace : Bool) (outs : List Out) (out : Out) → Has (shown_outs trace outs) out → Has outs out
shown_told true outs out has = has
shown_told false outs out has = (has_filter (λ x. not (is_traced x)) outs out has).0

-- over a world: a machine that stands for the state behind a step, and what it told in the turn reads as what the step told
module _ (w : World) (world : IsProgramWorld w) (n : ℕ) (new : PathState) (outs : List Out) (moves : move_after w.setup n ≡ Moves new outs) (b : Bytes) (told : List RawOut) (stands : StandsForState w world.lowered.at new b)
    (reads : ReadAs w world.lowered.at (heap_of new.objects.classes b.memory.regions) told outs) where
  leaves : HasTypedLeaves w new.objects
  leaves =
      let e : suc n ≡ n + 1 = omega arith in
      let here : state_after w.setup (suc n) ≡ new = ap (λ (m : Move). state_behind m (state_after w.setup n)) moves in
      let typed : IsTypedState (world_classes w) w.setup.program new = subst (λ (s : PathState). IsTypedState (world_classes w) w.setup.program s) here (state_typed (world_classes w) (places_in w).size w.setup.program (suc n) (world_accepted w world)) in
      record { leaf = λ a t made. typed.leaves a t made; held = λ a t made. typed.held a t made }

  -- what is told names parts and bodies that are there
  all_told : (out : Out) → Has outs out → IsTold (world_classes w) out × HasBody w.setup.program out
  all_told out has =
      let all = steps_told (world_classes w) world.hierarchy world.faultless w.setup.program world.typed (places_in w).size world.main n in
      all out (subst (λ (os : List Out). Has os out) (sym (ap outs_in moves)) has)

  -- a thing that is told is of the state
  of_state : (out : Out) → Has outs out → IsToldBy w new.objects out
  of_state (Number z) has = tt
  of_state (Pointer at) has = tt
  of_state (TypeName c) has = tt
  of_state (Dump number c leaves) has =
      let is = dumps_are_of_the_state (world_classes w) (places_in w).size w.setup.program (state_after w.setup n) new outs number c leaves moves (contains_from_has outs (Dump number c leaves) has) in
      let e : suc n ≡ n + 1 = omega arith in
      let here : state_after w.setup (suc n) ≡ new = ap (λ (m : Move). state_behind m (state_after w.setup n)) moves in
      let top = dumps_are_in_bodies (world_classes w) (places_in w).size w.setup.program (state_after w.setup n) new outs number c leaves moves has in
      let on_top : (state_after w.setup (suc n)).frames ≡ InBody top.body ∷ top.below = ap (λ (s : PathState). s.frames) here ∙ top.is in
      let settled = subst (λ (s : PathState). AllSettled (world_classes w) s.objects) here (all_settled (world_classes w) (places_in w).size w.setup.program (suc n) (world_accepted w world) top.body top.below on_top) in
      record { object = is.object; number_is = is.number_is; class = is.class; is_open = is.open_there; complete = is.complete; settled = settled is.object c is.class; leaves_are = is.leaves_are }
  of_state (Call g at) has = (all_told (Call g at) has).1
  of_state (Built c at) has = tt
  of_state (Ending c at) has = tt

  shown_of : (trace : Bool) → AreShownOf trace w new.objects outs
  shown_of trace out there =
      let has = shown_told trace outs out (has_from_contains (shown_outs trace outs) out there) in
      record { told = (all_told out has).0; of = of_state out has }

  pub world_lines : (trace : Bool) → text_of_turn w.setup w.numbers w.image trace b told ≡ text_of (world_classes w) (places_in w) (shown_outs trace outs)
  world_lines trace = shown_read w world new.objects b.memory b.objects b.heap b.notes stands.stands.columns leaves trace told outs reads (shown_of trace)

  pub world_texts : (raw : RawOut) → Has told raw → HasText (world_classes w) b.objects raw
  world_texts raw has = texts_there w world new.objects b.memory b.objects b.heap b.notes stands.stands.columns told outs reads raw has

-- the same over any program, code and machine that are those of a world
module _ (x : Setup) (code : Code) (numbers : List CodeRow) (f : Fixed) (n : ℕ) (new : PathState) (outs : List Out) (moves : move_after x n ≡ Moves new outs) (b : Bytes) (told : List RawOut) (went : WentTo x code numbers f new outs b told) where
  abbrev st : StandsInSomeWorld x code numbers f new b
  st = went.stands

  here : move_after st.world.setup n ≡ Moves new outs
  here = subst (λ y. move_after y n ≡ Moves new outs) (sym st.is.setup) moves

  image_is : st.world.image ≡ f.image
  image_is = ap (λ (k : Fixed). k.image) st.is.fixed_is

  pub turn_lines : (trace : Bool) → text_of_turn x numbers f.image trace b told ≡ text_of x.h (places x) (shown_outs trace outs)
  turn_lines trace =
      subst (λ (y : Setup). text_of_turn y numbers f.image trace b told ≡ text_of y.h (places y) (shown_outs trace outs)) st.is.setup
      (subst (λ (image : ImageBytes). text_of_turn st.world.setup numbers image trace b told ≡ text_of st.world.setup.h (places st.world.setup) (shown_outs trace outs)) image_is
      (subst (λ (rows : List CodeRow). text_of_turn st.world.setup rows st.world.image trace b told ≡ text_of st.world.setup.h (places st.world.setup) (shown_outs trace outs)) st.is.numbers_are (world_lines st.world st.is.world n new outs here b told st.stands went.reads trace)))

  pub turn_texts : (raw : RawOut) → Has told raw → HasText x.h b.objects raw
  turn_texts raw has = subst (λ y. HasText y.h b.objects raw) st.is.setup (world_texts st.world st.is.world n new outs here b told st.stands went.reads raw has)
