-- Each dump that a run tells is read back as the values that it shows.
use Rattle.std.proofs.Common.{◌≡◌, ◌∙◌, ℕ, zero, suc, ◌+◌, ◌<◌, ◌≤◌, arith, ⊎_elim, Some, List, map, length, refl, ap, subst, sym}
use Rattle.std.specs.List.{slice_get}
use Rattle.std.proofs.lemmas.Option.{slice_get_within}
use Rattle.foundation.proofs.Members.{Has, contains_from_has, has_cases}
use Rattle.cxx_hierarchy.specs.declared.records.ClassId.{ClassId}
use Rattle.cxx_hierarchy.specs.Classes.{Classes}
use Rattle.cxx_program.specs.declared.program.TypedProgram.{TypedProgram}
use Rattle.path_plan.specs.Whole.{whole_part}
use Rattle.path_model.specs.declared.outs.DumpLeaf.{DumpLeaf}
use Rattle.path_model.specs.declared.outs.Out.{Out}
use Rattle.path_model.specs.declared.outs.Out.TheVariants.{Dump}
use Rattle.path_model.specs.Values.{Objects}
use Rattle.path_model.specs.Outs.{dump_leaf}
use Rattle.path_model.specs.Places.{leaves_of}
use Rattle.path_model.specs.Effects.{object_out}
use Rattle.path_model.specs.States.{ProgramState}
use Rattle.path_model.specs.TypedStates.{IsTypedState}
use Rattle.path_model.specs.Runs.{Move, Moves, IsRefused, IsLimited, IsOver, IsWrong, move, outs_in, ran_by, run_from, run_of, state_at, state_behind}
use Rattle.abi_sound.specs.declared.class_layout.ClassLayout.{ClassLayout}
use Rattle.abi_sound.specs.Places.{Places, places_of}
use Rattle.abi_sound.specs.Sound.{IsSoundLayout}
use Rattle.text_told.specs.Dumps.{AreDumpedLeaves as NamesItsParts}
use Rattle.text_told.specs.OutTexts.{out_text}
use Rattle.text_told.proofs.Telling.{steps_told}
use Rattle.agree_runs.specs.Accepted.{IsAccepted}
use Rattle.agree_runs.specs.Dumps.{TellsDump}
use Rattle.agree_runs.proofs.Dumps.{dumps_are_of_the_state}
use Rattle.agree_runs.proofs.Tops.{state_typed}
use Rattle.abi_inspect.specs.Faults.{IsDumpOf}
use Rattle.abi_inspect.specs.Values.{most_dumped_number}
use Rattle.agree_dumps.specs.SeenDumps.{ValuesFit, seen_of}
use Rattle.agree_dumps.proofs.DumpTexts.{told_fits, told_text}
use Rattle.agree_dumps.proofs.FewObjects.{few_objects}
use Rattle.agree_dumps.proofs.TypedLeaves.{told_leaves_fit}

-- a step that tells it
record IsToldAt (h : Classes) (sizes : ClassId → ℕ) (program : TypedProgram) (out : Out) : Type 0 where
  step : ℕ
  has : Has (outs_in (move h sizes program (state_at h sizes program step))) out

module _ (h : Classes) (sizes : ClassId → ℕ) (program : TypedProgram) (out : Out) where
  by_move : (n m : ℕ) → (Has (run_from h sizes program m (state_at h sizes program (suc n))).outs out → IsToldAt h sizes program out) → (v : Move) → move h sizes program (state_at h sizes program n) ≡ v → Has (ran_by v (run_from h sizes program m)).outs out → IsToldAt h sizes program out
  by_move n m later (Moves new outs) is has =
      ⊎_elim (λ here. record { step = n; has = subst (λ (v : Move). Has (outs_in v) out) (sym is) here })
      (λ more. later (subst (λ (v : Move). Has (run_from h sizes program m (state_behind v (state_at h sizes program n))).outs out) (sym is) more))
      (has_cases outs (run_from h sizes program m new).outs out has)
  by_move n m later (IsRefused rule line) is has = absurd has
  by_move n m later (IsLimited limit) is has = absurd has
  by_move n m later IsOver is has = absurd has
  by_move n m later IsWrong is has = absurd has

  told_from : (m n : ℕ) → Has (run_from h sizes program m (state_at h sizes program n)).outs out → IsToldAt h sizes program out
  told_from zero n has = absurd has
  told_from (suc m) n has = by_move n m (told_from m (suc n)) (move h sizes program (state_at h sizes program n)) refl has

module _ (h : Classes) (rows : List ClassLayout) (program : TypedProgram) (accepted : IsAccepted h program) (sound : IsSoundLayout h rows) where
  abbrev l : Places
  l = places_of h rows

  -- a dump of a state behind a step
  of_state : (n number : ℕ) (new : ProgramState) (outs : List Out) (c : ClassId) (leaves : List DumpLeaf) → state_at h l.size program (suc n) ≡ new → NamesItsParts h c leaves → TellsDump h new.objects outs number c leaves →
      IsDumpOf h l (seen_of h l number c leaves) (out_text h l (Dump number c leaves))
  of_state n number new outs c leaves behind told dumped =
      let s : Objects = new.objects in
      let k : ℕ = dumped.object in
      let typed : IsTypedState h program new = subst (IsTypedState h program) behind (state_typed h l.size program (suc n) accepted) in
      let few : length s.classes ≤ most_dumped_number = subst (λ (x : ProgramState). length x.objects.classes ≤ most_dumped_number) behind (few_objects h program l.size (λ d known. (sound.each d known).positive) accepted.typed (suc n)) in
      let lt : k < length s.classes = slice_get_within s.classes k c dumped.class in
      let number_is : number ≡ k + 1 = dumped.number_is in
      let high : number ≤ most_dumped_number = omega arith in
      let out : object_out h s k (slice_get s.classes k) ≡ Some (Dump number c leaves) =
      ap (object_out h s k) dumped.class
      ∙ (ap (λ n. Some (Dump n c (map (dump_leaf s) (leaves_of h c (whole_part k c))))) (sym dumped.number_is)
      ∙ ap (λ (list : List DumpLeaf). Some (Dump number c list)) (sym dumped.leaves_are)) in
      let fits : ValuesFit h l leaves =
      subst (ValuesFit h l) (sym dumped.leaves_are) (told_leaves_fit h rows sound s few accepted.hierarchy typed.leaves typed.held k c dumped.class (subst (NamesItsParts h c) dumped.leaves_are told)) in
      record {
        fits = told_fits h accepted.hierarchy l s k number c leaves out fits told.known high;
        is = told_text h accepted.hierarchy l s k number c leaves out fits;
      }

  of_move : (n number : ℕ) (c : ClassId) (leaves : List DumpLeaf) → NamesItsParts h c leaves → (v : Move) → move h l.size program (state_at h l.size program n) ≡ v → Has (outs_in v) (Dump number c leaves) →
      IsDumpOf h l (seen_of h l number c leaves) (out_text h l (Dump number c leaves))
  of_move n number c leaves told (Moves new outs) is has =
      let s : ProgramState = state_at h l.size program n in
      of_state n number new outs c leaves (ap (λ (v : Move). state_behind v s) is) told (dumps_are_of_the_state h l.size program s new outs number c leaves is (contains_from_has outs (Dump number c leaves) has))
  of_move n number c leaves told (IsRefused rule line) is has = absurd has
  of_move n number c leaves told (IsLimited limit) is has = absurd has
  of_move n number c leaves told IsOver is has = absurd has
  of_move n number c leaves told IsWrong is has = absurd has

  pub run_dump : (steps number : ℕ) (c : ClassId) (leaves : List DumpLeaf) → Has (run_of h l.size program steps).outs (Dump number c leaves) → IsDumpOf h l (seen_of h l number c leaves) (out_text h l (Dump number c leaves))
  run_dump steps number c leaves has =
      let at_step = told_from h l.size program (Dump number c leaves) steps 0 has in
      let n : ℕ = at_step.step in
      of_move n number c leaves (steps_told h accepted.hierarchy accepted.faultless program accepted.typed l.size accepted.main n (Dump number c leaves) at_step.has).0
      (move h l.size program (state_at h l.size program n)) refl at_step.has
