-- Before its first turn a machine stands for the start of the program.
use Rattle.std.proofs.Common.{◌≡◌, ℕ, zero, suc, ◌+◌, true, false, Option, Some, None, List, [], ◌∷◌, length, map, refl, sym, ap, subst, ◌∙◌}
use Rattle.std.specs.Prelude.{slice_get, replicate}
use Rattle.std.proofs.lemmas.List.{length-replicate}
use Rattle.cxx_hierarchy.specs.declared.records.ClassId.{ClassId}
use Rattle.cxx_hierarchy.specs.declared.records.ValueType.{ValueType}
use Rattle.cxx_hierarchy.specs.declared.records.ValueType.TheVariants.{Number as NumberType, Pointer as PointerType}
use Rattle.cxx_program.specs.declared.operand.Conversion.TheVariants.{Same as ToSame}
use Rattle.cxx_program.specs.declared.program.Owner.{Owner}
use Rattle.cxx_program.specs.declared.program.Owner.TheVariants.{Main}
use Rattle.cxx_program.specs.declared.program.TypedBody.{TypedBody}
use Rattle.path_model.specs.Values.{Value, Unset}
use Rattle.path_model.specs.States.{RunningBody, InBody, is_body, entered_body}
use Rattle.path_model.specs.Runs.{start_value, main_frames, no_objects, open_count, opened_for, start}
use Rattle.byte_machine.specs.Frames.{register_of}
use Rattle.byte_memory.specs.Store.{empty}
use Rattle.byte_shadow.specs.Shadows.{no_notes}
use Rattle.byte_machine.specs.Turn.{ByteState as Bytes, start_state, main_frame}
use Rattle.foundation.proofs.Members.{has_from_contains}
use Rattle.agree_parts.specs.Heaps.{Heap}
use Rattle.agree_relation.specs.Worlds.{World, IsProgramWorld}
use Rattle.agree_relation.specs.Words.{heap_of, register_word}
use Rattle.agree_relation.specs.Columns.{ColumnsStand}
use Rattle.agree_relation.specs.Goings.{ArePlanned}
use Rattle.agree_relation.specs.Frames.{PlaceNumbers, BodyStandsOver, StandOver}
use Rattle.agree_relation.specs.Stands.{StandsForState}
use Rattle.code_blocks.specs.Lowered.{main_start}

module _ (w : World) (world : IsProgramWorld w) where
  abbrev at : PlaceNumbers
  at = world.lowered.at

  abbrev g : Heap
  g = heap_of [] []

  no_columns : ColumnsStand w no_objects empty [] 0 no_notes
  no_columns = record {
    objects = record {
      count = refl;
      ascending = λ i j x y less a b. cc (a);
      region = λ k c r a b. cc (a);
      listed_count = refl;
      listed = λ k c r a b. cc (a);
      region_sum = refl;
      heap_sum = refl;
    };
    leaves = record { leaf = λ a t made open'. absurd (let e = made.part.made in cc (e)) };
    phases = record {
      phase = λ q c made. absurd (let e = made.made in cc (e));
      owner = λ q c d made whole raw. absurd (let e = made.made in cc (e));
      only = λ at' class x e. cc (e);
    };
    views = record { view = λ k o d c x whole e made. absurd (let f = whole.made in cc (f)) };
    pointers = record { pointers = λ k o d c x whole made open' e ready dynamic. absurd (let f = whole.made in cc (f)) };
  }

  none_planned : ArePlanned w [] no_objects.phases []
  none_planned = record {
    going = tt;
    waits = tt;
    stack = λ k o. refl;
    in_step = record { runs = λ k o y has. absurd (has_from_contains [] y has); once = λ k o i j y a b. cc (a) };
  }

  -- globals are 0 or null
  first_global : (t : ValueType ClassId) → register_word w g (start_value t) ≡ Some 0
  first_global (NumberType t) = refl
  first_global (PointerType c) = refl

  first_globals : (types : List (ValueType ClassId)) → replicate (length types) (Some 0) ≡ map (register_word w g) (map start_value types)
  first_globals [] = refl
  first_globals (t ∷ types) = ap (λ (o : Option ℕ). o ∷ replicate (length types) (Some 0)) (sym (first_global t)) ∙ ap (λ (os : List (Option ℕ)). register_word w g (start_value t) ∷ os) (first_globals types)

  -- the body of `main` at its first statement

  abbrev first_running : TypedBody → RunningBody
  first_running body = entered_body body Unset [] ToSame None

  unset_in : (n i : ℕ) → register_of (replicate n None) i ≡ None
  unset_in zero i = refl
  unset_in (suc n) zero = refl
  unset_in (suc n) (suc i) = unset_in n i

  unset_local : (k n : ℕ) (v : Value) → slice_get (replicate k Unset) n ≡ Some v → v ≡ Unset
  unset_local zero n v e = cc (e)
  unset_local (suc k) zero v e = cc (e)
  unset_local (suc k) (suc n) v e = unset_local k n v e

  local_unset : (n : ℕ) (v : Value) → v ≡ Unset → register_of (replicate w.code.registers None) n ≡ register_word w g v
  local_unset n v e = unset_in w.code.registers n ∙ ap (register_word w g) (sym e)

  main_stands : (body : TypedBody) → w.setup.program.main ≡ Some body → body.owner ≡ Main → StandOver w at g None (InBody (first_running body) ∷ []) [] (main_frame w.code ∷ [])
  main_stands body there owner =
      subst (λ (o : Owner). BodyStandsOver w at g (first_running body) o [] (StandOver w at g None []) (StandOver w at g (Some (first_running body)) []) [] (main_frame w.code ∷ [])) (sym owner) (
        record {
          body = record {
            variables = record {
              size = length-replicate _ _;
              this = unset_in w.code.registers 0;
              local = λ n v e. local_unset (n + 1) v (unset_local _ n v e);
              spare = unset_in w.code.registers _;
            };
            block = world.lowered.start ∙ ap (main_start at) there;
          };
          again = refl;
          is_call = refl;
          keeps = refl;
        },
        (refl, refl),
      )

  main_there : (o : Option TypedBody) → w.setup.program.main ≡ o → is_body o ≡ true → StandOver w at g None (main_frames o) [] (main_frame w.code ∷ [])
  main_there None e has = absurd (let f : false ≡ true = has in cc (f))
  main_there (Some body) e has = main_stands body e (world.typed.main body e).0

  none_open : (o : Option TypedBody) → w.setup.program.main ≡ o → 0 ≡ open_count (main_frames o)
  none_open None e = refl
  none_open (Some body) e = subst (λ (owner : Owner). 0 ≡ 0 + opened_for owner) (sym (world.typed.main body e).0) refl

  pub stands_at_start : (b : Bytes) (steps : ℕ) → b ≡ start_state empty w.code steps → StandsForState w at (start w.setup.program) b
  stands_at_start b steps is = subst (StandsForState w at (start w.setup.program)) (sym is) (record {
    stands = record {
      columns = no_columns;
      globals = ap (λ (n : ℕ). replicate n (Some 0)) world.lowered.globals ∙ first_globals w.setup.program.globals;
      frames = record {
        goings = [];
        planned = none_planned;
        frames = main_there w.setup.program.main refl world.main;
        calls = none_open w.setup.program.main refl;
      };
    };
    going = refl;
  })
