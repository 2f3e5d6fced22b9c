-- A turn agrees with the move of the state that the machine stands for.
use Rattle.std.proofs.Common.{◌≡◌, ◌+◌, ◌-◌, Bool, true, false, List, [], refl, sym, ap, subst, ◌∙◌, arith}
use Rattle.std.specs.Prelude.{nat_eq}
use Rattle.std.proofs.lemmas.Bool.{eqb-false}
use Rattle.path_model.specs.Runs.{Move, Moves, IsRefused, IsLimited, IsOver, IsWrong}
use Rattle.byte_code.specs.declared.code.Code.{Code}
use Rattle.byte_machine.specs.declared.turn.MachineTurn.{MachineTurn}
use Rattle.byte_machine.specs.declared.turn.MachineTurn.TheVariants.{Went}
use Rattle.byte_machine.specs.declared.turn.RawOut.{RawOut}
use Rattle.byte_machine.specs.Running.{Fixed, Running}
use Rattle.byte_machine.specs.Turn.{ByteState as Bytes, HasTurn, Turns, after_block}
use Rattle.byte_machine.proofs.TurnLeads.{HasTurn-leads, HasTurn-spent, Turns-leads, IsNext}
use Rattle.code_ops.specs.Setups.{Setup}
use Rattle.abi_slots.specs.declared.code_numbers.CodeRow.{CodeRow}
use Rattle.agree_relation.specs.Worlds.{World, IsProgramWorld, fixed}
use Rattle.agree_relation.specs.Stands.{StandsForState}
use Rattle.byte_memory.specs.declared.memory.Region.{Region}
use Rattle.agree_relation.specs.Agrees.{Agrees, ReadAs}
use Rattle.agree_relation.specs.Words.{heap_of}
use Rattle.abi_world.specs.Worlds.{IsWorldOf}
use Rattle.abi_refine.specs.Standing.{StandsInSomeWorld, state_after}
use Rattle.abi_refine.specs.Agreed.{move_after, Agreed, AgreesBy, AgreesTurn, CountsOn}
use Rattle.abi_refine.specs.Blocks.{BlockLeads}
use Rattle.abi_refine.proofs.Turns.{block_leads}

module _ (w : World) (world : IsProgramWorld w) (b : Bytes) where
  abbrev x : Setup
  x = w.setup

  abbrev HasStarted : Type 0
  HasStarted = StandsForState w world.lowered.at (state_after x b.taken) b

  -- the block that is next, where a step is left
  next_block : (stands : HasStarted) → nat_eq b.left 0 ≡ false → (lead : BlockLeads w world.lowered.at b (move_after x b.taken)) → IsNext w.code b lead.top lead.below lead.block
  next_block stands left lead = record { going = stands.going; left = left; frames = lead.frames; there = lead.there }

  has_turn_by : (z : Bool) → nat_eq b.left 0 ≡ z → HasStarted → HasTurn (fixed w) w.code b []
  has_turn_by true spent stands = HasTurn-spent (fixed w) w.code b [] stands.going spent
  has_turn_by false left stands = let lead = block_leads w world b.taken b stands in HasTurn-leads (fixed w) (next_block stands left lead) lead.leads

  pub has_turn : HasStarted → HasTurn (fixed w) w.code b []
  has_turn stands = has_turn_by (nat_eq b.left 0) refl stands

  -- what a block led to
  module _ (b' : Bytes) (told : List RawOut) (turn : MachineTurn) where
    abbrev of : IsWorldOf x w.code w.numbers (fixed w) w
    of = record { world = world; setup = refl; code_is = refl; numbers_are = refl; fixed_is = refl }

    after : (new : Running) (m : Move) → Agrees w world.lowered.at m new turn → b' ≡ after_block b new turn → told ≡ new.outs → AgreesTurn x w.code w.numbers (fixed w) m b' told turn
    after new (Moves s outs) (stands, reads, went) is tells =
        let here : b' ≡ after_block b new Went = is ∙ ap (after_block b new) went in
        let regions : new.memory.regions ≡ b'.memory.regions = sym (ap (λ (c : Bytes). c.memory.regions) is) in
        let b_stands : StandsForState w world.lowered.at s b' = subst (StandsForState w world.lowered.at s) (sym here) (record { stands = stands; going = refl }) in
        let b_reads : ReadAs w world.lowered.at (heap_of s.objects.classes b'.memory.regions) told outs =
        subst (λ (rs : List Region). ReadAs w world.lowered.at (heap_of s.objects.classes rs) told outs) regions (subst (λ (os : List RawOut). ReadAs w world.lowered.at (heap_of s.objects.classes new.memory.regions) os outs) (sym tells) reads) in
        (record { stands = record { world = w; is = of; stands = b_stands }; reads = b_reads }, went)
    after new (IsRefused rule line) agrees is tells = agrees
    after new (IsLimited limit) agrees is tells = agrees
    after new IsOver agrees is tells = agrees
    after new IsWrong agrees is tells = agrees

    counts : (new : Running) → nat_eq b.left 0 ≡ false → b' ≡ after_block b new turn → CountsOn b b'
    counts new some is =
        let positive : (b.left ≡ 0 → ⊥) = eqb-false b.left 0 some in
        let left : b.left - 1 + 1 ≡ b.left = omega (arith, positive) in
        subst (CountsOn b) (sym is) (record { taken = refl; left = left })

    agreed_by : (z : Bool) → nat_eq b.left 0 ≡ z → HasStarted → Turns (fixed w) w.code b [] b' told turn → AgreesBy z x w.code w.numbers (fixed w) (move_after x b.taken) b b' told turn
    agreed_by true spent stands turns = let spent_turns = rw (stands.going, spent) at turns in (spent_turns.2, ap (λ (c : Bytes). c.taken) spent_turns.0)
    agreed_by false left stands turns =
        let lead = block_leads w world b.taken b stands in
        let ran = Turns-leads (fixed w) (next_block stands left lead) lead.leads turns in
        (after ran.new (move_after x b.taken) ran.leads ran.state ran.outs, counts ran.new left ran.state)

    pub turn_agrees : HasStarted → Turns (fixed w) w.code b [] b' told turn → Agreed x w.code w.numbers (fixed w) (move_after x b.taken) b b' told turn
    turn_agrees stands turns = agreed_by (nat_eq b.left 0) refl stands turns

-- the same over any program, code and machine that are those of a world
module _ (x : Setup) (code : Code) (numbers : List CodeRow) (f : Fixed) (b : Bytes) (st : StandsInSomeWorld x code numbers f (state_after x b.taken) b) where
  abbrev w : World
  w = st.world

  -- by the world's own
  over : (A : Setup → Code → List CodeRow → Fixed → Type 0) → A w.setup w.code w.numbers (fixed w) → A x code numbers f
  over A a = subst (A x code numbers) st.is.fixed_is (subst (λ ns. A x code ns (fixed w)) st.is.numbers_are (subst (λ c. A x c w.numbers (fixed w)) st.is.code_is (subst (λ y. A y w.code w.numbers (fixed w)) st.is.setup a)))

  here : StandsForState w st.is.world.lowered.at (state_after w.setup b.taken) b
  here = subst (λ y. StandsForState w st.is.world.lowered.at (state_after y b.taken) b) (sym st.is.setup) st.stands

  pub has_turn_in : HasTurn f code b []
  has_turn_in = over (λ y c ns g. HasTurn g c b []) (has_turn w st.is.world b here)

  pub turn_agrees_in : (b' : Bytes) (told : List RawOut) (turn : MachineTurn) → Turns f code b [] b' told turn → Agreed x code numbers f (move_after x b.taken) b b' told turn
  turn_agrees_in b' told turn = over (λ y c ns g. Turns g c b [] b' told turn → Agreed y c ns g (move_after y b.taken) b b' told turn) (turn_agrees w st.is.world b b' told turn here)
