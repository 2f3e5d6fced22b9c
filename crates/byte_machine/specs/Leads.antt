-- What holds of all that ops may lead to.
use Rattle.std.specs.Prelude.{ℕ, Bool, Option, List, [], ◌∷◌}
use Rattle.byte_memory.specs.Store.{IsRoom}
use Rattle.byte_code.specs.declared.op.Op.{Op}
use Rattle.byte_code.specs.Images.{word_at}
use Rattle.abi_dyncast.specs.Casts.{CastsTo, CanCastHinted, TellsWithin, CanTellWithin}
use Rattle.byte_machine.specs.declared.turn.MachineTurn.{MachineTurn}
use Rattle.byte_machine.specs.declared.turn.MachineTurn.TheVariants.{Went}
use Rattle.byte_machine.specs.Running.{Fixed, Running, Stop, Answers, Returned, Effect, Goes, Asks, Casts, Tells, Stops, Stuck}
use Rattle.byte_machine.specs.Effects.{effect_of}
use Rattle.byte_machine.specs.Runs.{MayAsk, finishing}

-- the effect is defined, what goes on meets `rest`, and what stops meets P
abbrev pub LeadsBy : Fixed → Effect → Running → (Running → Type 0) → (Running → Stop → Type 0) → Type 0
LeadsBy f (Goes next) s rest P = rest next
LeadsBy f (Asks size next) s rest P = MayAsk s size × ((at : ℕ) → IsRoom s.memory at size → LeadsBy f (next at) s rest P)
LeadsBy f (Casts at class target hint next) s rest P = CanCastHinted (word_at f.image) s.memory f.parts at class target hint × ((answer : Option ℕ) → CastsTo (word_at f.image) s.memory at class target answer → LeadsBy f (next answer) s rest P)
LeadsBy f (Tells view_at view_class at class next) s rest P = CanTellWithin (word_at f.image) f.image.base s.memory f.parts view_at view_class × ((inside : Bool) → TellsWithin (word_at f.image) f.image.base s.memory view_at view_class at class inside → LeadsBy f (next inside) s rest P)
LeadsBy f (Stops new stop) s rest P = P new stop
LeadsBy f Stuck s rest P = ⊥

abbrev pub LeadsIn : Fixed → List Op → Running → (Running → Stop → Type 0) → Type 0
LeadsIn f [] s P = P s (Answers Went)
LeadsIn f (op ∷ ops) s P = LeadsBy f (effect_of f op s) s (λ next. LeadsIn f ops next P) P

-- the ops are defined from s, and whatever they lead to meets P
pub record OpsLead (f : Fixed) (ops : List Op) (s : Running) (P : Running → Stop → Type 0) : Type 0 where
  pub run : LeadsIn f ops s P

-- what holds of the answer of a whole block: behind a return the ops that follow it lead there
abbrev pub HoldsOfAnswer : Fixed → (Running → MachineTurn → Type 0) → Running → Stop → Type 0
HoldsOfAnswer f P new (Answers turn) = P new turn
HoldsOfAnswer f P new (Returned finish) = OpsLead f (finishing finish) new (Finally P)
  where
    Finally : (Running → MachineTurn → Type 0) → Running → Stop → Type 0
    Finally Q last (Answers turn) = Q last turn
    Finally Q last (Returned more) = ⊥

-- a block and what follows its return are defined, and whatever they lead to meets P
abbrev pub LeadsBlock : Fixed → List Op → Running → (Running → MachineTurn → Type 0) → Type 0
LeadsBlock f ops s P = OpsLead f ops s (HoldsOfAnswer f P)
