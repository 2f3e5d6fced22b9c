-- From what leads somewhere: it is defined, and what it leads to is so.
use Rattle.std.proofs.Common.{◌≡◌, ℕ, ◌<◌, ◌≤◌, true, false, Option, Some, None, List, [], ◌∷◌, subst, sym, arith}
use Rattle.std.specs.Prelude.{nat_lt, nat_le, nat_eq}
use Rattle.std.proofs.lemmas.Bool.Decides.{nat_tests}
use Rattle.byte_code.specs.declared.op.Op.{Op}
use Rattle.byte_machine.specs.declared.turn.MachineTurn.{MachineTurn}
use Rattle.byte_machine.specs.declared.turn.MachineTurn.TheVariants.{Went}
use Rattle.byte_machine.specs.Running.{Fixed, Running, Stop, Answers, Returned, Effect, Goes, Asks, Casts, Tells, Stops, Stuck}
use Rattle.byte_machine.specs.Effects.{effect_of}
use Rattle.byte_machine.specs.Runs.{Allows, MayLeadTo, IsDefined, Runs, Finishes, HasFinish, RunsBlock, IsBlockDefined, finishing}
use Rattle.byte_machine.specs.Leads.{LeadsBy, LeadsIn, OpsLead, HoldsOfAnswer, LeadsBlock}

allows : (f : Fixed) (e : Effect) (s : Running) (next next' : Running → Type 0) (P : Running → Stop → Type 0) → ((new : Running) → next new → next' new) → LeadsBy f e s next P → Allows f e s next'
allows f (Goes new) s next next' P g h = g new h
allows f (Asks size then) s next next' P g h = (h.0, λ at room. allows f (then at) s next next' P g (h.1 at room))
allows f (Casts at class target hint then) s next next' P g h = (h.0, λ answer casts. allows f (then answer) s next next' P g (h.1 answer casts))
allows f (Tells view_at view_class at class then) s next next' P g h = (h.0, λ inside tells. allows f (then inside) s next next' P g (h.1 inside tells))
allows f (Stops new stop) s next next' P g h = tt
allows f Stuck s next next' P g h = h

pub IsDefined-leads : (f : Fixed) (ops : List Op) (s : Running) (P : Running → Stop → Type 0) → LeadsIn f ops s P → IsDefined f ops s
IsDefined-leads f [] s P h = tt
IsDefined-leads f (op ∷ ops) s P h = allows f (effect_of f op s) s (λ new. LeadsIn f ops new P) (λ new. IsDefined f ops new) P (λ new. IsDefined-leads f ops new P) h

follows : (f : Fixed) (e : Effect) (s new : Running) (stop : Stop) (next rest : Running → Type 0) (P : Running → Stop → Type 0) → ((mid : Running) → next mid → rest mid → P new stop) → LeadsBy f e s next P → MayLeadTo f e s new stop rest → P new stop
follows f (Goes mid) s new stop next rest P g h r = g mid h r
follows f (Asks size then) s new stop next rest P g h r = follows f (then r.0) s new stop next rest P g (h.1 r.0 r.1.0) r.1.1
follows f (Casts at class target hint then) s new stop next rest P g h r = follows f (then r.0) s new stop next rest P g (h.1 r.0 r.1.0) r.1.1
follows f (Tells view_at view_class at class then) s new stop next rest P g h r = follows f (then r.0) s new stop next rest P g (h.1 r.0 r.1.0) r.1.1
follows f (Stops at reason) s new stop next rest P g h r = subst (λ t. P new t) (sym r.1) (subst (λ a. P a reason) (sym r.0) h)
follows f Stuck s new stop next rest P g h r = absurd h

pub Runs-leads : (f : Fixed) (ops : List Op) (s new : Running) (stop : Stop) (P : Running → Stop → Type 0) → LeadsIn f ops s P → Runs f ops s new stop → P new stop
Runs-leads f [] s new stop P h r = subst (λ t. P new t) (sym r.1) (subst (λ a. P a (Answers Went)) (sym r.0) h)
Runs-leads f (op ∷ ops) s new stop P h r = follows f (effect_of f op s) s new stop (λ mid. LeadsIn f ops mid P) (λ mid. Runs f ops mid new stop) P (λ mid. Runs-leads f ops mid new stop P) h r

-- a block that leads anywhere is defined, with what follows its return
has_finish : (f : Fixed) (mid : Running) (stop : Stop) (P : Running → MachineTurn → Type 0) → HoldsOfAnswer f P mid stop → HasFinish f mid stop
has_finish f mid (Answers turn) P h = tt
has_finish f mid (Returned finish) P h = IsDefined-leads f (finishing finish) mid _ h.run

pub IsBlockDefined-leads : (f : Fixed) (ops : List Op) (s : Running) (P : Running → MachineTurn → Type 0) → LeadsBlock f ops s P → IsBlockDefined f ops s
IsBlockDefined-leads f ops s P h = record {
  defined = IsDefined-leads f ops s (HoldsOfAnswer f P) h.run;
  finish = λ mid stop runs. has_finish f mid stop P (Runs-leads f ops s mid stop (HoldsOfAnswer f P) h.run runs);
}

-- and what it leads to is so
finishes : (f : Fixed) (mid new : Running) (stop : Stop) (answer : MachineTurn) (P : Running → MachineTurn → Type 0) → HoldsOfAnswer f P mid stop → Finishes f mid stop new answer → P new answer
finishes f mid new (Answers turn) answer P h r = subst (λ t. P new t) (sym r.1) (subst (λ a. P a turn) (sym r.0) h)
finishes f mid new (Returned finish) answer P h r = Runs-leads f (finishing finish) mid new (Answers answer) _ h.run r

pub RunsBlock-leads : (f : Fixed) (ops : List Op) (s new : Running) (answer : MachineTurn) (P : Running → MachineTurn → Type 0) → LeadsBlock f ops s P → RunsBlock f ops s new answer → P new answer
RunsBlock-leads f ops s new answer P h r = finishes f r.mid new r.stop answer P (Runs-leads f ops s r.mid r.stop (HoldsOfAnswer f P) h.run r.runs) r.finishes

-- the end of a list of ops
pub leads_end : (f : Fixed) {s : Running} {P : Running → Stop → Type 0} → P s (Answers Went) → OpsLead f [] s P
leads_end f {s} {P} h = record { run = h }

weaker : (f : Fixed) (e : Effect) (s : Running) (next next' : Running → Type 0) (P Q : Running → Stop → Type 0) → ((new : Running) → next new → next' new) → ((new : Running) (stop : Stop) → P new stop → Q new stop) → LeadsBy f e s next P → LeadsBy f e s next' Q
weaker f (Goes new) s next next' P Q g p h = g new h
weaker f (Asks size then) s next next' P Q g p h = (h.0, λ at room. weaker f (then at) s next next' P Q g p (h.1 at room))
weaker f (Casts at class target hint then) s next next' P Q g p h = (h.0, λ answer casts. weaker f (then answer) s next next' P Q g p (h.1 answer casts))
weaker f (Tells view_at view_class at class then) s next next' P Q g p h = (h.0, λ inside tells. weaker f (then inside) s next next' P Q g p (h.1 inside tells))
weaker f (Stops new stop) s next next' P Q g p h = p new stop h
weaker f Stuck s next next' P Q g p h = h

leads_in_weaker : (f : Fixed) (ops : List Op) (s : Running) (P Q : Running → Stop → Type 0) → ((new : Running) (stop : Stop) → P new stop → Q new stop) → LeadsIn f ops s P → LeadsIn f ops s Q
leads_in_weaker f [] s P Q p h = p s (Answers Went) h
leads_in_weaker f (op ∷ ops) s P Q p h = weaker f (effect_of f op s) s (λ new. LeadsIn f ops new P) (λ new. LeadsIn f ops new Q) P Q (λ new. leads_in_weaker f ops new P Q p) p h

-- what holds of less holds of more
pub leads_weaker : (f : Fixed) {ops : List Op} {s : Running} {P Q : Running → Stop → Type 0} → ((new : Running) (stop : Stop) → P new stop → Q new stop) → OpsLead f ops s P → OpsLead f ops s Q
leads_weaker f {ops} {s} {P} {Q} p h = record { run = leads_in_weaker f ops s P Q p h.run }

-- tests
pub below : (a b : ℕ) → a < b → nat_lt a b ≡ true
below a b h = grind (arith, nat_tests)

pub not_below : (a b : ℕ) → b ≤ a → nat_lt a b ≡ false
not_below a b h = grind (arith, nat_tests)

pub within : (a b : ℕ) → a ≤ b → nat_le a b ≡ true
within a b h = grind (arith, nat_tests)

pub not_within : (a b : ℕ) → b < a → nat_le a b ≡ false
not_within a b h = grind (arith, nat_tests)

pub not_zero : (a : ℕ) → (a ≡ 0 → ⊥) → nat_eq a 0 ≡ false
not_zero a h = grind (arith, nat_tests)

pub same_number : (a : ℕ) → nat_eq a a ≡ true
same_number a = grind (arith, nat_tests)

pub other_number : (a b : ℕ) → (a ≡ b → ⊥) → nat_eq a b ≡ false
other_number a b h = grind (arith, nat_tests)

-- an address that is unset or 0
abbrev pub IsIdle : Option ℕ → Type 0
IsIdle None = Unit {0}
IsIdle (Some at) = at ≡ 0
