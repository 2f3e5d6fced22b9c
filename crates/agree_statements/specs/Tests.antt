-- When checks of registers decide what rules ask of a statement's uses.
use Rattle.std.specs.Prelude.{◌≡◌, ◌<◌, ℕ, Bool, true, false, List, [], ◌∷◌}
use Rattle.cxx_hierarchy.specs.Classes.{Classes}
use Rattle.path_rules.specs.declared.Undefined.{Undefined}
use Rattle.path_rules.specs.Rules.{undefined_no}
use Rattle.path_model.specs.Values.{Objects}
use Rattle.path_model.specs.Uses.{StatementUse}
use Rattle.path_model.specs.Rules.{breaks, is_broken}
use Rattle.byte_code.specs.declared.op.Check.{Check}
use Rattle.byte_code.specs.declared.op.Finish.TheVariants.{Check as CheckOp}
use Rattle.byte_code.specs.declared.op.Op.{Op}
use Rattle.byte_code.specs.declared.op.Op.TheVariants.{Does}
use Rattle.byte_machine.specs.declared.turn.MachineTurn.TheVariants.{Refused}
use Rattle.byte_machine.specs.Running.{Fixed, Running, Stop, Answers}
use Rattle.byte_machine.specs.Leads.{OpsLead}
use Rattle.code_ops.specs.Uses.{checks_of}
use Rattle.code_ops.specs.declared.uses.Used.{Used}

-- the check refuses by the rule of this number exactly where that is broken, and changes nothing
pub record Decides (fx : Fixed) (b : Running) (P : Running → Stop → Type 0) (number : ℕ) (test : Check) (broken : Bool) : Type 0 where
  pub leads : (ops : List Op) → (broken ≡ false → OpsLead fx ops b P) → (broken ≡ true → P b (Answers (Refused number b.line))) → OpsLead fx (Does (CheckOp test) ∷ ops) b P

-- what is not asked is not broken, and one check decides the rest
abbrev pub Decide : Fixed → Running → (Running → Stop → Type 0) → ℕ → List Check → Bool → Type 0
Decide fx b P number [] broken = broken ≡ false
Decide fx b P number (test ∷ []) broken = Decides fx b P number test broken
Decide fx b P number (test ∷ other ∷ more) broken = ⊥

-- none of the uses breaks a rule of a smaller number
abbrev pub NoneBefore : Classes → Objects → List StatementUse → Undefined → Type 0
NoneBefore h s all rule = (r : Undefined) → undefined_no r < undefined_no rule → is_broken h s all r ≡ false

-- a use among others is tested in a register: behind the tests of the rules before
pub record IsTested (fx : Fixed) (b : Running) (P : Running → Stop → Type 0) (h : Classes) (s : Objects) (all : List StatementUse) (u : StatementUse) (d : Used) : Type 0 where
  pub each : (rule : Undefined) → NoneBefore h s all rule → Decide fx b P (undefined_no rule) (checks_of rule d) (breaks h s rule u)

-- checks that pass
abbrev pub AllPass : Fixed → Running → (Running → Stop → Type 0) → List Check → Type 0
AllPass fx b P [] = Unit {0}
AllPass fx b P (test ∷ checks) = Decides fx b P 0 test false × AllPass fx b P checks

-- uses and registers in turn: a use that breaks no rule needs no test, and a test that passes no use
pub data Along (fx : Fixed) (b : Running) (P : Running → Stop → Type 0) (h : Classes) (s : Objects) (all : List StatementUse) : List StatementUse → List Used → Type 0 where
  nothing : Along fx b P h s all [] []
  tested : {us : List StatementUse} {ds : List Used} (u : StatementUse) (d : Used) → IsTested fx b P h s all u d → Along fx b P h s all us ds → Along fx b P h s all (u ∷ us) (d ∷ ds)
  unasked : {us : List StatementUse} {ds : List Used} (u : StatementUse) → ((rule : Undefined) → breaks h s rule u ≡ false) → Along fx b P h s all us ds → Along fx b P h s all (u ∷ us) ds
  idle : {us : List StatementUse} {ds : List Used} (d : Used) → ((rule : Undefined) → AllPass fx b P (checks_of rule d)) → Along fx b P h s all us ds → Along fx b P h s all us (d ∷ ds)
