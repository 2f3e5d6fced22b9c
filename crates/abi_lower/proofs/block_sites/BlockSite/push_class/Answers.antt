use Rattle.std.proofs.Common.{[], ◌∷◌, refl}
use Rattle.path_plan.specs.declared.form.Form.TheVariants.{InFull, AsBase}
use Rattle.code_ops.specs.declared.routines.Course.TheVariants.{Constructs, Destroys, Deletes}
use Rattle.code_ops.specs.Setups.{setup, PlanCode}
use Rattle.abi_lower.proofs.RunSteps.{run_none, run_more}
use Rattle.abi_lower.proofs.block_sites.BlockSite.push_class.Goals as goal

pub push_plan-requires-clause-routine : goal.push_plan-requires-clause-routine
push_plan-requires-clause-routine g c = (c.requires.known, tt)

pub push_plan-requires-2-clause-routine : goal.push_plan-requires-2-clause-routine
push_plan-requires-2-clause-routine g c = (c.requires.known, tt)

pub push_plan-requires-3-clause-routine : goal.push_plan-requires-3-clause-routine
push_plan-requires-3-clause-routine g c = (c.requires.known, tt)

pub push_plan-requires-4-clause-routine : goal.push_plan-requires-4-clause-routine
push_plan-requires-4-clause-routine g c = (c.requires.known, tt)

pub push_plan-requires-5-clause-routine : goal.push_plan-requires-5-clause-routine
push_plan-requires-5-clause-routine g c = (c.requires.known, refl)

pub returns : goal.returns
returns g c =
    let x = setup c.args.self.now.lowering.now.h.now (g.L.SoundLayout.rows c.args.self.now.lowering.now.layout.now) c.args.self.now.lowering.now.program.now in
    let built = PlanCode Constructs InFull c.args.c in
    let built_base = PlanCode Constructs AsBase c.args.c in
    let ended = PlanCode Destroys InFull c.args.c in
    let ended_base = PlanCode Destroys AsBase c.args.c in
    let deletes = PlanCode Deletes InFull c.args.c in
    let old = c.args.blocks.now in
    let first = run_more x [] built old old c.push_plan.new.blocks (run_none x old) c.in_ok-push_plan.ensures in
    let second = run_more x (built ∷ []) built_base old c.push_plan.new.blocks c.push_plan-2.new.blocks first c.in_ok-push_plan-2.ensures in
    let third = run_more x (built ∷ built_base ∷ []) ended old c.push_plan-2.new.blocks c.push_plan-3.new.blocks second c.in_ok-push_plan-3.ensures in
    let fourth = run_more x (built ∷ built_base ∷ ended ∷ []) ended_base old c.push_plan-3.new.blocks c.push_plan-4.new.blocks third c.in_ok-push_plan-4.ensures in
    run_more x (built ∷ built_base ∷ ended ∷ ended_base ∷ []) deletes old c.push_plan-4.new.blocks c.push_plan-5.new.blocks fourth c.in_ok-push_plan-5.ensures
