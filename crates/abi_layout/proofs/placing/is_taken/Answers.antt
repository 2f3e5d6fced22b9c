use Rattle.std.proofs.Common.{◌≡◌, ◌∙◌, ◌+◌, ◌<◌, ◌≤◌, ◌^◌, ℕ, List, length, sym, subst, ap, arith}
use Rattle.std.specs.Prelude.{All}
use Rattle.abi_emptybase.specs.declared.Part.{Part}
use Rattle.abi_emptybase.specs.Table.{has_conflict}
use Rattle.abi_layout.specs.Limits.{size_limit}
use Rattle.abi_layout.specs.declared.component.Component.{Component}
use Rattle.abi_layout.specs.invariants.Alignments.{LieUpTo, IsFit}
use Rattle.abi_layout.proofs.rules.Parts.{within_fits, conflict_ready}
use Rattle.abi_layout.proofs.placing.is_taken.Goals as goal

is_fit : (component : Component) (parts : List Part) (at : ℕ) → IsFit component → parts ≡ component.parts → at ≤ size_limit → All (λ (part : Part). part.place + at < 2 ^ 32) parts
is_fit component parts at fit is bounded =
    let takes = fit.takes in
    within_fits component.takes at parts (omega arith) (subst (λ (ps : List Part). LieUpTo component.takes ps) (sym is) fit.parts)

pub is_among-requires : goal.is_among-requires
is_among-requires c = is_fit c.args.component.now c.as_slice.result.now c.args.at c.requires.component c.as_slice.ensures c.requires.bounded

pub returns-then-placed-le-FEW_PARTS : goal.returns-then-placed-le-FEW_PARTS
returns-then-placed-le-FEW_PARTS c =
    c.is_among.ensures
    ∙ (ap (λ (parts : List Part). has_conflict c.as_slice-placed.result.now parts c.args.at) c.as_slice.ensures
    ∙ ap (λ (placed : List Part). has_conflict placed c.args.component.now.parts c.args.at) c.as_slice-placed.ensures)

pub conflicts-requires : goal.conflicts-requires
conflicts-requires c = is_fit c.args.component.now c.as_slice-2.result.now c.args.at c.requires.component c.as_slice-2.ensures c.requires.bounded

pub returns : goal.returns
returns c =
    let many = c.if-placed-le-FEW_PARTS.false in
    let size = ap length c.as_slice-placed.ensures in
    c.conflicts.ensures
    ∙ (ap (λ (parts : List Part). has_conflict c.args.placing.now.table parts c.args.at) c.as_slice-2.ensures
    ∙ conflict_ready c.args.placing.now c.args.component.now c.args.at c.requires.placing.table (omega arith) c.requires.ready)
