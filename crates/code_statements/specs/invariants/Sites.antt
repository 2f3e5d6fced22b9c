-- What right sides and statements of a site do, and what they need.
use Rattle.std.specs.Prelude.{◌+◌, ◌-◌, ◌^◌, Bool, List, Option}
use Rattle.cxx_hierarchy.specs.declared.records.ClassId.{ClassId}
use Rattle.cxx_hierarchy.specs.Classes.{Classes}
use Rattle.cxx_overrider.specs.Overriders.{AreOverriders}
use Rattle.cxx_program.specs.declared.statement.TypedRight.{TypedRight}
use Rattle.cxx_program.specs.declared.statement.TypedKind.{TypedKind}
use Rattle.abi_sound.specs.declared.class_layout.ClassLayout.{ClassLayout}
use Rattle.byte_code.specs.declared.op.Op.{Op}
use Rattle.byte_code.specs.declared.op.ResultUse.{ResultUse}
use Rattle.code_ops.specs.declared.sites.Site.{Site}
use Rattle.code_ops.specs.invariants.Fits.{FitsVariable, FitsConversion}
use Rattle.code_ops.specs.invariants.Sites.{site_scope, site_block, site_start, IsLaidSite}
use Rattle.code_statements.specs.declared.flows.Flow.{Flow}
use Rattle.code_statements.specs.declared.right_sites.CallSite.{CallSite}
use Rattle.code_statements.specs.declared.right_sites.RightSite.{RightSite}
use Rattle.code_statements.specs.declared.statement_sites.StatementSite.{StatementSite}
use Rattle.code_statements.specs.Rights.{call_op, right_ops}
use Rattle.code_statements.specs.Statements.{kind_ops}
use Rattle.code_statements.specs.invariants.Fits.{FitsCall, FitsKind, FitsRight, FitsWay, right_class, routine_of}

-- what a right side does whose value the variable of its site takes
abbrev pub site_right : {L : Type 0} → (L → List ClassLayout) → RightSite L → TypedRight → List Op
site_right rows here r = right_ops (site_block rows here.site.now) (site_start rows here.site.now) here.variable r here.conversion.now

-- what a statement does from which control goes so
abbrev pub site_kind : {L : Type 0} → (L → List ClassLayout) → Site L → Flow → TypedKind → List Op
site_kind rows site flow kind = kind_ops (site_block rows site) (site_start rows site) (routine_of site.body.now.owner) (λ m. flow.base + m) flow.number flow.next kind

abbrev pub statement_kind : {L : Type 0} → (L → List ClassLayout) → StatementSite L → TypedKind → List Op
statement_kind rows here kind = site_kind rows here.site.now here.flow kind

-- the variable of a site takes a value that points to this class, if to one
pub record Takes {L : Type 0} (lays_out : L → Classes → Type 0) (rows : L → List ClassLayout) (here : RightSite L) (class : Option ClassId) : Type 0 where
  pub laid : IsLaidSite lays_out rows here.site.now
  pub variable : FitsVariable here.variable
  pub conversion : FitsConversion here.site.now.h.now class here.conversion.now

-- and it takes the value of a right side
pub record TakesRight {L : Type 0} (lays_out : L → Classes → Type 0) (rows : L → List ClassLayout) (here : RightSite L) (r : TypedRight) : Type 0 where
  pub right : FitsRight here.site.now.h.now (site_scope here.site.now) r
  pub takes : Takes lays_out rows here (right_class here.site.now.h.now (site_scope here.site.now) r)

-- the op of a call, by the view or not
abbrev pub site_call : {L : Type 0} → (L → List ClassLayout) → CallSite L → Bool → ResultUse → List Op
site_call rows here is_dispatched taken = call_op (site_block rows here.site.now) (site_start rows here.site.now) is_dispatched here.call.now taken

-- there is a subobject before `::`, where one is written
pub record HasWay {L : Type 0} (lays_out : L → Classes → Type 0) (rows : L → List ClassLayout) (here : CallSite L) : Type 0 where
  pub laid : IsLaidSite lays_out rows here.site.now
  pub way : FitsWay here.site.now.h.now here.call.now.class here.call.now.qualifier

-- a call fits its site
pub record IsCallSite {L : Type 0} (lays_out : L → Classes → Type 0) (rows : L → List ClassLayout) (here : CallSite L) : Type 0 where
  pub laid : IsLaidSite lays_out rows here.site.now
  pub fits : FitsCall here.site.now.h.now (site_scope here.site.now) here.call.now

-- a statement fits its site, and its numbers of blocks are within the limit
pub record FitsSite {L : Type 0} (lays_out : L → Classes → Type 0) (rows : L → List ClassLayout) (here : StatementSite L) (kind : TypedKind) : Type 0 where
  pub laid : IsLaidSite lays_out rows here.site.now
  pub overriders : AreOverriders here.site.now.h.now here.site.now.overriders.now
  pub fits : FitsKind here.site.now.h.now (site_scope here.site.now) (2 ^ 32 - (here.flow.base + 1)) here.flow.number kind
