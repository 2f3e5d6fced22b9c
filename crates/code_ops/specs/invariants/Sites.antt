-- A site in the words of the definitions: its setup, its block, and what the calls need of it.
use Rattle.std.specs.Prelude.{ℕ, List}
use Rattle.cxx_hierarchy.specs.Classes.{Classes}
use Rattle.cxx_program.specs.Typed.{Scope, scope_of}
use Rattle.abi_sound.specs.declared.class_layout.ClassLayout.{ClassLayout}
use Rattle.abi_sound.specs.Places.{Places, places_of}
use Rattle.code_ops.specs.declared.sites.Site.{Site}
use Rattle.code_ops.specs.Setups.{Setup, setup, Routine}
use Rattle.code_ops.specs.Routines.{start_by}
use Rattle.code_ops.specs.Arguments.{Block, block_in}
use Rattle.code_ops.specs.invariants.Fits.{IsStatementSite}

-- the classes, the rows of the layout and the program of a site
abbrev pub site_setup : {L : Type 0} → (L → List ClassLayout) → Site L → Setup
site_setup rows site = setup site.h.now (rows site.layout.now) site.program.now

-- where its parts lie
abbrev pub site_places : {L : Type 0} → (L → List ClassLayout) → Site L → Places
site_places rows site = places_of site.h.now (rows site.layout.now)

-- what its body may name
abbrev pub site_scope : {L : Type 0} → Site L → Scope
site_scope site = scope_of site.h.now site.program.now.globals site.body.now

-- the block of its statement
abbrev pub site_block : {L : Type 0} → (L → List ClassLayout) → Site L → Block
site_block rows site = block_in (site_setup rows site) site.body.now

-- where the code of a routine begins
abbrev pub site_start : {L : Type 0} → (L → List ClassLayout) → Site L → Routine → ℕ
site_start rows site = start_by (site_setup rows site) site.numbers.now

-- its numbers are within the limits, and its slots are those of its classes
abbrev pub IsSiteAt : {L : Type 0} → (L → List ClassLayout) → Site L → Type 0
IsSiteAt rows site = IsStatementSite site.h.now (rows site.layout.now) site.slots.now site.body.now

-- the same, and its layout is one of its classes
pub record IsLaidSite {L : Type 0} (lays_out : L → Classes → Type 0) (rows : L → List ClassLayout) (here : Site L) : Type 0 where
  pub layout : lays_out here.layout.now here.h.now
  pub site : IsSiteAt rows here
