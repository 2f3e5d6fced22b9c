-- What a pointer is told by, in the words of the definitions.
use Rattle.std.specs.Prelude.{List}
use Rattle.cxx_hierarchy.specs.Classes.{Classes}
use Rattle.cxx_overrider.specs.Overriders.{AreOverriders}
use Rattle.abi_sound.specs.declared.class_layout.ClassLayout.{ClassLayout}
use Rattle.abi_sound.specs.Places.{Places, places_of}
use Rattle.abi_memptr.specs.declared.answers.Site.{Site}

-- where the parts of its classes lie
abbrev pub pointer_site_places : {L : Type 0} → (L → List ClassLayout) → Site L → Places
pointer_site_places rows site = places_of site.h.now (rows site.layout.now)

-- all of it belongs to its classes
pub record IsSite {L : Type 0} (lays_out : L → Classes → Type 0) (site : Site L) : Type 0 where
  pub layout : lays_out site.layout.now site.h.now
  pub overriders : AreOverriders site.h.now site.overriders.now
