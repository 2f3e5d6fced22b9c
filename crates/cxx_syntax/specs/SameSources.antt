-- Sources that say the same: their bodies may differ by how a tree keeps its statements, and all else is equal.
use Rattle.std.specs.Prelude.{◌≡◌, List, [], ◌∷◌, Option, Some, None}
use Rattle.cxx_syntax.specs.declared.tree.BodyTree.{BodyTree}
use Rattle.cxx_syntax.specs.SameTrees.{SameBody}
use Rattle.cxx_syntax.specs.declared.source_text.Body.{Body}
use Rattle.cxx_syntax.specs.declared.source_text.SourceText.{SourceText}

pub data SameBodies : List Body → List Body → Type 0 where
  no_bodies : SameBodies [] []
  more_bodies : {a b : Body} {ls rs : List Body} → a.class ≡ b.class → a.owner ≡ b.owner → a.inits ≡ b.inits → SameBody a.tree b.tree →
      SameBodies ls rs → SameBodies (a ∷ ls) (b ∷ rs)

-- both have no main, or mains that say the same
abbrev pub SameMain : Option BodyTree → Option BodyTree → Type 0
SameMain None None = Unit {0}
SameMain (Some a) (Some b) = SameBody a b
SameMain _ _ = ⊥

pub record SameSource (s t : SourceText) : Type 0 where
  pub records : s.records ≡ t.records
  pub globals : s.globals ≡ t.globals
  pub bodies : SameBodies s.bodies t.bodies
  pub main : SameMain s.main t.main
  pub main_place : s.main_place ≡ t.main_place
