-- What is known of a source that is accepted, before its globals and bodies are resolved.
use Rattle.std.specs.Prelude.{◌≡◌}
use Rattle.cxx_hierarchy.specs.Classes.{Classes}
use Rattle.cxx_hierarchy.specs.Hierarchies.{IsHierarchy}
use Rattle.cxx_hierarchy.specs.Resolved.{resolved}
use Rattle.cxx_syntax.specs.declared.source_text.SourceText.{SourceText}
use Rattle.cxx_syntax.specs.Owners.{AreBodiesOf}
use Rattle.cxx_typing.specs.Scopes.{PureAreVirtual}

-- these are the classes of the source's records, and its bodies those that the records declare
pub record IsSourceOf (h : Classes) (source : SourceText) : Type 0 where
  pub keeps : IsHierarchy h
  pub classes : h ≡ resolved source.records
  pub pure : PureAreVirtual h
  pub bodies : AreBodiesOf source.records source.bodies
