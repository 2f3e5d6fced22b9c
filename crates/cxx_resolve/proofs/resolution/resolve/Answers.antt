-- The parts of the bodies are short as all are.
use Rattle.std.proofs.Common.{ℕ, ◌^◌, All, List, sym, subst}
use Rattle.std.proofs.lemmas.List.Elements.{All-take, All-drop}
use Rattle.cxx_syntax.specs.declared.source_text.Body.{Body}
use Rattle.cxx_resolve.specs.Programs.{IsShort}
use Rattle.cxx_resolve.proofs.resolution.resolve.Goals as goal

abbrev IsShortBody : Body → Type 0
IsShortBody b = IsShort (2 ^ 32) b.tree

pub bodies_of-requires-clause-short : goal.bodies_of-requires-clause-short
bodies_of-requires-clause-short c =
    subst (All IsShortBody) (sym c.front_of-front.ensures) (All-take IsShortBody c.args.source.now.main_place c.args.source.now.bodies c.requires.few.bodies)

pub bodies_of-requires-2-clause-short : goal.bodies_of-requires-2-clause-short
bodies_of-requires-2-clause-short c =
    subst (All IsShortBody) (sym c.back_of-back.ensures) (All-drop IsShortBody c.args.source.now.main_place c.args.source.now.bodies c.requires.few.bodies)
