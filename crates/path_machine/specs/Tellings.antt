-- What is told, with what a trace alone shows or without it.
use Rattle.std.specs.Prelude.{◌≡◌, Bool, not, ◌||◌, List, ◌++◌}
use Rattle.std.specs.List.{filter}
use Rattle.path_model.specs.declared.outs.Out.{Out}
use Rattle.path_model.specs.Outs.{is_traced}
use Rattle.path_machine.specs.declared.telling.Telling.{Telling}

-- with a trace all is told, and without it what is not told in a trace alone
abbrev pub is_told : (trace : Bool) → Out → Bool
is_told trace out = not (is_traced out) || trace

-- from before to after these outs were told, as far as they are to be told
pub record TellsMore (before after : Telling) (outs : List Out) : Type 0 where
  pub same : after.trace ≡ before.trace
  pub behind : after.outs ≡ before.outs ++ filter (is_told before.trace) outs
