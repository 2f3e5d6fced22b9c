-- The numbers of commands.
use Rattle.std.specs.Prelude.{◌≤◌}
use Rattle.cxxabi_words.specs.Commands.{most_asked_classes}
use Rattle.cxxabi_words.specs.declared.command.Command.{Command}
use Rattle.cxxabi_words.specs.declared.command.Command.TheVariants.{Run, Paths, Gen, Array, Foreign}
use Rattle.foundation.specs.Limits.{most_steps}
use Rattle.cxx_hierarchy.specs.Limits.{most_elements}

-- the numbers of a command are within their limits
abbrev pub HasFew : Command → Type 0
HasFew (Run n trace) = (1 ≤ n) × (n ≤ most_steps)
HasFew (Paths n) = (1 ≤ n) × (n ≤ most_steps)
HasFew (Gen n) = (1 ≤ n) × (n ≤ most_asked_classes)
HasFew (Array class n) = (1 ≤ n) × (n ≤ most_elements)
HasFew (Foreign n) = (1 ≤ n) × (n ≤ most_steps)
HasFew other = Unit {0}
