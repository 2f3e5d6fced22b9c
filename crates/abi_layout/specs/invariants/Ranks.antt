-- By what number the class subobjects of a base stand in an order in which most come.
use Rattle.std.specs.Prelude.{ℕ, ◌+◌, ◌-◌, ◌*◌}
use Rattle.abi_emptybase.specs.declared.Part.{Part}

-- a number that falls as the place rises and, at one place, as the number of the class falls
abbrev pub rank : Part → ℕ
rank part = (4294967295 - part.place) * 4294967296 + part.class
