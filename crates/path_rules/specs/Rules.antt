-- The numbers of the rules that refuse a step.
use Rattle.std.specs.Prelude.{ℕ}
use Rattle.path_rules.specs.declared.Undefined.{Undefined}
use Rattle.path_rules.specs.declared.Undefined.TheVariants.{NullUse, Dangling, NotReady, OutsideView, Unset, PureCall, BadDowncast, NonVirtualDelete, NotHeapObject, NotComplete, MissingReturn, Overflow}

-- the number of a rule, as the text `undefined U<no> <Name> line <n>` has it
abbrev pub undefined_no : Undefined → ℕ
undefined_no NullUse = 1
undefined_no Dangling = 2
undefined_no NotReady = 3
undefined_no OutsideView = 4
undefined_no Unset = 5
undefined_no PureCall = 6
undefined_no BadDowncast = 7
undefined_no NonVirtualDelete = 8
undefined_no NotHeapObject = 9
undefined_no NotComplete = 10
undefined_no MissingReturn = 11
undefined_no Overflow = 12
