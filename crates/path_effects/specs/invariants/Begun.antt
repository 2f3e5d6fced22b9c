-- A value that names a part which has begun.
use Rattle.path_model.specs.Values.{Value, Unset, Number, Null, Pointer, Objects}
use Rattle.path_heap.specs.Stands.{HasBegun}

-- the part that the value names has begun, if it names one
abbrev pub IsBegun : Objects → Value → Type 0
IsBegun s Unset = Unit {0}
IsBegun s (Number z) = Unit {0}
IsBegun s Null = Unit {0}
IsBegun s (Pointer p) = HasBegun s p
