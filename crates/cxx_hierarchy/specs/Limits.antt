-- The limits on what a source declares.
use Rattle.std.specs.Prelude.{ℕ}

-- the classes of a source
abbrev pub most_classes : ℕ
most_classes = 1024

-- the direct bases of a class
abbrev pub most_bases : ℕ
most_bases = 64

-- the members, functions, constructors and destructors that a class declares
abbrev pub most_declared : ℕ
most_declared = 1024

-- the parameters of a function
abbrev pub most_parameters : ℕ
most_parameters = 16

-- the elements of an array
abbrev pub most_elements : ℕ
most_elements = 4096
