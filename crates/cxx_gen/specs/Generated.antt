-- The source that `gen N` runs, as a function of N.
use Rattle.std.specs.Prelude.{ℕ, ◌-◌, ◌%◌, ◌==◌, if◌then◌else◌, List, ◌++◌, codes}
use Rattle.std.specs.List.{flat_map, range_with_len}
use Rattle.std.specs.Fmt.{decimal}

-- the bases of class A<i>: the virtual base V, and where i is odd the class before it too
abbrev pub bases_text : ℕ → List ℕ
bases_text i = if i % 2 == 0 then codes "virtual V" else codes "A" ++ decimal (i - 1) ++ codes ", virtual V"

-- the line of class A<i>: its bases, one member, and a virtual function that returns i
abbrev pub class_line : ℕ → List ℕ
class_line i =
    codes "struct A" ++ decimal i ++ codes " : " ++ bases_text i ++ codes " { long x" ++ decimal i
    ++ codes "; virtual long f() { return " ++ decimal i ++ codes "; } };\n"

-- the line of main that makes an object of class A<i>, calls its function through a pointer to V, and prints the result
abbrev pub object_line : ℕ → List ℕ
object_line i = codes "q = new A" ++ decimal i ++ codes "; r = q->f(); print(r);\n"

-- the lines of the numbers below n, in turn
abbrev pub lines_below : (ℕ → List ℕ) → ℕ → List ℕ
lines_below line n = flat_map line (range_with_len 0 n)

-- the virtual base, n classes, two globals, and a main that makes one object of each class
abbrev pub generated : ℕ → List ℕ
generated n =
    codes "struct V { long v; virtual long f() { return 0; } };\n" ++ lines_below class_line n
    ++ codes "V* q;\nlong r;\nint main() {\n" ++ lines_below object_line n ++ codes "}\n"
