-- A body whose statements are a given list.
use Rattle.std.proofs.Common.{rules, ◌≡◌, ℕ, ◌<◌, ◌^◌, List, length, refl, arith}
use Rattle.std.specs.Global.{Global, Vec}
use denote.RawPtr.{null_ptr}
use Rattle.cxx_syntax.specs.declared.tree.Statement.{Statement}
use Rattle.cxx_syntax.specs.declared.tree.StatementKind.TheViews.{the_lemmas}
use Rattle.cxx_syntax.specs.declared.tree.BodyTree.{BodyTree, roll-BodyTree, out-BodyTree}

heap : Global
heap = record { memory = record { seal = tt } }

abbrev vector : (ss : List Statement) → length ss < 2 ^ 63 → Vec Statement
vector ss h = record { ptr = null_ptr; len = length ss; cap = length ss; alloc = heap; items = ss; ok = (refl, omega arith); small = h }

pub some_body : (ss : List Statement) → length ss < 2 ^ 63 → (line close : ℕ) → (b : BodyTree) × ((out-BodyTree b).statements.items ≡ ss) × ((out-BodyTree b).line ≡ line) × ((out-BodyTree b).close_line ≡ close)
some_body ss h line close = (roll-BodyTree (record { statements = vector ss h; line = line; close_line = close }), search (rules, the_lemmas), search (rules, the_lemmas), search (rules, the_lemmas))
