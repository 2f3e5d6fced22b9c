-- How the answer is decided, by the entries of a view.
use Rattle.std.specs.Prelude.{ℕ, Bool, not, nat_eq, ◌&&◌, ◌||◌, if◌then◌else◌, Option, Some, None, List, [], ◌∷◌, filter}
use Rattle.abi_dyncast.specs.declared.parts.TypedPart.{TypedPart}
use Rattle.abi_dyncast.specs.declared.work.Found.{Found}
use Rattle.abi_dyncast.specs.declared.work.Entry.{Entry}

-- an entry of the target class; where `over`, one in which the source lies
abbrev pub is_candidate : ℕ → Bool → Entry → Bool
is_candidate target over e = nat_eq e.class target && (e.found.source || not over)

abbrev pub only_of : List Entry → Option Entry
only_of [] = None
only_of (x ∷ []) = Some x
only_of (x ∷ y ∷ xs) = None

abbrev pub only_candidate : List Entry → ℕ → Bool → Option Entry
only_candidate entries target over = only_of (filter (is_candidate target over) entries)

abbrev pub across_by : Option Entry → Found → Option TypedPart
across_by None found = None
across_by (Some e) found = if found.public_source && found.public_target then Some e.part else None

abbrev pub decide_by : Option Entry → Option Entry → Found → Option TypedPart
decide_by None all found = across_by all found
decide_by (Some e) all found = if e.found.public_source then Some e.part else across_by all found
