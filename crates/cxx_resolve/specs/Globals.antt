-- The variables outside the classes.
use Rattle.std.specs.Prelude.{ℕ, nat_le, if◌then◌else◌, Result, Ok, Err, List, length}
use Rattle.std.specs.List.{list_any}
use Rattle.std.specs.Str.{bytes_eq}
use Rattle.cxx_hierarchy.specs.declared.records.ClassId.{ClassId}
use Rattle.cxx_hierarchy.specs.declared.records.ValueType.{ValueType}
use Rattle.cxx_hierarchy.specs.declared.stop.Stop.{Stop}
use Rattle.cxx_hierarchy.specs.declared.stop.Stop.TheVariants.{Refused, Limit}
use Rattle.cxx_hierarchy.specs.declared.stop.LimitNo.TheVariants.{L3}
use Rattle.cxx_hierarchy.specs.declared.stop.Rule.TheVariants.{DuplicateMember}
use Rattle.cxx_hierarchy.specs.Classes.{Classes}
use Rattle.cxx_syntax.specs.declared.source_text.Global.{Global}
use Rattle.cxx_expression.specs.Values.{type_of}
use Rattle.cxx_expression.specs.declared.scene.Entry.{Entry}
use Rattle.cxx_resolve.specs.Stops.{◌>>>◌}
use Rattle.cxx_resolve.specs.Settled.{settle}

-- the most globals of a source
abbrev pub most_globals : ℕ
most_globals = 1024

abbrev pub global_entry : List Entry → Global → ValueType ClassId → Entry
global_entry before g ty = record { name = g.name; number = length before; ty = ty }

abbrev pub typed_global : Classes → List Entry → Global → Result Entry Stop
typed_global h before g = settle (type_of h g.ty g.ty_at) >>> λ ty. Ok (global_entry before g ty)

-- one variable more: at most 1,024 (L3), no two of one name (E7), and each of a type that the source defines (E3)
unfoldable pub global_of : Classes → List Entry → Global → Result Entry Stop
global_of h before g =
    if nat_le most_globals (length before) then Err (Limit L3)
    else if list_any (λ (e : Entry). bytes_eq e.name g.name) before then Err (Refused DuplicateMember g.at)
    else typed_global h before g
