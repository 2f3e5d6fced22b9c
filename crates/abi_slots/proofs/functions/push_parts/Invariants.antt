use Rattle.std.proofs.Common.{◌≡◌, ◌++◌, map, drop}
use Rattle.std.specs.List.{filter_map}
use Rattle.cxx_hierarchy.specs.declared.records.PartAt.{PartAt}
use Rattle.cxx_overrider.specs.Virtuals.{function_at, index_of}
use Rattle.abi_slots.proofs.functions.push_parts.Given as goal

abbrev pub invariant-loop-part : goal.invariant-loop-part
invariant-loop-part l = l.list.items ++ map (function_at l.c) (filter_map (λ (part : PartAt). index_of l.class part.kind part.number) (drop l.part-index l.parts)) ≡ l.initial.list.items ++ map (function_at l.c) (filter_map (λ (part : PartAt). index_of l.class part.kind part.number) l.parts)
