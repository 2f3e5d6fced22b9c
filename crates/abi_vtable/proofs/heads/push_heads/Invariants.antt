use Rattle.std.proofs.Common.{◌≡◌, ◌++◌, drop}
use Rattle.cxx_hierarchy.specs.Classes.{Classes}
use Rattle.cxx_subobject.specs.Preorder.{preorder}
use Rattle.abi_sound.specs.Places.{Places}
use Rattle.abi_vtable.specs.invariants.Parts.{AreKeptParts, view_of_parts, subobjects_numbered, heads_of_root}
use Rattle.abi_vtable.proofs.heads.push_heads.Given as goal

abbrev pub invariant-loop-n : goal.invariant-loop-n
invariant-loop-n l = (h : Classes) (p : Places) → AreKeptParts h p l.x → subobjects_numbered (preorder h l.x.class) l.heads.items ++ heads_of_root h p (view_of_parts l.x) l.root (drop l.n l.parts) ≡ subobjects_numbered (preorder h l.x.class) l.initial.heads.items ++ heads_of_root h p (view_of_parts l.x) l.root l.parts
