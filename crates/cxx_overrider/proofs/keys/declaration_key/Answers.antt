use Rattle.std.proofs.Common.{◌≡◌, ◌<◌, List, subst, sym}
use Rattle.std.specs.List.{Contains}
use Rattle.cxx_hierarchy.specs.declared.records.ClassId.{ClassId}
use Rattle.cxx_hierarchy.specs.declared.records.Param.{Param}
use Rattle.cxx_hierarchy.specs.declared.records.ValueType.TheVariants.{Pointer}
use Rattle.cxx_overrider.proofs.keys.declaration_key.Goals as goal

pub push_types-requires : goal.push_types-requires
push_types-requires c = subst (λ (ps : List (Param ClassId)). (x : ClassId) (p : Param ClassId) → Contains ps p → p.ty ≡ Pointer x → x.0 < 1024) (sym c.as_slice-params.ensures) c.requires.known
