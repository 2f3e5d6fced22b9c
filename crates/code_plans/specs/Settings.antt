-- The settings of the virtual pointers of a class, as lists.
use Rattle.std.specs.Prelude.{◌≡◌, List, map, filter}
use Rattle.cxx_hierarchy.specs.declared.records.ClassId.{ClassId}
use Rattle.cxx_subobject.specs.declared.Subobject.{Subobject}
use Rattle.cxx_subobject.specs.Preorder.{preorder}
use Rattle.path_plan.specs.declared.form.Form.{Form}
use Rattle.path_plan.specs.declared.form.Form.TheVariants.{InFull, AsBase}
use Rattle.byte_code.specs.declared.op.Setting.{Setting}
use Rattle.code_ops.specs.Setups.{Setup}
use Rattle.code_blocks.specs.Blocks.{is_set_apart, setting_by}
use Rattle.code_plans.specs.declared.pointers.ClassPointers.{ClassPointers}

-- a setting for each of these subobjects that is set apart
abbrev pub settings_of : Setup → Form → ClassId → List Subobject → List Setting
settings_of x form c list = map (λ (i : Subobject). setting_by x form c i i.root) (filter (is_set_apart x) list)

-- those of all subobjects, for a complete object and for a base
pub record ArePointers (x : Setup) (c : ClassId) (pointers : ClassPointers) : Type 0 where
  pub in_full : pointers.in_full ≡ settings_of x InFull c (preorder x.h c)
  pub as_base : pointers.as_base ≡ settings_of x AsBase c (preorder x.h c)
