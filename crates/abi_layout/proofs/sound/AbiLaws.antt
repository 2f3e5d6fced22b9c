-- A layout by the rules is sound.
use Rattle.std.proofs.Common.{List, length}
use Rattle.cxx_hierarchy.specs.Classes.{Classes}
use Rattle.cxx_hierarchy.specs.Hierarchies.{IsHierarchy}
use Rattle.abi_sound.specs.declared.class_layout.ClassLayout.{ClassLayout}
use Rattle.abi_layout.specs.Refusals.{IsWellLaid}
use Rattle.abi_layout.specs.AbiLayouts.{IsAbiLayout}
use Rattle.abi_layout.proofs.rules.AlignedRows.{rows_aligned}
use Rattle.abi_layout.proofs.sound.ObjectLaws.{rules_are_sound}

pub is_abi_layout : (h : Classes) (rows : List ClassLayout) → IsHierarchy h → IsWellLaid h (length h) rows → IsAbiLayout h rows
is_abi_layout h rows keeps well = record { laid = well; sound = rules_are_sound h rows keeps well; aligned = rows_aligned h rows well.nearly well.primaries keeps well.by }
