-- A heap object whose whole is complete: no rule refuses a conversion of its pointer.
use Rattle.std.proofs.Common.{◌≡◌, ℕ, Bool, true, false, Some, ◌∷◌, refl, ap}
use Rattle.std.specs.Prelude.{slice_get}
use Rattle.std.specs.List.{list_any}
use Rattle.cxx_hierarchy.specs.declared.records.ClassId.{ClassId}
use Rattle.cxx_hierarchy.specs.Classes.{Classes}
use Rattle.cxx_hierarchy.specs.Hierarchies.{IsHierarchy}
use Rattle.cxx_program.specs.declared.operand.Conversion.{Conversion}
use Rattle.cxx_program.specs.declared.operand.Conversion.TheVariants.{Number as ToNumber, Bits as ToBits, Null as ToNull, Same as ToSame, Base as ToBase}
use Rattle.cxx_subobject.specs.Locations.{ObjectPart}
use Rattle.path_rules.specs.declared.Undefined.{Undefined}
use Rattle.path_rules.specs.declared.Undefined.TheVariants.{NullUse, Dangling, NotReady, OutsideView, Unset as UnsetUse, PureCall, BadDowncast, NonVirtualDelete, NotHeapObject, NotComplete, MissingReturn, Overflow}
use Rattle.path_plan.specs.Phases.{Complete, is_complete, is_ready}
use Rattle.path_plan.specs.Whole.{whole_part}
use Rattle.path_model.specs.Values.{Pointer, Objects}
use Rattle.path_model.specs.Uses.{Guards, convert, uses_of_view, is_shared}
use Rattle.path_model.specs.Rules.{breaks, is_broken, is_unready, is_outside}
use Rattle.path_model.specs.Typed.{AllSettled}
use Rattle.path_model.proofs.Facts.{whole_seen, not_unready}

-- a part that is ready and within the view
guarded : (h : Classes) (x : Objects) (q : ObjectPart) → is_unready x q ≡ false → is_outside h x q ≡ false → (shared : Bool) (rule : Undefined) → list_any (breaks h x rule) (Guards (Pointer q) ∷ uses_of_view shared (Pointer q)) ≡ false
guarded h x q ready within true NullUse = refl
guarded h x q ready within true Dangling = refl
guarded h x q ready within true NotReady = rw ready refl
guarded h x q ready within true OutsideView = rw within refl
guarded h x q ready within true UnsetUse = refl
guarded h x q ready within true PureCall = refl
guarded h x q ready within true BadDowncast = refl
guarded h x q ready within true NonVirtualDelete = refl
guarded h x q ready within true NotHeapObject = refl
guarded h x q ready within true NotComplete = refl
guarded h x q ready within true MissingReturn = refl
guarded h x q ready within true Overflow = refl
guarded h x q ready within false NullUse = refl
guarded h x q ready within false Dangling = refl
guarded h x q ready within false NotReady = rw ready refl
guarded h x q ready within false OutsideView = refl
guarded h x q ready within false UnsetUse = refl
guarded h x q ready within false PureCall = refl
guarded h x q ready within false BadDowncast = refl
guarded h x q ready within false NonVirtualDelete = refl
guarded h x q ready within false NotHeapObject = refl
guarded h x q ready within false NotComplete = refl
guarded h x q ready within false MissingReturn = refl
guarded h x q ready within false Overflow = refl

pub whole_converts : (h : Classes) → IsHierarchy h → (x : Objects) (k : ℕ) (d : ClassId) → AllSettled h x → slice_get x.classes k ≡ Some d → x.phases.phase (whole_part k d) ≡ Complete → (c : Conversion) (rule : Undefined) → is_broken h x (convert (Pointer (whole_part k d)) c) rule ≡ false
whole_converts h keeps x k d settled made complete (ToNumber t) rule = refl
whole_converts h keeps x k d settled made complete (ToBits t n) rule = refl
whole_converts h keeps x k d settled made complete ToNull rule = refl
whole_converts h keeps x k d settled made complete ToSame rule = refl
whole_converts h keeps x k d settled made complete (ToBase i) rule =
    let full : is_complete (x.phases.phase (whole_part k d)) ≡ true = ap is_complete complete in
    let ready : is_ready (x.phases.phase (whole_part k d)) ≡ true = ap is_ready complete in
    guarded h x (whole_part k d) (not_unready x (whole_part k d) full) (whole_seen h keeps x (whole_part k d) d (record { at = refl; owner = made; settled = settled k d made }) ready) (is_shared i) rule
