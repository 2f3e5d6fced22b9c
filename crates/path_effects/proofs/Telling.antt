-- What is told of parts and views.
use Rattle.std.proofs.Common.{◌≡◌, ℕ, Option, None, List, [], ◌∷◌, ◌++◌, inl, inr, refl, ap, sym, ◌∙◌}
use Rattle.std.specs.Prelude.{IfOk, OnOk, Result, Ok, Err, option_map}
use Rattle.path_plan.specs.Places.{part}
use Rattle.cxx_hierarchy.specs.declared.records.ClassId.{ClassId}
use Rattle.cxx_hierarchy.specs.Classes.{Classes}
use Rattle.cxx_subobject.specs.declared.Subobject.{Subobject}
use Rattle.cxx_subobject.specs.Subobjects.{class_of}
use Rattle.cxx_subobject.specs.Locations.{ObjectPart}
use Rattle.path_numbers.specs.Sizes.{sizes_of}
use Rattle.path_numbers.proofs.Heap.{at_good}
use Rattle.path_model.specs.declared.outs.Out.{Out}
use Rattle.path_model.specs.Values.{Value, Unset, Number, Null, Pointer, Objects}
use Rattle.path_model.specs.Outs.{class_or_first}
use Rattle.path_model.specs.Uses.{StatementUse, Reads, Guards, Views, arrow, view_of}
use Rattle.path_model.specs.Rules.{refused}
use Rattle.path_model.specs.Steps.{class_of_part}
use Rattle.path_model.specs.Effects.{part_out, view_out, class_out, typeid_class, type_out}
use Rattle.path_heap.specs.declared.state.NumberedPart.{NumberedPart}
use Rattle.path_heap.specs.declared.state.Value.TheVariants.{Pointer as PointerCode}
use Rattle.path_heap.specs.Points.{Points, PointsView, StandsForPart}
use Rattle.path_heap.specs.Stands.{HasBegun, Means}
use Rattle.path_effects.proofs.Clear.{ready_begun, guarded}

-- what holds where a call succeeds
pub where_ok : {T E : Type 0} (r : Result T E) (P Q : T → Type 0) → ((t : T) → P t → Q t) → IfOk r P → IfOk r Q
where_ok (Ok t) P Q f a = f t a
where_ok (Err e) P Q f a = tt

pub when_ok : {T E : Type 0} (r : Result T E) (P Q : Type 0) → (P → Q) → OnOk r P → OnOk r Q
when_ok (Ok t) P Q f a = f a
when_ok (Err e) P Q f a = tt

-- the class of a part by its number
pub part_class : (h : Classes) (classes : List ClassId) (code : NumberedPart) (p : ObjectPart) → StandsForPart h classes code p → code.class ≡ class_of_part p
part_class h classes code p a =
    sym a.is_class ∙ sym (ap class_or_first (sym (ap (λ (t : ObjectPart). class_of t.at) a.is_part) ∙ (at_good h (sizes_of h) classes a.node a.at).class))

-- the view of a part that is asked for
pub view_is_told : (h : Classes) (s : Objects) (n : ℕ) (v : Option ℕ) (out : Option Out) → ((p : ObjectPart) (x : Option Subobject) → PointsView h s.classes p v x → out ≡ part_out s (option_map (part p.object p.owner) x))
    → ((p : ObjectPart) → Points h s.classes n p → HasBegun s p → PointsView h s.classes p v (view_of h s p)) → (w : Value) → Means h s.classes (PointerCode n) w → refused h s (Reads w ∷ Guards w ∷ Views w ∷ []) ≡ None → out ≡ view_out h s w
view_is_told h s n v out told seen Unset m clear = absurd m
view_is_told h s n v out told seen (Number z) m clear = absurd m
view_is_told h s n v out told seen Null m clear = absurd m
view_is_told h s n v out told seen (Pointer p) m clear =
    let us : List StatementUse = Reads (Pointer p) ∷ Guards (Pointer p) ∷ Views (Pointer p) ∷ [] in
    told p (view_of h s p) (seen p m (ready_begun s p (guarded h s us clear p (inr (inl refl)))))

-- the class of the view
pub type_is_told : (h : Classes) (s : Objects) (n : ℕ) (c : Option ClassId) → ((p : ObjectPart) → Points h s.classes n p → HasBegun s p → c ≡ typeid_class h s p) → (w : Value) → Means h s.classes (PointerCode n) w
    → refused h s (arrow w ++ Views w ∷ []) ≡ None → class_out c ≡ type_out h s w
type_is_told h s n c told Unset m clear = absurd m
type_is_told h s n c told (Number z) m clear = absurd m
type_is_told h s n c told Null m clear = absurd m
type_is_told h s n c told (Pointer p) m clear =
    let us : List StatementUse = arrow (Pointer p) ++ Views (Pointer p) ∷ [] in
    ap class_out (told p m (ready_begun s p (guarded h s us clear p (inr (inr (inl refl))))))
