use Rattle.std.proofs.Common.{subst, sym, refl, None, ◌≡◌, List, inl, inr}
use Rattle.cxx_program.specs.declared.statement.TypedRight.{TypedRight}
use Rattle.cxx_program.specs.declared.statement.TypedRight.TheVariants.{TypeEqual}
use Rattle.path_model.specs.Values.{value_of_operand}
use Rattle.path_model.specs.Places.{leaf_value, address_value}
use Rattle.path_model.specs.Uses.{StatementUse, convert, place_uses, leaf_uses, cast_uses, cast_value, right_uses}
use Rattle.path_model.specs.Rules.{refused, is_clear}
use Rattle.path_model.specs.Effects.{right_side_value}
use Rattle.path_heap.specs.Stands.{Means}
use Rattle.path_effects.proofs.Clear.{clear_front}
use Rattle.path_effects.proofs.Telling.{where_ok}
use Rattle.path_effects.proofs.Meaning.{guard_begun}
use Rattle.path_effects.proofs.Forms.{compares, reads, addresses, casting}
use Rattle.path_effects.proofs.rights.side_value.Goals as goal

pub returns-in-SamePointer-clause-is : goal.returns-in-SamePointer-clause-is
returns-in-SamePointer-clause-is c = λ e s t k scene seen has clear.
    let h = c.args.world.now.h.now in
    let is = c.in-SamePointer.is in
    let r = compares h e c.args.right.now t has c.in-SamePointer.differ c.in-SamePointer.a c.in-SamePointer.b is in
    subst (λ (x : TypedRight). Means h s.objects.classes c.compared.result (right_side_value h s x)) (sym is)
    (c.compared.ensures e s r.class scene seen r.one r.other (subst (λ (x : TypedRight). refused h s.objects (right_uses h (is_clear h s.objects) s x k) ≡ None) is clear))

pub returns-in-Read-clause-is : goal.returns-in-Read-clause-is
returns-in-Read-clause-is c = λ e s t k scene seen has clear.
    let h = c.args.world.now.h.now in
    let is = c.in-Read.is in
    let place = c.in-Read.place in
    let us : List StatementUse = place_uses s place in
    let both = subst (λ (x : TypedRight). refused h s.objects (right_uses h (is_clear h s.objects) s x k) ≡ None) is clear in
    subst (λ (x : TypedRight). Means h s.objects.classes c.leaf_value.result (right_side_value h s x)) (sym is)
    (c.leaf_value.ensures e s t scene seen (reads h e c.args.right.now t has place is) (clear_front h s.objects us (leaf_uses (is_clear h s.objects us) (leaf_value s place (value_of_operand s place.pointer)) k) both))

pub returns-in-Address-clause-is : goal.returns-in-Address-clause-is
returns-in-Address-clause-is c = λ e s t k scene seen has clear.
    let h = c.args.world.now.h.now in
    let is = c.in-Address.is in
    let place = c.in-Address.place in
    let d = c.in-Address.field-1 in
    let us : List StatementUse = place_uses s place in
    let both = subst (λ (x : TypedRight). refused h s.objects (right_uses h (is_clear h s.objects) s x k) ≡ None) is clear in
    subst (λ (x : TypedRight). Means h s.objects.classes c.address_value.result (right_side_value h s x)) (sym is)
    (c.address_value.ensures e s d scene seen (addresses h e c.args.right.now t has place d is) (clear_front h s.objects us (convert (address_value place d (value_of_operand s place.pointer)) k) both))

pub returns-in-Cast-clause-is : goal.returns-in-Cast-clause-is
returns-in-Cast-clause-is c = where_ok c.cast_value.result _ _ (λ v told e s t k scene seen has clear.
    let h = c.args.world.now.h.now in
    let is = c.in-Cast.is in
    let cast = c.in-Cast.cast in
    let x = c.in-Cast.x in
    let r = casting h e c.args.right.now t has cast x is in
    let us : List StatementUse = cast_uses cast (value_of_operand s x) in
    let both = subst (λ (y : TypedRight). refused h s.objects (right_uses h (is_clear h s.objects) s y k) ≡ None) is clear in
    subst (λ (y : TypedRight). Means h s.objects.classes v (right_side_value h s y)) (sym is)
    (told e s r.from r.to scene seen r.pointer r.casts (clear_front h s.objects us (convert (cast_value h s.objects cast (value_of_operand s x)) k) both))) c.cast_value.ensures.is

pub returns-in-TypeEqual-clause-is : goal.returns-in-TypeEqual-clause-is
returns-in-TypeEqual-clause-is c = λ e s t k scene seen has clear.
    let h = c.args.world.now.h.now in
    let is = c.in-TypeEqual.is in
    let x = c.in-TypeEqual.x in
    let v = value_of_operand s x in
    let us : List StatementUse = right_uses h (is_clear h s.objects) s (TypeEqual x c.in-TypeEqual.d) k in
    let all = subst (λ (y : TypedRight). refused h s.objects (right_uses h (is_clear h s.objects) s y k) ≡ None) is clear in
    subst (λ (y : TypedRight). Means h s.objects.classes c.type_equal.result (right_side_value h s y)) (sym is)
    (c.type_equal.ensures h s.objects v scene.heap_stands (c.value-in-TypeEqual.ensures h c.args.heap.now s scene) (guard_begun h s.objects us all v (inr (inr (inl refl)))))
