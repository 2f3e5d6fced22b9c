-- What is known where the uses of a statement break no rule: what it guards is ready, and so is what its paths pass through.
use Rattle.std.specs.Prelude.{is_none}
use Rattle.std.proofs.Common.{◌≡◌, true, false, Option, Some, None, List, [], ◌∷◌, ◌++◌, inl, inr, refl, ap, subst, sym, ◌∙◌}
use Rattle.foundation.proofs.Truth.{split, not_both}
use Rattle.foundation.proofs.Members.{Has, has_left, has_right}
use Rattle.foundation.proofs.Chosen.{any_has}
use Rattle.cxx_hierarchy.specs.declared.records.ClassId.{ClassId}
use Rattle.cxx_hierarchy.specs.Classes.{Classes}
use Rattle.cxx_subobject.specs.declared.Subobject.{Subobject}
use Rattle.cxx_subobject.specs.Subobjects.{IsSubobject, class_of, whole_of, same_subobject}
use Rattle.cxx_subobject.proofs.TreeLemmas.{subobject_same, same_itself}
use Rattle.cxx_subobject.proofs.InsideLemmas.{join_whole}
use Rattle.cxx_subobject.specs.Locations.{ObjectPart}
use Rattle.cxx_program.specs.declared.statement.PassedMember.{PassedMember}
use Rattle.cxx_program.specs.Typed.{IsPath}
use Rattle.path_rules.specs.declared.Undefined.{Undefined}
use Rattle.path_rules.specs.declared.Undefined.TheVariants.{NotReady}
use Rattle.path_plan.specs.Places.{part}
use Rattle.path_plan.specs.Phases.{is_ready}
use Rattle.path_plan.specs.Views.{Settled}
use Rattle.path_plan.proofs.Uses.{complete_ready}
use Rattle.path_model.specs.Values.{Pointer, Objects, inner_part}
use Rattle.path_model.specs.Places.{passed_part}
use Rattle.path_model.specs.Uses.{StatementUse, Guards, Passes, is_shared, uses_of_view, path_uses}
use Rattle.path_model.specs.Rules.{breaks, is_broken, refused, is_clear, IsLeast}
use Rattle.path_model.proofs.Least.{refused_least}
use Rattle.path_model.proofs.Facts.{base_done, ready_of}
use Rattle.path_model.proofs.TypedUses.{unbroken}
use Rattle.path_heap.specs.Stands.{HasBegun}
use Rattle.path_values.specs.Open.{OpensTo, IsOpen}

none_least : (h : Classes) (s : Objects) (us vs : List StatementUse) → refused h s us ≡ None → ((u : StatementUse) → Has vs u → Has us u) → (o : Option Undefined) → IsLeast (is_broken h s vs) o → o ≡ None
none_least h s us vs clear inside None least = refl
none_least h s us vs clear inside (Some r) least =
    let a = any_has (breaks h s r) vs least.0 in
    absurd (not_both a.passes (unbroken h s us clear a.item (inside a.item a.has) r))

-- uses among those that break no rule break none
pub clear_among : (h : Classes) (s : Objects) (us vs : List StatementUse) → refused h s us ≡ None → ((u : StatementUse) → Has vs u → Has us u) → refused h s vs ≡ None
clear_among h s us vs clear inside = none_least h s us vs clear inside (refused h s vs) (refused_least h s vs)

pub clear_front : (h : Classes) (s : Objects) (us vs : List StatementUse) → refused h s (us ++ vs) ≡ None → refused h s us ≡ None
clear_front h s us vs clear = clear_among h s (us ++ vs) us clear (λ u has. has_left us vs u has)

pub clear_back : (h : Classes) (s : Objects) (us vs : List StatementUse) → refused h s (us ++ vs) ≡ None → refused h s vs ≡ None
clear_back h s us vs clear = clear_among h s (us ++ vs) vs clear (λ u has. has_right us vs u has)

pub clear_rest : (h : Classes) (s : Objects) (u : StatementUse) (us : List StatementUse) → refused h s (u ∷ us) ≡ None → refused h s us ≡ None
clear_rest h s u us clear = clear_among h s (u ∷ us) us clear (λ v has. inr has)

pub is_clear_by : (h : Classes) (s : Objects) (us : List StatementUse) → refused h s us ≡ None → is_clear h s us ≡ true
is_clear_by h s us clear = ap is_none clear

-- a part that is ready has begun
pub ready_begun : (s : Objects) (p : ObjectPart) → is_ready (s.phases.phase p) ≡ true → HasBegun s p
ready_begun s p ready = λ raw. let f : false ≡ true = sym (ap is_ready raw) ∙ ready in absurd (cc)

-- what is guarded is ready
pub guarded : (h : Classes) (s : Objects) (us : List StatementUse) → refused h s us ≡ None → (p : ObjectPart) → Has us (Guards (Pointer p)) → is_ready (s.phases.phase p) ≡ true
guarded h s us clear p has = ready_of s p (unbroken h s us clear (Guards (Pointer p)) has NotReady)

-- and so is what is passed through
pub passed_ready : (h : Classes) (s : Objects) (us : List StatementUse) → refused h s us ≡ None → (p : ObjectPart) → Has us (Passes p) → is_ready (s.phases.phase p) ≡ true
passed_ready h s us clear p has = ready_of s p (unbroken h s us clear (Passes p) has NotReady)

-- the bases of a part that is ready are ready
pub inner_ready : (h : Classes) (s : Objects) (p : ObjectPart) (c : ClassId) (i : Subobject) → class_of p.at ≡ Some c → Settled h p.object s.phases → IsSubobject h c i → is_ready (s.phases.phase p) ≡ true → is_ready (s.phases.phase (inner_part p i)) ≡ true
inner_ready h s p c i class settled valid ready = split (same_subobject i (whole_of c)) (λ _. is_ready (s.phases.phase (inner_part p i)) ≡ true)
    (λ e. subst (λ (x : ObjectPart). is_ready (s.phases.phase x) ≡ true) (sym (ap (inner_part p) (subobject_same i (whole_of c) e) ∙ ap (λ (x : Subobject). part p.object p.owner x) (join_whole p.at c))) ready)
    (λ e. complete_ready (s.phases.phase (inner_part p i))
    (base_done h s p c i class settled valid (λ same. not_both (same_itself (whole_of c)) (ap (λ (x : Subobject). same_subobject x (whole_of c)) (sym same) ∙ e)) ready))

-- a subobject of what is ready has begun with it
pub opens_to : (h : Classes) (s : Objects) (p : ObjectPart) (c : ClassId) (i : Subobject) → class_of p.at ≡ Some c → Settled h p.object s.phases → IsSubobject h c i → is_ready (s.phases.phase p) ≡ true → OpensTo h s p c i
opens_to h s p c i class settled valid ready = record {
  begun = ready_begun s p ready;
  of_class = class;
  valid = valid;
  inner_begun = ready_begun s (inner_part p i) (inner_ready h s p c i class settled valid ready);
}

-- a path can be followed from what is ready
pub path_open : (h : Classes) (s : Objects) (p : ObjectPart) (c : ClassId) (xs : List PassedMember) (last : Subobject) → class_of p.at ≡ Some c → Settled h p.object s.phases → IsPath h c xs last → is_ready (s.phases.phase p) ≡ true
    → refused h s (path_uses p xs last) ≡ None → IsOpen h s p c xs last
path_open h s p c [] last class settled path ready clear = opens_to h s p c last class settled path ready
path_open h s p c (x ∷ rest) last class settled path ready clear =
    let v = uses_of_view (is_shared x.base) (Pointer p) in
    let q = passed_part p x in
    let behind = clear_back h s v (Passes q ∷ path_uses q rest last) clear in (
      opens_to h s p c x.base class settled path.0.valid ready,
      path.0,
      path_open h s q x.class rest last refl settled path.1 (passed_ready h s (Passes q ∷ path_uses q rest last) behind q (inl refl)) (clear_rest h s (Passes q) (path_uses q rest last) behind),
    )
