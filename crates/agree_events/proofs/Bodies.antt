-- A plan has one body, if any: what is left behind it.
use Rattle.std.proofs.Common.{◌≡◌, ℕ, inl, inr, ⊎_elim, Bool, true, false, Option, Some, None, List, [], ◌∷◌, ◌++◌, length, append_assoc, refl, ap, subst, sym, ◌∙◌}
use Rattle.std.specs.Prelude.{slice_get, if◌then◌else◌}
use Rattle.std.specs.List.{flat_map}
use Rattle.cxx_hierarchy.specs.declared.records.ClassId.{ClassId}
use Rattle.cxx_hierarchy.specs.declared.records.Base.{Base}
use Rattle.cxx_hierarchy.specs.declared.records.Member.{Member}
use Rattle.cxx_hierarchy.specs.declared.records.FieldType.{FieldType}
use Rattle.cxx_hierarchy.specs.declared.records.FieldType.TheVariants.{Value, Object}
use Rattle.cxx_hierarchy.specs.Classes.{bases_of, members_of}
use Rattle.cxx_hierarchy.specs.Declarations.{elements_of}
use Rattle.foundation.proofs.Truth.{split}
use Rattle.foundation.proofs.Members.{Has, has_cases, has_right, from_flat_map}
use Rattle.path_plan.specs.declared.form.Form.{Form}
use Rattle.path_plan.specs.declared.form.Form.TheVariants.{InFull, AsBase}
use Rattle.path_plan.specs.Plans.{upto, backwards, virtual_order}
use Rattle.code_blocks.specs.Blocks.{items, behind_body}
use Rattle.code_blocks.specs.Items.{Item, Does, Shares, Inherits, Holds, shared_base_items, base_items, init_items, body_items, typed_items, member_items}
use Rattle.code_blocks.specs.Lowered.{IsEnd}
use Rattle.code_blocks.specs.declared.items.Kind.{Kind}
use Rattle.code_blocks.specs.declared.items.Kind.TheVariants.{AtBegin, AtReady, AtInit, AtBody, AtDone, AtEnding, AtBases, AtEnd}
use Rattle.code_blocks.specs.declared.items.Way.{Way}
use Rattle.code_blocks.specs.declared.items.Way.TheVariants.{Forwards, Backwards}
use Rattle.code_ops.specs.Setups.{Setup}
use Rattle.code_ops.specs.declared.routines.Course.{Course}
use Rattle.code_ops.specs.declared.routines.Course.TheVariants.{Constructs, Destroys, Deletes}
use Rattle.agree_relation.specs.Frames.{awaits_body}
use Rattle.agree_events.proofs.Left.{bodies_in}

abbrev HasBody : List Item → Type 0
HasBody xs = Has xs (Does AtBody)

pub awaits_has : (xs : List Item) → awaits_body xs ≡ true → HasBody xs
awaits_has [] e = absurd (cc)
awaits_has (Does AtBegin ∷ xs) e = inr (awaits_has xs e)
awaits_has (Does AtReady ∷ xs) e = inr (awaits_has xs e)
awaits_has (Does (AtInit m) ∷ xs) e = inr (awaits_has xs e)
awaits_has (Does AtBody ∷ xs) e = inl refl
awaits_has (Does AtDone ∷ xs) e = inr (awaits_has xs e)
awaits_has (Does AtEnding ∷ xs) e = inr (awaits_has xs e)
awaits_has (Does AtBases ∷ xs) e = inr (awaits_has xs e)
awaits_has (Does AtEnd ∷ xs) e = inr (awaits_has xs e)
awaits_has (Shares v ∷ xs) e = inr (awaits_has xs e)
awaits_has (Inherits b ∷ xs) e = inr (awaits_has xs e)
awaits_has (Holds way m d n ∷ xs) e = inr (awaits_has xs e)

none_awaited : (xs : List Item) → (HasBody xs → ⊥) → awaits_body xs ≡ false
none_awaited xs none = split (awaits_body xs) (λ b. awaits_body xs ≡ b → b ≡ false) (λ _ e. absurd (none (awaits_has xs e))) (λ _ e. refl) refl

-- in a list with one body
behind_is : (xs ys before left : List Item) (b : Bool) → (HasBody xs → ⊥) → (HasBody ys → ⊥) → before ++ Does AtBody ∷ left ≡ xs ++ (body_items b ++ ys) → (b ≡ true) × (left ≡ ys)
behind_is [] ys [] left true no_first no_last e = (refl, cc)
behind_is [] ys (i ∷ before) left true no_first no_last e = let rest : before ++ Does AtBody ∷ left ≡ ys = cc in absurd (no_last (subst (λ (zs : List Item). HasBody zs) rest (has_right before (Does AtBody ∷ left) (Does AtBody) (inl refl))))
behind_is [] ys before left false no_first no_last e = absurd (no_last (subst (λ (zs : List Item). HasBody zs) e (has_right before (Does AtBody ∷ left) (Does AtBody) (inl refl))))
behind_is (x ∷ xs) ys [] left b no_first no_last e = let same : x ≡ Does AtBody = cc in absurd (no_first (inl same))
behind_is (x ∷ xs) ys (i ∷ before) left b no_first no_last e = let rest : before ++ Does AtBody ∷ left ≡ xs ++ (body_items b ++ ys) = cc in behind_is xs ys before left b (λ has. no_first (inr has)) no_last rest

-- parts and other events are no bodies

none_both : (xs ys : List Item) → (HasBody xs → ⊥) → (HasBody ys → ⊥) → HasBody (xs ++ ys) → ⊥
none_both xs ys first last has = ⊎_elim (λ a. first a) (λ b. last b) (has_cases xs ys (Does AtBody) has)

none_shared : (form : Form) (order : List ClassId) → HasBody (shared_base_items form order) → ⊥
none_shared AsBase order has = has
none_shared InFull [] has = has
none_shared InFull (v ∷ order) has = ⊎_elim (λ e. cc) (λ more. none_shared InFull order more) has

none_base : (b : Base ClassId) → HasBody (base_items b) → ⊥
none_base b = split b.is_virtual (λ t. HasBody (if t then [] else Inherits b ∷ []) → ⊥) (λ e has. has) (λ e has. ⊎_elim (λ f. cc) (λ more. more) has)

none_bases : (bs : List (Base ClassId)) → HasBody (flat_map base_items bs) → ⊥
none_bases bs has = let r = from_flat_map base_items bs (Does AtBody) has in none_base r.0 r.2

none_init : (b : Bool) (m : ℕ) → HasBody (init_items b m) → ⊥
none_init true m has = ⊎_elim (λ e. let kinds : AtInit m ≡ AtBody = cc in cc (kinds)) (λ more. more) has
none_init false m has = has

none_typed : (b : Bool) (way : Way) (m n : ℕ) (ty : FieldType ClassId) → HasBody (typed_items b way m n ty) → ⊥
none_typed b way m n (Value type) has = none_init b m has
none_typed b way m n (Object d) has = ⊎_elim (λ e. cc) (λ more. more) has

none_member : (b : Bool) (way : Way) (m : ℕ) (o : Option (Member ClassId)) → HasBody (member_items b way m o) → ⊥
none_member b way m None has = has
none_member b way m (Some member) has = none_typed b way m (elements_of member.count) member.ty has

none_members : (x : Setup) (c : ClassId) (b : ℕ → Bool) (way : Way) (ms : List ℕ) → HasBody (flat_map (λ m. member_items (b m) way m (slice_get (members_of x.h c) m)) ms) → ⊥
none_members x c b way ms has = let r = from_flat_map (λ m. member_items (b m) way m (slice_get (members_of x.h c) m)) ms (Does AtBody) has in none_member (b r.0) way r.0 (slice_get (members_of x.h c) r.0) r.2

none_event : (k : Kind) (xs : List Item) → (k ≡ AtBody → ⊥) → (HasBody xs → ⊥) → HasBody (Does k ∷ xs) → ⊥
none_event k xs other none has = ⊎_elim (λ e. other (let f : Does k ≡ Does AtBody = e in cc (f))) (λ more. none more) has

split_list : (i j : Item) (as_ bs ms ys : List Item) → i ∷ (as_ ++ (bs ++ (j ∷ (ms ++ ys)))) ≡ (i ∷ (as_ ++ (bs ++ (j ∷ ms)))) ++ ys
split_list i j as_ bs ms ys = simp append_assoc

-- behind the body of a constructor only the end is left
pub constructor_left : (x : Setup) (form : Form) (c : ClassId) (left : List Item) → IsEnd x Constructs form c (Does AtBody ∷ left) → left ≡ Does AtDone ∷ []
constructor_left x form c left end =
    let shared = shared_base_items form (virtual_order x.h c) in
    let bases = flat_map base_items (bases_of x.h c) in
    let members = flat_map (λ m. member_items ((bodies_in x).initializer c m) Forwards m (slice_get (members_of x.h c) m)) (upto (length (members_of x.h c))) in
    (behind_is (Does AtBegin ∷ (shared ++ (bases ++ (Does AtReady ∷ members)))) (Does AtDone ∷ []) end.before left ((bodies_in x).constructor c)
    (none_event AtBegin _ (λ e. cc) (none_both shared _ (none_shared form (virtual_order x.h c)) (none_both bases _ (none_bases (bases_of x.h c)) (none_event AtReady members (λ e. cc) (none_members x c ((bodies_in x).initializer c) Forwards (upto (length (members_of x.h c))))))))
    (none_event AtDone [] (λ e. cc) (λ has. has))
    (end.is ∙ split_list (Does AtBegin) (Does AtReady) shared bases members (body_items ((bodies_in x).constructor c) ++ Does AtDone ∷ []))).1

abbrev behind_destructor : Setup → Form → ClassId → List Item
behind_destructor x form c =
    flat_map (λ m. member_items false Backwards m (slice_get (members_of x.h c) m)) (backwards (upto (length (members_of x.h c))))
    ++ (Does AtBases ∷ (flat_map base_items (backwards (bases_of x.h c)) ++ (shared_base_items form (backwards (virtual_order x.h c)) ++ Does AtEnd ∷ [])))

none_behind : (x : Setup) (form : Form) (c : ClassId) → HasBody (behind_destructor x form c) → ⊥
none_behind x form c = none_both (flat_map (λ m. member_items false Backwards m (slice_get (members_of x.h c) m)) (backwards (upto (length (members_of x.h c))))) _ (none_members x c (λ m. false) Backwards (backwards (upto (length (members_of x.h c)))))
    (none_event AtBases _ (λ e. cc) (none_both (flat_map base_items (backwards (bases_of x.h c))) _ (none_bases (backwards (bases_of x.h c)))
    (none_both (shared_base_items form (backwards (virtual_order x.h c))) _ (none_shared form (backwards (virtual_order x.h c))) (none_event AtEnd [] (λ e. cc) (λ has. has)))))

destructor_behind : (x : Setup) (form : Form) (c : ClassId) (before left : List Item) → before ++ Does AtBody ∷ left ≡ Does AtEnding ∷ (body_items ((bodies_in x).destructor c) ++ behind_destructor x form c) → ((bodies_in x).destructor c ≡ true) × (left ≡ behind_destructor x form c)
destructor_behind x form c before left e = behind_is (Does AtEnding ∷ []) (behind_destructor x form c) before left ((bodies_in x).destructor c) (none_event AtEnding [] (λ f. cc) (λ has. has)) (none_behind x form c) e

behind_with : (b : Bool) (ys : List Item) → b ≡ true → behind_body (Does AtEnding ∷ (body_items b ++ ys)) ≡ ys
behind_with true ys e = refl
behind_with false ys e = absurd (cc)

-- behind that of a destructor the members, and what follows them
pub destructor_left : (x : Setup) (form : Form) (c : ClassId) (left : List Item) → IsEnd x Destroys form c (Does AtBody ∷ left) → left ≡ behind_body (items x Destroys form c)
destructor_left x form c left end = let r = destructor_behind x form c end.before left end.is in r.1 ∙ sym (behind_with ((bodies_in x).destructor c) (behind_destructor x form c) r.0)

pub deleting_left : (x : Setup) (form : Form) (c : ClassId) (left : List Item) → IsEnd x Deletes form c (Does AtBody ∷ left) → left ≡ behind_body (items x Deletes form c)
deleting_left x form c left end = let r = destructor_behind x form c end.before left end.is in r.1 ∙ sym (behind_with ((bodies_in x).destructor c) (behind_destructor x form c) r.0)

-- and no body
pub body_once : (x : Setup) (course : Course) (form : Form) (c : ClassId) (left : List Item) → IsEnd x course form c (Does AtBody ∷ left) → awaits_body left ≡ false
body_once x Constructs form c left end = ap awaits_body (constructor_left x form c left end)
body_once x Destroys form c left end = none_awaited left (λ has. none_behind x form c (subst (λ (zs : List Item). HasBody zs) (destructor_behind x form c end.before left end.is).1 has))
body_once x Deletes form c left end = none_awaited left (λ has. none_behind x form c (subst (λ (zs : List Item). HasBody zs) (destructor_behind x form c end.before left end.is).1 has))
