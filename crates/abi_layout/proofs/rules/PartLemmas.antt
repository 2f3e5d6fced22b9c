-- What the rules say of a class depends on the classes before it alone.
use Rattle.std.proofs.Common.{◌≡◌, ℕ, ◌*◌, ◌<◌, Bool, false, Option, Some, None, List, [], ◌∷◌, ◌++◌, map, length, refl, ap, subst, sym, ◌∙◌, append_assoc}
use Rattle.std.specs.Prelude.{not, ◌&&◌, ◌==◌, if◌then◌else◌}
use Rattle.std.specs.List.{slice_get, Contains}
use Rattle.std.proofs.lemmas.List.{append-nil}
use Rattle.cxx_hierarchy.specs.declared.records.ClassId.{ClassId}
use Rattle.cxx_hierarchy.specs.declared.records.Member.{Member}
use Rattle.cxx_hierarchy.specs.declared.records.FieldType.{FieldType}
use Rattle.cxx_hierarchy.specs.declared.records.FieldType.TheVariants.{Value, Object}
use Rattle.cxx_hierarchy.specs.Classes.{Class, Classes, class_at, members_of, members_in as named_members}
use Rattle.abi_emptybase.specs.declared.Part.{Part}
use Rattle.abi_emptybase.specs.Table.{moved_part}
use Rattle.abi_primary.proofs.KindLemmas.{same_all}
use Rattle.abi_layout.specs.declared.component.Component.{Component}
use Rattle.abi_layout.specs.declared.component.Stage.{Stage}
use Rattle.abi_sound.specs.declared.class_layout.ClassLayout.{ClassLayout}
use Rattle.abi_sound.specs.Places.{size_in_row, align_in, nvalign_in}
use Rattle.abi_layout.specs.Kinds.{pod_kind, has_virtual_function, is_implicit, is_pod_type}
use Rattle.abi_layout.specs.Placements.{copies, elements_of, nvsize_in, size_of_member_type, align_of_type, parts_of_type, member_component, member_components, parts_at, stage_after, stage_after_all}
use Rattle.abi_layout.specs.invariants.Known.{IsMemberType, IsEarlierType, AreEarlier}
use Rattle.abi_layout.proofs.lists.Lists.{has_here, has_later}

pub same_map : {X Y : Type 0} (f g : X → Y) (xs : List X) → ((x : X) → Contains xs x → f x ≡ g x) → map f xs ≡ map g xs
same_map f g [] each = refl
same_map f g (x ∷ xs) each = let a = each x (has_here x xs) in let b = same_map f g xs (λ y h. each y (has_later x xs y h)) in cc

-- two tests that agree on the classes of smaller numbers
pod_type_agrees : (n : ℕ) (f g : ClassId → Bool) (type : FieldType ClassId) → IsEarlierType n type → ((d : ClassId) → d.0 < n → f d ≡ g d) → is_pod_type f type ≡ is_pod_type g type
pod_type_agrees n f g (Value type) earlier agree = refl
pod_type_agrees n f g (Object d) earlier agree = agree d earlier

pub pod_agrees : (n : ℕ) (f g : ClassId → Bool) (class : Class) → AreEarlier n class → ((d : ClassId) → d.0 < n → f d ≡ g d) → pod_kind f class ≡ pod_kind g class
pod_agrees n f g class earlier agree =
    ap (λ b. (length class.bases == 0) && (not (has_virtual_function class) && (not class.has_constructor && (is_implicit class.destructor && b))))
    (same_all (λ (member : Member ClassId). member.is_public && is_pod_type f member.ty) (λ (member : Member ClassId). member.is_public && is_pod_type g member.ty) class.members
    (λ member has. ap (λ b. member.is_public && b) (pod_type_agrees n f g member.ty (earlier.objects member has) agree)))

-- what two layouts, and what is said of the parts of classes, agree on
pub record Agree (h : Classes) (n : ℕ) (rows others : List ClassLayout) (parts brought : ClassId → List Part) : Type 0 where
  pub row : (d : ClassId) → d.0 < n → slice_get rows d.0 ≡ slice_get others d.0
  pub of_class : (d : ClassId) → d.0 < n → IsMemberType h d → parts d ≡ brought d

abbrev pub base_made : Bool → Option ClassLayout → List Part → Component
base_made empty row parts = record { is_empty = empty; align = nvalign_in row; takes = if empty then size_in_row row else nvsize_in row; width = None; parts = parts }

abbrev pub member_made : Option ℕ → ℕ → ℕ → ℕ → List Part → Component
member_made width count size align parts = record { is_empty = false; align = align; takes = count * size; width = width; parts = copies count size parts }

pub members_agree : (h : Classes) (n : ℕ) (rows others : List ClassLayout) (parts brought : ClassId → List Part) (owner : ClassId) (class : Class) → class_at h owner ≡ Some class → AreEarlier n class → Agree h n rows others parts brought
    → member_components rows parts class ≡ member_components others brought class
members_agree h n rows others parts brought owner class there earlier agree = same_map (member_component rows parts) (member_component others brought) class.members (λ member has. one member (subst (λ (o : Option Class). Contains (named_members o) member) (sym there) has) (earlier.objects member has))
  where
    size : (type : FieldType ClassId) → IsEarlierType n type → size_of_member_type rows type ≡ size_of_member_type others type
    size (Value type) e = refl
    size (Object d) e = ap size_in_row (agree.row d e)

    align : (type : FieldType ClassId) → IsEarlierType n type → align_of_type rows type ≡ align_of_type others type
    align (Value type) e = refl
    align (Object d) e = ap align_in (agree.row d e)

    of_type : (member : Member ClassId) → Contains (members_of h owner) member → (type : FieldType ClassId) → member.ty ≡ type → IsEarlierType n type → parts_of_type parts type ≡ parts_of_type brought type
    of_type member has (Value type) is e = refl
    of_type member has (Object d) is e = agree.of_class d e (record { owner = owner; member = member; listed = has; type = is })

    one : (member : Member ClassId) → Contains (members_of h owner) member → IsEarlierType n member.ty → member_component rows parts member ≡ member_component others brought member
    one member has e =
        ap (λ s. member_made member.width (elements_of member.count) s (align_of_type rows member.ty) (parts_of_type parts member.ty)) (size member.ty e)
        ∙ (ap (λ a. member_made member.width (elements_of member.count) (size_of_member_type others member.ty) a (parts_of_type parts member.ty)) (align member.ty e)
        ∙ ap (member_made member.width (elements_of member.count) (size_of_member_type others member.ty) (align_of_type others member.ty)) (of_type member has member.ty refl e))

-- the parts of a stage are those before, and what the components bring
pub stage_parts : (stage : Stage) (cs : List Component) (ps : List ℕ) → (stage_after_all stage cs ps).parts ≡ stage.parts ++ parts_at cs ps
stage_parts stage [] ps = sym (append-nil stage.parts)
stage_parts stage (c ∷ cs) [] = sym (append-nil stage.parts)
stage_parts stage (c ∷ cs) (p ∷ ps) = stage_parts (stage_after stage c p) cs ps ∙ append_assoc stage.parts (map (moved_part p) c.parts) (parts_at cs ps)
