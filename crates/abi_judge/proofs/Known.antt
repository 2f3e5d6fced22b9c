-- What is known of rows under judgement: numbers are small, classes before are known too, and places fit.
use Rattle.std.proofs.Common.{◌≡◌, ℕ, ◌*◌, ◌^◌, ◌<◌, ◌≤◌, Some, List, [], ◌∷◌, length, get_or, ap, sym, ◌∙◌, arith}
use Rattle.std.specs.List.{slice_get}
use Rattle.std.proofs.lemmas.Nat.{mul-le}
use Rattle.cxx_hierarchy.specs.declared.records.ClassId.{ClassId}
use Rattle.cxx_hierarchy.specs.declared.records.FieldType.TheVariants.{Object}
use Rattle.cxx_hierarchy.specs.declared.records.Member.{Member}
use Rattle.cxx_hierarchy.specs.Classes.{Class, Classes, class_at, members_in, members_of}
use Rattle.cxx_hierarchy.specs.Hierarchies.{IsHierarchy}
use Rattle.foundation.proofs.Places.{contains_at, get_read}
use Rattle.cxx_subobject.specs.declared.Subobject.{Subobject}
use Rattle.cxx_subobject.specs.Subobjects.{Leads, IsSubobject, whole, shared}
use Rattle.cxx_subobject.proofs.PathLemmas.{base_before, virtual_below}
use Rattle.abi_judge.specs.declared.draft.Draft.{Draft}
use Rattle.abi_judge.specs.invariants.Drafts.{AreDraftRows, IsDraftTo}

-- what is known of a class is known of those before it
pub draft_lower : (draft : Draft) (c d : ClassId) → IsDraftTo draft c → d.0 ≤ c.0 → IsDraftTo draft d
draft_lower draft c d known low = let lt = known.known in record { is = known.is; known = omega (arith, lt, low); held = λ e le. known.held e (omega (arith, le, low)) }

-- each class has a row
pub row_known : (draft : Draft) → AreDraftRows draft → (c : ClassId) → c.0 < length draft.h.now → c.0 < length draft.rows.now
row_known draft is c known = let all = is.full.one_each in omega (arith, all, known)

-- a member object is of a class before
pub object_before : (h : Classes) → IsHierarchy h → (d b : ClassId) (m : ℕ) (member : Member ClassId) → slice_get (members_of h d) m ≡ Some member → member.ty ≡ Object b → b.0 < d.0
object_before h keeps d b m member there is = keeps.objects d b member (contains_at (members_of h d) m member there) is

-- so many elements take few bytes
pub few_bytes : (i count size : ℕ) → i < count → count < 2 ^ 32 → size ≤ 1048576 → i * size ≤ 2 ^ 52
few_bytes i count size lt few small =
    let most : i ≤ 2 ^ 32 = omega arith in
    let both : i * size ≤ 2 ^ 32 * 1048576 = mul-le i size (2 ^ 32) 1048576 most small in
    both

leads_short : (h : Classes) → IsHierarchy h → (c : ClassId) (path : List ClassId) → Leads h c path → length path ≤ c.0
leads_short h keeps c [] leads = omega arith
leads_short h keeps c (b ∷ path) leads =
    let r = leads_short h keeps b path leads.1 in
    let low = base_before h keeps c b _ leads.0 in omega (arith, r, low)

-- a path has no more classes than the hierarchy
pub path_short : (h : Classes) → IsHierarchy h → (c : ClassId) (s : Subobject) → c.0 < length h → IsSubobject h c s → length s.path ≤ length h
path_short h keeps c _ known (whole path leads) = let r = leads_short h keeps c path leads in omega (arith, r, known)
path_short h keeps c _ known (shared v path has leads) = let r = leads_short h keeps v path leads in let low = virtual_below h keeps c v has in omega (arith, r, low, known)

-- the member that a walk over a class's members meets
pub record IsMet (h : Classes) (d : ClassId) (m : ℕ) (member : Member ClassId) : Type 0 where
  pub there : slice_get (members_of h d) m ≡ Some member
  pub few : m < 1024

pub member_met : (h : Classes) → IsHierarchy h → (d : ClassId) (class : Class) (list : List (Member ClassId)) (m : ℕ) (member : Member ClassId) → class_at h d ≡ Some class → list ≡ class.members → m < length list → member ≡ get_or list m member → IsMet h d m member
member_met h keeps d class list m member there listed lt is =
    let all : list ≡ members_of h d = listed ∙ sym (ap members_in there) in
    let most = keeps.few_members d in
    let same : length list ≡ length (members_of h d) = ap (λ (l : List (Member ClassId)). length l) all in
    record {
      there = ap (λ (l : List (Member ClassId)). slice_get l m) (sym all) ∙ get_read list m member lt is;
      few = omega (arith, lt, most, same);
    }
