-- Declarations of a name in the class of a subobject.
use Rattle.std.proofs.Common.{◌≡◌, ℕ, List, [], ◌∷◌, ◌++◌, sym, ◌∙◌, ap, subst, refl}
use Rattle.std.specs.Prelude.{Option, Some, None, slice_get, position, get_or}
use Rattle.std.specs.Option.{option_map}
use Rattle.std.specs.Str.{bytes_eq}
use Rattle.std.proofs.lemmas.Slice.Eq.{bytes_eq-Decides}
use Rattle.std.proofs.lemmas.Option.{slice_get-get_or}
use Rattle.std.proofs.lemmas.List.Quantifiers.{position-Some}
use Rattle.foundation.proofs.Places.{contains_at}
use Rattle.cxx_hierarchy.specs.declared.records.ClassId.{ClassId}
use Rattle.cxx_hierarchy.specs.declared.records.Member.{Member as MemberRecord}
use Rattle.cxx_hierarchy.specs.declared.records.Function.{Function as FunctionRecord}
use Rattle.cxx_hierarchy.specs.Classes.{Class, Classes, class_at, members_of, members_in, functions_of, functions_in}
use Rattle.cxx_hierarchy.specs.Hierarchies.{IsHierarchy}
use Rattle.cxx_subobject.specs.declared.Subobject.{Subobject}
use Rattle.cxx_subobject.specs.Subobjects.{class_of, subobject}
use Rattle.cxx_subobject.proofs.InsideLemmas.{copied}
use Rattle.cxx_lookup.specs.declared.Found.{Found}
use Rattle.cxx_lookup.specs.declared.Found.TheVariants.{Member, Function}
use Rattle.cxx_lookup.specs.Lookup.{name_in, name_of}
use Rattle.cxx_lookup.specs.invariants.Searches.{IsDeclaredAt}
use Rattle.cxx_lookup.proofs.Listing.{none_passes}

abbrev member_text : MemberRecord ClassId → List ℕ
member_text m = m.name

abbrev function_text : FunctionRecord ClassId → List ℕ
function_text f = f.name

-- there is an item of the name
record IsNamed {X : Type 0} (text : X → List ℕ) (o : Option X) (name : List ℕ) : Type 0 where
  item : X
  is : o ≡ Some item
  named : text item ≡ name

from_map : {X : Type 0} (text : X → List ℕ) (o : Option X) (name : List ℕ) → option_map text o ≡ Some name → IsNamed text o name
from_map text None name e = absurd (cc)
from_map text (Some x) name e = record { item = x; is = refl; named = cc }

-- the first item of a name has it
item_here : {X : Type 0} (text : X → List ℕ) (xs : List X) (name : List ℕ) (m : ℕ) → position (λ x. bytes_eq (text x) name) xs ≡ Some m → option_map text (slice_get xs m) ≡ Some name
item_here text [] name m found = absurd (cc)
item_here text (y ∷ ys) name m found =
    let p = position-Some (λ z. bytes_eq (text z) name) (y ∷ ys) m y found in
    ap (option_map text) (slice_get-get_or (y ∷ ys) m y p.0) ∙ ap Some ((bytes_eq-Decides (text (get_or (y ∷ ys) m y)) name).0 p.1)

item_nowhere : {X : Type 0} (text : X → List ℕ) (xs : List X) (name : List ℕ) → position (λ x. bytes_eq (text x) name) xs ≡ None → (m : ℕ) → option_map text (slice_get xs m) ≡ Some name → ⊥
item_nowhere text xs name none m e =
    let n = from_map text (slice_get xs m) name e in
    none_passes (λ x. bytes_eq (text x) name) xs m n.item none n.is ((bytes_eq-Decides (text n.item) name).1 n.named)

-- the name of a declaration, by the class of its subobject
member_name : (h : Classes) (s : Subobject) (d : ClassId) (m : ℕ) → class_of s ≡ Some d → name_of h (Member s m) ≡ option_map member_text (slice_get (members_of h d) m)
member_name h s d m class = ap (λ (o : Option ClassId). name_in h o (Member s m)) class

function_name : (h : Classes) (s : Subobject) (d : ClassId) (m : ℕ) → class_of s ≡ Some d → name_of h (Function s m) ≡ option_map function_text (slice_get (functions_of h d) m)
function_name h s d m class = ap (λ (o : Option ClassId). name_in h o (Function s m)) class

no_name : (h : Classes) (found : Found) (name : List ℕ) → name_in h None found ≡ Some name → ⊥
no_name h found name e = absurd (cc)

pub member_here : (h : Classes) (s t : Subobject) (d : ClassId) (class : Class) (members : List (MemberRecord ClassId)) (name : List ℕ) (m : ℕ) → t ≡ subobject s.root (s.path ++ []) → class_of s ≡ Some d → class_at h d ≡ Some class →
    members ≡ class.members → position (λ (x : MemberRecord ClassId). bytes_eq x.name name) members ≡ Some m → IsDeclaredAt h s name (Member t m)
member_here h s t d class members name m copy of_class at all found = subst (λ (z : Subobject). IsDeclaredAt h s name (Member z m)) (sym (copied s t copy)) (record {
  place = refl;
  named = member_name h s d m of_class ∙ ap (λ (o : Option Class). option_map member_text (slice_get (members_in o) m)) at
      ∙ ap (λ (xs : List (MemberRecord ClassId)). option_map member_text (slice_get xs m)) (sym all) ∙ item_here member_text members name m found;
})

pub function_here : (h : Classes) (s t : Subobject) (d : ClassId) (class : Class) (functions : List (FunctionRecord ClassId)) (name : List ℕ) (m : ℕ) → t ≡ subobject s.root (s.path ++ []) → class_of s ≡ Some d → class_at h d ≡ Some class →
    functions ≡ class.functions → position (λ (x : FunctionRecord ClassId). bytes_eq x.name name) functions ≡ Some m → IsDeclaredAt h s name (Function t m)
function_here h s t d class functions name m copy of_class at all found = subst (λ (z : Subobject). IsDeclaredAt h s name (Function z m)) (sym (copied s t copy)) (record {
  place = refl;
  named = function_name h s d m of_class ∙ ap (λ (o : Option Class). option_map function_text (slice_get (functions_in o) m)) at
      ∙ ap (λ (xs : List (FunctionRecord ClassId)). option_map function_text (slice_get xs m)) (sym all) ∙ item_here function_text functions name m found;
})

-- the same of the lists of a class
pub member_in_class : (h : Classes) (s : Subobject) (d : ClassId) (name : List ℕ) (m : ℕ) → class_of s ≡ Some d → position (λ (x : MemberRecord ClassId). bytes_eq x.name name) (members_of h d) ≡ Some m → IsDeclaredAt h s name (Member s m)
member_in_class h s d name m of_class found = record { place = refl; named = member_name h s d m of_class ∙ item_here member_text (members_of h d) name m found }

pub function_in_class : (h : Classes) (s : Subobject) (d : ClassId) (name : List ℕ) (m : ℕ) → class_of s ≡ Some d → position (λ (x : FunctionRecord ClassId). bytes_eq x.name name) (functions_of h d) ≡ Some m → IsDeclaredAt h s name (Function s m)
function_in_class h s d name m of_class found = record { place = refl; named = function_name h s d m of_class ∙ item_here function_text (functions_of h d) name m found }

pub nothing_in_class : (h : Classes) (s : Subobject) (d : ClassId) (name : List ℕ) → class_of s ≡ Some d → position (λ (x : MemberRecord ClassId). bytes_eq x.name name) (members_of h d) ≡ None →
    position (λ (x : FunctionRecord ClassId). bytes_eq x.name name) (functions_of h d) ≡ None → (found : Found) → IsDeclaredAt h s name found → ⊥
nothing_in_class h s d name of_class no_member no_function (Member t m) here = item_nowhere member_text (members_of h d) name no_member m (sym (member_name h t d m (ap class_of here.place ∙ of_class)) ∙ here.named)
nothing_in_class h s d name of_class no_member no_function (Function t m) here = item_nowhere function_text (functions_of h d) name no_function m (sym (function_name h t d m (ap class_of here.place ∙ of_class)) ∙ here.named)

-- no declaration, where no member and no function has the name
pub declared_nowhere : (h : Classes) (s : Subobject) (d : ClassId) (class : Class) (members : List (MemberRecord ClassId)) (functions : List (FunctionRecord ClassId)) (name : List ℕ) → class_of s ≡ Some d → class_at h d ≡ Some class →
    members ≡ class.members → position (λ (x : MemberRecord ClassId). bytes_eq x.name name) members ≡ None →
    functions ≡ class.functions → position (λ (x : FunctionRecord ClassId). bytes_eq x.name name) functions ≡ None →
    (found : Found) → IsDeclaredAt h s name found → ⊥
declared_nowhere h s d class members functions name of_class at all_members no_member all_functions no_function (Member t m) here =
    item_nowhere member_text members name no_member m
    (ap (λ (xs : List (MemberRecord ClassId)). option_map member_text (slice_get xs m)) all_members
    ∙ ap (λ (o : Option Class). option_map member_text (slice_get (members_in o) m)) (sym at)
    ∙ sym (member_name h t d m (ap class_of here.place ∙ of_class)) ∙ here.named)
declared_nowhere h s d class members functions name of_class at all_members no_member all_functions no_function (Function t m) here =
    item_nowhere function_text functions name no_function m
    (ap (λ (xs : List (FunctionRecord ClassId)). option_map function_text (slice_get xs m)) all_functions
    ∙ ap (λ (o : Option Class). option_map function_text (slice_get (functions_in o) m)) (sym at)
    ∙ sym (function_name h t d m (ap class_of here.place ∙ of_class)) ∙ here.named)

one_in_class : (h : Classes) → IsHierarchy h → (s : Subobject) (d : ClassId) (name : List ℕ) → class_of s ≡ Some d → (a b : Found) → IsDeclaredAt h s name a → IsDeclaredAt h s name b → a ≡ b
one_in_class h keeps s d name class (Member t m) (Member u k) a b =
    let x = from_map member_text (slice_get (members_of h d) m) name (sym (member_name h t d m (ap class_of a.place ∙ class)) ∙ a.named) in
    let y = from_map member_text (slice_get (members_of h d) k) name (sym (member_name h u d k (ap class_of b.place ∙ class)) ∙ b.named) in
    let number : m ≡ k = keeps.members d m k x.item y.item x.is y.is (x.named ∙ sym y.named) in
    let place : t ≡ u = a.place ∙ sym b.place in
    ap (λ (z : Subobject). let f : Found = Member z m in f) place ∙ ap (λ (n : ℕ). let f : Found = Member u n in f) number
one_in_class h keeps s d name class (Member t m) (Function u k) a b =
    let x = from_map member_text (slice_get (members_of h d) m) name (sym (member_name h t d m (ap class_of a.place ∙ class)) ∙ a.named) in
    let y = from_map function_text (slice_get (functions_of h d) k) name (sym (function_name h u d k (ap class_of b.place ∙ class)) ∙ b.named) in
    absurd (keeps.member_and_function d x.item y.item (contains_at (members_of h d) m x.item x.is) (contains_at (functions_of h d) k y.item y.is) (x.named ∙ sym y.named))
one_in_class h keeps s d name class (Function t m) (Member u k) a b =
    let x = from_map function_text (slice_get (functions_of h d) m) name (sym (function_name h t d m (ap class_of a.place ∙ class)) ∙ a.named) in
    let y = from_map member_text (slice_get (members_of h d) k) name (sym (member_name h u d k (ap class_of b.place ∙ class)) ∙ b.named) in
    absurd (keeps.member_and_function d y.item x.item (contains_at (members_of h d) k y.item y.is) (contains_at (functions_of h d) m x.item x.is) (y.named ∙ sym x.named))
one_in_class h keeps s d name class (Function t m) (Function u k) a b =
    let x = from_map function_text (slice_get (functions_of h d) m) name (sym (function_name h t d m (ap class_of a.place ∙ class)) ∙ a.named) in
    let y = from_map function_text (slice_get (functions_of h d) k) name (sym (function_name h u d k (ap class_of b.place ∙ class)) ∙ b.named) in
    let number : m ≡ k = keeps.functions d m k x.item y.item x.is y.is (x.named ∙ sym y.named) in
    let place : t ≡ u = a.place ∙ sym b.place in
    ap (λ (z : Subobject). let f : Found = Function z m in f) place ∙ ap (λ (n : ℕ). let f : Found = Function u n in f) number

pub nowhere : (h : Classes) (s : Subobject) (name : List ℕ) → class_of s ≡ None → (a : Found) → IsDeclaredAt h s name a → ⊥
nowhere h s name none (Member t m) a = no_name h (Member t m) name (ap (λ (o : Option ClassId). name_in h o (Member t m)) (sym (ap class_of a.place ∙ none)) ∙ a.named)
nowhere h s name none (Function t m) a = no_name h (Function t m) name (ap (λ (o : Option ClassId). name_in h o (Function t m)) (sym (ap class_of a.place ∙ none)) ∙ a.named)

-- a class declares a name once
pub one_declaration : (h : Classes) → IsHierarchy h → (s : Subobject) (name : List ℕ) (a b : Found) → IsDeclaredAt h s name a → IsDeclaredAt h s name b → a ≡ b
one_declaration h keeps s name a b at_a at_b = by (class_of s) refl
  where
    by : (o : Option ClassId) → class_of s ≡ o → a ≡ b
    by None e = absurd (nowhere h s name e a at_a)
    by (Some d) e = one_in_class h keeps s d name e a b at_a at_b
