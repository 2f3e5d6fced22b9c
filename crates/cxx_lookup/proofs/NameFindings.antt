-- What a name finds, as a function.
use Rattle.std.proofs.Common.{◌≡◌, ℕ, inl, ⊎_elim, true, Option, Some, None, List, [], ◌∷◌, refl, ap, subst, sym, ◌∙◌}
use Rattle.std.specs.Prelude.{filter, position}
use Rattle.std.specs.Str.{bytes_eq}
use Rattle.foundation.proofs.Members.{Has}
use Rattle.foundation.proofs.Chosen.{has_filter, filter_has, has_filter_map, from_filter_map, any_has, has_any, all_each, each_all}
use Rattle.foundation.proofs.Greatest.{IsHigh, IsOrderOn, top_or_two}
use Rattle.cxx_hierarchy.specs.declared.records.ClassId.{ClassId}
use Rattle.cxx_hierarchy.specs.declared.records.Member.{Member as MemberRecord}
use Rattle.cxx_hierarchy.specs.declared.records.Function.{Function as FunctionRecord}
use Rattle.cxx_hierarchy.specs.Classes.{Classes, members_of, functions_of}
use Rattle.cxx_hierarchy.specs.Hierarchies.{IsHierarchy}
use Rattle.cxx_subobject.specs.declared.Subobject.{Subobject}
use Rattle.cxx_subobject.specs.Subobjects.{IsSubobject, class_of, join, same_subobject}
use Rattle.cxx_subobject.specs.Inside.{IsInside}
use Rattle.cxx_subobject.specs.Preorder.{preorder}
use Rattle.cxx_subobject.proofs.TreeLemmas.{preorder_has, has_preorder, subobject_same, same_itself}
use Rattle.cxx_subobject.proofs.InsideLemmas.{inside_itself, inside_through, inside_back}
use Rattle.cxx_subobject.proofs.DecidingLemmas.{decide_inside}
use Rattle.cxx_lookup.specs.declared.Found.{Found}
use Rattle.cxx_lookup.specs.declared.Found.TheVariants.{Member, Function}
use Rattle.cxx_lookup.specs.Lookup.{place_of_found, IsDeclared, Remains, IsFound, TwoRemain}
use Rattle.cxx_lookup.specs.Findings.{Finding, finds_none, finds_one, finds_more, declared_as, declared_in, declaration_at, declarations_of, is_joined, is_inside, contains_all_found, among, found_by, IsNameFinding}
use Rattle.cxx_lookup.specs.invariants.Searches.{IsDeclaredAt}
use Rattle.cxx_lookup.proofs.Named.{one_declaration, member_in_class, function_in_class, nothing_in_class, nowhere}

-- the test of containment
pub inside_tested : (h : Classes) → IsHierarchy h → (s t : Subobject) → IsInside h s t → is_inside h s t ≡ true
inside_tested h keeps s t k = subst (λ (o : Option ClassId). is_joined h s t o ≡ true) (sym k.of_class)
    (has_any (λ part. same_subobject t (join s part)) (preorder h k.class) k.part (preorder_has h k.class keeps k.part k.valid) (subst (λ (x : Subobject). same_subobject t x ≡ true) k.joined (same_itself t)))

joined_inside : (h : Classes) (s t : Subobject) (o : Option ClassId) → class_of s ≡ o → is_joined h s t o ≡ true → IsInside h s t
joined_inside h s t None e test = cc
joined_inside h s t (Some d) e test =
    let k = any_has (λ part. same_subobject t (join s part)) (preorder h d) test in
    record { class = d; of_class = e; part = k.item; valid = has_preorder h d k.item k.has; joined = subobject_same t (join s k.item) k.passes }

pub tested_inside : (h : Classes) (s t : Subobject) → is_inside h s t ≡ true → IsInside h s t
tested_inside h s t test = joined_inside h s t (class_of s) refl test

-- what a class declares under a name
declared_here : (h : Classes) (name : List ℕ) (s : Subobject) (d : ClassId) (found : Found) → class_of s ≡ Some d → declared_in h name s (Some d) ≡ Some found → IsDeclaredAt h s name found
declared_here h name s d found e is = by_places (position (λ (m : MemberRecord ClassId). bytes_eq m.name name) (members_of h d)) (position (λ (f : FunctionRecord ClassId). bytes_eq f.name name) (functions_of h d)) refl refl is
  where
    by_places : (m f : Option ℕ) → position (λ (x : MemberRecord ClassId). bytes_eq x.name name) (members_of h d) ≡ m → position (λ (x : FunctionRecord ClassId). bytes_eq x.name name) (functions_of h d) ≡ f → declared_as s m f ≡ Some found → IsDeclaredAt h s name found
    by_places (Some m) f a b same = let g : Member s m ≡ found = cc in subst (IsDeclaredAt h s name) g (member_in_class h s d name m e a)
    by_places None (Some f) a b same = let g : Function s f ≡ found = cc in subst (IsDeclaredAt h s name) g (function_in_class h s d name f e b)
    by_places None None a b same = cc

pub declaration_is : (h : Classes) (name : List ℕ) (s : Subobject) (found : Found) → declaration_at h name s ≡ Some found → IsDeclaredAt h s name found
declaration_is h name s found is = by_class (class_of s) refl is
  where
    by_class : (o : Option ClassId) → class_of s ≡ o → declared_in h name s o ≡ Some found → IsDeclaredAt h s name found
    by_class None e k = cc
    by_class (Some d) e k = declared_here h name s d found e k

-- one is declared where some is
record HasDeclaration (h : Classes) (name : List ℕ) (s : Subobject) : Type 0 where
  found : Found
  is : declaration_at h name s ≡ Some found

declared_there : (h : Classes) (name : List ℕ) (s : Subobject) (found : Found) → IsDeclaredAt h s name found → HasDeclaration h name s
declared_there h name s found at = by_declaration (declaration_at h name s) refl
  where
    by_class : (o : Option ClassId) → class_of s ≡ o → declared_in h name s o ≡ None → ⊥
    by_class None e none = nowhere h s name e found at
    by_class (Some d) e none = by_places (position (λ (x : MemberRecord ClassId). bytes_eq x.name name) (members_of h d)) (position (λ (x : FunctionRecord ClassId). bytes_eq x.name name) (functions_of h d)) refl refl none
      where
        by_places : (m f : Option ℕ) → position (λ (x : MemberRecord ClassId). bytes_eq x.name name) (members_of h d) ≡ m → position (λ (x : FunctionRecord ClassId). bytes_eq x.name name) (functions_of h d) ≡ f → declared_as s m f ≡ None → ⊥
        by_places (Some m) f a b same = cc
        by_places None (Some f) a b same = cc
        by_places None None a b same = nothing_in_class h s d name e a b found at

    by_declaration : (o : Option Found) → declaration_at h name s ≡ o → HasDeclaration h name s
    by_declaration None e = absurd (by_class (class_of s) refl e)
    by_declaration (Some x) e = record { found = x; is = e }

-- the list of the declarations
pub listed_declared : (h : Classes) (c : ClassId) (name : List ℕ) (found : Found) → Has (declarations_of h c name) found → IsDeclared h c name found
listed_declared h c name found has =
    let k = from_filter_map (declaration_at h name) (preorder h c) found has in
    let at = declaration_is h name k.0 found k.2 in
    record { valid = subst (λ (x : Subobject). IsSubobject h c x) (sym at.place) (has_preorder h c k.0 k.1); named = at.named }

pub declared_listed : (h : Classes) → IsHierarchy h → (c : ClassId) (name : List ℕ) (found : Found) → IsDeclared h c name found → Has (declarations_of h c name) found
declared_listed h keeps c name found k =
    let at : IsDeclaredAt h (place_of_found found) name found = record { place = refl; named = k.named } in
    let there = declared_there h name (place_of_found found) found at in
    let one : there.found ≡ found = one_declaration h keeps (place_of_found found) name there.found found (declaration_is h name (place_of_found found) there.found there.is) at in
    has_filter_map (declaration_at h name) (preorder h c) (place_of_found found) found (preorder_has h c keeps (place_of_found found) k.valid) (there.is ∙ ap (λ (x : Found). Some x) one)

-- two declarations of which each lies in the other are one
same_found : (h : Classes) → IsHierarchy h → (c : ClassId) (name : List ℕ) (x y : Found) → IsDeclared h c name x → IsDeclared h c name y → IsInside h (place_of_found x) (place_of_found y) → IsInside h (place_of_found y) (place_of_found x) → x ≡ y
same_found h keeps c name x y dx dy xy yx =
    let place = inside_back h (place_of_found x) (place_of_found y) keeps xy yx in
    one_declaration h keeps (place_of_found y) name x y (record { place = place; named = dx.named }) (record { place = refl; named = dy.named })

-- an order of the declarations of a list
abbrev IsOver : Classes → Found → Found → Type 0
IsOver h x y = IsInside h (place_of_found x) (place_of_found y)

declaration_order : (h : Classes) → IsHierarchy h → (c : ClassId) (name : List ℕ) → IsOrderOn (IsDeclared h c name) (IsOver h) (declarations_of h c name)
declaration_order h keeps c name = record {
  has = λ x listed. inl (listed_declared h c name x listed);
  over = λ x y dx dy. decide_inside h keeps c (place_of_found x) (place_of_found y) dx.valid dy.valid;
  itself = λ x dx. inside_itself h c (place_of_found x) dx.valid;
  through = λ x y z a b. inside_through h (place_of_found x) (place_of_found y) (place_of_found z) a b;
}

top_found : (h : Classes) → IsHierarchy h → (c : ClassId) (name : List ℕ) (top : Found) → IsDeclared h c name top → ((y : Found) → IsDeclared h c name y → IsOver h top y) → IsFound h c name top
top_found h keeps c name top d over = record {
  remains = record { declared = d; unhidden = λ y dy inside. same_found h keeps c name y top dy d inside (over y dy) };
  only = λ y r. sym (r.unhidden top d (over y r.declared));
}

high_remains : (h : Classes) → IsHierarchy h → (c : ClassId) (name : List ℕ) (x : Found) → IsHigh (IsDeclared h c name) (IsOver h) (declarations_of h c name) x → Remains h c name x
high_remains h keeps c name x k = record {
  declared = k.is;
  unhidden = λ y dy inside. same_found h keeps c name y x dy k.is inside (k.high y (declared_listed h keeps c name y dy) dy inside);
}

-- by the two lists
module _ (h : Classes) (keeps : IsHierarchy h) (c : ClassId) (name : List ℕ) where
  all : List Found
  all = declarations_of h c name

  over_all : (top : Found) → contains_all_found h (declarations_of h c name) top ≡ true → (y : Found) → IsDeclared h c name y → IsOver h top y
  over_all top test y d = tested_inside h (place_of_found top) (place_of_found y) (all_each (λ other. is_inside h (place_of_found top) (place_of_found other)) (declarations_of h c name) test y (declared_listed h keeps c name y d))

  all_over : (top : Found) → ((y : Found) → IsDeclared h c name y → IsOver h top y) → contains_all_found h (declarations_of h c name) top ≡ true
  all_over top over = each_all (λ other. is_inside h (place_of_found top) (place_of_found other)) (declarations_of h c name) (λ y listed. inside_tested h keeps (place_of_found top) (place_of_found y) (over y (listed_declared h c name y listed)))

  two_remain : (start : Found) → Has (declarations_of h c name) start → ((top : Found) → Has (declarations_of h c name) top → contains_all_found h (declarations_of h c name) top ≡ true → ⊥) → TwoRemain h c name
  two_remain start has none = ⊎_elim
      (λ k. absurd (none k.0 (declared_listed h keeps c name k.0 k.1.is) (all_over k.0 (λ y d. k.1.all y (declared_listed h keeps c name y d) d))))
      (λ two. record {
        one = two.one;
        other = two.other;
        one_remains = high_remains h keeps c name two.one two.one_high;
        other_remains = high_remains h keeps c name two.other two.other_high;
        differ = λ e. two.apart (subst (λ (x : Found). IsOver h two.one x) e (inside_itself h c (place_of_found two.one) two.one_high.is.valid));
      })
      (top_or_two (IsDeclared h c name) (IsOver h) (declarations_of h c name) (declaration_order h keeps c name) start (listed_declared h c name start has))

  by_lists : (list tops : List Found) → declarations_of h c name ≡ list → filter (contains_all_found h (declarations_of h c name)) (declarations_of h c name) ≡ tops → IsNameFinding h c name (among list tops)
  by_lists [] tops e f = λ x d. subst (λ (xs : List Found). Has xs x) e (declared_listed h keeps c name x d)
  by_lists (one ∷ rest) [] e f = two_remain one (subst (λ (xs : List Found). Has xs one) (sym e) (inl refl))
      (λ top listed test. subst (λ (xs : List Found). Has xs top) f (filter_has (contains_all_found h (declarations_of h c name)) (declarations_of h c name) top listed test))
  by_lists (one ∷ rest) (top ∷ tops) e f =
      let k = has_filter (contains_all_found h (declarations_of h c name)) (declarations_of h c name) top (subst (λ (xs : List Found). Has xs top) (sym f) (inl refl)) in
      top_found h keeps c name top (listed_declared h c name top k.0) (over_all top k.1)

  pub name_is : IsNameFinding h c name (found_by h c name)
  name_is = by_lists (declarations_of h c name) (filter (contains_all_found h (declarations_of h c name)) (declarations_of h c name)) refl refl

-- two findings are one
same_name : (h : Classes) (c : ClassId) (name : List ℕ) (f g : Finding Found) → IsNameFinding h c name f → IsNameFinding h c name g → f ≡ g
same_name h c name finds_none finds_none a b = refl
same_name h c name finds_none (finds_one x) a b = absurd (a x b.remains.declared)
same_name h c name finds_none finds_more a b = absurd (a b.one b.one_remains.declared)
same_name h c name (finds_one x) finds_none a b = absurd (b x a.remains.declared)
same_name h c name (finds_one x) (finds_one y) a b = ap finds_one (b.only x a.remains)
same_name h c name (finds_one x) finds_more a b = absurd (b.differ (a.only b.one b.one_remains ∙ sym (a.only b.other b.other_remains)))
same_name h c name finds_more finds_none a b = absurd (b a.one a.one_remains.declared)
same_name h c name finds_more (finds_one x) a b = absurd (a.differ (b.only a.one a.one_remains ∙ sym (b.only a.other a.other_remains)))
same_name h c name finds_more finds_more a b = refl

pub name_only : (h : Classes) → IsHierarchy h → (c : ClassId) (name : List ℕ) (f : Finding Found) → IsNameFinding h c name f → f ≡ found_by h c name
name_only h keeps c name f is = same_name h c name f (found_by h c name) is (name_is h keeps c name)
