-- Orders of parts that grow, for the layers that make records, and the part of each number.
use Rattle.std.proofs.Common.{◌≡◌, ℕ, zero, suc, ◌+◌, ◌<◌, Bool, true, false, not, cond, List, [], ◌∷◌, ◌++◌, map, take, refl, ap, sym, ◌∙◌, arith, subst, subst₂, length, length-append}
use Rattle.std.specs.Prelude.{Some, filter, slice_get, if◌then◌else◌, ◌||◌}
use Rattle.std.specs.List.{range_with_len, list_any}
use Rattle.std.proofs.lemmas.Option.{slice_get-get_or}
use Rattle.std.proofs.lemmas.List.FromFn.{length-range_with_len, get_or-range_with_len}
use Rattle.std.proofs.lemmas.List.Elements.{filter-append}
use Rattle.std.proofs.lemmas.List.Folds.{list_any-append}
use Rattle.std.proofs.lemmas.List.{map-append}
use Rattle.foundation.proofs.Truth.{split, is_false, not_both}
use Rattle.foundation.proofs.Members.{has_at, index_of}
use Rattle.foundation.proofs.Chosen.{has_filter}
use Rattle.cxx_hierarchy.specs.declared.records.PartAt.{PartAt}
use Rattle.cxx_hierarchy.specs.declared.records.PartKind.{PartKind}
use Rattle.cxx_hierarchy.specs.declared.records.PartKind.TheVariants.{Member as MemberPart, Function as FunctionPart}
use Rattle.cxx_hierarchy.specs.declared.records.Member.{Member}
use Rattle.cxx_hierarchy.specs.declared.records.Function.{Function}
use Rattle.cxx_hierarchy.specs.declared.records.Destructor.{Destructor}
use Rattle.cxx_hierarchy.specs.NameTables.{Text}
use Rattle.cxx_hierarchy.specs.Declarations.{is_implicit}
use Rattle.cxx_hierarchy.specs.Orders.{is_member, is_function, is_constructor, is_destructor, parts_of_kind, has_kind, NamesEach}
use Rattle.cxx_hierarchy.specs.ClassPass.{Record, IsInOrder}
use Rattle.cxx_hierarchy.proofs.Listed.{mapped}

range_more : (a n : ℕ) → range_with_len a (suc n) ≡ range_with_len a n ++ (a + n) ∷ []
range_more a zero = ap (λ (k : ℕ). k ∷ []) (let e : a ≡ a + 0 = omega arith in e)
range_more a (suc n) =
    let e : a + 1 + n ≡ a + suc n = omega arith in
    ap (λ (ks : List ℕ). a ∷ ks) (range_more (a + 1) n ∙ ap (λ (k : ℕ). range_with_len (a + 1) n ++ k ∷ []) e)

pub names_none : (kind : PartKind → Bool) → NamesEach kind [] 0
names_none kind = refl

numbers_pushed : (kind : PartKind → Bool) (order : List PartAt) (part : PartAt) (b : Bool) → kind part.kind ≡ b →
    map (λ (p : PartAt). p.number) (parts_of_kind kind (order ++ part ∷ [])) ≡ map (λ (p : PartAt). p.number) (parts_of_kind kind order) ++ map (λ (p : PartAt). p.number) (cond b (part ∷ []) [])
numbers_pushed kind order part b is =
    ap (map (λ (p : PartAt). p.number)) (filter-append (λ (p : PartAt). kind p.kind) order (part ∷ []))
    ∙ (map-append (λ (p : PartAt). p.number) (parts_of_kind kind order) (cond (kind part.kind) (part ∷ []) [])
    ∙ ap (λ (c : Bool). map (λ (p : PartAt). p.number) (parts_of_kind kind order) ++ map (λ (p : PartAt). p.number) (cond c (part ∷ []) [])) is)

-- one more part of the kind, which takes the next number
pub names_more : (kind : PartKind → Bool) (order : List PartAt) (n : ℕ) (part : PartAt) → kind part.kind ≡ true → part.number ≡ n → NamesEach kind order n → NamesEach kind (order ++ part ∷ []) (n + 1)
names_more kind order n part is same each =
    let next : suc n ≡ n + 1 = omega arith in
    subst (NamesEach kind (order ++ part ∷ [])) next
    (numbers_pushed kind order part true is
    ∙ (ap (λ (ks : List ℕ). ks ++ part.number ∷ []) each
    ∙ (ap (λ (k : ℕ). range_with_len 0 n ++ k ∷ []) (let e : part.number ≡ 0 + n = omega arith in e)
    ∙ sym (range_more 0 n))))

-- one more part of another kind
pub names_other : (kind : PartKind → Bool) (order : List PartAt) (n : ℕ) (part : PartAt) → kind part.kind ≡ false → NamesEach kind order n → NamesEach kind (order ++ part ∷ []) n
names_other kind order n part is each =
    ap (map (λ (p : PartAt). p.number)) (filter-append (λ (p : PartAt). kind p.kind) order (part ∷ [])
    ∙ (ap (λ (c : Bool). parts_of_kind kind order ++ cond c (part ∷ []) []) is ∙ append_nil (parts_of_kind kind order)))
    ∙ each
  where
    append_nil : (ps : List PartAt) → ps ++ [] ≡ ps
    append_nil [] = refl
    append_nil (p ∷ ps) = ap (λ (qs : List PartAt). p ∷ qs) (append_nil ps)

-- whether there is a part of a kind, with one more part
pub kind_pushed : (kind : PartKind → Bool) (order : List PartAt) (part : PartAt) (b : Bool) → kind part.kind ≡ b → has_kind kind (order ++ part ∷ []) ≡ (has_kind kind order || b)
kind_pushed kind order part b is =
    list_any-append (λ (p : PartAt). kind p.kind) order (part ∷ [])
    ∙ ap (λ (c : Bool). has_kind kind order || c) (or_false (kind part.kind) ∙ is)
  where
    or_false : (c : Bool) → (c || false) ≡ c
    or_false true = refl
    or_false false = refl

pub kind_other : (kind : PartKind → Bool) (order : List PartAt) (part : PartAt) → kind part.kind ≡ false → has_kind kind (order ++ part ∷ []) ≡ has_kind kind order
kind_other kind order part is = kind_pushed kind order part false is ∙ or_false (has_kind kind order)
  where
    or_false : (c : Bool) → (c || false) ≡ c
    or_false true = refl
    or_false false = refl

-- a record with one more field, which takes the next number, stays in order
pub field_in_order : (c d : Record) (m : Member Text) (part : PartAt) → d.members ≡ c.members ++ m ∷ [] → d.functions ≡ c.functions → d.order ≡ c.order ++ part ∷ [] →
    part.kind ≡ MemberPart → part.number ≡ length c.members → d.has_constructor ≡ c.has_constructor → d.destructor ≡ c.destructor → IsInOrder c → IsInOrder d
field_in_order c d m part members functions order kind number constructor destructor ok =
    let longer : length c.members + 1 ≡ length d.members = sym (length-append c.members (m ∷ [])) ∙ ap length (sym members) in
    record {
      members = subst₂ (λ (ps : List PartAt) (n : ℕ). NamesEach is_member ps n) (sym order) longer (names_more is_member c.order (length c.members) part (ap is_member kind) number ok.members);
      functions = subst₂ (λ (ps : List PartAt) (n : ℕ). NamesEach is_function ps n) (sym order) (ap length (sym functions)) (names_other is_function c.order (length c.functions) part (ap is_function kind) ok.functions);
      constructors = ap (has_kind is_constructor) order ∙ (kind_other is_constructor c.order part (ap is_constructor kind) ∙ (ok.constructors ∙ sym constructor));
      destructors = ap (has_kind is_destructor) order ∙ (kind_other is_destructor c.order part (ap is_destructor kind) ∙ (ok.destructors ∙ ap (λ (x : Destructor). not (is_implicit x)) (sym destructor)));
    }

-- and with one more function
pub function_in_order : (c d : Record) (f : Function Text) (part : PartAt) → d.functions ≡ c.functions ++ f ∷ [] → d.members ≡ c.members → d.order ≡ c.order ++ part ∷ [] →
    part.kind ≡ FunctionPart → part.number ≡ length c.functions → d.has_constructor ≡ c.has_constructor → d.destructor ≡ c.destructor → IsInOrder c → IsInOrder d
function_in_order c d f part functions members order kind number constructor destructor ok =
    let longer : length c.functions + 1 ≡ length d.functions = sym (length-append c.functions (f ∷ [])) ∙ ap length (sym functions) in
    record {
      members = subst₂ (λ (ps : List PartAt) (n : ℕ). NamesEach is_member ps n) (sym order) (ap length (sym members)) (names_other is_member c.order (length c.members) part (ap is_member kind) ok.members);
      functions = subst₂ (λ (ps : List PartAt) (n : ℕ). NamesEach is_function ps n) (sym order) longer (names_more is_function c.order (length c.functions) part (ap is_function kind) number ok.functions);
      constructors = ap (has_kind is_constructor) order ∙ (kind_other is_constructor c.order part (ap is_constructor kind) ∙ (ok.constructors ∙ sym constructor));
      destructors = ap (has_kind is_destructor) order ∙ (kind_other is_destructor c.order part (ap is_destructor kind) ∙ (ok.destructors ∙ ap (λ (x : Destructor). not (is_implicit x)) (sym destructor)));
    }

-- the part of a number, with its place
pub record IsNumbered (kind : PartKind → Bool) (order : List PartAt) (j : ℕ) : Type 0 where
  pub place : ℕ
  pub part : PartAt
  pub listed : slice_get order place ≡ Some part
  pub passes : kind part.kind ≡ true
  pub number : part.number ≡ j

pub numbered : (kind : PartKind → Bool) (order : List PartAt) (n : ℕ) → NamesEach kind order n → (j : ℕ) → j < n → IsNumbered kind order j
numbered kind order n each j lt =
    let size = length-range_with_len 0 n in
    let here : slice_get (range_with_len 0 n) j ≡ Some j = slice_get-get_or (range_with_len 0 n) j 0 (omega arith) ∙ ap (λ (k : ℕ). Some k) (get_or-range_with_len 0 n j 0 lt ∙ (let e : 0 + j ≡ j = omega arith in e)) in
    let at : slice_get (map (λ (p : PartAt). p.number) (parts_of_kind kind order)) j ≡ Some j = ap (λ (ks : List ℕ). slice_get ks j) each ∙ here in
    let m = mapped (λ (p : PartAt). p.number) (parts_of_kind kind order) j j at in
    let has = has_filter (λ (p : PartAt). kind p.kind) order m.item (has_at (parts_of_kind kind order) j m.item m.listed) in
    let place = index_of order m.item has.0 in
    record { place = place.0; part = m.item; listed = place.1; passes = has.1; number = sym m.same }

-- where none passes before one that passes, one passes at most
none_passes : {X : Type 0} (p : X → Bool) (xs : List X) → ((k : ℕ) (x : X) → slice_get xs k ≡ Some x → p x ≡ true → ⊥) → (filter p xs ≡ []) × (list_any p xs ≡ false)
none_passes p [] none = (refl, refl)
none_passes {X} p (x ∷ xs) none =
    let f : p x ≡ false = is_false (p x) (none zero x refl) in
    let r = none_passes p xs (λ k y. none (suc k) y) in
    (rw f r.0, rw f r.1)

pub passes_once : {X : Type 0} (p : X → Bool) (xs : List X) → ((k : ℕ) (x : X) → slice_get xs k ≡ Some x → p x ≡ true → list_any p (take k xs) ≡ false) →
    length (filter p xs) ≡ (if list_any p xs then 1 else 0)
passes_once p [] first = refl
passes_once {X} p (x ∷ xs) first =
    split (p x) (λ b. p x ≡ b → length (cond b (x ∷ filter p xs) (filter p xs)) ≡ (if b || list_any p xs then 1 else 0))
    (λ t is.
    let r = none_passes p xs (λ k y at passes.
    let e : (p x || list_any p (take k xs)) ≡ false = first (suc k) y at passes in
    let g : (true || list_any p (take k xs)) ≡ false = ap (λ (b : Bool). b || list_any p (take k xs)) (sym is) ∙ e in
    cc) in
    ap (λ (ys : List X). length (x ∷ ys)) r.0)
    (λ f is. passes_once p xs (λ k y at passes.
    let e : (p x || list_any p (take k xs)) ≡ false = first (suc k) y at passes in
    ap (λ (b : Bool). b || list_any p (take k xs)) (sym is) ∙ e)) refl
