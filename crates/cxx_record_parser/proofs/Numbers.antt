-- The order of a record that parts make is the order in which they stand.
use Rattle.std.proofs.Common.{◌≡◌, ℕ, ◌+◌, Bool, true, false, not, ◌||◌, List, [], ◌∷◌, ◌++◌, Option, Some, None, length, refl, sym, ap, subst, subst₂, ◌∙◌, append_assoc, append-nil, length-append, All}
use Rattle.std.specs.List.{filter_map, list_any, AllByRecursion}
use Rattle.std.proofs.lemmas.List.Folds.{list_any-append}
use Rattle.std.proofs.lemmas.List.Elements.{filter_map-append, All-from_recursion}
use Rattle.cxx_grammar.specs.declared.sort.Lexeme.{Lexeme}
use Rattle.cxx_hierarchy.specs.declared.records.Base.{Base}
use Rattle.cxx_hierarchy.specs.declared.records.PartAt.{PartAt}
use Rattle.cxx_hierarchy.specs.declared.records.PartKind.TheVariants as kind
use Rattle.cxx_hierarchy.specs.declared.records.Destructor.{Destructor}
use Rattle.cxx_hierarchy.specs.declared.records.Destructor.TheVariants as destructor
use Rattle.cxx_hierarchy.specs.Declarations.{is_implicit}
use Rattle.cxx_hierarchy.specs.Orders.{is_member, is_function, is_constructor as makes, is_destructor as ends, has_kind, NamesEach}
use Rattle.cxx_hierarchy.specs.ClassPass.{IsInOrder}
use Rattle.cxx_hierarchy.proofs.Orders.{names_none, names_more, names_other}
use Rattle.cxx_syntax.specs.declared.part.ClassPart.{ClassPart}
use Rattle.cxx_syntax.specs.declared.part.ClassPart.TheVariants as part
use Rattle.cxx_syntax.specs.declared.part.Item.{Item}
use Rattle.cxx_syntax.specs.declared.source_text.SourceText.{SourceText}
use Rattle.cxx_syntax.specs.Parts.{Spelled}
use Rattle.cxx_syntax.specs.Definitions.{member_from, function_from, members_among, functions_among, given_by_parts, part_at, is_constructor_part, destructor_after, last_destructor, record_of}
use Rattle.cxx_record_parser.proofs.Drafts.{or_false}
use Rattle.cxx_syntax.specs.Sources.{ItemReads, a_class, a_forward, a_global, a_main, ItemsRead, no_item, one_item, record_in, SourceReads, a_source}

-- a part that gives nothing of this kind
none_more : {X : Type 0} (f : ClassPart → Option X) (before : List ClassPart) (p : ClassPart) → filter_map f (p ∷ []) ≡ [] → length (filter_map f before) ≡ length (filter_map f (before ++ p ∷ []))
none_more f before p e = ap length (sym (filter_map-append f before (p ∷ []) ∙ (ap (λ u. filter_map f before ++ u) e ∙ append-nil (filter_map f before))))

one_more : {X : Type 0} (f : ClassPart → Option X) (before : List ClassPart) (p : ClassPart) (x : X) → filter_map f (p ∷ []) ≡ x ∷ [] → length (filter_map f before) + 1 ≡ length (filter_map f (before ++ p ∷ []))
one_more f before p x e = sym (ap length (filter_map-append f before (p ∷ []) ∙ ap (λ u. filter_map f before ++ u) e) ∙ length-append (filter_map f before) (x ∷ []))

-- one part more, for the members
member_step : (before : List ClassPart) (done : List PartAt) (p : ClassPart) → NamesEach is_member done (length (members_among before)) → NamesEach is_member (done ++ part_at before p) (length (members_among (before ++ p ∷ [])))
member_step before done (part.Label l) h = subst₂ (λ (o : List PartAt) (n : ℕ). NamesEach is_member o n) (sym (append-nil done)) (none_more member_from before (part.Label l) refl) h
member_step before done (part.Field m at) h = let P : ℕ → Type 0 = λ n. NamesEach is_member (done ++ part_at before (part.Field m at)) n in subst P (one_more member_from before (part.Field m at) m refl) (names_more is_member done (length (members_among before)) (record { kind = kind.Member; number = length (members_among before); ty_at = Some at; at = m.at }) refl refl h)
member_step before done (part.Function f at b) h = let P : ℕ → Type 0 = λ n. NamesEach is_member (done ++ part_at before (part.Function f at b)) n in subst P (none_more member_from before (part.Function f at b) refl) (names_other is_member done (length (members_among before)) (record { kind = kind.Function; number = length (functions_among before); ty_at = Some at; at = f.at }) refl h)
member_step before done (part.Constructor at i b) h = let P : ℕ → Type 0 = λ n. NamesEach is_member (done ++ part_at before (part.Constructor at i b)) n in subst P (none_more member_from before (part.Constructor at i b) refl) (names_other is_member done (length (members_among before)) (record { kind = kind.Constructor; number = 0; ty_at = None; at = at }) refl h)
member_step before done (part.Destructor v at b) h = let P : ℕ → Type 0 = λ n. NamesEach is_member (done ++ part_at before (part.Destructor v at b)) n in subst P (none_more member_from before (part.Destructor v at b) refl) (names_other is_member done (length (members_among before)) (record { kind = kind.Destructor; number = 0; ty_at = None; at = at }) refl h)

-- and for the functions
function_step : (before : List ClassPart) (done : List PartAt) (p : ClassPart) → NamesEach is_function done (length (functions_among before)) → NamesEach is_function (done ++ part_at before p) (length (functions_among (before ++ p ∷ [])))
function_step before done (part.Label l) h = subst₂ (λ (o : List PartAt) (n : ℕ). NamesEach is_function o n) (sym (append-nil done)) (none_more function_from before (part.Label l) refl) h
function_step before done (part.Field m at) h = let P : ℕ → Type 0 = λ n. NamesEach is_function (done ++ part_at before (part.Field m at)) n in subst P (none_more function_from before (part.Field m at) refl) (names_other is_function done (length (functions_among before)) (record { kind = kind.Member; number = length (members_among before); ty_at = Some at; at = m.at }) refl h)
function_step before done (part.Function f at b) h = let P : ℕ → Type 0 = λ n. NamesEach is_function (done ++ part_at before (part.Function f at b)) n in subst P (one_more function_from before (part.Function f at b) f refl) (names_more is_function done (length (functions_among before)) (record { kind = kind.Function; number = length (functions_among before); ty_at = Some at; at = f.at }) refl refl h)
function_step before done (part.Constructor at i b) h = let P : ℕ → Type 0 = λ n. NamesEach is_function (done ++ part_at before (part.Constructor at i b)) n in subst P (none_more function_from before (part.Constructor at i b) refl) (names_other is_function done (length (functions_among before)) (record { kind = kind.Constructor; number = 0; ty_at = None; at = at }) refl h)
function_step before done (part.Destructor v at b) h = let P : ℕ → Type 0 = λ n. NamesEach is_function (done ++ part_at before (part.Destructor v at b)) n in subst P (none_more function_from before (part.Destructor v at b) refl) (names_other is_function done (length (functions_among before)) (record { kind = kind.Destructor; number = 0; ty_at = None; at = at }) refl h)

members_named : (before ps : List ClassPart) (done : List PartAt) → NamesEach is_member done (length (members_among before)) → NamesEach is_member (done ++ given_by_parts part_at before ps) (length (members_among (before ++ ps)))
members_named before [] done h = subst₂ (λ (o : List PartAt) (n : ℕ). NamesEach is_member o n) (sym (append-nil done)) (ap (λ u. length (members_among u)) (sym (append-nil before))) h
members_named before (p ∷ ps) done h =
    subst₂ (λ (o : List PartAt) (n : ℕ). NamesEach is_member o n) (append_assoc done (part_at before p) (given_by_parts part_at (before ++ p ∷ []) ps)) (ap (λ u. length (members_among u)) (append_assoc before (p ∷ []) ps))
    (members_named (before ++ p ∷ []) ps (done ++ part_at before p) (member_step before done p h))

functions_named : (before ps : List ClassPart) (done : List PartAt) → NamesEach is_function done (length (functions_among before)) → NamesEach is_function (done ++ given_by_parts part_at before ps) (length (functions_among (before ++ ps)))
functions_named before [] done h = subst₂ (λ (o : List PartAt) (n : ℕ). NamesEach is_function o n) (sym (append-nil done)) (ap (λ u. length (functions_among u)) (sym (append-nil before))) h
functions_named before (p ∷ ps) done h =
    subst₂ (λ (o : List PartAt) (n : ℕ). NamesEach is_function o n) (append_assoc done (part_at before p) (given_by_parts part_at (before ++ p ∷ []) ps)) (ap (λ u. length (functions_among u)) (append_assoc before (p ∷ []) ps))
    (functions_named (before ++ p ∷ []) ps (done ++ part_at before p) (function_step before done p h))

-- a constructor among the parts
constructor_at : (before : List ClassPart) (p : ClassPart) → has_kind makes (part_at before p) ≡ is_constructor_part p
constructor_at before (part.Label l) = refl
constructor_at before (part.Field m at) = refl
constructor_at before (part.Function f at b) = refl
constructor_at before (part.Constructor at i b) = refl
constructor_at before (part.Destructor v at b) = refl

constructors_named : (before ps : List ClassPart) → has_kind makes (given_by_parts part_at before ps) ≡ list_any is_constructor_part ps
constructors_named before [] = refl
constructors_named before (p ∷ ps) =
    list_any-append (λ (e : PartAt). makes e.kind) (part_at before p) (given_by_parts part_at (before ++ p ∷ []) ps)
    ∙ (ap (λ u. u || has_kind makes (given_by_parts part_at (before ++ p ∷ []) ps)) (constructor_at before p) ∙ ap (λ u. is_constructor_part p || u) (constructors_named (before ++ p ∷ []) ps))

-- a destructor among the parts, or one before them
destructor_at : (d : Destructor) (before : List ClassPart) (p : ClassPart) (b : Bool) → (not (is_implicit d) || (has_kind ends (part_at before p) || b)) ≡ (not (is_implicit (destructor_after d p)) || b)
destructor_at d before (part.Label l) b = refl
destructor_at d before (part.Field m at) b = refl
destructor_at d before (part.Function f at t) b = refl
destructor_at d before (part.Constructor at i t) b = refl
destructor_at destructor.Implicit before (part.Destructor true at t) b = refl
destructor_at destructor.Implicit before (part.Destructor false at t) b = refl
destructor_at destructor.Plain before (part.Destructor true at t) b = refl
destructor_at destructor.Plain before (part.Destructor false at t) b = refl
destructor_at destructor.Virtual before (part.Destructor true at t) b = refl
destructor_at destructor.Virtual before (part.Destructor false at t) b = refl

destructors_named : (d : Destructor) (before ps : List ClassPart) → (not (is_implicit d) || has_kind ends (given_by_parts part_at before ps)) ≡ not (is_implicit (last_destructor d ps))
destructors_named d before [] = or_false (not (is_implicit d))
destructors_named d before (p ∷ ps) =
    ap (λ u. not (is_implicit d) || u) (list_any-append (λ (e : PartAt). ends e.kind) (part_at before p) (given_by_parts part_at (before ++ p ∷ []) ps))
    ∙ (destructor_at d before p (has_kind ends (given_by_parts part_at (before ++ p ∷ []) ps)) ∙ destructors_named (destructor_after d p) (before ++ p ∷ []) ps)

record_in_order : (text : List ℕ) (n : Lexeme) (bases : List (Base Spelled)) (parts : List ClassPart) → IsInOrder (record_of text n bases parts)
record_in_order text n bases parts = record {
  members = members_named [] parts [] (names_none is_member);
  functions = functions_named [] parts [] (names_none is_function);
  constructors = constructors_named [] parts;
  destructors = destructors_named destructor.Implicit [] parts;
}

record_of_item : (text : List ℕ) (i : Item) (is : List Item) (ts rest : List Lexeme) → ItemReads text i ts rest → AllByRecursion IsInOrder (filter_map record_in is) → AllByRecursion IsInOrder (filter_map record_in (i ∷ is))
record_of_item text _ is _ _ (a_class {bases = bases} {parts = parts} {n = n} k m b o p z q e f) h = (subst IsInOrder (sym e) (record_in_order text n bases parts), h)
record_of_item text _ is _ _ (a_forward k m q) h = h
record_of_item text _ is _ _ (a_global f v m q e) h = h
record_of_item text _ is _ _ (a_main w m o z b) h = h

all_in_order : (text : List ℕ) (is : List Item) (ts rest : List Lexeme) → ItemsRead text is ts rest → AllByRecursion IsInOrder (filter_map record_in is)
all_in_order text _ _ _ no_item = tt
all_in_order text _ _ _ (one_item {i = i} {is = is} {ts = ts} {a = a} {rest = rest} h m) = record_of_item text i is ts a h (all_in_order text is a rest m)

-- the records of a source that was read are in order
pub source_in_order : (text : List ℕ) (s : SourceText) (ts rest : List Lexeme) → SourceReads text s ts rest → All IsInOrder s.records
source_in_order text s _ _ (a_source {is = is} {ts = ts} {a = a} items e make) = subst (All IsInOrder) (sym make.records) (All-from_recursion IsInOrder (filter_map record_in is) (all_in_order text is ts a items))
