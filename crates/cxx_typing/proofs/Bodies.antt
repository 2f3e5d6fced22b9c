-- A body is typed: its parameters are its first locals.
use Rattle.std.proofs.Common.{◌≡◌, ⊎_elim, ℕ, ◌+◌, ◌<◌, Option, Some, None, Ok, List, [], ◌∷◌, ◌++◌, append_assoc, map, length, refl, sym, ◌∙◌, ap, subst, arith, Contains, slice_get}
use Rattle.foundation.proofs.Places.{get_front, get_last, length_pushed, contains_at}
use Rattle.foundation.proofs.Members.{Has, has_from_contains, from_map, contains_from_has}
use Rattle.cxx_hierarchy.specs.declared.records.ClassId.{ClassId}
use Rattle.cxx_hierarchy.specs.declared.records.ValueType.{ValueType}
use Rattle.cxx_hierarchy.specs.declared.records.ValueType.TheVariants as type
use Rattle.cxx_hierarchy.specs.declared.records.Param.{Param}
use Rattle.cxx_hierarchy.specs.declared.records.Function.{Function}
use Rattle.cxx_hierarchy.specs.declared.records.ReturnType.{ReturnType}
use Rattle.cxx_hierarchy.specs.declared.records.ReturnType.TheVariants.{Void, Value as ValueReturn}
use Rattle.cxx_hierarchy.specs.Classes.{Classes, functions_of}
use Rattle.cxx_hierarchy.specs.Hierarchies.{IsHierarchy}
use Rattle.cxx_syntax.specs.declared.tree.BodyTree.{BodyTree}
use Rattle.cxx_syntax.specs.declared.source_text.Body.{Body}
use Rattle.cxx_syntax.specs.declared.source_text.BodyOwner.{BodyOwner}
use Rattle.cxx_syntax.specs.declared.source_text.BodyOwner.TheVariants as part
use Rattle.cxx_syntax.specs.declared.source_text.Init.{Init}
use Rattle.cxx_syntax.specs.Owners.{InitsFit}
use Rattle.cxx_program.specs.declared.program.Owner.{Owner}
use Rattle.cxx_program.specs.declared.program.Owner.TheVariants as owner
use Rattle.cxx_program.specs.declared.program.TypedInit.{TypedInit}
use Rattle.cxx_program.specs.declared.program.TypedBody.{TypedBody}
use Rattle.cxx_program.specs.Typed.{Types, IsKnown, HasBody, this_of, parameters_in, parameters_of, return_in, returns_of, AreInitsOf, scope_of, IsTypedStatement, IsTypedBody}
use Rattle.cxx_expression.specs.declared.scene.Entry.{Entry}
use Rattle.cxx_expression.specs.declared.scene.Setting.{Setting}
use Rattle.cxx_resolve.specs.declared.draft.Draft.{Draft}
use Rattle.cxx_resolve.specs.Turns.{given_in_turn}
use Rattle.cxx_resolve.specs.Initializers.{init_of}
use Rattle.cxx_resolve.specs.Walks.{block_meaning}
use Rattle.cxx_resolve.specs.Programs.{class_of_body, owner_of, function_by_owner, params_in, returns_of_type as wanted_return, returns_in, entries_from, first_draft, body_by, typed_body, member_setting, body_in, body_of, main_setting, main_tree, main_of}
use Rattle.cxx_typing.specs.Scopes.{wanted, IsSetting}
use Rattle.cxx_typing.proofs.Drafts.{then_ok, IsGoodDraft}
use Rattle.cxx_typing.proofs.Blocks.{HasTypedStatements, blocks_are_good}
use Rattle.cxx_typing.proofs.Globals.{AreGlobals, types_of, global_type}
use Rattle.cxx_typing.proofs.Initializers.{inits_typed}

-- parameters

abbrev pub types_in : List (Param ClassId) → Types
types_in params = map (λ (p : Param ClassId). p.ty) params

entry_at : (before : Types) (params : List (Param ClassId)) (n : ℕ) → length before ≡ n → (x : Entry) → Has (entries_from n params) x → slice_get (before ++ types_in params) x.number ≡ Some x.ty
entry_at before [] n len x has = absurd has
entry_at before (p ∷ ps) n len x has =
    let joined : (before ++ p.ty ∷ []) ++ types_in ps ≡ before ++ p.ty ∷ types_in ps = append_assoc before (p.ty ∷ []) (types_in ps) in
    ⊎_elim
    (λ same. subst (λ (y : Entry). slice_get (before ++ p.ty ∷ types_in ps) y.number ≡ Some y.ty) same
    (ap (λ (m : ℕ). slice_get (before ++ p.ty ∷ types_in ps) m) (sym len) ∙ ap (λ (ts : Types). slice_get ts (length before)) (sym joined)
    ∙ get_front (before ++ p.ty ∷ []) (types_in ps) (length before) p.ty (get_last before p.ty)))
    (λ rest. ap (λ (ts : Types). slice_get ts x.number) (sym joined) ∙ entry_at (before ++ p.ty ∷ []) ps (n + 1) (length_pushed before p.ty ∙ ap (λ (m : ℕ). m + 1) len) x rest)
    has

first_good : (h : Classes) (e : Setting) (size : ℕ) (params : List (Param ClassId)) → ((t : ValueType ClassId) → Contains (types_in params) t → IsKnown h t) → IsGoodDraft h e size 0 (first_draft params)
first_good h e size params known = record {
  own = record { each = λ x has. entry_at [] params 0 refl x (has_from_contains (entries_from 0 params) x has) };
  known = known;
  count = refl;
  typed = λ k f front i x is. absurd (cc);
}

-- a body of an owner that has one, whose parameters and initializers are these
pub record IsOwned (h : Classes) (globals : Types) (e : Setting) (o : Owner) (ps : List (Param ClassId)) (is : List TypedInit) : Type 0 where
  pub has : HasBody h o
  pub known : (t : ValueType ClassId) → Contains (types_in ps) t → IsKnown h t
  pub params : types_in ps ≡ parameters_of h o
  pub inits : AreInitsOf h o is
  pub setting : (locals : Types) → IsSetting e (record { globals = globals; locals = locals; this = this_of o; returns = returns_of h o })

pub record IsTypedOf (h : Classes) (globals : Types) (o : Owner) (body : TypedBody) : Type 0 where
  pub owner : body.owner ≡ o
  pub typed : IsTypedBody h globals body

pub tree_typed : (h : Classes) → HasTypedStatements h → (globals : Types) (e : Setting) (o : Owner) (params : List (Param ClassId)) (inits : List TypedInit) (tree : BodyTree) (body : TypedBody) → IsOwned h globals e o params inits →
    typed_body h e o params inits tree ≡ Ok body → IsTypedOf h globals o body
unfolding typed_body
tree_typed h q globals e o params inits tree body owned w =
    let m = block_meaning tree in
    let r = then_ok (m.walk h e 0 m.size (first_draft params)) (λ (d : Draft). Ok (body_by o inits tree d)) body w in
    let d = r.0 in
    let walked = (blocks_are_good h q tree).walks e 0 m.size m.size (first_draft params) d (omega arith) (omega arith) (first_good h e m.size params owned.known) r.1 in
    let good = walked.good in
    let count = good.count in
    let size : m.size ≡ length d.statements = omega arith in
    let last = r.2 in
    let same : body_by o inits tree d ≡ body = cc in
    subst (IsTypedOf h globals o) same (record {
      owner = refl;
      typed = record {
        owner = owned.has;
        known = good.known;
        others = walked.more;
        parameters = walked.types ∙ ap (λ (ts : Types). ts ++ walked.more) owned.params;
        inits = owned.inits;
        statements = λ n x is.
            subst (λ (s : ℕ). IsTypedStatement h (scope_of h globals (body_by o inits tree d)) s n x) size
            (good.typed (scope_of h globals (body_by o inits tree d)) (owned.setting d.scene.types) (λ i t there. there) n x is);
      };
    })

-- bodies in a class

params_same : (o : Option (Function ClassId)) → types_in (params_in o) ≡ parameters_in o
params_same None = refl
params_same (Some f) = refl

parameters_same : (h : Classes) (c : ClassId) (o : BodyOwner) → types_in (params_in (function_by_owner h c o)) ≡ parameters_of h (owner_of c o)
parameters_same h c (part.Function n) = params_same (slice_get (functions_of h c) n)
parameters_same h c part.Constructor = refl
parameters_same h c part.Destructor = refl

known_type : (h : Classes) (t : ValueType ClassId) → ((d : ClassId) → t ≡ type.Pointer d → d.0 < length h) → IsKnown h t
known_type h (type.Number n) each = tt
known_type h (type.Pointer d) each = each d refl

params_known : (h : Classes) → IsHierarchy h → (c : ClassId) (o : Option (Function ClassId)) → ((f : Function ClassId) → o ≡ Some f → Contains (functions_of h c) f) → (t : ValueType ClassId) → Contains (types_in (params_in o)) t → IsKnown h t
params_known h keeps c None there t has = absurd (has_from_contains [] t has)
params_known h keeps c (Some f) there t has =
    let r = from_map (λ (p : Param ClassId). p.ty) f.params t (has_from_contains (types_in f.params) t has) in
    known_type h t (λ d is. keeps.params c d f r.0 (there f refl) (contains_from_has f.params r.0 r.1) (r.2 ∙ is))

function_there : (h : Classes) (c : ClassId) (o : BodyOwner) (f : Function ClassId) → function_by_owner h c o ≡ Some f → Contains (functions_of h c) f
function_there h c (part.Function n) f is = contains_at (functions_of h c) n f is
function_there h c part.Constructor f is = absurd (cc)
function_there h c part.Destructor f is = absurd (cc)

this_same : (c : ClassId) (o : BodyOwner) → this_of (owner_of c o) ≡ Some c
this_same c (part.Function n) = refl
this_same c part.Constructor = refl
this_same c part.Destructor = refl

return_wanted : (t : ReturnType ClassId) → Some t ≡ wanted (wanted_return t)
return_wanted Void = refl
return_wanted (ValueReturn t) = refl

function_returns : (o : Option (Function ClassId)) → return_in o ≡ wanted (returns_in o)
function_returns None = refl
function_returns (Some f) = return_wanted f.ret

returns_same : (h : Classes) (c : ClassId) (o : BodyOwner) → returns_of h (owner_of c o) ≡ wanted (returns_in (function_by_owner h c o))
returns_same h c (part.Function n) = function_returns (slice_get (functions_of h c) n)
returns_same h c part.Constructor = refl
returns_same h c part.Destructor = refl

-- a list that is empty gives no initializer
none_given : (h : Classes) (c : ClassId) (list : List Init) (inits : List TypedInit) → list ≡ [] → given_in_turn (init_of h c) [] list ≡ Ok inits → inits ≡ []
none_given h c list inits none w =
    let given : given_in_turn (init_of h c) [] [] ≡ Ok inits = subst (λ (is : List Init). given_in_turn (init_of h c) [] is ≡ Ok inits) none w in
    let same : [] ≡ inits = cc in
    sym same

inits_of : (h : Classes) → IsHierarchy h → (c : ClassId) (o : BodyOwner) (list : List Init) (inits : List TypedInit) → InitsFit o list → given_in_turn (init_of h c) [] list ≡ Ok inits → AreInitsOf h (owner_of c o) inits
inits_of h keeps c (part.Function n) list inits fit w = none_given h c list inits fit w
inits_of h keeps c part.Constructor list inits fit w = inits_typed h keeps c list inits w
inits_of h keeps c part.Destructor list inits fit w = none_given h c list inits fit w

-- the owner that a body has among typed bodies
abbrev pub typed_owner : Classes → Body → Owner
typed_owner h b = owner_of (class_of_body h b.class) b.owner

pub body_typed : (h : Classes) → HasTypedStatements h → (globals : List Entry) → AreGlobals h globals → (before : List TypedBody) (b : Body) (body : TypedBody) → HasBody h (typed_owner h b) → InitsFit b.owner b.inits →
    body_of h globals before b ≡ Ok body → IsTypedOf h (types_of globals) (typed_owner h b) body
unfolding body_in
body_typed h q globals are before b body has fit w =
    let c = class_of_body h b.class in
    let f = function_by_owner h c b.owner in
    let e = member_setting globals c (returns_in f) in
    let r = then_ok (given_in_turn (init_of h c) [] b.inits) (λ (inits : List TypedInit). typed_body h e (owner_of c b.owner) (params_in f) inits b.tree) body w in
    tree_typed h q (types_of globals) e (owner_of c b.owner) (params_in f) r.0 b.tree body
    (record {
      has = has;
      known = params_known h q.keeps c f (function_there h c b.owner);
      params = parameters_same h c b.owner;
      inits = inits_of h q.keeps c b.owner b.inits r.0 fit r.1;
      setting = λ locals. record { globals = global_type h globals are; this = this_same c b.owner; returns = returns_same h c b.owner };
    }) r.2

-- main

main_tree_typed : (h : Classes) → HasTypedStatements h → (globals : List Entry) → AreGlobals h globals → (tree : BodyTree) (main : Option TypedBody) → main_tree h globals tree ≡ Ok main → (body : TypedBody) → main ≡ Some body → IsTypedOf h (types_of globals) owner.Main body
unfolding main_tree
main_tree_typed h q globals are tree main w body is =
    let r = then_ok (typed_body h (main_setting globals) owner.Main [] [] tree) (λ (b : TypedBody). Ok (Some b)) main w in
    let last = r.2 in
    let same : r.0 ≡ body = cc in
    subst (IsTypedOf h (types_of globals) owner.Main) same
    (tree_typed h q (types_of globals) (main_setting globals) owner.Main [] [] tree r.0
    (record {
      has = tt;
      known = λ t has. absurd (has_from_contains [] t has);
      params = refl;
      inits = refl;
      setting = λ locals. record { globals = global_type h globals are; this = refl; returns = refl };
    }) r.1)

pub main_typed : (h : Classes) → HasTypedStatements h → (globals : List Entry) → AreGlobals h globals → (tree : Option BodyTree) (main : Option TypedBody) → main_of h globals tree ≡ Ok main → (body : TypedBody) → main ≡ Some body →
    IsTypedOf h (types_of globals) owner.Main body
main_typed h q globals are None main w body is = absurd (cc)
main_typed h q globals are (Some tree) main w body is = main_tree_typed h q globals are tree main w body is
