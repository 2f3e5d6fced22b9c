-- What stands behind the body events of a plan: a constructor's last event, or another event of a destruction that is no body.
use Rattle.std.proofs.Common.{◌≡◌, ℕ, zero, suc, ◌+◌, Bool, true, false, Option, Some, None, List, [], ◌∷◌, ◌++◌, length, refl, subst, sym, arith}
use Rattle.std.specs.Prelude.{slice_get, if◌then◌else◌}
use Rattle.std.specs.List.{flat_map}
use Rattle.cxx_hierarchy.specs.declared.records.ClassId.{ClassId}
use Rattle.cxx_hierarchy.specs.declared.records.Base.{Base}
use Rattle.cxx_hierarchy.specs.declared.records.Member.{Member}
use Rattle.cxx_hierarchy.specs.declared.records.FieldType.{FieldType}
use Rattle.cxx_hierarchy.specs.declared.records.FieldType.TheVariants.{Value, Object}
use Rattle.cxx_hierarchy.specs.Classes.{Classes, bases_of, members_of}
use Rattle.cxx_hierarchy.specs.Declarations.{elements_of}
use Rattle.cxx_subobject.specs.Subobjects.{class_of}
use Rattle.foundation.proofs.Truth.{split}
use Rattle.path_plan.specs.Places.{ObjectPart, base_part, shared_part, element}
use Rattle.path_plan.specs.Phases.{PartEvent, Done, End, part_of}
use Rattle.path_plan.specs.declared.form.Form.{Form}
use Rattle.path_plan.specs.declared.form.Form.TheVariants.{InFull, AsBase}
use Rattle.path_plan.specs.Plans.{Bodies, Inner, backwards, upto, virtual_order, shared_events, base_events, init_events, typed_events, member_events, body_events, built_by, build, typed_ending, member_ending, ended_by, unbuild}
use Rattle.path_plan.specs.Whole.{whole_part, construction, destruction}
use Rattle.path_plan.proofs.Frames.{IsBody}
use Rattle.path_plan.proofs.Bases.{class_base}

-- an event comes next, and no body
abbrev pub StartsPlain : List PartEvent → Type 0
StartsPlain [] = ⊥
StartsPlain (e ∷ es) = IsBody e → ⊥

-- behind each body stands what B says of its part
abbrev pub Paced : (ObjectPart → List PartEvent → Type 0) → List PartEvent → Type 0
Paced B [] = Unit {0}
Paced B (e ∷ es) = (IsBody e → B (part_of e) es) × Paced B es

-- what is said of a list is said of a longer one
abbrev pub GoesOn : (ObjectPart → List PartEvent → Type 0) → Type 0
GoesOn B = (p : ObjectPart) (es fs : List PartEvent) → B p es → B p (es ++ fs)

paced_append : (B : ObjectPart → List PartEvent → Type 0) → GoesOn B → (es fs : List PartEvent) → Paced B es → Paced B fs → Paced B (es ++ fs)
paced_append B on [] fs a b = b
paced_append B on (e ∷ es) fs a b = (λ body. on (part_of e) es fs (a.0 body), paced_append B on es fs a.1 b)

paced_flat : {X : Type 0} (B : ObjectPart → List PartEvent → Type 0) → GoesOn B → (f : X → List PartEvent) (xs : List X) → ((x : X) → Paced B (f x)) → Paced B (flat_map f xs)
paced_flat B on f [] each = tt
paced_flat B on f (x ∷ xs) each = paced_append B on (f x) (flat_map f xs) (each x) (paced_flat B on f xs each)

-- the plans of all parts of their class
abbrev pub AllPaced : (ObjectPart → List PartEvent → Type 0) → Inner → Type 0
AllPaced B inner = (form : Form) (c : ClassId) (p : ObjectPart) → class_of p.at ≡ Some c → Paced B (inner form c p)

shared_paced : (B : ObjectPart → List PartEvent → Type 0) → GoesOn B → (inner : Inner) → AllPaced B inner → (form : Form) (p : ObjectPart) (order : List ClassId) → Paced B (shared_events inner form p order)
shared_paced B on inner all AsBase p order = tt
shared_paced B on inner all InFull p order = paced_flat B on (λ v. inner AsBase v (shared_part p v)) order (λ v. all AsBase v (shared_part p v) refl)

base_paced : (B : ObjectPart → List PartEvent → Type 0) (inner : Inner) → AllPaced B inner → (c : ClassId) (p : ObjectPart) → class_of p.at ≡ Some c → (b : Base ClassId) → Paced B (base_events inner p b)
base_paced B inner all c p class b = split b.is_virtual (λ t. Paced B (if t then [] else inner AsBase b.class (base_part p b))) (λ e. tt) (λ e. all AsBase b.class (base_part p b) (class_base p c b class))

elements_paced : (B : ObjectPart → List PartEvent → Type 0) → GoesOn B → (inner : Inner) → AllPaced B inner → (p : ObjectPart) (m : ℕ) (d : ClassId) (indices : List ℕ) → Paced B (flat_map (λ i. inner InFull d (element p m i d)) indices)
elements_paced B on inner all p m d indices = paced_flat B on (λ i. inner InFull d (element p m i d)) indices (λ i. all InFull d (element p m i d) refl)

init_paced : (B : ObjectPart → List PartEvent → Type 0) (set : Bool) (p : ObjectPart) (m : ℕ) → Paced B (init_events set p m)
init_paced B true p m = (λ body. absurd body, tt)
init_paced B false p m = tt

typed_paced : (B : ObjectPart → List PartEvent → Type 0) → GoesOn B → (inner : Inner) → AllPaced B inner → (bodies : Bodies) (c : ClassId) (p : ObjectPart) (m : ℕ) (indices : List ℕ) (type : FieldType ClassId) → Paced B (typed_events inner bodies c p m indices type)
typed_paced B on inner all bodies c p m indices (Value type) = init_paced B (bodies.initializer c m) p m
typed_paced B on inner all bodies c p m indices (Object d) = elements_paced B on inner all p m d indices

member_paced : (B : ObjectPart → List PartEvent → Type 0) → GoesOn B → (inner : Inner) → AllPaced B inner → (bodies : Bodies) (c : ClassId) (p : ObjectPart) (m : ℕ) (o : Option (Member ClassId)) → Paced B (member_events inner bodies c p m o)
member_paced B on inner all bodies c p m None = tt
member_paced B on inner all bodies c p m (Some member) = typed_paced B on inner all bodies c p m (upto (elements_of member.count)) member.ty

typed_ending_paced : (B : ObjectPart → List PartEvent → Type 0) → GoesOn B → (inner : Inner) → AllPaced B inner → (p : ObjectPart) (m : ℕ) (indices : List ℕ) (type : FieldType ClassId) → Paced B (typed_ending inner p m indices type)
typed_ending_paced B on inner all p m indices (Value type) = tt
typed_ending_paced B on inner all p m indices (Object d) = elements_paced B on inner all p m d indices

member_ending_paced : (B : ObjectPart → List PartEvent → Type 0) → GoesOn B → (inner : Inner) → AllPaced B inner → (p : ObjectPart) (m : ℕ) (o : Option (Member ClassId)) → Paced B (member_ending inner p m o)
member_ending_paced B on inner all p m None = tt
member_ending_paced B on inner all p m (Some member) = typed_ending_paced B on inner all p m (backwards (upto (elements_of member.count))) member.ty

-- construction

last_paced : (B : ObjectPart → List PartEvent → Type 0) (declared : Bool) (p : ObjectPart) → (declared ≡ true → B p (Done p ∷ [])) → Paced B (body_events declared p ++ Done p ∷ [])
last_paced B true p behind = (λ body. behind refl, (λ body. absurd body, tt))
last_paced B false p behind = (λ body. absurd body, tt)

-- behind the body of a constructor stands its last event
abbrev pub IsBehindBuilt : Bodies → (ObjectPart → List PartEvent → Type 0) → Type 0
IsBehindBuilt bodies B = (c : ClassId) (p : ObjectPart) → class_of p.at ≡ Some c → bodies.constructor c ≡ true → B p (Done p ∷ [])

built_paced : (h : Classes) (bodies : Bodies) (B : ObjectPart → List PartEvent → Type 0) → GoesOn B → IsBehindBuilt bodies B → (inner : Inner) → AllPaced B inner → AllPaced B (built_by h bodies inner)
built_paced h bodies B on behind inner all form c p class = (
  λ body. absurd body,
  paced_append B on (shared_events inner form p (virtual_order h c)) _ (shared_paced B on inner all form p (virtual_order h c))
      (paced_append B on (flat_map (base_events inner p) (bases_of h c)) _ (paced_flat B on (base_events inner p) (bases_of h c) (base_paced B inner all c p class)) (
        λ body. absurd body,
        paced_append B on (flat_map (λ m. member_events inner bodies c p m (slice_get (members_of h c) m)) (upto (length (members_of h c)))) _
            (paced_flat B on (λ m. member_events inner bodies c p m (slice_get (members_of h c) m)) (upto (length (members_of h c))) (λ m. member_paced B on inner all bodies c p m (slice_get (members_of h c) m)))
            (last_paced B (bodies.constructor c) p (behind c p class)),
      )),
)

build_paced : (h : Classes) (bodies : Bodies) (B : ObjectPart → List PartEvent → Type 0) → GoesOn B → IsBehindBuilt bodies B → (n : ℕ) → AllPaced B (build h bodies n)
unfolding build
build_paced h bodies B on behind zero form c p class = tt
build_paced h bodies B on behind (suc n) form c p class = built_paced h bodies B on behind (build h bodies n) (build_paced h bodies B on behind n) form c p class

pub construction_paced : (h : Classes) (bodies : Bodies) (B : ObjectPart → List PartEvent → Type 0) → GoesOn B → IsBehindBuilt bodies B → (k : ℕ) (c : ClassId) → Paced B (construction h bodies k c)
construction_paced h bodies B on behind k c = build_paced h bodies B on behind (c.0 + 1) InFull c (whole_part k c) refl

build_starts : (h : Classes) (bodies : Bodies) (n m : ℕ) (form : Form) (c : ClassId) (p : ObjectPart) → n ≡ suc m → StartsPlain (build h bodies n form c p)
unfolding build
build_starts h bodies n m form c p is = subst (λ k. StartsPlain (build h bodies k form c p)) (sym is) (λ body. absurd body)

pub construction_starts : (h : Classes) (bodies : Bodies) (k : ℕ) (c : ClassId) → StartsPlain (construction h bodies k c)
construction_starts h bodies k c = build_starts h bodies (c.0 + 1) c.0 InFull c (whole_part k c) (omega arith)

-- destruction

-- behind the body of a destructor stands an event that is no body
abbrev pub IsBehindEnded : Bodies → (ObjectPart → List PartEvent → Type 0) → Type 0
IsBehindEnded bodies B = (c : ClassId) (p : ObjectPart) (es : List PartEvent) → class_of p.at ≡ Some c → bodies.destructor c ≡ true → StartsPlain es → B p es

first_paced : (B : ObjectPart → List PartEvent → Type 0) (declared : Bool) (p : ObjectPart) (es : List PartEvent) → (declared ≡ true → B p es) → Paced B es → Paced B (body_events declared p ++ es)
first_paced B true p es behind rest = (λ body. behind refl, rest)
first_paced B false p es behind rest = rest

-- each plan of a list is empty or begins with an event that is no body
abbrev pub IsPlain : List PartEvent → Type 0
IsPlain [] = Unit {0}
IsPlain (e ∷ es) = IsBody e → ⊥

plain_then : (es fs : List PartEvent) → IsPlain es → StartsPlain fs → StartsPlain (es ++ fs)
plain_then [] fs a b = b
plain_then (e ∷ es) fs a b = a

plain_append : (es fs : List PartEvent) → IsPlain es → IsPlain fs → IsPlain (es ++ fs)
plain_append [] fs a b = b
plain_append (e ∷ es) fs a b = a

plain_flat : {X : Type 0} (f : X → List PartEvent) (xs : List X) → ((x : X) → IsPlain (f x)) → IsPlain (flat_map f xs)
plain_flat f [] each = tt
plain_flat f (x ∷ xs) each = plain_append (f x) (flat_map f xs) (each x) (plain_flat f xs each)

abbrev AllPlain : Inner → Type 0
AllPlain inner = (form : Form) (c : ClassId) (p : ObjectPart) → IsPlain (inner form c p)

typed_plain : (inner : Inner) → AllPlain inner → (p : ObjectPart) (m : ℕ) (indices : List ℕ) (type : FieldType ClassId) → IsPlain (typed_ending inner p m indices type)
typed_plain inner all p m indices (Value type) = tt
typed_plain inner all p m indices (Object d) = plain_flat (λ i. inner InFull d (element p m i d)) indices (λ i. all InFull d (element p m i d))

member_plain : (inner : Inner) → AllPlain inner → (p : ObjectPart) (m : ℕ) (o : Option (Member ClassId)) → IsPlain (member_ending inner p m o)
member_plain inner all p m None = tt
member_plain inner all p m (Some member) = typed_plain inner all p m (backwards (upto (elements_of member.count))) member.ty

unbuild_plain : (h : Classes) (bodies : Bodies) (n : ℕ) → AllPlain (unbuild h bodies n)
unfolding unbuild
unbuild_plain h bodies zero form c p = tt
unbuild_plain h bodies (suc n) form c p = λ body. absurd body

ended_paced : (h : Classes) (bodies : Bodies) (B : ObjectPart → List PartEvent → Type 0) → GoesOn B → IsBehindEnded bodies B → (inner : Inner) → AllPlain inner → AllPaced B inner → AllPaced B (ended_by h bodies inner)
ended_paced h bodies B on behind inner plain all form c p class = (
  λ body. absurd body,
  first_paced B (bodies.destructor c) p _ (λ declared. behind c p _ class declared (plain_then members _
      (plain_flat (λ m. member_ending inner p m (slice_get (members_of h c) m)) (backwards (upto (length (members_of h c)))) (λ m. member_plain inner plain p m (slice_get (members_of h c) m))) (λ body. absurd body)))
      (paced_append B on members _
      (paced_flat B on (λ m. member_ending inner p m (slice_get (members_of h c) m)) (backwards (upto (length (members_of h c)))) (λ m. member_ending_paced B on inner all p m (slice_get (members_of h c) m))) (
        λ body. absurd body,
        paced_append B on (flat_map (base_events inner p) (backwards (bases_of h c))) _ (paced_flat B on (base_events inner p) (backwards (bases_of h c)) (base_paced B inner all c p class))
            (paced_append B on (shared_events inner form p (backwards (virtual_order h c))) (End p ∷ []) (shared_paced B on inner all form p (backwards (virtual_order h c))) (λ body. absurd body, tt)),
      )),
)
  where
    members : List PartEvent
    members = flat_map (λ m. member_ending inner p m (slice_get (members_of h c) m)) (backwards (upto (length (members_of h c))))

unbuild_paced : (h : Classes) (bodies : Bodies) (B : ObjectPart → List PartEvent → Type 0) → GoesOn B → IsBehindEnded bodies B → (n : ℕ) → AllPaced B (unbuild h bodies n)
unfolding unbuild
unbuild_paced h bodies B on behind zero form c p class = tt
unbuild_paced h bodies B on behind (suc n) form c p class = ended_paced h bodies B on behind (unbuild h bodies n) (unbuild_plain h bodies n) (unbuild_paced h bodies B on behind n) form c p class

pub destruction_paced : (h : Classes) (bodies : Bodies) (B : ObjectPart → List PartEvent → Type 0) → GoesOn B → IsBehindEnded bodies B → (k : ℕ) (c : ClassId) → Paced B (destruction h bodies k c)
destruction_paced h bodies B on behind k c = unbuild_paced h bodies B on behind (c.0 + 1) InFull c (whole_part k c) refl

unbuild_starts : (h : Classes) (bodies : Bodies) (n m : ℕ) (form : Form) (c : ClassId) (p : ObjectPart) → n ≡ suc m → StartsPlain (unbuild h bodies n form c p)
unfolding unbuild
unbuild_starts h bodies n m form c p is = subst (λ k. StartsPlain (unbuild h bodies k form c p)) (sym is) (λ body. absurd body)

pub destruction_starts : (h : Classes) (bodies : Bodies) (k : ℕ) (c : ClassId) → StartsPlain (destruction h bodies k c)
destruction_starts h bodies k c = unbuild_starts h bodies (c.0 + 1) c.0 InFull c (whole_part k c) (omega arith)
