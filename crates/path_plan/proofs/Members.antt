-- The members of a part, built one after another, and the elements of each.
use Rattle.std.proofs.Common.{◌≡◌, ℕ, zero, suc, ◌+◌, ◌<◌, ◌≤◌, ◌⊎◌, inl, inr, ⊎_elim, Bool, true, false, Option, Some, None, List, [], ◌∷◌, ◌++◌, length, refl, ap, subst, sym, ◌∙◌, arith}
use Rattle.std.specs.Prelude.{slice_get}
use Rattle.std.specs.List.{flat_map}
use Rattle.cxx_hierarchy.specs.declared.records.ClassId.{ClassId}
use Rattle.cxx_hierarchy.specs.declared.records.Member.{Member as MemberRec}
use Rattle.cxx_hierarchy.specs.declared.records.FieldType.{FieldType}
use Rattle.cxx_hierarchy.specs.declared.records.FieldType.TheVariants.{Value, Object}
use Rattle.cxx_hierarchy.specs.Classes.{Classes, members_of}
use Rattle.cxx_hierarchy.specs.Hierarchies.{IsHierarchy}
use Rattle.cxx_subobject.specs.Subobjects.{class_of}
use Rattle.cxx_hierarchy.specs.Declarations.{elements_of}
use Rattle.foundation.proofs.Members.{Has, has_at, contains_from_has, has_cases}
use Rattle.path_plan.specs.Places.{ObjectPart, element, member_kid, IsPartWithin, here, deeper}
use Rattle.path_plan.specs.Phases.{Complete, is_half, Phases}
use Rattle.path_plan.specs.declared.form.Form.TheVariants.{InFull}
use Rattle.path_plan.specs.Plans.{Inner, Bodies, init_events, typed_events, member_events, count_from, upto, backwards}
use Rattle.path_plan.proofs.Names.{Token, Member, Index, owner_name, sub_name, name, Begins, begins_child, not_child, IsRaw}
use Rattle.path_plan.proofs.Growth.{went_none, went_wider, stays, EventsIn, events_wider, Plays, Ran}
use Rattle.path_plan.proofs.Loop.{Follows, Loop, loop}
use Rattle.path_plan.proofs.Around.{Stage, InItsMembers, in_members_stays}
use Rattle.path_plan.proofs.Bases.{Good}

-- numbers from a on, n of them
pub has_count : (a n i : ℕ) → Has (count_from a n) i → (a ≤ i) × (i < a + n)
has_count a zero i h = absurd h
has_count a (suc n) i h = ⊎_elim (λ e. (omega arith, omega arith)) (λ r. let k = has_count (suc a) n i r in (omega arith, omega arith)) h

pub count_has : (a n i : ℕ) → a ≤ i → i < a + n → Has (count_from a n) i
count_has a zero i low high = absurd (omega arith)
count_has a (suc n) i low high = ⊎_elim (λ e. inl e) (λ r. inr (count_has (suc a) n i r (omega arith))) (apart a i low)
  where
    apart : (a i : ℕ) → a ≤ i → (a ≡ i) ⊎ (suc a ≤ i)
    apart a i low = grind arith

pub count_last : (a n : ℕ) → count_from a (suc n) ≡ count_from a n ++ (a + n) ∷ []
count_last a zero = let e : a ≡ a + zero = omega arith in ap (λ k. k ∷ []) e
count_last a (suc n) = ap (λ t. a ∷ t) (count_last (suc a) n ∙ let e : suc a + n ≡ a + suc n = omega arith in ap (λ k. count_from (suc a) n ++ k ∷ []) e)

-- a list backwards has the same items
pub has_backwards : {X : Type 0} (xs : List X) (x : X) → Has (backwards xs) x → Has xs x
has_backwards [] x has = has
has_backwards (y ∷ xs) x has = ⊎_elim (λ front. inr (has_backwards xs x front)) (λ last. ⊎_elim (λ same. inl same) (λ none. absurd none) last) (has_cases (backwards xs) (y ∷ []) x has)

count_follows : (token : ℕ → Token) (end : ℕ) → ((i j : ℕ) → token i ≡ token j → i ≡ j) → (done : List ℕ) (a n : ℕ) → a + n ≤ end → Follows token (λ done i. i < end) done (count_from a n)
count_follows token end one done a zero fits = tt
count_follows token end one done a (suc n) fits = (
  omega arith,
  λ y has same. let k = has_count (suc a) n y has in let f = one a y same in absurd (omega arith),
  count_follows token end one (a ∷ done) (suc a) n (omega arith),
)

-- the elements of a member that is an object or an array of objects
element_step : (h : Classes) (inner : Inner) (n : ℕ) → Good h inner n → (p : ObjectPart) (m d_count : ℕ) (d : ClassId) → d.0 < n
    → ((i : ℕ) (q : ObjectPart) → i < d_count → IsPartWithin h q (element p m i d) → IsPartWithin h q p)
    → (i : ℕ) (s : Phases) → InItsMembers h p s → i < d_count → IsRaw ((name p ++ Member m ∷ []) ++ Index i ∷ []) s
    → Ran h ((name p ++ Member m ∷ []) ++ Index i ∷ []) p s (inner InFull d (element p m i d)) (λ s'. s'.phase (element p m i d) ≡ Complete)
element_step h inner n good p m count d below inside i s a lt raw =
    let e = element p m i d in
    let t = (name p ++ Member m ∷ []) ++ Index i ∷ [] in
    let stage : Stage h InFull d e s = record {
      inv = a.inv;
      raw = raw;
      quiet = λ q ob own. ap is_half (raw q (named q ob own));
      views = λ o x differ f. a.views o x f;
      takes = refl;
      has_shared = tt;
    } in
    let run = good.at InFull d e s below stage in
    record { end = run.end; plays = run.plays; inside = events_wider h e p (inner InFull d e) (λ q in_e. inside i q lt in_e) run.inside; went = went_wider h t t e p s run.end (λ n b. b) (λ q in_e. inside i q lt in_e) refl run.went; did = run.did }
  where
    named : (q : ObjectPart) → q.object ≡ p.object → q.owner ≡ record { base = p.at; member = m; index = i } ∷ p.owner → Begins ((name p ++ Member m ∷ []) ++ Index i ∷ []) (name q)
    named q ob own = record { rest = sub_name q.at; is = ap (λ k. owner_name k q.owner ++ sub_name q.at) ob ∙ ap (λ o. owner_name p.object o ++ sub_name q.at) own }

element_loop : (h : Classes) (inner : Inner) (n : ℕ) → Good h inner n → (p : ObjectPart) (m count : ℕ) (d : ClassId) → d.0 < n → ((i : ℕ) (q : ObjectPart) → i < count → IsPartWithin h q (element p m i d) → IsPartWithin h q p) → Loop ℕ h (name p ++ Member m ∷ []) p
element_loop h inner n good p m count d below inside = record {
  token = λ i. Index i;
  events = λ i. inner InFull d (element p m i d);
  Around = InItsMembers h p;
  Gives = λ i s. s.phase (element p m i d) ≡ Complete;
  Allowed = λ done i. i < count;
  inv = λ s a. a.inv;
  around = λ i s s' went a. in_members_stays h ((name p ++ Member m ∷ []) ++ Index i ∷ []) p s s' (λ b. not_child (name p) (Member m) (begins_child (name p ++ Member m ∷ []) (Index i) (name p) b)) went a;
  keeps = λ i j s s' went e. stays h ((name p ++ Member m ∷ []) ++ Index i ∷ []) p s s' (element p m j d) went e;
  step = λ done i s a lt had raw. element_step h inner n good p m count d below inside i s a lt raw;
}

-- what a member of a type gives
abbrev pub Gives : ObjectPart → ℕ → ℕ → FieldType ClassId → Phases → Type 0
Gives p m count ty s = (d : ClassId) (i : ℕ) → ty ≡ Object d → i < count → s.phase (element p m i d) ≡ Complete

typed_ran : (h : Classes) (inner : Inner) (bodies : Bodies) (n : ℕ) → Good h inner n → (c : ClassId) (p : ObjectPart) (m count : ℕ) (ty : FieldType ClassId)
    → ((d : ClassId) → ty ≡ Object d → d.0 < n) → ((d : ClassId) (i : ℕ) (q : ObjectPart) → ty ≡ Object d → i < count → IsPartWithin h q (element p m i d) → IsPartWithin h q p)
    → (s : Phases) → InItsMembers h p s → IsRaw (name p ++ Member m ∷ []) s
    → Ran h (name p ++ Member m ∷ []) p s (typed_events inner bodies c p m (upto count) ty) (Gives p m count ty)
unfolding element_loop
typed_ran h inner bodies n good c p m count (Value type) below inside s a raw = record { end = s; plays = first (bodies.initializer c m); inside = within (bodies.initializer c m); went = went_none h (name p ++ Member m ∷ []) p s a.inv; did = λ d i e lt. absurd (cc) }
  where
    first : (b : Bool) → Plays h s (init_events b p m) s
    first true = ((ap is_half a.now, a.top), refl)
    first false = refl

    within : (b : Bool) → EventsIn h p (init_events b p m)
    within true = (here p refl, tt)
    within false = tt
typed_ran h inner bodies n good c p m count (Object d) below inside s a raw =
    let t = name p ++ Member m ∷ [] in
    let run = loop h t p (element_loop h inner n good p m count d (below d refl) (λ i q lt in_e. inside d i q refl lt in_e)) [] (upto count) s a
    (count_follows (λ i. Index i) count (λ i j e. let f : i ≡ j = cc in f) [] 0 count (omega arith))
    (λ i has. absurd has)
    (λ i has q b. raw q (begins_child t (Index i) (name q) b)) in
    record {
      end = run.end;
      plays = run.plays;
      inside = run.inside;
      went = run.went;
      did = λ e i same lt. let f : d ≡ e = cc in subst (λ (x : ClassId). run.end.phase (element p m i x) ≡ Complete) f (run.did.1 i (inr (count_has 0 count i (omega arith) (omega arith))));
    }

-- what member number m of a list gives
abbrev pub GivesAt : List (MemberRec ClassId) → ObjectPart → ℕ → Phases → Type 0
GivesAt members p m s = (member : MemberRec ClassId) → slice_get members m ≡ Some member → Gives p m (elements_of member.count) member.ty s

member_ran : (h : Classes) → IsHierarchy h → (inner : Inner) (bodies : Bodies) (c : ClassId) → Good h inner c.0 → (p : ObjectPart) → class_of p.at ≡ Some c → (m : ℕ) (o : Option (MemberRec ClassId)) → slice_get (members_of h c) m ≡ o
    → (s : Phases) → InItsMembers h p s → IsRaw (name p ++ Member m ∷ []) s
    → Ran h (name p ++ Member m ∷ []) p s (member_events inner bodies c p m o) (GivesAt (members_of h c) p m)
member_ran h keeps inner bodies c good p class m None at s a raw = record { end = s; plays = refl; inside = tt; went = went_none h (name p ++ Member m ∷ []) p s a.inv; did = λ member e. absurd (cc) }
member_ran h keeps inner bodies c good p class m (Some member) at s a raw =
    let run = typed_ran h inner bodies c.0 good c p m (elements_of member.count) member.ty
    (λ d e. keeps.objects c d member (contains_from_has (members_of h c) member (has_at (members_of h c) m member at)) e)
    (λ d i q e lt in_e. deeper p (element p m i d) (member_kid c d m i member class at e lt refl) in_e) s a raw in
    record {
      end = run.end;
      plays = run.plays;
      inside = run.inside;
      went = run.went;
      did = λ other e d i ty lt. let f : member ≡ other = cc in run.did d i (ap (λ (x : MemberRec ClassId). x.ty) f ∙ ty) (subst (λ (x : MemberRec ClassId). i < elements_of x.count) (sym f) lt);
    }

member_loop : (h : Classes) → IsHierarchy h → (inner : Inner) (bodies : Bodies) (c : ClassId) → Good h inner c.0 → (p : ObjectPart) → class_of p.at ≡ Some c → Loop ℕ h (name p) p
member_loop h keeps inner bodies c good p class = record {
  token = λ m. Member m;
  events = λ m. member_events inner bodies c p m (slice_get (members_of h c) m);
  Around = InItsMembers h p;
  Gives = λ m s. GivesAt (members_of h c) p m s;
  Allowed = λ done m. m < length (members_of h c);
  inv = λ s a. a.inv;
  around = λ m s s' went a. in_members_stays h (name p ++ Member m ∷ []) p s s' (not_child (name p) (Member m)) went a;
  keeps = λ m m' s s' went e member at d i ty lt. stays h (name p ++ Member m ∷ []) p s s' (element p m' i d) went (e member at d i ty lt);
  step = λ done m s a lt had raw. member_ran h keeps inner bodies c good p class m (slice_get (members_of h c) m) refl s a raw;
}

pub record AfterMembers (h : Classes) (c : ClassId) (p : ObjectPart) (s : Phases) : Type 0 where
  pub members : InItsMembers h p s
  pub made : (m : ℕ) → m < length (members_of h c) → GivesAt (members_of h c) p m s

pub members_ran : (h : Classes) → IsHierarchy h → (inner : Inner) (bodies : Bodies) (c : ClassId) → Good h inner c.0 → (p : ObjectPart) → class_of p.at ≡ Some c → (s : Phases) → InItsMembers h p s → ((m : ℕ) → IsRaw (name p ++ Member m ∷ []) s)
    → Ran h (name p) p s (flat_map (λ m. member_events inner bodies c p m (slice_get (members_of h c) m)) (upto (length (members_of h c)))) (AfterMembers h c p)
unfolding member_loop
members_ran h keeps inner bodies c good p class s a raw =
    let n = length (members_of h c) in
    let run = loop h (name p) p (member_loop h keeps inner bodies c good p class) [] (upto n) s a
    (count_follows (λ m. Member m) n (λ i j e. let f : i ≡ j = cc in f) [] 0 n (omega arith)) (λ m has. absurd has) (λ m has. raw m) in
    record { end = run.end; plays = run.plays; inside = run.inside; went = run.went; did = record { members = run.did.0; made = λ m lt. run.did.1 m (inr (count_has 0 n m (omega arith) (omega arith))) } }
