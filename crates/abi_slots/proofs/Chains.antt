-- The chains of a view: what is further down a chain lies at the same place, and begins the lists of what is above it.
use Rattle.std.proofs.Common.{◌≡◌, ℕ, zero, suc, ◌+◌, ◌<◌, ◌≤◌, Bool, true, false, Option, Some, None, List, [], ◌∷◌, ◌++◌, length, refl, ap, subst, sym, ◌∙◌, arith, append_assoc}
use Rattle.std.specs.Prelude.{if◌then◌else◌}
use Rattle.abi_sound.proofs.PrimaryParts.{is_in}
use Rattle.cxx_hierarchy.specs.declared.records.ClassId.{ClassId}
use Rattle.cxx_hierarchy.specs.Classes.{Classes}
use Rattle.cxx_hierarchy.specs.Hierarchies.{IsHierarchy}
use Rattle.cxx_hierarchy.specs.VirtualBases.{IsDirectBase}
use Rattle.cxx_subobject.specs.declared.Root.{Root}
use Rattle.cxx_subobject.specs.declared.Root.TheVariants.{Whole, Shared}
use Rattle.cxx_subobject.specs.declared.Subobject.{Subobject}
use Rattle.cxx_subobject.specs.Subobjects.{IsSubobject, whole, shared, subobject, shared_base, last_of, class_of, class_of_path}
use Rattle.cxx_subobject.specs.Inside.{IsInside}
use Rattle.cxx_subobject.proofs.PathLemmas.{leads_more, class_there, base_before, virtual_below, class_low, part_virtual}
use Rattle.cxx_subobject.proofs.InsideLemmas.{join_valid, join_class, inside_itself, inside_through, inside_shared}
use Rattle.cxx_subobject.proofs.TestLemmas.{class_below}
use Rattle.cxx_subobject.proofs.TreeLemmas.{same_itself}
use Rattle.abi_primary.specs.declared.Primary.{Primary}
use Rattle.abi_primary.specs.declared.Primary.TheVariants.{None as NoPrimary, Direct, Virtual}
use Rattle.abi_sound.specs.Places.{Places}
use Rattle.abi_sound.specs.Chains.{primary_part, primary_of_class, primary_by, is_subobject_in}
use Rattle.abi_slots.specs.Listing.{entries, offsets, primary_entries, primary_offsets}
use Rattle.abi_slots.specs.Views.{View, IsView, seen, place, next_by, next_in, next, along_chain, first_in}
use Rattle.abi_slots.specs.Groups.{is_shared_base}
use Rattle.abi_slots.proofs.Lists.{Keeps, keeps_itself, keeps_through}
use Rattle.abi_slots.proofs.Listings.{ArePrimaries, entries_keep, offsets_keep}
use Rattle.foundation.proofs.Truth.{split}

-- what the chains of a view stand on
pub record Setting (h : Classes) (l : Places) (x : View) : Type 0 where
  pub keeps : IsHierarchy h
  pub primaries : ArePrimaries h l
  pub one_place : (s t : Subobject) → IsSubobject h x.complete s → primary_part l x.complete s ≡ Some t → l.place x.complete t ≡ l.place x.complete s
  pub view : IsView h x

pub down_valid : (h : Classes) (c d b : ClassId) (s : Subobject) → IsSubobject h c s → class_of s ≡ Some d → IsDirectBase h d false b → IsSubobject h c (subobject s.root (s.path ++ b ∷ []))
down_valid h c d b _ (whole path l) e edge =
    let f : last_of c path ≡ d = cc in
    whole (path ++ b ∷ []) (leads_more h c path (b ∷ []) l (subst (λ a. IsDirectBase h a false b) (sym f) edge, tt))
down_valid h c d b _ (shared v path has l) e edge =
    let f : last_of v path ≡ d = cc in
    shared v (path ++ b ∷ []) has (leads_more h v path (b ∷ []) l (subst (λ a. IsDirectBase h a false b) (sym f) edge, tt))

-- one more class behind a path, in the view and in the complete object
pub seen_down : (h : Classes) (x : View) (d : ClassId) (s : Subobject) (b : ClassId) → IsSubobject h d s → seen x (subobject s.root (s.path ++ b ∷ [])) ≡ subobject (seen x s).root ((seen x s).path ++ b ∷ [])
seen_down h x d _ b (whole path l) = ap (λ p. subobject x.at_sub.root p) (sym (append_assoc x.at_sub.path path (b ∷ [])))
seen_down h x d _ b (shared v path has l) = refl

pub not_shared_path : (r : Root) (path : List ClassId) (d b : ClassId) → class_of_path path ≡ Some d → is_shared_base (subobject r (path ++ b ∷ [])) ≡ false
not_shared_path Whole path d b e = refl
not_shared_path (Shared v) [] d b e = cc
not_shared_path (Shared v) (c ∷ []) d b e = refl
not_shared_path (Shared v) (c ∷ f ∷ path) d b e = refl

-- s is in the chain of t: it lies in t, at its place, and the words of its class stand first among those of t's class
pub record IsUnder (h : Classes) (l : Places) (x : View) (t s : Subobject) : Type 0 where
  pub above : ClassId
  pub below : ClassId
  pub of_above : class_of t ≡ Some above
  pub of_below : class_of s ≡ Some below
  pub valid_above : IsSubobject h x.class t
  pub valid_below : IsSubobject h x.class s
  pub inside : IsInside h t s
  pub same_place : place l x s ≡ place l x t
  pub entries : Keeps (entries h l below) (entries h l above)
  pub offsets : Keeps (offsets h l (is_shared_base (seen x s)) below) (offsets h l (is_shared_base (seen x t)) above)

primary_is : (l : Places) (c : ClassId) (s t : Subobject) (d : ClassId) (p : Primary) → class_of s ≡ Some d → l.primary d ≡ p → primary_by l c s p ≡ Some t → primary_part l c s ≡ Some t
primary_is l c s t d p e is same = subst (λ o. primary_of_class l c s o ≡ Some t) (sym e) (subst (λ a. primary_by l c s a ≡ Some t) (sym is) same)

held_there : (o : Option Subobject) (s : Subobject) (v : ClassId) → o ≡ Some s → (if is_subobject_in o s then Some (shared_base v) else None) ≡ Some (shared_base v)
held_there o s v e = subst (λ a. (if is_subobject_in a s then Some (shared_base v) else None) ≡ Some (shared_base v)) (sym e) (rw (same_itself s) refl)

pub same_some : {A : Type 0} (a b : A) → Some a ≡ Some b → a ≡ b
same_some a b e = cc

module _ (h : Classes) (l : Places) (x : View) (set : Setting h l x) where
  pub known : (d : ClassId) (s : Subobject) → IsSubobject h x.class s → class_of s ≡ Some d → d.0 < length h
  known d s valid e =
      let a = class_low h set.keeps x.class d s valid e in
      let b = class_low h set.keeps x.complete x.class x.at_sub set.view.valid set.view.of_class in
      let k = set.view.known in
      omega arith

  pub seen_valid : (s : Subobject) → IsSubobject h x.class s → IsSubobject h x.complete (seen x s)
  seen_valid s valid = join_valid h x.complete x.class x.at_sub s set.view.valid set.view.of_class valid

  pub seen_class : (s : Subobject) (d : ClassId) → IsSubobject h x.class s → class_of s ≡ Some d → class_of (seen x s) ≡ Some d
  seen_class s d valid e = join_class h x.class x.at_sub s set.view.of_class valid ∙ e

  pub under_itself : (s : Subobject) → IsSubobject h x.class s → IsUnder h l x s s
  under_itself s valid =
      let d = class_there h x.class s valid in
      record {
        above = d.0;
        below = d.0;
        of_above = d.1;
        of_below = d.1;
        valid_above = valid;
        valid_below = valid;
        inside = inside_itself h x.class s valid;
        same_place = refl;
        entries = keeps_itself (entries h l d.0);
        offsets = keeps_itself (offsets h l (is_shared_base (seen x s)) d.0);
      }

  pub under_through : (t s r : Subobject) → IsUnder h l x t s → IsUnder h l x s r → IsUnder h l x t r
  under_through t s r a b =
      let same : b.above ≡ a.below = same_some b.above a.below (sym b.of_above ∙ a.of_below) in
      record {
        above = a.above;
        below = b.below;
        of_above = a.of_above;
        of_below = b.of_below;
        valid_above = a.valid_above;
        valid_below = b.valid_below;
        inside = inside_through h t s r a.inside b.inside;
        same_place = b.same_place ∙ a.same_place;
        entries = keeps_through (entries h l b.below) (entries h l a.below) (entries h l a.above) (subst (λ c. Keeps (entries h l b.below) (entries h l c)) same b.entries) a.entries;
        offsets = keeps_through (offsets h l (is_shared_base (seen x r)) b.below) (offsets h l (is_shared_base (seen x s)) a.below) (offsets h l (is_shared_base (seen x t)) a.above) (subst (λ c. Keeps (offsets h l (is_shared_base (seen x r)) b.below) (offsets h l (is_shared_base (seen x s)) c)) same b.offsets) a.offsets;
      }

  -- the next of a chain, and its class has a smaller number
  pub record IsNextUnder (s u : Subobject) : Type 0 where
    pub under : IsUnder h l x s u
    pub less : under.below.0 < under.above.0

  next_direct : (s : Subobject) (d b : ClassId) → IsSubobject h x.class s → class_of s ≡ Some d → l.primary d ≡ Direct b → IsNextUnder s (subobject s.root (s.path ++ b ∷ []))
  next_direct s d b valid e is =
      let there = known d s valid e in
      let edge = (set.primaries.direct d b there is).0 in
      let part = primary_is l x.complete (seen x s) (subobject (seen x s).root ((seen x s).path ++ b ∷ [])) d (Direct b) (seen_class s d valid e) is refl in
      let same = seen_down h x x.class s b valid in
      let flat : is_shared_base (seen x (subobject s.root (s.path ++ b ∷ []))) ≡ false = ap is_shared_base same ∙ not_shared_path (seen x s).root (seen x s).path d b (seen_class s d valid e) in
      let old = subst (λ p. Keeps (primary_entries (entries h l) p) (entries h l d)) is (entries_keep h l set.keeps set.primaries d there) in
      let more = subst (λ p. Keeps (primary_offsets (offsets h l) p) (offsets h l (is_shared_base (seen x s)) d)) is (offsets_keep h l set.keeps set.primaries (is_shared_base (seen x s)) d there) in
      record {
        under = record {
          above = d;
          below = b;
          of_above = e;
          of_below = class_below s.path d b e;
          valid_above = valid;
          valid_below = down_valid h x.class d b s valid e edge;
          inside = record { class = d; of_class = e; part = subobject Whole (d ∷ b ∷ []); valid = whole (b ∷ []) (edge, tt); joined = refl };
          same_place = ap (l.place x.complete) same ∙ set.one_place (seen x s) (subobject (seen x s).root ((seen x s).path ++ b ∷ [])) (seen_valid s valid) part;
          entries = old;
          offsets = subst (λ f. Keeps (offsets h l f b) (offsets h l (is_shared_base (seen x s)) d)) (sym flat) more;
        };
        less = base_before h set.keeps d b false edge;
      }

  next_shared : (s : Subobject) (d v : ClassId) → IsSubobject h x.class s → class_of s ≡ Some d → l.primary d ≡ Virtual v → l.holder x.complete v ≡ Some (seen x s) → IsNextUnder s (shared_base v)
  next_shared s d v valid e is held =
      let there = known d s valid e in
      let base = (set.primaries.virtual d v there is).0 in
      let part = primary_is l x.complete (seen x s) (shared_base v) d (Virtual v) (seen_class s d valid e) is (held_there (l.holder x.complete v) (seen x s) v held) in
      let old = subst (λ p. Keeps (primary_entries (entries h l) p) (entries h l d)) is (entries_keep h l set.keeps set.primaries d there) in
      let more = subst (λ p. Keeps (primary_offsets (offsets h l) p) (offsets h l (is_shared_base (seen x s)) d)) is (offsets_keep h l set.keeps set.primaries (is_shared_base (seen x s)) d there) in
      record {
        under = record {
          above = d;
          below = v;
          of_above = e;
          of_below = refl;
          valid_above = valid;
          valid_below = shared v [] (part_virtual h x.class d v s valid e base) tt;
          inside = inside_shared h d v s e base;
          same_place = set.one_place (seen x s) (shared_base v) (seen_valid s valid) part;
          entries = old;
          offsets = more;
        };
        less = virtual_below h set.keeps d v base;
      }

  next_of : (s u : Subobject) (d : ClassId) → IsSubobject h x.class s → class_of s ≡ Some d → (p : Primary) → l.primary d ≡ p → next_by l x s p ≡ Some u → IsNextUnder s u
  next_of s u d valid e NoPrimary is f = cc
  next_of s u d valid e (Direct b) is f = subst (λ a. IsNextUnder s a) (same_some (subobject s.root (s.path ++ b ∷ [])) u f) (next_direct s d b valid e is)
  next_of s u d valid e (Virtual v) is f = split (is_subobject_in (l.holder x.complete v) (seen x s)) (λ b. is_subobject_in (l.holder x.complete v) (seen x s) ≡ b → (if b then Some (shared_base v) else None) ≡ Some u → IsNextUnder s u)
      (λ t same g. subst (λ a. IsNextUnder s a) (same_some (shared_base v) u g) (next_shared s d v valid e is (is_in (l.holder x.complete v) (seen x s) same)))
      (λ t same g. cc)
      refl f

  pub next_under : (s u : Subobject) → IsSubobject h x.class s → next l x s ≡ Some u → IsNextUnder s u
  next_under s u valid e =
      let d = class_there h x.class s valid in
      next_of s u d.0 valid d.1 (l.primary d.0) refl (subst (λ o. next_in l x s o ≡ Some u) d.1 e)

  walk_none : (i : ℕ) → along_chain (next l x) i None ≡ None
  walk_none zero = refl
  walk_none (suc i) = refl

  -- so far down a chain, and so much smaller is the number of the class at least
  pub record IsWalked (i : ℕ) (s u : Subobject) : Type 0 where
    pub under : IsUnder h l x s u
    pub less : (a b : ClassId) → class_of s ≡ Some a → class_of u ≡ Some b → i + b.0 ≤ a.0

  more_walked : (i : ℕ) (s u r : Subobject) → IsNextUnder s u → IsWalked i u r → IsWalked (suc i) s r
  more_walked i s u r one rest = record {
    under = under_through s u r one.under rest.under;
    less = λ a b of_a of_b.
        let same : one.under.above ≡ a = same_some one.under.above a (sym one.under.of_above ∙ of_a) in
        let first : one.under.below.0 < a.0 = subst (λ (c : ClassId). one.under.below.0 < c.0) same one.less in
        let last = rest.less one.under.below b one.under.of_below of_b in
        omega arith;
  }

  pub walk_under : (i : ℕ) (s r : Subobject) → IsSubobject h x.class s → along_chain (next l x) i (Some s) ≡ Some r → IsWalked i s r
  walk_under zero s r valid e = subst (λ a. IsWalked 0 s a) (same_some s r e) (record { under = under_itself s valid; less = λ a b of_a of_b. let f : a ≡ b = same_some a b (sym of_a ∙ of_b) in subst (λ (c : ClassId). 0 + c.0 ≤ a.0) f (omega arith) })
  walk_under (suc i) s r valid e = by_next (next l x s) refl e (λ u inner there. walk_under i u r inner there)
    where
      by_next : (o : Option Subobject) → next l x s ≡ o → along_chain (next l x) i o ≡ Some r → ((u : Subobject) → IsSubobject h x.class u → along_chain (next l x) i (Some u) ≡ Some r → IsWalked i u r) → IsWalked (suc i) s r
      by_next None is there rest = absurd (let fails = walk_none i in cc)
      by_next (Some u) is there rest = let one = next_under s u valid is in more_walked i s u r one (rest u one.under.valid_below there)

-- the first that passes a test stands at or above one that passes
pub record IsFirstFound (p : Subobject → Bool) (go : Subobject → Option Subobject) (fuel : ℕ) (s r : Subobject) : Type 0 where
  pub first : Subobject
  pub above : ℕ
  pub from : along_chain go above (Some s) ≡ Some first
  pub below : ℕ
  pub to : along_chain go below (Some first) ≡ Some r
  pub passes : p first ≡ true
  pub is : first_in p go fuel (Some s) ≡ Some first

walk_no : (go : Subobject → Option Subobject) (i : ℕ) → along_chain go i None ≡ None
walk_no go zero = refl
walk_no go (suc i) = refl

pub first_found : (p : Subobject → Bool) (go : Subobject → Option Subobject) (fuel i : ℕ) (s r : Subobject) → along_chain go i (Some s) ≡ Some r → p r ≡ true → i < fuel → IsFirstFound p go fuel s r
first_found p go zero i s r e pass less = absurd (omega arith)
first_found p go (suc fuel) i s r e pass less = by_bool (p s) refl i e less (λ k u there small. first_found p go fuel k u r there pass small)
  where
    by_next : (o : Option Subobject) (k : ℕ) → go s ≡ o → p s ≡ false → along_chain go k o ≡ Some r → k < fuel → ((k : ℕ) (u : Subobject) → along_chain go k (Some u) ≡ Some r → k < fuel → IsFirstFound p go fuel u r) → IsFirstFound p go (suc fuel) s r
    by_next None k is fails there small rest = absurd (let none = walk_no go k in cc)
    by_next (Some u) k is fails there small rest = let f = rest k u there small in record {
      first = f.first;
      above = suc f.above;
      from = rw is f.from;
      below = f.below;
      to = f.to;
      passes = f.passes;
      is = rw (fails, is) f.is;
    }

    by_bool : (b : Bool) → p s ≡ b → (i : ℕ) → along_chain go i (Some s) ≡ Some r → i < suc fuel → ((k : ℕ) (u : Subobject) → along_chain go k (Some u) ≡ Some r → k < fuel → IsFirstFound p go fuel u r) → IsFirstFound p go (suc fuel) s r
    by_bool true holds i there small rest = record { first = s; above = 0; from = refl; below = i; to = there; passes = holds; is = rw holds refl }
    by_bool false fails zero there small rest = absurd (let same : s ≡ r = same_some s r there in let t : p s ≡ true = rw same pass in cc)
    by_bool false fails (suc k) there small rest = by_next (go s) k refl fails there (omega arith) rest
