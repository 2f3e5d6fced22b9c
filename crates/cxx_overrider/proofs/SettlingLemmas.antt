-- The overriders of a virtual base's functions, from those of the direct bases.
use Rattle.std.proofs.Common.{◌≡◌, ℕ, ◌+◌, ◌<◌, ◌≤◌, inl, inr, ⊎_elim, Bool, true, false, get_or, ◌↔◌, Some, None, List, [], ◌∷◌, ◌++◌, length, refl, ap, subst, sym, ◌∙◌, arith}
use Rattle.std.specs.List.{slice_get, Contains}
use Rattle.std.proofs.lemmas.Option.{slice_get-get_or, slice_get_within}
use Rattle.cxx_hierarchy.specs.declared.records.ClassId.{ClassId}
use Rattle.cxx_hierarchy.specs.declared.records.Base.{Base}
use Rattle.cxx_hierarchy.specs.Classes.{Classes, bases_of}
use Rattle.cxx_hierarchy.specs.Hierarchies.{IsHierarchy}
use Rattle.cxx_hierarchy.specs.VirtualBases.{HasVirtualBase}
use Rattle.cxx_subobject.specs.declared.Root.TheVariants.{Shared}
use Rattle.cxx_subobject.specs.declared.Subobject.{Subobject}
use Rattle.cxx_subobject.specs.Subobjects.{IsSubobject, whole, shared, subobject, whole_of, class_of, join}
use Rattle.cxx_subobject.specs.Inside.{IsInside}
use Rattle.cxx_subobject.proofs.InsideLemmas.{join_valid, inside_through, join_class, inside_virtual, virtual_inside, whole_inside}
use Rattle.cxx_overrider.specs.declared.FunctionId.{FunctionId}
use Rattle.cxx_overrider.specs.declared.Overrider.{Overrider}
use Rattle.cxx_overrider.specs.declared.places.Place.{Place}
use Rattle.cxx_overrider.specs.declared.places.Place.TheVariants.{Itself, InBase, InShared}
use Rattle.cxx_overrider.specs.declared.entries.Entry.{Entry}
use Rattle.cxx_overrider.specs.declared.settling.Settled.{Settled}
use Rattle.cxx_overrider.specs.declared.settling.Settled.TheVariants.{Nothing, One, Two}
use Rattle.cxx_overrider.specs.Functions.{Signature, overrider, signature_of}
use Rattle.cxx_overrider.specs.Overriding.{HasVirtual, IsLeft, HasTwoFinalOverriders}
use Rattle.cxx_overrider.specs.invariants.Places.{place_of_subobject, lifted, base_place, base_of, IsThrough}
use Rattle.cxx_overrider.specs.invariants.Entries.{Declares, Tells, TellsOf}
use Rattle.cxx_overrider.specs.invariants.Settling.{Holds, StandsFor, HasHolder, AreCandidates, IsAmong, IsOrder, IsTop, IsUnheld, IsAbove, AreTwoTops, IsPicked, IsSettled}
use Rattle.cxx_overrider.specs.invariants.Pure.{DeclaresNone}
use Rattle.foundation.proofs.Places.{get_front, get_last, get_pushed, contains_at, place_of as contains_get}
use Rattle.std.proofs.lemmas.Bool.{cases_lt}
use Rattle.cxx_overrider.proofs.Numbering.{same_function}
use Rattle.cxx_overrider.proofs.MarkLemmas.{part_itself}
use Rattle.cxx_overrider.proofs.Paths.{inside_antisymmetric, through_cases, through_valid, through_class, through_place, through_inside, through_join, place_through, place_shared, inside_cases}

-- a declaration below a direct base
pub declares_below : (h : Classes) (c v : ClassId) (s : Signature) (base : Base ClassId) (p : Overrider) → (t : IsThrough h c base p.at) → Declares h c v s p → Declares h base.class v s (overrider t.part p.function)
declares_below h c v s base p t d = record { valid = t.valid; class = sym (through_class h c base p.at t) ∙ d.class; has = d.has; same = d.same }

pub declares_above : (h : Classes) (c v : ClassId) (s : Signature) (base : Base ClassId) (x : Subobject) (f : FunctionId) → Contains (bases_of h c) base → (t : IsThrough h c base x) → Declares h base.class v s (overrider t.part f) → Declares h c v s (overrider x f)
declares_above h c v s base x f listed t d = record { valid = through_valid h c base x listed t; class = through_class h c base x t ∙ d.class; has = d.has; same = d.same }

stands_declares : (h : Classes) (c v : ClassId) (s : Signature) (e : Entry) → (k : StandsFor h c v s e) → Declares h c v s (overrider k.subobject e.function)
stands_declares h c v s e k = declares_above h c v s k.base k.subobject e.function k.listed k.through k.greatest.declares

lifted_apart : (base : Base ClassId) (p : Place) → lifted base p ≡ Itself → ⊥
lifted_apart base Itself e = by_way base.is_virtual base.class e
  where
    by_way : (w : Bool) (b : ClassId) → base_place w b ≡ Itself → ⊥
    by_way true b k = cc
    by_way false b k = cc
lifted_apart base (InBase d) e = by_way base.is_virtual base.class e
  where
    by_way : (w : Bool) (b : ClassId) → base_place w b ≡ Itself → ⊥
    by_way true b k = cc
    by_way false b k = cc
lifted_apart base (InShared w) e = cc

through_apart_whole : (h : Classes) (c : ClassId) (base : Base ClassId) (s : Subobject) → IsThrough h c base s → place_of_subobject s ≡ Itself → ⊥
through_apart_whole h c base s t e = lifted_apart base (place_of_subobject t.part) (sym (through_place h c base s t) ∙ e)

-- by places, and by paths
holds_inside : (h : Classes) (c v : ClassId) (s : Signature) (x y : Entry) → (a : StandsFor h c v s x) → (b : StandsFor h c v s y) → Holds h x y → IsInside h a.subobject b.subobject
holds_inside h c v s x y a b k =
    let valid = through_valid h c b.base b.subobject b.listed b.through in
    ⊎_elim
    (λ e.
    let same : place_of_subobject b.subobject ≡ place_of_subobject a.subobject = b.place ∙ (sym e ∙ sym a.place) in
    let t = place_through h c a.base b.subobject a.subobject a.listed valid a.through same in
    let d = declares_below h c v s a.base (overrider b.subobject y.function) t (stands_declares h c v s y b) in
    through_inside h c a.base a.subobject b.subobject a.through t (a.greatest.all (overrider t.part y.function) d))
    (λ w.
    let p = place_shared h c w.0 b.subobject valid (b.place ∙ w.1) in
    subst (λ (z : Subobject). IsInside h a.subobject z) (sym p.1) (virtual_inside h a.subobject x.function.class w.0 p.0 (stands_declares h c v s x a).class w.2 p.2))
    k

inside_holds : (h : Classes) (c v : ClassId) (s : Signature) (x y : Entry) → (a : StandsFor h c v s x) → (b : StandsFor h c v s y) → IsInside h a.subobject b.subobject → Holds h x y
inside_holds h c v s x y a b k =
    let d = stands_declares h c v s x a in
    ⊎_elim (λ e. inl (sym a.place ∙ (e ∙ b.place))) (λ w. inr (w.0, sym b.place ∙ w.1, w.2))
    (inside_cases h c x.function.class a.subobject b.subobject d.valid d.class (through_apart_whole h c a.base a.subobject a.through) k)

-- the entries of the direct bases are ordered
pub candidates_order : (h : Classes) (c v : ClassId) (s : Signature) (count : ℕ) (xs : List Entry) → AreCandidates h c v s count xs → IsOrder h xs
candidates_order h c v s count xs are = record {
  through = λ x y z ix iy iz a b.
      let kx = are.stand ix.number x ix.listed in
      let ky = are.stand iy.number y iy.listed in
      let kz = are.stand iz.number z iz.listed in
      inside_holds h c v s x z kx kz (inside_through h kx.subobject ky.subobject kz.subobject (holds_inside h c v s x y kx ky a) (holds_inside h c v s y z ky kz b));
}

-- whatever declares one in the class lies in what an entry stands for
pub has_holder : (h : Classes) (c v : ClassId) (s : Signature) (xs : List Entry) (p : Overrider) → DeclaresNone h c s → AreCandidates h c v s (length (bases_of h c)) xs → Declares h c v s p → HasHolder h c v s xs p.at
has_holder h c v s xs p none are d = ⊎_elim
    (λ e. absurd (none.none p.function (let same : Some c ≡ Some p.function.class = sym (ap class_of e) ∙ d.class in let f : p.function.class ≡ c = cc in f) d.same))
    (λ b.
    let at = contains_get (bases_of h c) b.0 b.1 in
    let below = declares_below h c v s b.0 p b.2 d in
    subst (λ (z : Subobject). HasHolder h c v s xs z) (sym b.2.joined) (are.all at.0 b.0 (overrider b.2.part p.function) (slice_get_within (bases_of h c) at.0 b.0 at.1) at.1 below))
    (through_cases h c p.at d.valid)

pub nothing_tells : (h : Classes) (c v : ClassId) (s : Signature) (xs : List Entry) → DeclaresNone h c s → AreCandidates h c v s (length (bases_of h c)) xs → xs ≡ [] → TellsOf h c v s None
nothing_tells h c v s xs none are e = λ p d.
    let k = has_holder h c v s xs p none are d in
    let listed : slice_get [] k.number ≡ Some k.entry = subst (λ (ys : List Entry). slice_get ys k.number ≡ Some k.entry) e k.listed in cc

pub top_tells : (h : Classes) (c v : ClassId) (s : Signature) (xs : List Entry) (e : Entry) → DeclaresNone h c s → AreCandidates h c v s (length (bases_of h c)) xs → IsTop h xs e → Tells h c v s e
top_tells h c v s xs e none are top =
    let k = are.stand top.among.number e top.among.listed in
    record {
      subobject = k.subobject;
      greatest = record {
        declares = stands_declares h c v s e k;
        all = λ p d.
            let holder = has_holder h c v s xs p none are d in
            let held = holds_inside h c v s e holder.entry k holder.stands (top.all holder.entry (record { number = holder.number; listed = holder.listed })) in
            inside_through h k.subobject holder.stands.subobject p.at held holder.holds;
      };
      place = k.place;
    }

pub own_tells : (h : Classes) (c v : ClassId) (s : Signature) (f : FunctionId) → f.class ≡ c → signature_of h f ≡ Some s → HasVirtualBase h c v → Tells h c v s (record { place = Itself; function = f })
own_tells h c v s f class same has = record {
  subobject = whole_of c;
  greatest = record {
    declares = record { valid = whole [] tt; class = ap (λ x. Some x) (sym class); has = subst (λ (x : ClassId). HasVirtualBase h x v) (sym class) has; same = same };
    all = λ p d. whole_inside h c p.at d.valid;
  };
  place = refl;
}

-- two of them are two final overriders
below_shared : (h : Classes) (d v : ClassId) (u : Subobject) → HasVirtualBase h d v → IsSubobject h v u → IsSubobject h d (join (subobject (Shared v) (v ∷ [])) u)
below_shared h d v u has valid = join_valid h d v (subobject (Shared v) (v ∷ [])) u (shared v [] has tt) refl valid

joined_again : (h : Classes) (v : ClassId) (t u : Subobject) → IsSubobject h v u → join (subobject (Shared v) (v ∷ [])) u ≡ join t (join (subobject (Shared v) (v ∷ [])) u)
joined_again h v t _ (whole q m) = refl
joined_again h v t _ (shared w q has m) = refl

declares_holds : (h : Classes) (c v : ClassId) (s : Signature) (p : Overrider) (u : Subobject) → Declares h c v s p → IsSubobject h v u → IsInside h p.at (join (subobject (Shared v) (v ∷ [])) u)
declares_holds h c v s p u d valid = record {
  class = p.function.class;
  of_class = d.class;
  part = join (subobject (Shared v) (v ∷ [])) u;
  valid = below_shared h p.function.class v u d.has valid;
  joined = joined_again h v p.at u valid;
}

pub same_overrider : (p q : Overrider) → p.at ≡ q.at → p.function ≡ q.function → p ≡ q
same_overrider p q e f =
    let make : Subobject → FunctionId → Overrider = λ a g. record { at = a; function = g } in
    let one : make p.at p.function ≡ make q.at q.function = ap (λ a. make a p.function) e ∙ ap (λ g. make q.at g) f in one

pub same_class : (h : Classes) → IsHierarchy h → (s : Signature) (a b : Subobject) (f g : FunctionId) → a ≡ b → class_of a ≡ Some f.class → class_of b ≡ Some g.class → signature_of h f ≡ Some s → signature_of h g ≡ Some s → f ≡ g
same_class h keeps s a b f g e ca cb sf sg =
    let classes : Some f.class ≡ Some g.class = sym ca ∙ (ap class_of e ∙ cb) in
    let class : f.class ≡ g.class = cc in
    same_function h keeps f g s class sf sg

unheld_left : (h : Classes) → IsHierarchy h → (c v : ClassId) (s : Signature) (xs : List Entry) (e : Entry) (u : Subobject) → DeclaresNone h c s → (are : AreCandidates h c v s (length (bases_of h c)) xs) → (un : IsUnheld h xs e) → IsSubobject h v u → HasVirtualBase h c v
    → IsLeft h c (join (subobject (Shared v) (v ∷ [])) u) s (overrider (are.stand un.among.number e un.among.listed).subobject e.function)
unheld_left h keeps c v s xs e u none are un valid hasv =
    let k = are.stand un.among.number e un.among.listed in
    let d = stands_declares h c v s e k in
    record {
      candidate = record { valid = d.valid; contains = declares_holds h c v s (overrider k.subobject e.function) u d valid; class = d.class; same = d.same };
      uncontained = λ p cand inside.
          let dp : Declares h c v s p = record { valid = cand.valid; class = cand.class; has = inside_virtual h p.function.class e.function.class v p.at k.subobject inside cand.class d.class d.has; same = cand.same } in
          let holder = has_holder h c v s xs p none are dp in
          let up = inside_through h holder.stands.subobject p.at k.subobject holder.holds inside in
          let held = un.none holder.entry (record { number = holder.number; listed = holder.listed }) (inside_holds h c v s holder.entry e holder.stands k up) in
          let down = inside_through h k.subobject holder.stands.subobject p.at (holds_inside h c v s e holder.entry k holder.stands held) holder.holds in
          let same = inside_antisymmetric h keeps p.at k.subobject inside down in
          same_overrider p (overrider k.subobject e.function) same (same_class h keeps s p.at k.subobject p.function e.function same cand.class d.class cand.same d.same);
    }

pub two_refused : (h : Classes) → IsHierarchy h → (c v : ClassId) (s : Signature) (xs : List Entry) (one other : Entry) → DeclaresNone h c s → AreCandidates h c v s (length (bases_of h c)) xs → AreTwoTops h xs one other → HasVirtualBase h c v → HasVirtual h v s → HasTwoFinalOverriders h c
two_refused h keeps c v s xs one other none are two hasv hasf =
    let u = hasf.base.part in
    let valid = hasf.base.valid in
    let k1 = are.stand two.one_unheld.among.number one two.one_unheld.among.listed in
    let k2 = are.stand two.other_unheld.among.number other two.other_unheld.among.listed in
    record {
      subobject = join (subobject (Shared v) (v ∷ [])) u;
      function = hasf.source;
      of_class = record {
        valid = below_shared h c v u hasv valid;
        class = join_class h v (subobject (Shared v) (v ∷ [])) u refl valid ∙ hasf.base.class;
        is_virtual = record { signature = s; is = hasf.same; source = record { source = hasf.source; same = hasf.same; says = hasf.says; base = part_itself h hasf.source.class } };
      };
      signature = s;
      is = hasf.same;
      one = overrider k1.subobject one.function;
      other = overrider k2.subobject other.function;
      one_left = unheld_left h keeps c v s xs one u none are two.one_unheld valid hasv;
      other_left = unheld_left h keeps c v s xs other u none are two.other_unheld valid hasv;
      differ = λ e. two.apart (inl (sym k1.place ∙ (ap (λ (o : Overrider). place_of_subobject o.at) e ∙ k2.place)));
    }

-- the list of candidates
pub no_candidates : (h : Classes) (c v : ClassId) (s : Signature) → AreCandidates h c v s 0 []
no_candidates h c v s = record { stand = λ i e f. cc; all = λ i base p lt e d. absurd (omega arith) }

holder_more : (h : Classes) (c v : ClassId) (s : Signature) (xs : List Entry) (e : Entry) (x : Subobject) → HasHolder h c v s xs x → HasHolder h c v s (xs ++ e ∷ []) x
holder_more h c v s xs e x k = record { entry = k.entry; number = k.number; listed = get_front xs (e ∷ []) k.number k.entry k.listed; stands = k.stands; holds = k.holds }

same_base : (h : Classes) (c : ClassId) (i j : ℕ) (x y : Base ClassId) → slice_get (bases_of h c) i ≡ Some x → slice_get (bases_of h c) j ≡ Some y → i ≡ j → x ≡ y
same_base h c i j x y ex ey e = let moved : slice_get (bases_of h c) i ≡ Some y = ap (slice_get (bases_of h c)) e ∙ ey in cc

pub candidates_skip : (h : Classes) (c v : ClassId) (s : Signature) (count : ℕ) (xs : List Entry) (base : Base ClassId) → slice_get (bases_of h c) count ≡ Some base → AreCandidates h c v s count xs → TellsOf h base.class v s None → AreCandidates h c v s (count + 1) xs
candidates_skip h c v s count xs base listed are none = record {
  stand = are.stand;
  all = λ i b p lt at d. ⊎_elim (λ small. are.all i b p small at d)
      (λ past. absurd (none p (subst (λ (x : Base ClassId). Declares h x.class v s p) (same_base h c i count b base at listed (omega arith)) d)))
      (cases_lt i count);
}

pub candidates_push : (h : Classes) (c v : ClassId) (s : Signature) (count : ℕ) (xs : List Entry) (base : Base ClassId) (e : Entry) → slice_get (bases_of h c) count ≡ Some base → AreCandidates h c v s count xs → Tells h base.class v s e → AreCandidates h c v s (count + 1) (xs ++ (record { place = lifted base e.place; function = e.function }) ∷ [])
candidates_push h c v s count xs base e listed are tells =
    let x : Entry = record { place = lifted base e.place; function = e.function } in
    let sub = join (base_of c base) tells.subobject in
    let t : IsThrough h c base sub = through_join h c base tells.subobject tells.greatest.declares.valid in
    let stands : StandsFor h c v s x = record {
      base = base;
      listed = contains_at (bases_of h c) count base listed;
      subobject = sub;
      through = t;
      greatest = tells.greatest;
      place = through_place h c base sub t ∙ ap (lifted base) tells.place;
    } in
    record {
      stand = λ i y at. ⊎_elim (λ a. are.stand i y a) (λ b. subst (λ (z : Entry). StandsFor h c v s z) (sym b.1) stands) (get_pushed xs x i y at);
      all = λ i b p lt at d. ⊎_elim (λ small. holder_more h c v s xs x (join (base_of c b) p.at) (are.all i b p small at d))
          (λ past.
          let same = same_base h c i count b base at listed (omega arith) in
          let moved : Declares h base.class v s p = subst (λ (z : Base ClassId). Declares h z.class v s p) same d in
          subst (λ (z : Base ClassId). HasHolder h c v s (xs ++ x ∷ []) (join (base_of c z) p.at)) (sym same)
          (record {
            entry = x;
            number = length xs;
            listed = get_last xs x;
            stands = stands;
            holds = through_inside h c base sub (join (base_of c base) p.at) t (through_join h c base p.at moved.valid) (tells.greatest.all p moved);
          }))
          (cases_lt i count);
    }

-- the scan for the highest
pub record IsAboveSoFar (h : Classes) (xs : List Entry) (start : Entry) (count : ℕ) (e : Entry) : Type 0 where
  pub above : Holds h e start
  pub none : (j : ℕ) (x : Entry) → j < count → slice_get xs j ≡ Some x → Holds h x e → Holds h e x

pub above_start : (h : Classes) (xs : List Entry) (start : Entry) → IsAboveSoFar h xs start 0 start
above_start h xs start = record { above = inl refl; none = λ j x lt e k. absurd (omega arith) }

pub above_keep : (h : Classes) (xs : List Entry) (start e y : Entry) (count : ℕ) → slice_get xs count ≡ Some y → (Holds h y e → ⊥) → IsAboveSoFar h xs start count e → IsAboveSoFar h xs start (count + 1) e
above_keep h xs start e y count at not so = record {
  above = so.above;
  none = λ j x lt f k. ⊎_elim (λ small. so.none j x small f k)
      (λ past. let same : j ≡ count = omega arith in let moved : slice_get xs j ≡ Some y = ap (slice_get xs) same ∙ at in let one : x ≡ y = cc in absurd (not (subst (λ (z : Entry). Holds h z e) one k)))
      (cases_lt j count);
}

pub above_take : (h : Classes) (xs : List Entry) (start e y : Entry) (count : ℕ) → IsOrder h xs → IsAmong xs start → IsAmong xs e → slice_get xs count ≡ Some y → Holds h y e → IsAboveSoFar h xs start count e → IsAboveSoFar h xs start (count + 1) y
above_take h xs start e y count order is ie at holds so =
    let iy : IsAmong xs y = record { number = count; listed = at } in
    record {
      above = order.through y e start iy ie is holds so.above;
      none = λ j x lt f k. ⊎_elim
          (λ small. let ix : IsAmong xs x = record { number = j; listed = f } in
          order.through y e x iy ie ix holds (so.none j x small f (order.through x y e ix iy ie k holds)))
          (λ past. let same : j ≡ count = omega arith in let moved : slice_get xs j ≡ Some y = ap (slice_get xs) same ∙ at in let one : y ≡ x = cc in inl (ap (λ (z : Entry). z.place) one))
          (cases_lt j count);
    }

pub above_all : (h : Classes) (xs : List Entry) (start e : Entry) (count : ℕ) → length xs ≤ count → IsAmong xs e → IsAboveSoFar h xs start count e → IsAbove h xs start e
above_all h xs start e count all ie so = record {
  unheld = record { among = ie; none = λ x ix k. let lt = slice_get_within xs ix.number x ix.listed in so.none ix.number x (omega arith) ix.listed k };
  above = so.above;
}

pub two_tops : (h : Classes) (xs : List Entry) (first best other second : Entry) → IsOrder h xs → IsAmong xs other → (Holds h best other → ⊥) → IsAbove h xs first best → IsAbove h xs other second → AreTwoTops h xs best second
two_tops h xs first best other second order io not a b = record {
  one_unheld = a.unheld;
  other_unheld = b.unheld;
  apart = λ k. not (order.through best second other a.unheld.among b.unheld.among io k b.above);
}

pub refuted : (b : Bool) (P : Type 0) → (b ≡ true) ↔ P → b ≡ false → P → ⊥
refuted b P is f p = let t = is.1 p in cc

pub next_all : (P : Entry → Type 0) (xs : List Entry) (i : ℕ) (d : Entry) → i < length xs → ((k : ℕ) (x : Entry) → k < i → slice_get xs k ≡ Some x → P x) → P (get_or xs i d) → (k : ℕ) (x : Entry) → k < i + 1 → slice_get xs k ≡ Some x → P x
next_all P xs i d within so at k x lt e = ⊎_elim (λ small. so k x small e)
    (λ past.
    let same : k ≡ i = omega arith in
    let moved : slice_get xs k ≡ Some (get_or xs i d) = ap (slice_get xs) same ∙ slice_get-get_or xs i d within in
    let one : get_or xs i d ≡ x = cc in subst (λ (z : Entry). P z) one at)
    (cases_lt k i)

pub settled_picked : (h : Classes) → IsHierarchy h → (c v : ClassId) (s : Signature) (xs : List Entry) (settled : Settled) → DeclaresNone h c s → AreCandidates h c v s (length (bases_of h c)) xs → HasVirtualBase h c v → IsPicked h xs settled → IsSettled h c v s settled
settled_picked h keeps c v s xs Nothing none are has picked = nothing_tells h c v s xs none are picked
settled_picked h keeps c v s xs (One e) none are has picked = top_tells h c v s xs e none are picked
settled_picked h keeps c v s xs (Two one other) none are has picked = λ f. two_refused h keeps c v s xs one other none are (picked (candidates_order h c v s (length (bases_of h c)) xs are)) has f

pub candidates_step : (h : Classes) (c v : ClassId) (s : Signature) (count : ℕ) (xs ys : List Entry) (base : Base ClassId) (e : Entry) (place : Place) → slice_get (bases_of h c) count ≡ Some base → AreCandidates h c v s count xs → Tells h base.class v s e → place ≡ lifted base e.place → ys ≡ xs ++ (record { place = place; function = e.function }) ∷ [] → AreCandidates h c v s (count + 1) ys
candidates_step h c v s count xs ys base e place listed are tells at grown =
    let made : ys ≡ xs ++ (record { place = lifted base e.place; function = e.function }) ∷ [] = grown ∙ ap (λ (p : Place). xs ++ (record { place = p; function = e.function }) ∷ []) at in
    subst (λ (zs : List Entry). AreCandidates h c v s (count + 1) zs) (sym made) (candidates_push h c v s count xs base e listed are tells)
