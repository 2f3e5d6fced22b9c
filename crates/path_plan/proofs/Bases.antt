-- The virtual bases and the direct bases of a part, built one after another.
use Rattle.std.proofs.Common.{◌≡◌, ℕ, suc, ◌<◌, inl, inr, true, false, Some, List, [], ◌∷◌, ◌++◌, map, refl, ap, subst, sym, ◌∙◌, arith, append_assoc}
use Rattle.std.specs.Prelude.{if◌then◌else◌, slice_get}
use Rattle.std.specs.List.{Contains, flat_map}
use Rattle.cxx_hierarchy.specs.declared.records.ClassId.{ClassId}
use Rattle.cxx_hierarchy.specs.declared.records.Base.{Base}
use Rattle.cxx_hierarchy.specs.Classes.{Classes, bases_of}
use Rattle.cxx_hierarchy.specs.Hierarchies.{IsHierarchy}
use Rattle.cxx_hierarchy.specs.VirtualBases.{HasVirtualBase, direct, further}
use Rattle.cxx_subobject.specs.declared.Root.TheVariants.{Whole, Shared}
use Rattle.cxx_subobject.specs.declared.Subobject.{Subobject}
use Rattle.cxx_subobject.specs.Subobjects.{whole_of, class_of, base_subobject}
use Rattle.foundation.proofs.Members.{Has, contains_from_has, has_from_contains}
use Rattle.foundation.proofs.Truth.{split}
use Rattle.cxx_subobject.proofs.TreeLemmas.{edge, base_down, base_across}
use Rattle.cxx_subobject.proofs.PathLemmas.{class_of_longer, virtual_below}
use Rattle.foundation.proofs.Members.{index_of}
use Rattle.path_plan.specs.Places.{ObjectPart, part, base_part, shared_part, base_kid, IsPartWithin, deeper}
use Rattle.path_plan.specs.Phases.{Phase, Raw, InBases, Complete, Phases, Begin, put, phases_after}
use Rattle.path_plan.specs.declared.form.Form.{Form}
use Rattle.path_plan.specs.declared.form.Form.TheVariants.{InFull, AsBase}
use Rattle.path_plan.specs.Plans.{Inner, shared_events, base_events, virtual_order}
use Rattle.path_plan.proofs.Names.{Token, At, Next, Member, owner_name, name, region, region_name, Begins, begins_itself, begins_more, begins_through, begins_child, apart, not_child, name_base, IsRaw, raw_below}
use Rattle.path_plan.proofs.Same.{put_other}
use Rattle.path_plan.proofs.Growth.{went_none, went_wider, stays, raw_stays, events_wider, Ran}
use Rattle.path_plan.proofs.Loop.{Follows, Loop, loop}
use Rattle.path_plan.proofs.Order.{Shareable, order_has, order_follows}
use Rattle.path_plan.proofs.Around.{Stage, InItsBases, in_bases_stays, begun}

-- the inner plans are good for classes below n
pub record Good (h : Classes) (inner : Inner) (n : ℕ) : Type 0 where
  pub at : (form : Form) (c : ClassId) (p : ObjectPart) (s : Phases) → c.0 < n → Stage h form c p s → Ran h (region form p) p s (inner form c p) (λ s'. s'.phase p ≡ Complete)

pub class_base : (p : ObjectPart) (c : ClassId) (b : Base ClassId) → class_of p.at ≡ Some c → class_of (base_part p b).at ≡ Some b.class
class_base p c b e = split b.is_virtual (λ t. class_of (base_subobject p.at b) ≡ Some b.class)
    (λ f. ap class_of (base_across p.at b f))
    (λ f. ap class_of (base_down p.at b f) ∙ class_of_longer p.at.path (b.class ∷ []) c e)

pub base_in : (h : Classes) (p : ObjectPart) (c : ClassId) (b : Base ClassId) (q : ObjectPart) → class_of p.at ≡ Some c → Contains (bases_of h c) b → IsPartWithin h q (base_part p b) → IsPartWithin h q p
base_in h p c b q class listed inside = deeper p (base_part p b) (base_kid c b class listed refl) inside

pub shared_of_base : (p : ObjectPart) (b : Base ClassId) → b.is_virtual ≡ true → shared_part p b.class ≡ base_part p b
shared_of_base p b e = ap (λ x. part p.object p.owner x) (sym (base_across p.at b e))

pub shared_in : (h : Classes) (c v : ClassId) (q : ObjectPart) → HasVirtualBase h c v → (p : ObjectPart) → class_of p.at ≡ Some c → IsPartWithin h q (shared_part p v) → IsPartWithin h q p
shared_in h _ _ q (direct c v d) p class inside = base_in h p c d.base q class d.listed
    (subst (λ (x : ObjectPart). IsPartWithin h q x) (shared_of_base p d.base d.way) (subst (λ (x : ClassId). IsPartWithin h q (shared_part p x)) (sym d.class) inside))
shared_in h _ _ q (further c b v way d rest) p class inside = base_in h p c d.base q class d.listed
    (shared_in h b v q rest (base_part p d.base) (class_base p c d.base class ∙ ap (λ x. Some x) d.class) inside)

-- names of shared bases and of the whole
front : (c : ClassId) (p : ObjectPart) → p.at ≡ whole_of c → Begins (owner_name p.object p.owner ++ At Whole ∷ []) (name p)
front c p e = record { rest = map (λ d. Next d) p.at.path; is = ap (λ (x : Subobject). owner_name p.object p.owner ++ At x.root ∷ map (λ d. Next d) p.at.path) e ∙ sym (append_assoc (owner_name p.object p.owner) (At Whole ∷ []) (map (λ d. Next d) p.at.path)) }

shared_front : (p : ObjectPart) (v : ClassId) → Begins (owner_name p.object p.owner ++ At (Shared v) ∷ []) (name (shared_part p v))
shared_front p v = record { rest = Next v ∷ []; is = sym (append_assoc (owner_name p.object p.owner) (At (Shared v) ∷ []) (Next v ∷ [])) }

not_shared : (c v : ClassId) (p : ObjectPart) (n : List Token) → p.at ≡ whole_of c → Begins (owner_name p.object p.owner ++ At (Shared v) ∷ []) n → Begins (name p) n → ⊥
not_shared c v p n e a b =
    let f : At (Shared v) ≡ At Whole = apart (owner_name p.object p.owner) (At (Shared v)) (At Whole) n a (begins_through (owner_name p.object p.owner ++ At Whole ∷ []) (name p) n (front c p e) b) in
    cc

-- what the name p does not lie in stays raw when p begins
pub raw_put : (u : List Token) (s : Phases) (p : ObjectPart) (x : Phase) → (Begins u (name p) → ⊥) → IsRaw u s → (q : ObjectPart) → Begins u (name q) → put s.phase p x q ≡ Raw
raw_put u s p x off raw q b = put_other s.phase p x q (λ same. off (subst (λ (y : ObjectPart). Begins u (name y)) (sym same) b)) ∙ raw q b

-- the shared bases are complete, and the rest is untouched
pub record AfterShared (h : Classes) (c : ClassId) (p : ObjectPart) (s : Phases) : Type 0 where
  pub bases : InItsBases h p s
  pub raw : (x : Token) → IsRaw (name p ++ x ∷ []) s
  pub shared : (v : ClassId) → HasVirtualBase h c v → s.phase (shared_part p v) ≡ Complete

record InShared (h : Classes) (p : ObjectPart) (s : Phases) : Type 0 where
  bases : InItsBases h p s
  raw : (x : Token) → IsRaw (name p ++ x ∷ []) s

shared_loop : (h : Classes) → IsHierarchy h → (inner : Inner) (c : ClassId) → Good h inner c.0 → (p : ObjectPart) → p.at ≡ whole_of c → Loop ClassId h (owner_name p.object p.owner) p
shared_loop h keeps inner c good p whole = record {
  token = λ v. At (Shared v);
  events = λ v. inner AsBase v (shared_part p v);
  Around = InShared h p;
  Gives = λ v s. s.phase (shared_part p v) ≡ Complete;
  Allowed = Shareable h c;
  inv = λ s a. a.bases.inv;
  around = λ v s s' went a. record {
    bases = in_bases_stays h (t ++ At (Shared v) ∷ []) p s s' (λ b. not_shared c v p (name p) whole b (begins_itself (name p))) went a.bases;
    raw = λ x. raw_stays h (t ++ At (Shared v) ∷ []) (name p ++ x ∷ []) p s s' went (λ n b d. not_shared c v p n whole b (begins_child (name p) x n d)) (a.raw x);
  };
  keeps = λ v w s s' went e. stays h (t ++ At (Shared v) ∷ []) p s s' (shared_part p w) went e;
  step = λ done v s a allowed had raw.
      let stage : Stage h AsBase v (shared_part p v) s = record {
        inv = a.bases.inv;
        raw = raw_below (t ++ At (Shared v) ∷ []) (name (shared_part p v)) s (shared_front p v) raw;
        quiet = a.bases.quiet;
        views = a.bases.views;
        takes = refl;
        has_shared = λ w has. had w (allowed.1 w has);
      } in
      let run = good.at AsBase v (shared_part p v) s (virtual_below h keeps c v allowed.0) stage in
      record {
        end = run.end;
        plays = run.plays;
        inside = events_wider h (shared_part p v) p (inner AsBase v (shared_part p v)) (λ q inside. shared_in h c v q allowed.0 p (ap class_of whole) inside) run.inside;
        went = went_wider h (name (shared_part p v)) (t ++ At (Shared v) ∷ []) (shared_part p v) p s run.end
            (λ n b. begins_through (t ++ At (Shared v) ∷ []) (name (shared_part p v)) n (shared_front p v) b)
            (λ q inside. shared_in h c v q allowed.0 p (ap class_of whole) inside) refl run.went;
        did = run.did;
      };
}
  where
    t : List Token
    t = owner_name p.object p.owner

pub shared_ran : (h : Classes) → IsHierarchy h → (inner : Inner) (form : Form) (c : ClassId) → Good h inner c.0 → (p : ObjectPart) (s : Phases) → Stage h form c p s
    → Ran h (region form p) p (phases_after s (Begin p)) (shared_events inner form p (virtual_order h c)) (AfterShared h c p)
unfolding shared_loop
shared_ran h keeps inner AsBase c good p s a = record {
  end = phases_after s (Begin p);
  plays = refl;
  inside = tt;
  went = went_none h (name p) p (phases_after s (Begin p)) (begun h AsBase c p s a).inv;
  did = record {
    bases = begun h AsBase c p s a;
    raw = λ x. raw_put (name p ++ x ∷ []) s p InBases (not_child (name p) x) (raw_below (name p) (name p ++ x ∷ []) s (begins_more (name p) (x ∷ [])) a.raw);
    shared = λ v has. put_other s.phase p InBases (shared_part p v)
        (λ same. let e : s.phase p ≡ Complete = subst (λ (y : ObjectPart). s.phase y ≡ Complete) (sym same) (a.has_shared v has) in
        let r : s.phase p ≡ Raw = a.raw p (begins_itself (name p)) in
        let f : Raw ≡ Complete = sym r ∙ e in absurd (cc)) ∙ a.has_shared v has;
  };
}
shared_ran h keeps inner InFull c good p s a =
    let t = owner_name p.object p.owner in
    let l = shared_loop h keeps inner c good p a.takes in
    let b = begun h InFull c p s a in
    let run = loop h t p l [] (virtual_order h c) (phases_after s (Begin p))
    (record {
      bases = b;
      raw = λ x. raw_put (name p ++ x ∷ []) s p InBases (not_child (name p) x)
          (raw_below t (name p ++ x ∷ []) s (begins_through t (name p) (name p ++ x ∷ []) (region_name InFull p) (begins_more (name p) (x ∷ []))) a.raw);
    })
    (order_follows h keeps c) (λ v has. absurd has)
    (λ v has. raw_put (t ++ At (Shared v) ∷ []) s p InBases (λ d. not_shared c v p (name p) a.takes d (begins_itself (name p)))
    (raw_below t (t ++ At (Shared v) ∷ []) s (begins_more t (At (Shared v) ∷ [])) a.raw)) in
    record {
      end = run.end;
      plays = run.plays;
      inside = run.inside;
      went = run.went;
      did = record { bases = run.did.0.bases; raw = run.did.0.raw; shared = λ v has. run.did.1 v (inr (order_has h keeps c v has)) };
    }

-- all bases are complete, and the members are untouched
pub record AfterBases (h : Classes) (c : ClassId) (p : ObjectPart) (s : Phases) : Type 0 where
  pub bases : InItsBases h p s
  pub raw : (m : ℕ) → IsRaw (name p ++ Member m ∷ []) s
  pub made : (b : Base ClassId) → Contains (bases_of h c) b → s.phase (base_part p b) ≡ Complete

record AmongBases (h : Classes) (c : ClassId) (p : ObjectPart) (s : Phases) : Type 0 where
  bases : InItsBases h p s
  raw : (m : ℕ) → IsRaw (name p ++ Member m ∷ []) s
  shared : (v : ClassId) → HasVirtualBase h c v → s.phase (shared_part p v) ≡ Complete

base_step : (h : Classes) → IsHierarchy h → (inner : Inner) (c : ClassId) → Good h inner c.0 → (p : ObjectPart) → class_of p.at ≡ Some c → (b : Base ClassId) (s : Phases) → AmongBases h c p s → Contains (bases_of h c) b → IsRaw (name p ++ Next b.class ∷ []) s
    → Ran h (name p ++ Next b.class ∷ []) p s (base_events inner p b) (λ s'. b.is_virtual ≡ false → s'.phase (base_part p b) ≡ Complete)
base_step h keeps inner c good p class b s a listed raw = split b.is_virtual
    (λ t. Ran h (name p ++ Next b.class ∷ []) p s (if t then [] else inner AsBase b.class (base_part p b)) (λ s'. b.is_virtual ≡ false → s'.phase (base_part p b) ≡ Complete))
    (λ e. record { end = s; plays = refl; inside = tt; went = went_none h (name p ++ Next b.class ∷ []) p s a.bases.inv; did = λ f. absurd (cc) })
    (λ e.
    let named = name_base p b e in
    let stage : Stage h AsBase b.class (base_part p b) s = record {
      inv = a.bases.inv;
      raw = subst (λ (n : List Token). IsRaw n s) (sym named) raw;
      quiet = a.bases.quiet;
      views = a.bases.views;
      takes = class_base p c b class;
      has_shared = λ v has. a.shared v (further c b.class v b.is_virtual (edge h c b b.is_virtual listed refl) has);
    } in
    let run = good.at AsBase b.class (base_part p b) s (keeps.bases c b listed) stage in
    record {
      end = run.end;
      plays = run.plays;
      inside = events_wider h (base_part p b) p (inner AsBase b.class (base_part p b)) (λ q inside. base_in h p c b q class listed inside) run.inside;
      went = went_wider h (name (base_part p b)) (name p ++ Next b.class ∷ []) (base_part p b) p s run.end (λ n d. subst (λ (m : List Token). Begins m n) named d)
          (λ q inside. base_in h p c b q class listed inside) refl run.went;
      did = λ f. run.did;
    })

base_loop : (h : Classes) → IsHierarchy h → (inner : Inner) (c : ClassId) → Good h inner c.0 → (p : ObjectPart) → class_of p.at ≡ Some c → Loop (Base ClassId) h (name p) p
base_loop h keeps inner c good p class = record {
  token = λ b. Next b.class;
  events = base_events inner p;
  Around = AmongBases h c p;
  Gives = λ b s. b.is_virtual ≡ false → s.phase (base_part p b) ≡ Complete;
  Allowed = λ done b. Contains (bases_of h c) b;
  inv = λ s a. a.bases.inv;
  around = λ b s s' went a. record {
    bases = in_bases_stays h (name p ++ Next b.class ∷ []) p s s' (not_child (name p) (Next b.class)) went a.bases;
    raw = λ m. raw_stays h (name p ++ Next b.class ∷ []) (name p ++ Member m ∷ []) p s s' went
        (λ n x y. let f : Next b.class ≡ Member m = apart (name p) (Next b.class) (Member m) n x y in absurd (cc)) (a.raw m);
    shared = λ v has. stays h (name p ++ Next b.class ∷ []) p s s' (shared_part p v) went (a.shared v has);
  };
  keeps = λ b d s s' went e f. stays h (name p ++ Next b.class ∷ []) p s s' (base_part p d) went (e f);
  step = λ done b s a listed had raw. base_step h keeps inner c good p class b s a listed raw;
}

-- no two direct bases are of one class
distinct : {X : Type 0} (token : X → Token) (Allowed : List X → X → Type 0) (done xs : List X) → ((d : List X) (x : X) → Has xs x → Allowed d x)
    → ((i j : ℕ) (x y : X) → slice_get xs i ≡ Some x → slice_get xs j ≡ Some y → token x ≡ token y → i ≡ j) → Follows token Allowed done xs
distinct token Allowed done [] allowed once = tt
distinct token Allowed done (x ∷ xs) allowed once = (
  allowed done x (inl refl),
  λ y has same. let at = index_of xs y has in let f : 0 ≡ suc at.0 = once 0 (suc at.0) x y refl at.1 same in absurd (omega arith),
  distinct token Allowed (x ∷ done) xs (λ d y has. allowed d y (inr has)) (λ i j y z e f same. let g : suc i ≡ suc j = once (suc i) (suc j) y z e f same in omega arith),
)

pub bases_ran : (h : Classes) → IsHierarchy h → (inner : Inner) (c : ClassId) → Good h inner c.0 → (p : ObjectPart) → class_of p.at ≡ Some c → (s : Phases) → AfterShared h c p s
    → Ran h (name p) p s (flat_map (base_events inner p) (bases_of h c)) (AfterBases h c p)
unfolding base_loop
bases_ran h keeps inner c good p class s a =
    let run = loop h (name p) p (base_loop h keeps inner c good p class) [] (bases_of h c) s
    (record { bases = a.bases; raw = λ m. a.raw (Member m); shared = a.shared })
    (distinct (λ b. Next b.class) (λ done b. Contains (bases_of h c) b) [] (bases_of h c) (λ d b has. contains_from_has (bases_of h c) b has) (λ i j x y e f same. keeps.once c i j x y e f (let g : x.class ≡ y.class = cc in g)))
    (λ b has. absurd has) (λ b has. a.raw (Next b.class)) in
    record {
      end = run.end;
      plays = run.plays;
      inside = run.inside;
      went = run.went;
      did = record {
        bases = run.did.0.bases;
        raw = run.did.0.raw;
        made = λ b listed. split b.is_virtual (λ t. b.is_virtual ≡ t → run.end.phase (base_part p b) ≡ Complete)
            (λ _ e. subst (λ (x : ObjectPart). run.end.phase x ≡ Complete) (shared_of_base p b e) (run.did.0.shared b.class (direct c b.class (edge h c b true listed e))))
            (λ _ e. run.did.1 b (inr (has_from_contains (bases_of h c) b listed)) e) refl;
      };
    }
