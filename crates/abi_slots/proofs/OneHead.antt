-- A subobject of a view is in the chain of one head alone.
use Rattle.std.proofs.Common.{◌≡◌, ℕ, zero, suc, true, false, Option, Some, None, [], ◌∷◌, ◌++◌, refl, ap, subst, sym, ◌∙◌}
use Rattle.std.specs.Prelude.{if◌then◌else◌, not}
use Rattle.std.proofs.lemmas.Bool.{and_parts}
use Rattle.std.proofs.lemmas.List.{same_from_push}
use Rattle.cxx_hierarchy.specs.declared.records.ClassId.{ClassId}
use Rattle.cxx_hierarchy.specs.Classes.{Classes}
use Rattle.cxx_subobject.specs.declared.Subobject.{Subobject}
use Rattle.cxx_subobject.specs.Subobjects.{IsSubobject, subobject, shared_base, class_of, class_of_path}
use Rattle.cxx_subobject.specs.Preorder.{preorder}
use Rattle.cxx_subobject.proofs.PathLemmas.{class_there}
use Rattle.cxx_subobject.proofs.InsideLemmas.{join_injective}
use Rattle.cxx_subobject.proofs.TreeLemmas.{same_itself}
use Rattle.abi_primary.specs.declared.Primary.{Primary}
use Rattle.abi_primary.specs.declared.Primary.TheVariants.{None as NoPrimary, Direct, Virtual}
use Rattle.abi_sound.specs.Places.{Places}
use Rattle.abi_sound.specs.Chains.{is_subobject_in}
use Rattle.abi_slots.specs.Views.{View, seen, next_by, next_in, next, is_dynamic_class, is_first, is_head, along_chain, Serves}
use Rattle.abi_slots.proofs.Lists.{any_item}
use Rattle.abi_slots.proofs.Bases.{preorder_item}
use Rattle.abi_slots.proofs.Chains.{Setting, same_some, walk_under}
use Rattle.foundation.proofs.Truth.{split}
use Rattle.abi_sound.proofs.PrimaryParts.{is_in}

-- a subobject has a path
pub some_path : (h : Classes) (c : ClassId) (s : Subobject) → IsSubobject h c s → s.path ≡ [] → ⊥
some_path h c s valid e = let d = class_there h c s valid in let none : None ≡ Some d.0 = sym (ap class_of_path e) ∙ d.1 in absurd (cc)

-- a virtual base comes next to its holder r
pub record IsHeld (o : Option Subobject) (r s : Subobject) (v : ClassId) : Type 0 where
  pub held : o ≡ Some r
  pub base : shared_base v ≡ s

pub held_if : (o : Option Subobject) (r s : Subobject) (v : ClassId) → (if is_subobject_in o r then Some (shared_base v) else None) ≡ Some s → IsHeld o r s v
held_if o r s v = split (is_subobject_in o r) (λ b. is_subobject_in o r ≡ b → (if b then Some (shared_base v) else None) ≡ Some s → IsHeld o r s v)
    (λ t same e. record { held = is_in o r same; base = same_some (shared_base v) s e })
    (λ t same e. absurd (cc))
    refl

-- the end of a walk
record IsLast (go : Subobject → Option Subobject) (n : ℕ) (t s : Subobject) : Type 0 where
  before : Subobject
  leads : along_chain go n (Some t) ≡ Some before
  goes : go before ≡ Some s

walk_none : (go : Subobject → Option Subobject) (n : ℕ) (s : Subobject) → along_chain go n None ≡ Some s → ⊥
walk_none go zero s e = absurd (cc)
walk_none go (suc n) s e = absurd (cc)

last_step : (go : Subobject → Option Subobject) (n : ℕ) (t s : Subobject) → along_chain go (suc n) (Some t) ≡ Some s → IsLast go n t s
last_step go zero t s e = record { before = t; leads = refl; goes = e }
last_step go (suc n) t s e = by_next (go t) refl e (λ u there. last_step go n u s there)
  where
    by_next : (o : Option Subobject) → go t ≡ o → along_chain go (suc n) o ≡ Some s → ((u : Subobject) → along_chain go (suc n) (Some u) ≡ Some s → IsLast go n u s) → IsLast go (suc n) t s
    by_next None is there rest = absurd (walk_none go (suc n) s there)
    by_next (Some u) is there rest = let r = rest u there in record { before = r.before; leads = ap (along_chain go n) is ∙ r.leads; goes = r.goes }

module _ (h : Classes) (l : Places) (x : View) (set : Setting h l x) where
  -- two that one comes next to are one
  by_two : (t u s : Subobject) → IsSubobject h x.class t → IsSubobject h x.class u → (p q : Primary) → next_by l x t p ≡ Some s → next_by l x u q ≡ Some s → t ≡ u
  by_two t u s of_t of_u NoPrimary q a b = absurd (cc)
  by_two t u s of_t of_u (Direct c) NoPrimary a b = absurd (cc)
  by_two t u s of_t of_u (Virtual v) NoPrimary a b = absurd (cc)
  by_two t u s of_t of_u (Direct c) (Direct d) a b =
      let one : subobject t.root (t.path ++ c ∷ []) ≡ subobject u.root (u.path ++ d ∷ []) = same_some _ s a ∙ sym (same_some _ s b) in
      let root : t.root ≡ u.root = ap (λ (z : Subobject). z.root) one in
      let path = (same_from_push t.path u.path c d (ap (λ (z : Subobject). z.path) one)).0 in
      ap (λ r. subobject r t.path) root ∙ ap (subobject u.root) path
  by_two t u s of_t of_u (Direct c) (Virtual w) a b =
      let held = held_if (l.holder x.complete w) (seen x u) s w b in
      let one : subobject t.root (t.path ++ c ∷ []) ≡ shared_base w = same_some _ s a ∙ sym held.base in
      absurd (some_path h x.class t of_t ((same_from_push t.path [] c w (ap (λ (z : Subobject). z.path) one)).0))
  by_two t u s of_t of_u (Virtual v) (Direct d) a b =
      let held = held_if (l.holder x.complete v) (seen x t) s v a in
      let one : subobject u.root (u.path ++ d ∷ []) ≡ shared_base v = same_some _ s b ∙ sym held.base in
      absurd (some_path h x.class u of_u ((same_from_push u.path [] d v (ap (λ (z : Subobject). z.path) one)).0))
  by_two t u s of_t of_u (Virtual v) (Virtual w) a b =
      let one = held_if (l.holder x.complete v) (seen x t) s v a in
      let two = held_if (l.holder x.complete w) (seen x u) s w b in
      let paths : v ∷ [] ≡ w ∷ [] = ap (λ (z : Subobject). z.path) (one.base ∙ sym two.base) in
      let same : v ≡ w = cc in
      let seen_same : seen x t ≡ seen x u = same_some (seen x t) (seen x u) (sym one.held ∙ ap (l.holder x.complete) same ∙ two.held) in
      join_injective h set.keeps x.complete x.class x.at_sub t u set.view.valid set.view.of_class of_t of_u seen_same

  one_before : (t u s : Subobject) → IsSubobject h x.class t → IsSubobject h x.class u → next l x t ≡ Some s → next l x u ≡ Some s → t ≡ u
  one_before t u s of_t of_u a b =
      let c = class_there h x.class t of_t in
      let d = class_there h x.class u of_u in
      by_two t u s of_t of_u (l.primary c.0) (l.primary d.0) (subst (λ o. next_in l x t o ≡ Some s) c.1 a) (subst (λ o. next_in l x u o ≡ Some s) d.1 b)

  -- a head comes next to none
  no_next : (t r : Subobject) → is_head h l x t ≡ true → IsSubobject h x.class r → next l x r ≡ Some t → ⊥
  no_next t r head valid goes =
      let first = (and_parts (is_dynamic_class h (class_of t)) (is_first h l x t) head).1 in
      let test : is_subobject_in (next l x r) t ≡ true = ap (λ o. is_subobject_in o t) goes ∙ same_itself t in
      let any = any_item (λ u. is_subobject_in (next l x u) t) (preorder h x.class) r (preorder_item h set.keeps x.class r valid) test in
      let not_first : is_first h l x t ≡ false = ap not any in
      cc

  walked : (n : ℕ) (t r : Subobject) → IsSubobject h x.class t → along_chain (next l x) n (Some t) ≡ Some r → IsSubobject h x.class r
  walked n t r valid leads = (walk_under h l x set n t r valid leads).under.valid_below

  one_walk : (m n : ℕ) (t u s : Subobject) → IsSubobject h x.class t → IsSubobject h x.class u → is_head h l x t ≡ true → is_head h l x u ≡ true → along_chain (next l x) m (Some t) ≡ Some s → along_chain (next l x) n (Some u) ≡ Some s → t ≡ u
  one_walk zero zero t u s of_t of_u head also a b = same_some t s a ∙ sym (same_some u s b)
  one_walk zero (suc n) t u s of_t of_u head also a b =
      let r = last_step (next l x) n u s b in
      absurd (no_next t r.before head (walked n u r.before of_u r.leads) (r.goes ∙ sym a))
  one_walk (suc m) zero t u s of_t of_u head also a b =
      let r = last_step (next l x) m t s a in
      absurd (no_next u r.before also (walked m t r.before of_t r.leads) (r.goes ∙ sym b))
  one_walk (suc m) (suc n) t u s of_t of_u head also a b =
      let p = last_step (next l x) m t s a in
      let q = last_step (next l x) n u s b in
      let same = one_before p.before q.before s (walked m t p.before of_t p.leads) (walked n u q.before of_u q.leads) p.goes q.goes in
      one_walk m n t u p.before of_t of_u head also p.leads (q.leads ∙ ap (λ r. Some r) (sym same))

  -- one head alone serves a subobject
  pub one_head : (t u s : Subobject) → Serves h l x t s → Serves h l x u s → t ≡ u
  one_head t u s a b = one_walk a.steps b.steps t u s a.valid b.valid a.head b.head a.leads b.leads
