-- What is known stays so when more is kept.
use Rattle.std.proofs.Common.{◌≡◌, ℕ, Bool, true, false, sym, ap, subst, ◌∙◌, refl, arith}
use Rattle.std.specs.Prelude.{Option, Some, None, IfSome, if◌then◌else◌, nat_eq}
use Rattle.std.specs.Borrow.{Bor}
use Rattle.std.specs.Option.{option_copied}
use Rattle.std.proofs.lemmas.Bool.Decides.{nat_tests}
use Rattle.std.proofs.lemmas.Bool.{and_parts}
use Rattle.indexmap.specs.IndexMap.{get_by}
use Rattle.cxx_hierarchy.specs.declared.records.ClassId.{ClassId}
use Rattle.cxx_hierarchy.specs.Classes.{Classes}
use Rattle.cxx_hierarchy.specs.NameTables.{Text}
use Rattle.cxx_subobject.proofs.PathLemmas.{same_id}
use Rattle.cxx_expression.specs.declared.known.Pair.{Pair}
use Rattle.cxx_expression.specs.declared.known.KnownName.{KnownName}
use Rattle.cxx_expression.specs.declared.known.Known.{Known}
use Rattle.cxx_expression.specs.declared.look_up.Based.{Based}
use Rattle.cxx_expression.specs.Lookups.{looked_up, base_up, is_polymorphic}
use Rattle.cxx_expression.specs.invariants.Known.{key_of, same_pair, known_name, base_at, polymorphic_at, Knows}

equal_numbers : (m n : ℕ) → nat_eq m n ≡ true → m ≡ n
equal_numbers m n e = grind (arith, nat_tests)

-- one key is that of one class and number
same_class : (c d : ClassId) (m n : ℕ) → same_pair (key_of c m) (key_of d n) ≡ true → c ≡ d
same_class c d m n e = same_id c d (equal_numbers c.0 d.0 (and_parts (nat_eq c.0 d.0) (nat_eq m n) e).0)

same_number : (c d : ClassId) (m n : ℕ) → same_pair (key_of c m) (key_of d n) ≡ true → m ≡ n
same_number c d m n e = equal_numbers m n (and_parts (nat_eq c.0 d.0) (nat_eq m n) e).1

-- what is there after a put is what was put, or was there before
put_cases : {V : Type 0} (test : Bool) (new : V) (old : Option V) (there : Option V) (v : V) (P : Type 0) → there ≡ (if test then Some new else old) → there ≡ Some v → (test ≡ true → new ≡ v → P) → (old ≡ Some v → P) → P
put_cases true new old there v P e f here before = let g : Some new ≡ Some v = sym e ∙ f in here refl (cc)
put_cases false new old there v P e f here before = before (sym e ∙ f)

pub name_kept : (h : Classes) (old new : Known) (key : Pair) (c : ClassId) (n : ℕ) (text : Text) (name : KnownName) → key ≡ key_of c n → name.name ≡ text →
    ((q : Pair) → known_name new q ≡ (if same_pair key q then Some name else known_name old q)) → new.bases ≡ old.bases → new.polymorphic ≡ old.polymorphic →
    looked_up h c text ≡ name.looked → Knows h old → Knows h new
name_kept h old new key c n text name is named put bases polymorphic means knows =
    let here : looked_up h c name.name ≡ name.looked = ap (looked_up h c) named ∙ means in
    record {
      names = λ d k m at. put_cases (same_pair (key_of c n) (key_of d k)) name (known_name old (key_of d k)) (known_name new (key_of d k)) m (looked_up h d m.name ≡ m.looked)
          (put (key_of d k) ∙ ap (λ (q : Pair). if same_pair q (key_of d k) then Some name else known_name old (key_of d k)) is) at
          (λ same e. subst (λ (x : KnownName). looked_up h d x.name ≡ x.looked) e (subst (λ (x : ClassId). looked_up h x name.name ≡ name.looked) (same_class c d n k same) here))
          (λ before. knows.names d k m before);
      bases = λ d e b at. knows.bases d e b (ap (get_by (same_pair (key_of d e.0))) (sym bases) ∙ at);
      polymorphic = λ d b at. knows.polymorphic d b (ap (get_by (nat_eq d.0)) (sym polymorphic) ∙ at);
    }

pub base_kept : (h : Classes) (old new : Known) (key : Pair) (c d : ClassId) (based : Based) → key ≡ key_of c d.0 →
    ((q : Pair) → base_at new q ≡ (if same_pair key q then Some based else base_at old q)) → new.names ≡ old.names → new.polymorphic ≡ old.polymorphic →
    base_up h c d ≡ based → Knows h old → Knows h new
base_kept h old new key c d based is put names polymorphic means knows = record {
  names = λ e k m at. knows.names e k m (ap (get_by (same_pair (key_of e k))) (sym names) ∙ at);
  bases = λ e f b at. put_cases (same_pair (key_of c d.0) (key_of e f.0)) based (base_at old (key_of e f.0)) (base_at new (key_of e f.0)) b (base_up h e f ≡ b)
      (put (key_of e f.0) ∙ ap (λ (q : Pair). if same_pair q (key_of e f.0) then Some based else base_at old (key_of e f.0)) is) at
      (λ same g. subst (λ (x : Based). base_up h e f ≡ x) g
      (subst (λ (x : ClassId). base_up h x f ≡ based) (same_class c e d.0 f.0 same)
      (subst (λ (x : ClassId). base_up h c x ≡ based) (same_id d f (same_number c e d.0 f.0 same)) means)))
      (λ before. knows.bases e f b before);
  polymorphic = λ e b at. knows.polymorphic e b (ap (get_by (nat_eq e.0)) (sym polymorphic) ∙ at);
}

pub polymorphic_kept : (h : Classes) (old new : Known) (c : ClassId) (flag : Bool) →
    ((n : ℕ) → polymorphic_at new n ≡ (if nat_eq c.0 n then Some flag else polymorphic_at old n)) → new.names ≡ old.names → new.bases ≡ old.bases →
    is_polymorphic h c ≡ flag → Knows h old → Knows h new
polymorphic_kept h old new c flag put names bases means knows = record {
  names = λ e k m at. knows.names e k m (ap (get_by (same_pair (key_of e k))) (sym names) ∙ at);
  bases = λ d e b at. knows.bases d e b (ap (get_by (same_pair (key_of d e.0))) (sym bases) ∙ at);
  polymorphic = λ d b at. put_cases (nat_eq c.0 d.0) flag (polymorphic_at old d.0) (polymorphic_at new d.0) b (is_polymorphic h d ≡ b) (put d.0) at
      (λ same e. subst (λ (x : Bool). is_polymorphic h d ≡ x) e (subst (λ (x : ClassId). is_polymorphic h x ≡ flag) (same_id c d (equal_numbers c.0 d.0 same)) means))
      (λ before. knows.polymorphic d b before);
}

-- what is found under a key is what it is kept for
pub base_known : (h : Classes) (known : Known) (key : Pair) (c d : ClassId) (o : Option (Bor Based)) → key ≡ key_of c d.0 → option_copied o ≡ base_at known key → Knows h known → IfSome o (λ based. base_up h c d ≡ based.now)
base_known h known key c d None is found knows = tt
base_known h known key c d (Some based) is found knows = knows.bases c d based.now (sym (found ∙ ap (base_at known) is))

pub name_known : (h : Classes) (known : Known) (key : Pair) (c : ClassId) (n : ℕ) (text : Text) (name : KnownName) → key ≡ key_of c n → Some name ≡ known_name known key → name.name ≡ text → Knows h known → looked_up h c text ≡ name.looked
name_known h known key c n text name is found named knows = subst (λ (t : Text). looked_up h c t ≡ name.looked) named (knows.names c n name (sym (found ∙ ap (known_name known) is)))
