-- What is kept under a key is right, and so is what was kept before.
use Rattle.std.proofs.Common.{◌≡◌, ℕ, Bool, true, false, refl, ap, subst, sym, ◌∙◌}
use Rattle.std.specs.Prelude.{Option, Some, nat_eq, ◌&&◌, if◌then◌else◌}
use Rattle.std.proofs.lemmas.Bool.{eqb-true, and_parts}
use Rattle.path_tables.specs.declared.kept.CastKey.{CastKey}
use Rattle.path_tables.specs.declared.kept.FinalKey.{FinalKey}
use Rattle.path_tables.specs.declared.kept.WithinKey.{WithinKey}
use Rattle.path_tables.specs.declared.kept.DownKey.{DownKey}
use Rattle.path_tables.specs.Kept.{same_cast, same_final, same_within, same_down}

by_test : {K A : Type 0} (Right : K → A → Type 0) (q key : K) (answer a : A) (before : Option A) (b : Bool) → (b ≡ true → q ≡ key) → Right key answer → (before ≡ Some a → Right q a) → (if b then Some answer else before) ≡ Some a → Right q a
by_test Right q key answer a before true one right all e = let s : answer ≡ a = cc in subst (λ k. Right k a) (sym (one refl)) (subst (Right key) s right)
by_test Right q key answer a before false one right all e = all e

pub kept : {K A : Type 0} (Right : K → A → Type 0) (same : K → K → Bool) (old new : K → Option A) (key : K) (answer : A) → ((q : K) → same q key ≡ true → q ≡ key) → ((q : K) → new q ≡ (if same q key then Some answer else old q)) → Right key answer
    → ((q : K) (a : A) → old q ≡ Some a → Right q a) → (q : K) (a : A) → new q ≡ Some a → Right q a
kept Right same old new key answer one put right all q a e = by_test Right q key answer a (old q) (same q key) (one q) right (all q a) (sym (put q) ∙ e)

abbrev cast_key : (x0 x1 x2 x3 : ℕ) → CastKey
cast_key x0 x1 x2 x3 = record { class = x0; view = x1; source = x2; target = x3 }

pub one_cast : (a b : CastKey) → same_cast a b ≡ true → a ≡ b
one_cast a b e =
    let p0 = and_parts (nat_eq a.class b.class) (nat_eq a.view b.view && (nat_eq a.source b.source && nat_eq a.target b.target)) e in
    let p1 = and_parts (nat_eq a.view b.view) (nat_eq a.source b.source && nat_eq a.target b.target) p0.1 in
    let p2 = and_parts (nat_eq a.source b.source) (nat_eq a.target b.target) p1.1 in
    ap (λ k. cast_key k a.view a.source a.target) (eqb-true a.class b.class p0.0) ∙ ap (λ k. cast_key b.class k a.source a.target) (eqb-true a.view b.view p1.0) ∙ ap (λ k. cast_key b.class b.view k a.target) (eqb-true a.source b.source p2.0) ∙ ap (λ k. cast_key b.class b.view b.source k) (eqb-true a.target b.target p2.1)

abbrev final_key : (x0 x1 x2 x3 x4 : ℕ) → FinalKey
final_key x0 x1 x2 x3 x4 = record { class = x0; view = x1; source = x2; owner = x3; index = x4 }

pub one_final : (a b : FinalKey) → same_final a b ≡ true → a ≡ b
one_final a b e =
    let p0 = and_parts (nat_eq a.class b.class) (nat_eq a.view b.view && (nat_eq a.source b.source && (nat_eq a.owner b.owner && nat_eq a.index b.index))) e in
    let p1 = and_parts (nat_eq a.view b.view) (nat_eq a.source b.source && (nat_eq a.owner b.owner && nat_eq a.index b.index)) p0.1 in
    let p2 = and_parts (nat_eq a.source b.source) (nat_eq a.owner b.owner && nat_eq a.index b.index) p1.1 in
    let p3 = and_parts (nat_eq a.owner b.owner) (nat_eq a.index b.index) p2.1 in
    ap (λ k. final_key k a.view a.source a.owner a.index) (eqb-true a.class b.class p0.0) ∙ ap (λ k. final_key b.class k a.source a.owner a.index) (eqb-true a.view b.view p1.0) ∙ ap (λ k. final_key b.class b.view k a.owner a.index) (eqb-true a.source b.source p2.0) ∙ ap (λ k. final_key b.class b.view b.source k a.index) (eqb-true a.owner b.owner p3.0) ∙ ap (λ k. final_key b.class b.view b.source b.owner k) (eqb-true a.index b.index p3.1)

abbrev within_key : (x0 x1 x2 : ℕ) → WithinKey
within_key x0 x1 x2 = record { class = x0; outer = x1; inner = x2 }

pub one_within : (a b : WithinKey) → same_within a b ≡ true → a ≡ b
one_within a b e =
    let p0 = and_parts (nat_eq a.class b.class) (nat_eq a.outer b.outer && nat_eq a.inner b.inner) e in
    let p1 = and_parts (nat_eq a.outer b.outer) (nat_eq a.inner b.inner) p0.1 in
    ap (λ k. within_key k a.outer a.inner) (eqb-true a.class b.class p0.0) ∙ ap (λ k. within_key b.class k a.inner) (eqb-true a.outer b.outer p1.0) ∙ ap (λ k. within_key b.class b.outer k) (eqb-true a.inner b.inner p1.1)

abbrev down_key : (x0 x1 x2 x3 : ℕ) → DownKey
down_key x0 x1 x2 x3 = record { class = x0; source = x1; target = x2; offset = x3 }

pub one_down : (a b : DownKey) → same_down a b ≡ true → a ≡ b
one_down a b e =
    let p0 = and_parts (nat_eq a.class b.class) (nat_eq a.source b.source && (nat_eq a.target b.target && nat_eq a.offset b.offset)) e in
    let p1 = and_parts (nat_eq a.source b.source) (nat_eq a.target b.target && nat_eq a.offset b.offset) p0.1 in
    let p2 = and_parts (nat_eq a.target b.target) (nat_eq a.offset b.offset) p1.1 in
    ap (λ k. down_key k a.source a.target a.offset) (eqb-true a.class b.class p0.0) ∙ ap (λ k. down_key b.class k a.target a.offset) (eqb-true a.source b.source p1.0) ∙ ap (λ k. down_key b.class b.source k a.offset) (eqb-true a.target b.target p2.0) ∙ ap (λ k. down_key b.class b.source b.target k) (eqb-true a.offset b.offset p2.1)

pub unkept : {K A : Type 0} (Right : K → A → Type 0) (old new : K → Option A) → ((q : K) → new q ≡ old q) → ((q : K) (a : A) → old q ≡ Some a → Right q a) → (q : K) (a : A) → new q ≡ Some a → Right q a
unkept Right old new same all q a e = all q a (sym (same q) ∙ e)
