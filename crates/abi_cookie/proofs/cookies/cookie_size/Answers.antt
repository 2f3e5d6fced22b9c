use Rattle.std.proofs.Common.{rules, ◌≡◌, ◌∙◌, sym, ap, subst, ℕ, max, false, true, Bool, arith, ◌↔◌, IsTrue}
use Rattle.cxx_hierarchy.specs.declared.records.ClassId.{ClassId}
use Rattle.cxx_hierarchy.specs.Classes.{Classes}
use Rattle.abi_sound.specs.Places.{Places, places_of, align_in}
use Rattle.abi_cookie.specs.Cookies.{NeedsCookie, IsCookie, some_cookie, no_cookie}
use Rattle.abi_cookie.proofs.cookies.cookie_size.Goals as goal

as_large : (h : Classes) (l : Places) (c : ClassId) (bytes align : ℕ) → NeedsCookie h c → l.align c ≡ align → bytes ≡ max align 8 → IsCookie h l c bytes
as_large h l c bytes align need e is =
    let same : max 8 (l.align c) ≡ bytes = omega arith in
    subst (λ (n : ℕ). IsCookie h l c n) same (some_cookie need)

none_needed : (b : Bool) (P : Type 0) → (IsTrue b ↔ P) → b ≡ false → P → ⊥
none_needed b P is off p = let e : b ≡ true = is.1 p in let f : true ≡ false = sym e ∙ off in cc

pub returns-then-needs_cookie : goal.returns-then-needs_cookie
returns-then-needs_cookie g c =
    as_large c.args.h.now (places_of c.args.h.now (g.L.SoundLayout.rows c.args.layout.now)) c.args.c c.max.result c.layout.result.now.align
    (c.needs_cookie.ensures.0 c.if-needs_cookie.true) (ap align_in c.layout.ensures) (search rules)

pub returns-else-needs_cookie : goal.returns-else-needs_cookie
returns-else-needs_cookie g c = no_cookie (none_needed c.needs_cookie.result (NeedsCookie c.args.h.now c.args.c) c.needs_cookie.ensures c.if-needs_cookie.false)
