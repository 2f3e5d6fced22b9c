use Rattle.std.proofs.Common.{◌≡◌, ℕ, List, Some, length, refl, ap, sym, subst, ◌∙◌}
use Rattle.std.specs.Prelude.{if◌then◌else◌}
use Rattle.cxx_overrider.specs.declared.entries.Key.{Key}
use Rattle.cxx_overrider.specs.declared.settling.Settled.{Settled}
use Rattle.cxx_overrider.specs.invariants.Numbers.{number_of, IsNumberOf}
use Rattle.cxx_overrider.specs.invariants.EntryTables.{same_key, put_down}
use Rattle.cxx_overrider.specs.invariants.Settling.{IsSettled, key}
use Rattle.cxx_overrider.proofs.Made.{none_behind, made_tells, made_skip, made_put, keeps_all, keeps_put}
use Rattle.cxx_overrider.proofs.MarkLemmas.{number_says}
use Rattle.cxx_overrider.proofs.WithinLemmas.{within_virtual}
use Rattle.cxx_overrider.proofs.Servers.{served_put}
use Rattle.cxx_overrider.proofs.settling.settle_number.Goals as goal

pub returns-then-has_none_behind-clause-one : goal.returns-then-has_none_behind-clause-one
returns-then-has_none_behind-clause-one c =
    let h = c.args.site.now.h.now in
    let tables = c.args.site.now.tables.now in
    made_skip h tables.numbering.rows.items c.args.entries.now c.args.site.now.c c.args.v c.args.n c.requires.made
    (λ s k has own. none_behind h c.keeps.ensures tables.numbering.rows.items tables.numbering.count c.args.n c.args.site.now.c c.args.v s c.requires.site.tables.numbering k (λ f e. c.has_none_behind.ensures c.if-has_none_behind.true f c.requires.site.tables.lasts e))

pub returns-then-has_none_behind-clause-kept : goal.returns-then-has_none_behind-clause-kept
returns-then-has_none_behind-clause-kept c = keeps_all c.args.site.now.c c.args.entries.now

pub returns-in-Some-clause-one : goal.returns-in-Some-clause-one
returns-in-Some-clause-one c =
    let h = c.args.site.now.h.now in
    let rows = c.args.site.now.tables.now.numbering.rows.items in
    let f = c.in-Some.field-0 in
    let number : number_of rows f ≡ Some c.args.n = ap (λ (r : List (List ℕ)). number_of r f) (sym c.deref.ensures.value) ∙ c.in-Some.ensures.1 in
    made_skip h rows c.args.entries.now c.args.site.now.c c.args.v c.args.n c.requires.made
    (λ s k has own. absurd (own.none f c.in-Some.ensures.0 (number_says h rows c.args.site.now.tables.now.numbering.count c.args.n s f c.requires.site.tables.numbering k number)))

pub returns-in-Some-clause-kept : goal.returns-in-Some-clause-kept
returns-in-Some-clause-kept c = keeps_all c.args.site.now.c c.args.entries.now

pub settle-requires-clause-own : goal.settle-requires-clause-own
settle-requires-clause-own c = λ f class number. c.in-None.ensures f class (ap (λ (r : List (List ℕ)). number_of r f) c.deref.ensures.value ∙ number)

pub returns-in-Nothing-clause-one : goal.returns-in-Nothing-clause-one
returns-in-Nothing-clause-one c =
    let h = c.args.site.now.h.now in
    let numbers = c.args.site.now.tables.now.numbering.rows.items in
    made_skip h numbers c.args.entries.now c.args.site.now.c c.args.v c.args.n c.requires.made
    (λ s k has own. subst (λ (x : Settled). IsSettled h c.args.site.now.c c.args.v s x) c.in-Nothing.is
    (c.in_ok-settle.ensures s k (made_tells h numbers c.args.entries.now c.args.site.now.c c.args.v c.args.n c.requires.made s k has)))

pub returns-in_ok-put-in-One-clause-one : goal.returns-in_ok-put-in-One-clause-one
returns-in_ok-put-in-One-clause-one c =
    let h = c.args.site.now.h.now in
    let numbers = c.args.site.now.tables.now.numbering.rows.items in
    let old = c.args.entries.now in
    made_put h numbers old c.args.site.now.c c.args.v c.args.n c.requires.made c.put.new.self c.in-One.entry c.in_ok-put-in-One.ensures.servers
    (λ s k has own. subst (λ (x : Settled). IsSettled h c.args.site.now.c c.args.v s x) c.in-One.is
    (c.in_ok-settle.ensures s k (made_tells h numbers old c.args.site.now.c c.args.v c.args.n c.requires.made s k has)))
    (served_put (length h) c.args.site.now.c.0 old c.put.new.self (key c.args.site.now.c c.args.v c.args.n) c.in-One.entry c.requires.made.serves refl c.in_ok-put-in-One.ensures.servers
    (subst (λ (k : Key). (q : Key) → put_down c.put.new.self q ≡ (if same_key q k then Some c.in-One.entry else put_down old q)) c.key_of.ensures c.in_ok-put-in-One.ensures.put))

pub returns-in-Two-clause-one : goal.returns-in-Two-clause-one
returns-in-Two-clause-one c =
    let h = c.args.site.now.h.now in
    let t = c.requires.site.tables in
    let numbers = c.args.site.now.tables.now.numbering.rows.items in
    let f = t.numbering.used c.args.n c.requires.at.number in
    let s = t.numbering.known f.0 c.args.n f.1 in
    let k : IsNumberOf h numbers c.args.n s.0 = record { function = f.0; number = f.1; is = s.1 } in
    let has = c.requires.at.within s.0 k in
    let settled = subst (λ (x : Settled). IsSettled h c.args.site.now.c c.args.v s.0 x) c.in-Two.is
    (c.in_ok-settle.ensures s.0 k (made_tells h numbers c.args.entries.now c.args.site.now.c c.args.v c.args.n c.requires.made s.0 k has)) in
    settled (within_virtual h c.args.v s.0 has)

pub returns-in-Nothing-clause-kept : goal.returns-in-Nothing-clause-kept
returns-in-Nothing-clause-kept c = keeps_all c.args.site.now.c c.args.entries.now

pub returns-in_ok-put-in-One-clause-kept : goal.returns-in_ok-put-in-One-clause-kept
returns-in_ok-put-in-One-clause-kept c =
    let h = c.args.site.now.h.now in
    let old = c.args.entries.now in
    keeps_put c.args.site.now.c c.args.v c.args.n old c.put.new.self c.in-One.entry (key c.args.site.now.c c.args.v c.args.n) refl
    (served_put (length h) c.args.site.now.c.0 old c.put.new.self (key c.args.site.now.c c.args.v c.args.n) c.in-One.entry c.requires.made.serves refl c.in_ok-put-in-One.ensures.servers
    (subst (λ (k : Key). (q : Key) → put_down c.put.new.self q ≡ (if same_key q k then Some c.in-One.entry else put_down old q)) c.key_of.ensures c.in_ok-put-in-One.ensures.put))

pub returns-in-Two-clause-kept : goal.returns-in-Two-clause-kept
returns-in-Two-clause-kept c = keeps_all c.args.site.now.c c.args.entries.now
