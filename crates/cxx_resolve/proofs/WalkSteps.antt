-- One statement more of a block.
use Rattle.std.proofs.Common.{◌≡◌, ℕ, ◌+◌, ◌<◌, ◌≤◌, Result, Ok, Err, List, [], ◌∷◌, map, drop, length, ap, sym, ◌∙◌, refl, subst, arith}
use Rattle.std.proofs.lemmas.List.{drop_more, drop_all}
use Rattle.cxx_hierarchy.specs.declared.stop.Stop.{Stop}
use Rattle.cxx_hierarchy.specs.Classes.{Classes}
use Rattle.cxx_syntax.specs.declared.tree.Statement.{Statement}
use Rattle.cxx_expression.specs.declared.scene.Setting.{Setting}
use Rattle.cxx_resolve.specs.declared.draft.Draft.{Draft}
use Rattle.cxx_resolve.specs.Stops.{◌>>>◌, Fails}
use Rattle.cxx_resolve.specs.Walks.{statement_meaning, sizes, next_of, walk_all}
use Rattle.cxx_resolve.proofs.Turning.{fails_more}

walk_on : (h : Classes) (e : Setting) (n follow next : ℕ) (s : Statement) (rest : List Statement) (d new : Draft) →
    next ≡ next_of (map statement_meaning rest) (n + (statement_meaning s).size) follow → (statement_meaning s).walk h e n next d ≡ Ok new →
    walk_all (map statement_meaning rest) h e (n + (statement_meaning s).size) follow new ≡ walk_all (map statement_meaning (s ∷ rest)) h e n follow d
unfolding walk_all
walk_on h e n follow next s rest d new k w =
    sym (ap (λ (r : Result Draft Stop). r >>> walk_all (map statement_meaning rest) h e (n + (statement_meaning s).size) follow) (ap (λ (m : ℕ). (statement_meaning s).walk h e n m d) (sym k) ∙ w))

stops_on : (h : Classes) (e : Setting) (n follow next : ℕ) (s : Statement) (rest : List Statement) (d : Draft) (x : Stop) →
    next ≡ next_of (map statement_meaning rest) (n + (statement_meaning s).size) follow → Fails x ((statement_meaning s).walk h e n next d) →
    Fails x (walk_all (map statement_meaning (s ∷ rest)) h e n follow d)
unfolding walk_all
stops_on h e n follow next s rest d x k w =
    fails_more x ((statement_meaning s).walk h e n (next_of (map statement_meaning rest) (n + (statement_meaning s).size) follow) d) (walk_all (map statement_meaning rest) h e (n + (statement_meaning s).size) follow)
    (subst (λ (m : ℕ). Fails x ((statement_meaning s).walk h e n m d)) k w)

pub walk_more : (h : Classes) (e : Setting) (n follow behind next : ℕ) (s : Statement) (rest : List Statement) (d new : Draft) →
    behind ≡ n + (statement_meaning s).size → next ≡ next_of (map statement_meaning rest) behind follow → (statement_meaning s).walk h e n next d ≡ Ok new →
    walk_all (map statement_meaning rest) h e behind follow new ≡ walk_all (map statement_meaning (s ∷ rest)) h e n follow d
walk_more h e n follow behind next s rest d new b k w =
    ap (λ (m : ℕ). walk_all (map statement_meaning rest) h e m follow new) b ∙ walk_on h e n follow next s rest d new (k ∙ ap (λ (m : ℕ). next_of (map statement_meaning rest) m follow) b) w

pub walk_stops : (h : Classes) (e : Setting) (n follow behind next : ℕ) (s : Statement) (rest : List Statement) (d : Draft) (x : Stop) →
    behind ≡ n + (statement_meaning s).size → next ≡ next_of (map statement_meaning rest) behind follow → Fails x ((statement_meaning s).walk h e n next d) →
    Fails x (walk_all (map statement_meaning (s ∷ rest)) h e n follow d)
walk_stops h e n follow behind next s rest d x b k w = stops_on h e n follow next s rest d x (k ∙ ap (λ (m : ℕ). next_of (map statement_meaning rest) m follow) b) w

pub next_inside : (list : List Statement) (i behind follow : ℕ) (s : Statement) → i < length list → behind ≡ next_of (map statement_meaning (drop i list)) behind follow
next_inside list i behind follow s h = ap (λ (rest : List Statement). next_of (map statement_meaning rest) behind follow) (sym (drop_more list i s h))

pub next_past : (list : List Statement) (i behind follow : ℕ) → length list ≤ i → follow ≡ next_of (map statement_meaning (drop i list)) behind follow
next_past list i behind follow h = ap (λ (rest : List Statement). next_of (map statement_meaning rest) behind follow) (sym (drop_all i list h))

pub more_size : (n size : ℕ) (s : Statement) (rest : List Statement) → size ≡ (statement_meaning s).size → n + size + sizes (map statement_meaning rest) ≡ n + sizes (map statement_meaning (s ∷ rest))
more_size n size s rest h = omega (arith, h)
