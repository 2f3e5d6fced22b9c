-- Steps of readers that answer as another reader did.
use Rattle.std.proofs.Common.{◌≡◌, List, [], ◌∷◌, ◌++◌, Option, Some, Result, Ok, Err, ◌∙◌, sym, subst, ap}
use Rattle.cxx_grammar.specs.declared.sort.Lexeme.{Lexeme}
use Rattle.cxx_hierarchy.specs.declared.stop.Stop.{Stop}
use Rattle.cxx_grammar.specs.declared.sort.Sort.{Sort}
use Rattle.cxx_grammar.specs.Table.{Task, after}
use Rattle.cxx_grammar.specs.Event.{State}
use Rattle.cxx_grammar.specs.invariants.Run.{run, go_on, admits, Outcome, Stops, Follows, FollowsBy}

-- tasks that do what others do
pub same_tasks : {X : Type 0} (rest_of : X → List Lexeme) (s s' : State) (ms others left : List Task) (ts : List Lexeme) (r : Result X Stop) →
    ((k : List Task) → run ts s (ms ++ k) ≡ run ts s (others ++ k)) → Follows rest_of s others ts s' left r → Follows rest_of s ms ts s' left r
same_tasks rest_of s s' ms others left ts (Ok x) e f = λ k. e k ∙ f k
same_tasks rest_of s s' ms others left ts (Err x) e f = λ n k. e k ∙ f n k

-- an error that another reader gave
pub same_error : {X : Type 0} (rest_of : X → List Lexeme) (s s' : State) (ms others left : List Task) (ts ts' : List Lexeme) (r : Result X Stop) (x : Stop) →
    r ≡ Err x → ((k : List Task) → run ts s (ms ++ k) ≡ run ts' s (others ++ k)) → Stops s others ts' x → Follows rest_of s ms ts s' left r
same_error rest_of s s' ms others left ts ts' r x e h f = subst (Follows rest_of s ms ts s' left) (sym e) (λ n k. h k ∙ f n k)

-- the same where different tasks may be left
pub same_error_by : {X : Type 0} (rest_of : X → List Lexeme) (s : State) (ms others : List Task) (left : X → List Task) (ts ts' : List Lexeme) (r : Result X Stop) (x : Stop) →
    r ≡ Err x → ((k : List Task) → run ts s (ms ++ k) ≡ run ts' s (others ++ k)) → Stops s others ts' x → FollowsBy rest_of s ms ts left r
same_error_by rest_of s ms others left ts ts' r x e h f = subst (FollowsBy rest_of s ms ts left) (sym e) (λ n k. h k ∙ f n k)

-- a task takes a token
pub takes : (rest : List Lexeme) (m : Task) (t : Sort) (ns : List Task) (l : Lexeme) (ts : List Lexeme) (s : State) (k : List Task) →
    rest ≡ l ∷ ts → l.sort ≡ t → after m t ≡ Some ns → admits m t s ≡ Some s → run rest s (m ∷ k) ≡ run ts s (ns ++ k)
takes rest m t ns l ts s k e h a b =
    let f : Sort → Outcome = λ u. go_on l (after m u) (admits m u s) k (run ts) in
    let g : Option (List Task) → Option State → Outcome = λ o p. go_on l o p k (run ts) in
    subst (λ w. run w s (m ∷ k) ≡ run ts s (ns ++ k)) (sym e) (ap f h ∙ (ap (λ o. g o (admits m t s)) a ∙ ap (λ p. g (Some ns) p) b))

-- as another reader answered, on another list
pub same_answer : {X : Type 0} (rest_of : X → List Lexeme) (s s' : State) (ms others left : List Task) (ts ts' : List Lexeme) (r : Result X Stop) →
    ((k : List Task) → run ts s (ms ++ k) ≡ run ts' s (others ++ k)) → Follows rest_of s others ts' s' left r → Follows rest_of s ms ts s' left r
same_answer rest_of s s' ms others left ts ts' (Ok x) e f = λ k. e k ∙ f k
same_answer rest_of s s' ms others left ts ts' (Err x) e f = λ n k. e k ∙ f n k

-- as another reader answered, and then more
pub then_same : {X : Type 0} (rest_of : X → List Lexeme) (s s' : State) (ms others more : List Task) (ts ts' : List Lexeme) (r : Result X Stop) →
    ((k : List Task) → run ts s (ms ++ k) ≡ run ts' s (others ++ (more ++ k))) → Follows rest_of s others ts' s' [] r → Follows rest_of s ms ts s' more r
then_same rest_of s s' ms others more ts ts' (Ok x) e f = λ k. e k ∙ f (more ++ k)
then_same rest_of s s' ms others more ts ts' (Err x) e f = λ n k. e k ∙ f n (more ++ k)
