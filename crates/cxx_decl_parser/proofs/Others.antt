-- Steps of readers that answer as another reader did, where the state may differ afterwards.
use Rattle.std.proofs.Common.{◌≡◌, List, [], ◌++◌, Result, Ok, Err, IfOk, Bool, true, ◌∙◌, sym, subst, ap, refl}
use Rattle.cxx_grammar.specs.declared.sort.Lexeme.{Lexeme}
use Rattle.cxx_hierarchy.specs.declared.stop.Stop.{Stop}
use Rattle.cxx_grammar.specs.Table.{Task}
use Rattle.cxx_grammar.specs.Event.{State}
use Rattle.cxx_grammar.specs.invariants.Run.{run, Stops, Follows}
use Rattle.cxx_syntax.specs.declared.part.Item.{Item}
use Rattle.cxx_syntax.specs.declared.part.Item.TheVariants as item
use Rattle.cxx_grammar.specs.declared.sort.Sort.TheVariants.{Virtual}
use Rattle.cxx_grammar.specs.Front.{Is}
use Rattle.cxx_syntax.specs.Parts.{VirtualReads, a_virtual}
use Rattle.cxx_syntax.specs.Sources.{is_no_main}
use Rattle.cxx_record_parser.specs.invariants.Readers.{FollowsTo, main_after}

-- an error that another reader gave
pub same_error_to : {X : Type 0} (rest_of : X → List Lexeme) (s s' : State) (state : X → State) (ms others left : List Task) (ts ts' : List Lexeme) (r : Result X Stop) (x : Stop) →
    r ≡ Err x → ((k : List Task) → run ts s (ms ++ k) ≡ run ts' s' (others ++ k)) → Stops s' others ts' x → FollowsTo rest_of s ms ts state left r
same_error_to rest_of s s' state ms others left ts ts' r x e h f = subst (FollowsTo rest_of s ms ts state left) (sym e) (λ n k. h k ∙ f n k)

-- as a reader answered that stays in the state, and then more
pub then_same_to : {X : Type 0} (rest_of : X → List Lexeme) (s : State) (state : X → State) (ms others more : List Task) (ts ts' : List Lexeme) (r : Result X Stop) →
    ((k : List Task) → run ts s (ms ++ k) ≡ run ts' s (others ++ (more ++ k))) → ((x : X) → r ≡ Ok x → state x ≡ s) → Follows rest_of s others ts' s [] r → FollowsTo rest_of s ms ts state more r
then_same_to rest_of s state ms others more ts ts' (Ok x) e h f = λ k. e k ∙ (f (more ++ k) ∙ sym (ap_state (h x refl) k)) where
  ap_state : {t : State} → t ≡ s → (k : List Task) → run (rest_of x) t (more ++ k) ≡ run (rest_of x) s (more ++ k)
  ap_state q k = ap (λ t. run (rest_of x) t (more ++ k)) q
then_same_to rest_of s state ms others more ts ts' (Err x) e h f = λ n k. e k ∙ f n (more ++ k)

-- as a reader answered that may change the state, and then more
pub then_to : {X : Type 0} (rest_of : X → List Lexeme) (s : State) (state : X → State) (ms others more : List Task) (ts ts' : List Lexeme) (r : Result X Stop) →
    ((k : List Task) → run ts s (ms ++ k) ≡ run ts' s (others ++ (more ++ k))) → FollowsTo rest_of s others ts' state [] r → FollowsTo rest_of s ms ts state more r
then_to rest_of s state ms others more ts ts' (Ok x) e f = λ k. e k ∙ f (more ++ k)
then_to rest_of s state ms others more ts ts' (Err x) e f = λ n k. e k ∙ f n (more ++ k)

-- what holds of an answer
pub of_ok : {X : Type 0} (r : Result X Stop) (x : X) (P : X → Type 0) → r ≡ Ok x → IfOk r P → P x
of_ok r x P e h = let h' : IfOk {E = Stop} (Ok x) P = subst (λ r. IfOk r P) e h in h'

-- an item that is no main leaves the state
pub no_main_after : (m : Bool) (i : Item) → is_no_main i ≡ true → main_after m i ≡ m
no_main_after m (item.Class c bs) h = refl
no_main_after m item.Forward h = refl
no_main_after m (item.Global g) h = refl
no_main_after m (item.Main t) h = absurd (cc)

-- what holds of an answer by what else holds of it
pub ok_weaker : {X : Type 0} (r : Result X Stop) (P Q : X → Type 0) → ((x : X) → P x → Q x) → IfOk r P → IfOk r Q
ok_weaker (Ok x) P Q f h = f x h
ok_weaker (Err e) P Q f h = tt

-- the word of a virtual function
pub virtual_word : (ts a : List Lexeme) → VirtualReads true ts a → (v : Lexeme) × Is Virtual v ts a
virtual_word _ _ (a_virtual {v = v} h) = (v, h)
