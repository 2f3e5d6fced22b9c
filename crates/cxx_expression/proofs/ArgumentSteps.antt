-- One argument more.
use Rattle.std.proofs.Common.{◌≡◌, ℕ, ◌+◌, Result, Ok, Err, List, [], ◌∷◌, refl, ap, sym, ◌∙◌, append_assoc, slice_get}
use Rattle.cxx_hierarchy.specs.declared.records.ClassId.{ClassId}
use Rattle.cxx_hierarchy.specs.declared.records.ValueType.{ValueType}
use Rattle.cxx_hierarchy.specs.Classes.{Classes}
use Rattle.cxx_syntax.specs.declared.tree.Operand.{Operand}
use Rattle.cxx_program.specs.declared.operand.Argument.{Argument}
use Rattle.cxx_expression.specs.declared.faults.Fault.{Fault}
use Rattle.cxx_expression.specs.declared.scene.Scene.{Scene}
use Rattle.cxx_expression.specs.declared.scene.Setting.{Setting}
use Rattle.cxx_expression.specs.Checked.{Checked, pure, then_typed, then_faults, pair_of}
use Rattle.cxx_expression.specs.Calls.{argument_of, arguments_of}
use Rattle.cxx_expression.specs.invariants.Arguments.{all_of, joined}

abbrev front : Argument × List Argument → Checked (List Argument)
front r = pure (r.0 ∷ r.1)

one_more : (list : Result (List Argument) Fault) (x : Result Argument Fault) (rest : Result (List Argument) Fault) → all_of (joined list x) rest ≡ all_of list (then_typed (pair_of x rest) front)
one_more (Err f) x rest = refl
one_more (Ok list) (Err f) rest = refl
one_more (Ok list) (Ok x) (Err f) = refl
one_more (Ok list) (Ok x) (Ok rest) = ap Ok (append_assoc list (x ∷ []) rest)

no_fault : (o : Result (Argument × List Argument) Fault) (faults : List Fault) → faults ≡ then_faults o front faults
no_fault (Err f) faults = refl
no_fault (Ok r) faults = refl

pub typed_more : (h : Classes) (e : Setting) (s : Scene) (at : ℕ) (ps : List (ValueType ClassId)) (n : ℕ) (x : Operand) (xs : List Operand) (list : Result (List Argument) Fault) (o : Result Argument Fault) →
    (argument_of h e s at (slice_get ps n) x).typed ≡ o → all_of (joined list o) (arguments_of h e s at ps (n + 1) xs).typed ≡ all_of list (arguments_of h e s at ps n (x ∷ xs)).typed
unfolding arguments_of
typed_more h e s at ps n x xs list o is = ap (λ (v : Result Argument Fault). all_of (joined list v) (arguments_of h e s at ps (n + 1) xs).typed) (sym is) ∙ one_more list (argument_of h e s at (slice_get ps n) x).typed (arguments_of h e s at ps (n + 1) xs).typed

pub faults_more : (h : Classes) (e : Setting) (s : Scene) (at : ℕ) (ps : List (ValueType ClassId)) (n : ℕ) (x : Operand) (xs : List Operand) (old new : List Fault) →
    (argument_of h e s at (slice_get ps n) x).faults old ≡ new → (arguments_of h e s at ps (n + 1) xs).faults new ≡ (arguments_of h e s at ps n (x ∷ xs)).faults old
unfolding arguments_of
faults_more h e s at ps n x xs old new is = ap (λ (v : List Fault). (arguments_of h e s at ps (n + 1) xs).faults v) (sym is) ∙ no_fault (pair_of (argument_of h e s at (slice_get ps n) x).typed (arguments_of h e s at ps (n + 1) xs).typed) ((arguments_of h e s at ps (n + 1) xs).faults ((argument_of h e s at (slice_get ps n) x).faults old))
