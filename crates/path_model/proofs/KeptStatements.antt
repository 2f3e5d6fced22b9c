-- A statement keeps what is kept: it makes an object, ends one that is complete, calls a body, leaves one, or moves no plan.
use Rattle.std.proofs.Common.{◌≡◌, ℕ, ◌+◌, inl, inr, ⊎_elim, Bool, true, false, not, Option, Some, None, List, [], ◌∷◌, map, length, refl, ap, subst, sym, ◌∙◌}
use Rattle.std.specs.Prelude.{slice_get, find, if◌then◌else◌, option_map}
use Rattle.cxx_hierarchy.specs.declared.records.ClassId.{ClassId}
use Rattle.cxx_hierarchy.specs.Classes.{Classes}
use Rattle.cxx_subobject.specs.Locations.{ObjectPart}
use Rattle.cxx_overrider.specs.declared.FunctionId.{FunctionId}
use Rattle.cxx_overrider.specs.Functions.{return_of}
use Rattle.cxx_overrider.specs.Virtuals.{is_virtual}
use Rattle.cxx_search.specs.Searches.{destructor_of}
use Rattle.cxx_program.specs.declared.operand.TypedOperand.{TypedOperand}
use Rattle.cxx_program.specs.declared.operand.Conversion.{Conversion}
use Rattle.cxx_program.specs.declared.operand.Variable.{Variable}
use Rattle.cxx_program.specs.declared.operand.Variable.TheVariants.{Local}
use Rattle.cxx_program.specs.declared.statement.TypedPlace.{TypedPlace}
use Rattle.cxx_program.specs.declared.statement.TypedCall.{TypedCall}
use Rattle.cxx_program.specs.declared.statement.TypedRight.{TypedRight}
use Rattle.cxx_program.specs.declared.statement.TypedRight.TheVariants.{Operand, Arithmetic, SamePointer, Not, Read, Address, Call as CallRight, New, Cast, TypeEqual}
use Rattle.cxx_program.specs.declared.statement.Converted.{Converted}
use Rattle.cxx_program.specs.declared.statement.TypedKind.{TypedKind}
use Rattle.cxx_program.specs.declared.statement.TypedKind.TheVariants.{Declare, Assign, Write, Copy, Call, Delete, If, While, Return, Print, PrintType, PrintView, Dump}
use Rattle.cxx_program.specs.declared.program.Owner.{Owner}
use Rattle.cxx_program.specs.declared.program.Owner.TheVariants.{Main, Function, Constructor, Destructor}
use Rattle.cxx_program.specs.declared.program.TypedBody.{TypedBody}
use Rattle.cxx_program.specs.declared.program.TypedProgram.{TypedProgram}
use Rattle.path_rules.specs.declared.Undefined.{Undefined}
use Rattle.path_rules.specs.declared.Undefined.TheVariants.{NotComplete}
use Rattle.foundation.proofs.Members.{Has, has_right}
use Rattle.foundation.proofs.Chosen.{has_any}
use Rattle.foundation.proofs.Truth.{split, is_false}
use Rattle.path_plan.specs.Whole.{whole_part}
use Rattle.path_plan.specs.Runs.{make, delete, moves}
use Rattle.path_plan.proofs.Around.{is_completed}
use Rattle.path_model.specs.declared.outs.Out.{Out}
use Rattle.path_model.specs.Values.{Value, Unset, Number, Null, Pointer, Leaf, Objects, Sight, value_of_operand, converted_to, argument_value}
use Rattle.path_model.specs.Uses.{StatementUse, Deletes, Wanted, receiver_value, uses_of_view}
use Rattle.path_model.specs.Rules.{rules, breaks, is_broken, names, refused, statement_refusal, uses_of, is_incomplete, is_whole_complete}
use Rattle.path_model.specs.States.{Target, RunningBody, Frame, InBody, ProgramState, owned_body, plan_bodies, is_body, entered_body}
use Rattle.path_model.specs.Effects.{runs, body_entered, function_entered, called_at, called, taker, new_made, taken, local_declared, written, copied_at, object_ended, deleted, branched, result_given, left_by, telling, kind_effect, block_at, result_conversion}
use Rattle.path_model.specs.Outs.{class_or_first}
use Rattle.path_model.proofs.KeptClosed.{made_closed}
use Rattle.path_model.proofs.KeptPaces.{IsBehindBuilt, IsBehindEnded, construction_paced, construction_starts, destruction_paced, destruction_starts}
use Rattle.path_model.proofs.KeptFrames.{shapes, Behind, goes_on, IsKeptAt, IsKept, IfGoes, kept_assigned, kept_given, kept_left, kept_called, found_function}

-- a body on top
abbrev pub in_body_at : Objects → List Value → RunningBody → List Frame → ProgramState
in_body_at x globals f below = record { objects = x; globals = globals; frames = InBody f ∷ below }

-- a plan that begins

behind_built : (program : TypedProgram) → IsBehindBuilt (plan_bodies program) (Behind program true)
behind_built program c p class declared = (subst (λ (y : ClassId). is_body (owned_body program (Constructor y)) ≡ true) (ap class_or_first (sym class)) declared, refl)

behind_ended : (program : TypedProgram) → IsBehindEnded (plan_bodies program) (Behind program false)
behind_ended program c p es class declared starts = (subst (λ (y : ClassId). is_body (owned_body program (Destructor y)) ≡ true) (ap class_or_first (sym class)) declared, starts)

pub made_kept : (h : Classes) (program : TypedProgram) (x : Objects) (globals : List Value) (f : RunningBody) (below : List Frame) (c : ClassId) (target : Option Target) → IsKeptAt h program x (InBody f ∷ below)
    → IfGoes (IsKept h program) (new_made h program (in_body_at x globals f below) c target)
made_kept h program x globals f below c target a = record {
  reached = moves _ _ a.reached (make x.classes x.phases (shapes below) c);
  going = (
    record {
      starts = construction_starts h (plan_bodies program) (length x.classes) c;
      paced = construction_paced h (plan_bodies program) (Behind program true) (goes_on program true) (behind_built program) (length x.classes) c;
    },
    a.going,
  );
  closed = λ keeps. made_closed x c (a.closed keeps);
}

ended_kept : (h : Classes) (program : TypedProgram) (x : Objects) (globals : List Value) (f : RunningBody) (below : List Frame) (k : ℕ) (o : Option ClassId) → IsKeptAt h program x (InBody f ∷ below)
    → slice_get x.classes k ≡ o → is_whole_complete x k o ≡ true → IfGoes (IsKept h program) (object_ended h program (in_body_at x globals f below) k o)
ended_kept h program x globals f below k None a got full = tt
ended_kept h program x globals f below k (Some c) a got full = record {
  reached = moves _ _ a.reached (delete x.classes x.phases (shapes below) k c got (is_completed (x.phases.phase (whole_part k c)) full));
  going = (
    record {
      starts = destruction_starts h (plan_bodies program) k c;
      paced = destruction_paced h (plan_bodies program) (Behind program false) (goes_on program false) (behind_ended program) k c;
    },
    a.going,
  );
  closed = a.closed;
}

-- what is not refused

find_none : {X : Type 0} (p : X → Bool) (xs : List X) (x : X) → find p xs ≡ None → Has xs x → p x ≡ false
find_none p [] x e has = absurd has
find_none p (y ∷ ys) x e has = split (p y) (λ b. p y ≡ b → (if b then Some y else find p ys) ≡ None → p x ≡ false)
    (λ t _ f. absurd (cc))
    (λ t _ f. ⊎_elim (λ same. subst (λ z. p z ≡ false) same t) (λ more. find_none p ys x f more) has) refl e

refused_none : (h : Classes) (x : Objects) (uses : List StatementUse) (rule : Undefined) (u : StatementUse) → refused h x uses ≡ None → Has rules rule → Has uses u → breaks h x rule u ≡ false
unfolding refused
refused_none h x uses rule u none listed has = is_false (breaks h x rule u)
    (λ broken. let f : false ≡ true = sym (find_none (is_broken h x uses) rules rule none listed) ∙ has_any (breaks h x rule) uses u has broken in absurd (cc))

deleted_complete : (h : Classes) (see : Sight) (w : Wanted) (y : TypedOperand) (c : ClassId) (p : ObjectPart) → statement_refusal h see w (Delete y c) ≡ None → value_of_operand see y ≡ Pointer p → is_incomplete see.objects p ≡ false
deleted_complete h see w y c p none is = subst (λ v. names (is_incomplete see.objects) v ≡ false) is (refused_none h see.objects (uses_of h see w (Delete y c)) NotComplete (Deletes (value_of_operand see y) (is_virtual h (destructor_of h c))) none
    (inr (inr (inr (inr (inr (inr (inr (inr (inr (inl refl))))))))))
    (inr (inr (has_right (uses_of_view (is_virtual h (destructor_of h c)) (value_of_operand see y)) (Deletes (value_of_operand see y) (is_virtual h (destructor_of h c)) ∷ []) _ (inl refl)))))

complete_from : (b : Bool) → not b ≡ false → b ≡ true
complete_from true e = refl
complete_from false e = absurd (cc)

deleted_kept : (h : Classes) (program : TypedProgram) (x : Objects) (globals : List Value) (f : RunningBody) (below : List Frame) (v : Value) → IsKeptAt h program x (InBody f ∷ below)
    → ((p : ObjectPart) → v ≡ Pointer p → is_incomplete x p ≡ false) → IfGoes (IsKept h program) (deleted h program (in_body_at x globals f below) v)
deleted_kept h program x globals f below Unset a full = tt
deleted_kept h program x globals f below (Number z) a full = tt
deleted_kept h program x globals f below Null a full = a
deleted_kept h program x globals f below (Pointer p) a full = ended_kept h program x globals f below p.object (slice_get x.classes p.object) a refl (complete_from (is_whole_complete x p.object (slice_get x.classes p.object)) (full p refl))

-- calls

entered_kept : (h : Classes) (program : TypedProgram) (x : Objects) (globals : List Value) (f : RunningBody) (below : List Frame) (values : List Value) (call : TypedCall) (target : Option Target) (run : ObjectPart × FunctionId) (o : Option TypedBody) → IsKeptAt h program x (InBody f ∷ below) → owned_body program (Function run.1) ≡ o
    → IfGoes (IsKept h program) (body_entered h (in_body_at x globals f below) values call target run o)
entered_kept h program x globals f below values call target run None a is = tt
entered_kept h program x globals f below values call target run (Some body) a is = kept_called h program x f (entered_body body (Pointer run.0) values (result_conversion h (return_of h run.1) (return_of h call.function)) target) below a (found_function program run.1 body (InBody f ∷ below) is)

function_kept : (h : Classes) (program : TypedProgram) (x : Objects) (globals : List Value) (f : RunningBody) (below : List Frame) (values : List Value) (call : TypedCall) (target : Option Target) (o : Option (ObjectPart × FunctionId)) → IsKeptAt h program x (InBody f ∷ below)
    → IfGoes (IsKept h program) (function_entered h program (in_body_at x globals f below) values call target o)
function_kept h program x globals f below values call target None a = tt
function_kept h program x globals f below values call target (Some run) a = entered_kept h program x globals f below values call target run (owned_body program (Function run.1)) a refl

at_kept : (h : Classes) (program : TypedProgram) (x : Objects) (globals : List Value) (f : RunningBody) (below : List Frame) (values : List Value) (call : TypedCall) (target : Option Target) (v : Value) → IsKeptAt h program x (InBody f ∷ below)
    → IfGoes (IsKept h program) (called_at h program (in_body_at x globals f below) values call target v)
at_kept h program x globals f below values call target Unset a = tt
at_kept h program x globals f below values call target (Number z) a = tt
at_kept h program x globals f below values call target Null a = tt
at_kept h program x globals f below values call target (Pointer p) a = function_kept h program x globals f below values call target (runs h x call p) a

called_kept : (h : Classes) (program : TypedProgram) (see : Sight) (x : Objects) (globals : List Value) (f : RunningBody) (below : List Frame) (call : TypedCall) (target : Option Target) → IsKeptAt h program x (InBody f ∷ below)
    → IfGoes (IsKept h program) (called h program see (in_body_at x globals f below) call target)
called_kept h program see x globals f below call target a = at_kept h program x globals f below (map (argument_value see) call.arguments) call target (receiver_value see call) a

-- right sides

taken_kept : (h : Classes) (program : TypedProgram) (see : Sight) (x : Objects) (globals : List Value) (f : RunningBody) (below : List Frame) (variable : Variable) (right : TypedRight) (c : Conversion) → IsKeptAt h program x (InBody f ∷ below)
    → IfGoes (IsKept h program) (taken h program see (in_body_at x globals f below) variable right c)
taken_kept h program see x globals f below variable (Operand y) c a = kept_assigned h program (in_body_at x globals f below) variable _ a
taken_kept h program see x globals f below variable (Arithmetic op t y z) c a = kept_assigned h program (in_body_at x globals f below) variable _ a
taken_kept h program see x globals f below variable (SamePointer is_equal y z) c a = kept_assigned h program (in_body_at x globals f below) variable _ a
taken_kept h program see x globals f below variable (Not y) c a = kept_assigned h program (in_body_at x globals f below) variable _ a
taken_kept h program see x globals f below variable (Read place) c a = kept_assigned h program (in_body_at x globals f below) variable _ a
taken_kept h program see x globals f below variable (Address place d) c a = kept_assigned h program (in_body_at x globals f below) variable _ a
taken_kept h program see x globals f below variable (CallRight call) c a = called_kept h program see x globals f below call (taker variable c) a
taken_kept h program see x globals f below variable (New d) c a = made_kept h program x globals f below d (taker variable c) a
taken_kept h program see x globals f below variable (Cast cast y) c a = kept_assigned h program (in_body_at x globals f below) variable _ a
taken_kept h program see x globals f below variable (TypeEqual y d) c a = kept_assigned h program (in_body_at x globals f below) variable _ a

declared_kept : (h : Classes) (program : TypedProgram) (see : Sight) (x : Objects) (globals : List Value) (f : RunningBody) (below : List Frame) (n : ℕ) (o : Option Converted) → IsKeptAt h program x (InBody f ∷ below)
    → IfGoes (IsKept h program) (local_declared h program see (in_body_at x globals f below) n o)
declared_kept h program see x globals f below n None a = a
declared_kept h program see x globals f below n (Some y) a = taken_kept h program see x globals f below (Local n) y.right y.conversion a

-- leaves, conditions, results and what is told

leaf_kept : (h : Classes) (program : TypedProgram) (x : Objects) (leaf : Leaf → Value) (frames : List Frame) → IsKeptAt h program x frames → IsKeptAt h program (record { classes = x.classes; is_closed = x.is_closed; phases = x.phases; leaf = leaf }) frames
leaf_kept h program x leaf frames a = record { reached = a.reached; going = a.going; closed = a.closed }

written_kept : (h : Classes) (program : TypedProgram) (x : Objects) (globals : List Value) (f : RunningBody) (below : List Frame) (place : TypedPlace) (new v : Value) → IsKeptAt h program x (InBody f ∷ below)
    → IfGoes (IsKept h program) (written (in_body_at x globals f below) place new v)
written_kept h program x globals f below place new Unset a = tt
written_kept h program x globals f below place new (Number z) a = tt
written_kept h program x globals f below place new Null a = tt
written_kept h program x globals f below place new (Pointer p) a = leaf_kept h program x _ (InBody f ∷ below) a

copied_kept : (h : Classes) (program : TypedProgram) (x : Objects) (globals : List Value) (f : RunningBody) (below : List Frame) (c : ClassId) (to from : Value) → IsKeptAt h program x (InBody f ∷ below)
    → IfGoes (IsKept h program) (copied_at h (in_body_at x globals f below) c to from)
copied_kept h program x globals f below c Unset from a = tt
copied_kept h program x globals f below c (Number z) from a = tt
copied_kept h program x globals f below c Null from a = tt
copied_kept h program x globals f below c (Pointer to) Unset a = tt
copied_kept h program x globals f below c (Pointer to) (Number z) a = tt
copied_kept h program x globals f below c (Pointer to) Null a = tt
copied_kept h program x globals f below c (Pointer to) (Pointer from) a = leaf_kept h program x _ (InBody f ∷ below) a

branched_kept : (h : Classes) (program : TypedProgram) (x : Objects) (globals : List Value) (f : RunningBody) (below : List Frame) (v : Value) (yes_at no_at : ℕ) → IsKeptAt h program x (InBody f ∷ below)
    → IfGoes (IsKept h program) (branched (in_body_at x globals f below) v yes_at no_at)
branched_kept h program x globals f below Unset yes_at no_at a = tt
branched_kept h program x globals f below (Number z) yes_at no_at a = record { reached = a.reached; going = a.going; closed = a.closed }
branched_kept h program x globals f below Null yes_at no_at a = tt
branched_kept h program x globals f below (Pointer p) yes_at no_at a = tt

result_kept : (h : Classes) (program : TypedProgram) (s : ProgramState) (found : Conversion) (target : Option Target) (o : Option Value) → IsKept h program s → IsKept h program (result_given s found target o)
result_kept h program s found target None a = a
result_kept h program s found target (Some v) a = kept_given h program s (converted_to v found) target a

left_kept : (h : Classes) (program : TypedProgram) (s : ProgramState) (owner : Owner) → IsKept h program s → IfGoes (IsKept h program) (left_by owner s)
left_kept h program s Main a = tt
left_kept h program s (Function g) a = a
left_kept h program s (Constructor c) a = tt
left_kept h program s (Destructor c) a = tt

telling_kept : (h : Classes) (program : TypedProgram) (s : ProgramState) (o : Option Out) → IsKept h program s → IfGoes (IsKept h program) (telling s o)
telling_kept h program s None a = tt
telling_kept h program s (Some out) a = a

-- each statement

pub kind_kept : (h : Classes) (program : TypedProgram) (see : Sight) (w : Wanted) (globals : List Value) (f g : RunningBody) (below : List Frame) (n next : ℕ) (kind : TypedKind) → IsKeptAt h program see.objects (InBody f ∷ below)
    → statement_refusal h see w kind ≡ None → IfGoes (IsKept h program) (kind_effect h program see (in_body_at see.objects globals f below) g below n next kind)
kind_kept h program see w globals f g below n next (Declare m y) a none = declared_kept h program see see.objects globals f below m y a
kind_kept h program see w globals f g below n next (Assign variable y) a none = taken_kept h program see see.objects globals f below variable y.right y.conversion a
kind_kept h program see w globals f g below n next (Write place y) a none = written_kept h program see.objects globals f below place (argument_value see y) (value_of_operand see place.pointer) a
kind_kept h program see w globals f g below n next (Copy to from c) a none = copied_kept h program see.objects globals f below c (value_of_operand see to) (value_of_operand see from) a
kind_kept h program see w globals f g below n next (Call call) a none = called_kept h program see see.objects globals f below call None a
kind_kept h program see w globals f g below n next (Delete y c) a none = deleted_kept h program see.objects globals f below (value_of_operand see y) a (λ p is. deleted_complete h see w y c p none is)
kind_kept h program see w globals f g below n next (If y other behind) a none = branched_kept h program see.objects globals f below (value_of_operand see y) (block_at (n + 1) other next) (block_at other behind next) a
kind_kept h program see w globals f g below n next (While y behind) a none = branched_kept h program see.objects globals f below (value_of_operand see y) (block_at (n + 1) behind n) next a
kind_kept h program see w globals f g below n next (Return y) a none = left_kept h program _ g.owner (result_kept h program (record { objects = see.objects; globals = globals; frames = below }) g.found g.target (option_map (argument_value see) y) (kept_left h program see.objects f below a))
kind_kept h program see w globals f g below n next (Print y) a none = telling_kept h program (in_body_at see.objects globals f below) _ a
kind_kept h program see w globals f g below n next (PrintType y c) a none = telling_kept h program (in_body_at see.objects globals f below) _ a
kind_kept h program see w globals f g below n next (PrintView y c) a none = telling_kept h program (in_body_at see.objects globals f below) _ a
kind_kept h program see w globals f g below n next (Dump y c) a none = telling_kept h program (in_body_at see.objects globals f below) _ a
