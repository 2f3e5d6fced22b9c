-- What a frame gives at one stage it gives at another where as much is left.
use Rattle.std.proofs.Common.{◌≡◌, Bool, Option, Some, None, List, subst, sym, ◌∙◌}
use Rattle.cxx_hierarchy.specs.declared.records.ClassId.{ClassId}
use Rattle.cxx_hierarchy.specs.Classes.{Classes}
use Rattle.path_plan.specs.Places.{ObjectPart}
use Rattle.path_plan.specs.declared.form.Form.{Form}
use Rattle.path_plan.specs.Pieces.{Piece}
use Rattle.path_heap.specs.declared.state.NumberedPart.{NumberedPart}
use Rattle.path_heap.specs.Points.{StandsForPart}
use Rattle.path_bodies.specs.declared.index.BodyIndex.{BodyIndex}
use Rattle.path_events.specs.declared.frame.Stage.{Stage}
use Rattle.path_events.specs.declared.frame.Pending.{Pending as Frame}
use Rattle.path_events.specs.declared.frame.Step.{Step}
use Rattle.path_events.specs.Frames.{StandsAs}
use Rattle.path_events.specs.invariants.Steps.{IsStep, left_at, GivesStep, IsSameLeft, MayGive}

pub named : (h : Classes) (classes : List ClassId) (code : NumberedPart) (form : Form) (p : ObjectPart) → StandsAs h classes code form p → StandsForPart h classes code p
named h classes code form p a = record { node = a.node; at = a.at; is_part = a.is_part; is_number = a.is_number; is_class = a.is_class; owned = a.owned }

pub same_then : (h : Classes) (index : BodyIndex) (b : Bool) (frame : Frame) (s t u : Stage) → IsSameLeft h index b frame s t → IsSameLeft h index b frame t u → IsSameLeft h index b frame s u
same_then h index b frame s t u f g = λ program p is. f program p is ∙ g program p is

pub gives_then : (h : Classes) (index : BodyIndex) (b : Bool) (frame : Frame) (s t : Stage) (step : Step) → IsSameLeft h index b frame s t → GivesStep h index b frame t step → GivesStep h index b frame s step
gives_then h index b frame s t step same gives = λ program classes p is stands.
    subst (λ (l : List Piece). IsStep h program classes (left_at h program b frame p) l step) (sym (same program p is)) (gives program classes p is stands)

pub may_some : (h : Classes) (index : BodyIndex) (b : Bool) (frame : Frame) (s t : Stage) (o : Option Step) (step : Step) → o ≡ Some step → MayGive h index b frame s t o → GivesStep h index b frame s step
may_some h index b frame s t None step e m = absurd (cc)
may_some h index b frame s t (Some x) step e m = let f : x ≡ step = cc in subst (λ (y : Step). GivesStep h index b frame s y) f m

pub may_none : (h : Classes) (index : BodyIndex) (b : Bool) (frame : Frame) (s t : Stage) (o : Option Step) → o ≡ None → MayGive h index b frame s t o → IsSameLeft h index b frame s t
may_none h index b frame s t None e m = m
may_none h index b frame s t (Some x) e m = absurd (cc)
