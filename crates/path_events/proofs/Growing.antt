-- One more object: a plan still stands for its events.
use Rattle.std.proofs.Common.{Bool, Option, Some, None, List, [], ◌∷◌, ◌++◌}
use Rattle.cxx_hierarchy.specs.declared.records.ClassId.{ClassId}
use Rattle.cxx_hierarchy.specs.Classes.{Classes}
use Rattle.cxx_program.specs.declared.program.TypedProgram.{TypedProgram}
use Rattle.path_plan.specs.Places.{ObjectPart}
use Rattle.path_plan.specs.Phases.{PartEvent}
use Rattle.path_plan.specs.declared.form.Form.{Form}
use Rattle.path_plan.specs.Plans.{Bodies}
use Rattle.path_plan.specs.Pieces.{Pending}
use Rattle.path_numbers.specs.Sizes.{sizes_of}
use Rattle.path_numbers.proofs.Heap.{at_more}
use Rattle.path_heap.specs.declared.state.NumberedPart.{NumberedPart}
use Rattle.path_heap.specs.Points.{StandsForPart}
use Rattle.path_heap.proofs.Growing.{owner_more}
use Rattle.path_events.specs.declared.plan.Plan.{Plan}
use Rattle.path_events.specs.declared.plan.PlanEvent.{PlanEvent}
use Rattle.path_events.specs.declared.frame.Pending.{Pending as Frame}
use Rattle.path_events.specs.Frames.{StandsAs}
use Rattle.path_events.specs.Plans.{PlanStands, EntriesStand, MeansNext, IsEvent, begins_event, ready_event, init_event, body_event, done_event, ending_event, bases_event, end_event}

pub part_more : (h : Classes) (classes : List ClassId) (c : ClassId) (code : NumberedPart) (p : ObjectPart) → StandsForPart h classes code p → StandsForPart h (classes ++ c ∷ []) code p
part_more h classes c code p a = record { node = a.node; at = at_more h (sizes_of h) classes c a.node a.at; is_part = a.is_part; is_number = a.is_number; is_class = a.is_class; owned = owner_more h classes c a.node code.whole code.owner a.owned }

event_more : (h : Classes) (program : TypedProgram) (classes : List ClassId) (c : ClassId) (code : PlanEvent) (e : PartEvent) → IsEvent h program classes code e → IsEvent h program (classes ++ c ∷ []) code e
event_more h program classes c _ _ (begins_event code p a) = begins_event code p (part_more h classes c code p a)
event_more h program classes c _ _ (ready_event code p a) = ready_event code p (part_more h classes c code p a)
event_more h program classes c _ _ (init_event code m p a b) = init_event code m p (part_more h classes c code p a) b
event_more h program classes c _ _ (body_event code p a) = body_event code p (part_more h classes c code p a)
event_more h program classes c _ _ (done_event code p a) = done_event code p (part_more h classes c code p a)
event_more h program classes c _ _ (ending_event code p a) = ending_event code p (part_more h classes c code p a)
event_more h program classes c _ _ (bases_event code p a) = bases_event code p (part_more h classes c code p a)
event_more h program classes c _ _ (end_event code p a) = end_event code p (part_more h classes c code p a)

next_more : (h : Classes) (program : TypedProgram) (classes : List ClassId) (c : ClassId) (code : Option PlanEvent) (events : List PartEvent) → MeansNext h program classes code events → MeansNext h program (classes ++ c ∷ []) code events
next_more h program classes c None [] a = a
next_more h program classes c None (e ∷ events) a = absurd a
next_more h program classes c (Some code) [] a = absurd a
next_more h program classes c (Some code) (e ∷ events) a = event_more h program classes c code e a

stands_more : (h : Classes) (classes : List ClassId) (c : ClassId) (code : NumberedPart) (form : Form) (p : ObjectPart) → StandsAs h classes code form p → StandsAs h (classes ++ c ∷ []) code form p
stands_more h classes c code form p a = record {
  node = a.node;
  at = at_more h (sizes_of h) classes c a.node a.at;
  is_form = a.is_form;
  is_part = a.is_part;
  is_number = a.is_number;
  is_class = a.is_class;
  owned = owner_more h classes c a.node code.whole code.owner a.owned;
  room = a.room;
}

frames_more : (h : Classes) (bodies : Bodies) (b : Bool) (classes : List ClassId) (c : ClassId) (codes : List Frame) (frames : List Pending) → EntriesStand h bodies b classes codes frames → EntriesStand h bodies b (classes ++ c ∷ []) codes frames
frames_more h bodies b classes c [] [] a = a
frames_more h bodies b classes c [] (f ∷ frames) a = absurd a
frames_more h bodies b classes c (code ∷ codes) [] a = absurd a
frames_more h bodies b classes c (code ∷ codes) (f ∷ frames) a =
    (record { stands = stands_more h classes c code.part code.form f.part a.0.stands; left = a.0.left }, frames_more h bodies b classes c codes frames a.1)

pub plan_more : (h : Classes) (program : TypedProgram) (classes : List ClassId) (c : ClassId) (plan : Plan) (events : List PartEvent) → PlanStands h program classes plan events → PlanStands h program (classes ++ c ∷ []) plan events
plan_more h program classes c plan events a = record { frames = a.frames; stand = frames_more h _ _ classes c _ a.frames a.stand; first = next_more h program classes c plan.upcoming events a.first; rest = a.rest }
