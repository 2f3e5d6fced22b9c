-- Phases of parts, the stack of running constructors and destructors of each complete object, and the events.
use Rattle.std.specs.Prelude.{ℕ, Bool, true, false, ◌||◌, if◌then◌else◌, Option, Some, None, List, [], ◌∷◌}
use Rattle.cxx_subobject.specs.declared.Subobject.{Subobject}
use Rattle.path_plan.specs.Places.{Step, ObjectPart, same_part, same_complete_object}

-- how far a part is: not begun, its bases are under way, its members and its body, constructed, its destructor's body and
-- its members, its bases, ended (ISO C++03 3.8 p1, 12.7)
pub data Phase : Type 0 where
  Raw : Phase
  InBases : Phase
  ReadyBuilding : Phase
  Complete : Phase
  ReadyEnding : Phase
  EndingBases : Phase
  Ended : Phase

-- ready, but not complete: in its members or its own body
abbrev pub is_half : Phase → Bool
is_half ReadyBuilding = true
is_half ReadyEnding = true
is_half other = false

-- constructed, and its destruction has not begun
abbrev pub is_complete : Phase → Bool
is_complete Complete = true
is_complete other = false

-- all its bases are constructed and none has begun to end
abbrev pub is_ready : Phase → Bool
is_ready x = is_half x || is_complete x

-- among its bases, at their construction or at their end
abbrev pub is_in_bases : Phase → Bool
is_in_bases InBases = true
is_in_bases EndingBases = true
is_in_bases other = false

-- its constructor or destructor runs
abbrev pub is_running : Phase → Bool
is_running x = is_in_bases x || is_half x

-- the phase of each part, and by object and owner the subobjects of each complete object whose constructor or destructor
-- runs, the innermost first
pub record Phases : Type 0 where
  pub phase : ObjectPart → Phase
  pub running : ℕ → List Step → List Subobject

-- what happens to a part: construction begins, its bases are done, a member is set, a body runs, it is done; destruction
-- begins, its bases are next, it has ended
pub data PartEvent : Type 0 where
  Begin : ObjectPart → PartEvent
  Ready : ObjectPart → PartEvent
  Init : ObjectPart → (member : ℕ) → PartEvent
  Body : ObjectPart → PartEvent
  Done : ObjectPart → PartEvent
  Ending : ObjectPart → PartEvent
  Bases : ObjectPart → PartEvent
  End : ObjectPart → PartEvent

-- the part to which an event happens
abbrev pub part_of : PartEvent → ObjectPart
part_of (Begin p) = p
part_of (Ready p) = p
part_of (Init p m) = p
part_of (Body p) = p
part_of (Done p) = p
part_of (Ending p) = p
part_of (Bases p) = p
part_of (End p) = p

-- one part in another phase
abbrev pub put : (ObjectPart → Phase) → ObjectPart → Phase → ObjectPart → Phase
put phase p x q = if same_part p q then x else phase q

-- a stack without its top
abbrev pub rest_of : List Subobject → List Subobject
rest_of [] = []
rest_of (x ∷ xs) = xs

-- the top of a stack
abbrev pub top_subobject : List Subobject → Option Subobject
top_subobject [] = None
top_subobject (x ∷ xs) = Some x

-- the part is on top of the stack of its complete object
abbrev pub with_pushed_part : (ℕ → List Step → List Subobject) → ObjectPart → ℕ → List Step → List Subobject
with_pushed_part running p k o = if same_complete_object p.object p.owner k o then p.at ∷ running k o else running k o

-- the top of that stack is taken away
abbrev pub popped : (ℕ → List Step → List Subobject) → ObjectPart → ℕ → List Step → List Subobject
popped running p k o = if same_complete_object p.object p.owner k o then rest_of (running k o) else running k o

-- the phases after an event
abbrev pub phases_after : Phases → PartEvent → Phases
phases_after s (Begin p) = record { phase = put s.phase p InBases; running = with_pushed_part s.running p }
phases_after s (Ready p) = record { phase = put s.phase p ReadyBuilding; running = s.running }
phases_after s (Done p) = record { phase = put s.phase p Complete; running = popped s.running p }
phases_after s (Ending p) = record { phase = put s.phase p ReadyEnding; running = with_pushed_part s.running p }
phases_after s (Bases p) = record { phase = put s.phase p EndingBases; running = s.running }
phases_after s (End p) = record { phase = put s.phase p Ended; running = popped s.running p }
phases_after s other = s

-- the phases after a list of events
abbrev pub phases_after_all : Phases → List PartEvent → Phases
phases_after_all s [] = s
phases_after_all s (e ∷ es) = phases_after_all (phases_after s e) es
