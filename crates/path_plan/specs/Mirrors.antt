-- A plan backwards, each event of a construction for the one of a destruction that undoes it.
use Rattle.std.specs.Prelude.{false, List, [], ◌∷◌, ◌++◌}
use Rattle.path_plan.specs.Phases.{PartEvent, Begin, Ready, Init, Body, Done, Ending, Bases, End}
use Rattle.path_plan.specs.Plans.{Bodies}

-- the event that undoes this one
abbrev pub mirrored_event : PartEvent → PartEvent
mirrored_event (Begin p) = End p
mirrored_event (Ready p) = Bases p
mirrored_event (Init p m) = Init p m
mirrored_event (Body p) = Body p
mirrored_event (Done p) = Ending p
mirrored_event (Ending p) = Done p
mirrored_event (Bases p) = Ready p
mirrored_event (End p) = Begin p

-- a plan backwards (ISO C++03 12.4 p6: bases and members are destroyed in the reverse order of their construction)
abbrev pub mirrored : List PartEvent → List PartEvent
mirrored [] = []
mirrored (e ∷ es) = mirrored es ++ mirrored_event e ∷ []

-- destructors for constructors, and no initializer
abbrev pub exchanged : Bodies → Bodies
exchanged b = record { constructor = b.destructor; destructor = b.constructor; initializer = λ c m. false }
