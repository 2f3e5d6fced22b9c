-- Types of the pieces of a statement, by the functions that make them.
use Rattle.cxx_expression.specs.Checked.{Checked}
use Rattle.cxx_expression.specs.Places.{found_member, place_step, begun, typed_place, as_object}
use Rattle.cxx_expression.specs.Calls.{found_function, target, receiver, qualified_value}

abbrev made_by_one : {A X : Type 0} → (A → X) → Type 0
made_by_one {X = X} f = X

abbrev made_by_two : {A B X : Type 0} → (A → B → X) → Type 0
made_by_two {X = X} f = X

abbrev made_by_three : {A B C X : Type 0} → (A → B → C → X) → Type 0
made_by_three {X = X} f = X

abbrev typed_by_three : {A B C X : Type 0} → (A → B → C → Checked X) → Type 0
typed_by_three {X = X} f = X

abbrev pub FoundMember : Type 0
FoundMember = made_by_three found_member

abbrev pub PlaceStep : Type 0
PlaceStep = made_by_two place_step

abbrev pub Reached : Type 0
Reached = made_by_one begun

abbrev pub FieldPlace : Type 0
FieldPlace = made_by_three typed_place

abbrev pub ObjectPlace : Type 0
ObjectPlace = typed_by_three as_object

abbrev pub FoundFunction : Type 0
FoundFunction = made_by_three found_function

abbrev pub Target : Type 0
Target = made_by_two target

abbrev pub Receiver : Type 0
Receiver = made_by_two receiver

abbrev pub CallValue : Type 0
CallValue = made_by_two qualified_value
