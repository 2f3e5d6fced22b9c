-- Places. `at` is the place of the statement's first token.
use Rattle.std.specs.Prelude.{ℕ, nat_lt, if◌then◌else◌, Option, Some, None, List, [], ◌∷◌, ◌++◌}
use Rattle.cxx_hierarchy.specs.declared.records.ClassId.{ClassId}
use Rattle.cxx_hierarchy.specs.declared.records.FieldType.{FieldType}
use Rattle.cxx_hierarchy.specs.declared.records.FieldType.TheVariants as field
use Rattle.cxx_hierarchy.specs.declared.records.Member.{Member}
use Rattle.cxx_hierarchy.specs.declared.stop.Rule.TheVariants as rule
use Rattle.cxx_hierarchy.specs.Classes.{Classes}
use Rattle.cxx_subobject.specs.declared.Subobject.{Subobject}
use Rattle.cxx_subobject.specs.Subobjects.{class_of}
use Rattle.cxx_syntax.specs.declared.tree.Spot.{Spot}
use Rattle.cxx_syntax.specs.declared.tree.PlacePart.{PlacePart}
use Rattle.cxx_syntax.specs.declared.tree.PlaceText.{PlaceText}
use Rattle.cxx_program.specs.declared.statement.PassedMember.{PassedMember}
use Rattle.cxx_program.specs.declared.statement.TypedPlace.{TypedPlace}
use Rattle.cxx_expression.specs.declared.look_up.Looked.{Looked}
use Rattle.cxx_expression.specs.declared.look_up.Looked.TheVariants as looked
use Rattle.cxx_expression.specs.declared.scene.Scene.{Scene}
use Rattle.cxx_expression.specs.declared.scene.Setting.{Setting}
use Rattle.cxx_expression.specs.declared.typed.Pointer.{Pointer}
use Rattle.cxx_expression.specs.declared.typed.FoundMember.{FoundMember}
use Rattle.cxx_expression.specs.declared.typed.PlaceStep.{PlaceStep}
use Rattle.cxx_expression.specs.declared.typed.Reached.{Reached}
use Rattle.cxx_expression.specs.declared.typed.FieldPlace.{FieldPlace}
use Rattle.cxx_expression.specs.declared.typed.LeafPlace.{LeafPlace}
use Rattle.cxx_expression.specs.declared.typed.ObjectPlace.{ObjectPlace}
use Rattle.cxx_expression.specs.Checked.{Checked, pure, fail, warn, ◌>>=◌}
use Rattle.cxx_expression.specs.Lookups.{looked_up, member_record}
use Rattle.cxx_expression.specs.Values.{pointer_of}

-- a member with the subobject that has it
abbrev pub found_member : Subobject → ℕ → Member ClassId → FoundMember
found_member s number member = record { base = s; number = number; ty = member.ty; count = member.count }

-- a member that a name finds is one of its class, so that E10 is not met here
abbrev pub as_found : ℕ → Subobject → ℕ → Option (Member ClassId) → Checked FoundMember
as_found name_at s number None = fail rule.NoSuchMember name_at
as_found name_at s number (Some member) = pure (found_member s number member)

-- the member of a number in the class of a subobject
unfoldable pub member_in : Classes → ℕ → Subobject → ℕ → Option ClassId → Checked FoundMember
member_in h name_at s number None = fail rule.NoSuchMember name_at
member_in h name_at s number (Some d) = as_found name_at s number (member_record h d number)

-- E10: no declaration; E9: two; E19: a function
abbrev pub as_member : Classes → ℕ → ℕ → Looked → Checked FoundMember
as_member h at name_at looked.Missing = fail rule.NoSuchMember name_at
as_member h at name_at looked.Ambiguous = fail rule.AmbiguousName name_at
as_member h at name_at (looked.Member s number) = member_in h name_at s number (class_of s)
as_member h at name_at (looked.Function s number) = fail rule.TypeMismatch at

-- the data member that a name means in a class (ISO C++03 5.2.5)
unfoldable pub member_of : Classes → ℕ → ClassId → Spot → Checked FoundMember
member_of h at c x = as_member h at x.at (looked_up h c x.name)

-- E19: an array without an index, or an index on none; E20: an index that is not below the length, at the number, and
-- what follows is asked all the same
unfoldable pub checked_index : ℕ → Option ℕ → Option (ℕ × ℕ) → Checked ℕ
checked_index at None None = pure 0
checked_index at None (Some index) = fail rule.TypeMismatch at
checked_index at (Some count) None = fail rule.TypeMismatch at
checked_index at (Some count) (Some index) = if nat_lt index.0 count then pure index.0 else warn rule.Index index.1 0

-- E19: what follows a member that is no object
unfoldable pub object_of : ℕ → FieldType ClassId → Checked ClassId
object_of at (field.Value t) = fail rule.TypeMismatch at
object_of at (field.Object c) = pure c

-- a member that was found, and the index of its element
abbrev pub place_step : FoundMember → ℕ → PlaceStep
place_step found index = record { base = found.base; member = found.number; index = index; ty = found.ty }

-- one name of a place, in an object of the class
unfoldable pub step_of : Classes → ℕ → ClassId → PlacePart → Checked PlaceStep
step_of h at c part = do
  found ← member_of h at c part.name
  index ← checked_index at found.count part.index
  pure (place_step found index)

-- the object of the class that a step leads to
abbrev pub passed_by : PlaceStep → ClassId → PassedMember
passed_by step c = record { base = step.base; member = step.member; index = step.index; class = c }

-- the object that a step leads to is passed through
abbrev pub passed_with : List PassedMember → Option PlaceStep → ClassId → List PassedMember
passed_with passed None c = passed
passed_with passed (Some step) c = passed ++ passed_by step c ∷ []

-- one step more, in an object of the class
abbrev pub further : Reached → ClassId → PlaceStep → Reached
further r c step = record { passed = passed_with r.passed r.last c; last = Some step; ty = step.ty }

-- the names of a place, from what is reached so far
unfoldable pub steps_of : Classes → ℕ → Reached → List PlacePart → Checked Reached
steps_of h at r [] = pure r
steps_of h at r (part ∷ parts) = do
  c ← object_of at r.ty
  step ← step_of h at c part
  steps_of h at (further r c step) parts

-- nothing of an object is reached yet
abbrev pub begun : ClassId → Reached
begun c = record { passed = []; last = None; ty = field.Object c }

-- the last step ends the place
abbrev pub typed_place : Pointer → List PassedMember → PlaceStep → FieldPlace
typed_place p passed step = record {
  place = record { pointer = p.operand; class = p.class; passed = passed; base = step.base; member = step.member; index = step.index };
  ty = step.ty;
}

-- the place, where a step was made
abbrev pub with_last : Pointer → List PassedMember → Option PlaceStep → Option FieldPlace
with_last p passed None = None
with_last p passed (Some step) = Some (typed_place p passed step)

-- a place has a name behind its pointer
abbrev pub ended : ℕ → Option FieldPlace → Checked FieldPlace
ended at None = fail rule.TypeMismatch at
ended at (Some place) = pure place

-- a place and its type: it stops at its first part that is refused
unfoldable pub place_of : Classes → Setting → Scene → ℕ → PlaceText → Checked FieldPlace
place_of h e s at place = do
  p ← pointer_of e s at place.pointer
  r ← steps_of h at (begun p.class) place.parts
  ended at (with_last p r.passed r.last)

-- E19: an object read or written as a value
abbrev pub as_leaf : ℕ → TypedPlace → FieldType ClassId → Checked LeafPlace
as_leaf at place (field.Value t) = pure (record { place = place; ty = t })
as_leaf at place (field.Object c) = fail rule.TypeMismatch at

-- a place of a number or a pointer
unfoldable pub leaf_of : Classes → Setting → Scene → ℕ → PlaceText → Checked LeafPlace
leaf_of h e s at text = do
  found ← place_of h e s at text
  as_leaf at found.place found.ty

-- E19: `&` of a number or a pointer
abbrev pub as_object : ℕ → TypedPlace → FieldType ClassId → Checked ObjectPlace
as_object at place (field.Value t) = fail rule.TypeMismatch at
as_object at place (field.Object c) = pure (record { place = place; class = c })

-- a place of an object
unfoldable pub object_place_of : Classes → Setting → Scene → ℕ → PlaceText → Checked ObjectPlace
object_place_of h e s at text = do
  found ← place_of h e s at text
  as_object at found.place found.ty
