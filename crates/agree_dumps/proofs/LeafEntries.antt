-- A leaf whose value fits has one line in both texts.
use Rattle.std.proofs.Common.{◌≡◌, ◌∙◌, ℕ, Option, Some, None, List, [], ◌∷◌, ◌++◌, append_assoc, refl, ap, sym}
use Rattle.std.specs.Prelude.{codes}
use Rattle.std.specs.Fmt.{decimal}
use Rattle.cxx_hierarchy.specs.declared.records.ClassId.{ClassId}
use Rattle.cxx_hierarchy.specs.declared.records.ValueType.{ValueType}
use Rattle.cxx_hierarchy.specs.declared.records.ValueType.TheVariants.{Number as NumberType, Pointer as PointerType}
use Rattle.cxx_hierarchy.specs.Classes.{Classes}
use Rattle.path_model.specs.declared.outs.Value.{Value}
use Rattle.path_model.specs.declared.outs.Value.TheVariants.{Unset, Number, Null, Pointer}
use Rattle.abi_sound.specs.Places.{Places}
use Rattle.abi_sound.specs.Locations.{bits_of_value}
use Rattle.abi_print.specs.LayoutTexts.{value_type_text as type_text}
use Rattle.text_told.specs.declared.items.Item.{Item}
use Rattle.text_told.specs.Dumps.{bytes_touched, held_text}
use Rattle.abi_inspect.specs.declared.slots.Slot.{Slot}
use Rattle.abi_inspect.specs.declared.slots.Row.TheVariants.{Leaf}
use Rattle.abi_inspect.specs.SeenTexts.{bits_before, leaf_line}
use Rattle.abi_inspect.specs.Values.{IsValueOf, value_text}
use Rattle.agree_dumps.specs.SeenDumps.{seen_value}
use Rattle.agree_dumps.proofs.Lines.{IsEntryOf, item_line}

-- what a leaf holds is its value, behind the bits of a bit-field; a bit-field is no pointer
held_is : (h : Classes) (l : Places) (width : Option ℕ) (first : ℕ) (type : ValueType ClassId) (value : Value) → IsValueOf width type (seen_value h l value) → ((n : ℕ) → width ≡ Some n → (d : ClassId) → type ≡ PointerType d → ⊥) →
    held_text h l width first type value ≡ bits_before width first ++ value_text width type (seen_value h l value)
held_is h l None first type Unset fits number = refl
held_is h l None first type (Number z) fits number = refl
held_is h l None first type Null fits number = refl
held_is h l None first type (Pointer to) fits number = refl
held_is h l (Some n) first type Unset fits number = refl
held_is h l (Some n) first type (Number z) fits number = refl
held_is h l (Some n) first (NumberType t) Null fits number = absurd fits
held_is h l (Some n) first (PointerType d) Null fits number = absurd (number n refl d refl)
held_is h l (Some n) first (NumberType t) (Pointer to) fits number = absurd fits
held_is h l (Some n) first (PointerType d) (Pointer to) fits number = absurd (number n refl d refl)

grouped : (place space bits value type name end : List ℕ) → (place ++ space ++ bits ++ value) ++ (space ++ type ++ space ++ name ++ end) ≡ (place ++ space ++ ((bits ++ value) ++ space ++ type ++ space ++ name)) ++ end
grouped place space bits value type name end = simp append_assoc refl

module _ (h : Classes) (l : Places) (place : ℕ) (width : Option ℕ) (first : ℕ) (type : ValueType ClassId) (name : List ℕ) (value : Value) where
  -- the leaf as an item, and as a slot
  abbrev pub leaf_as_item : Item
  leaf_as_item = record { place = place; first = first; size = bytes_touched first (bits_of_value width type); text = held_text h l width first type value ++ codes " " ++ type_text h type ++ codes " " ++ name }

  abbrev pub leaf_as_slot : Slot
  leaf_as_slot = record { place = place; first = first; size = bytes_touched first (bits_of_value width type); row = Leaf (record { place = place; bits = record { first = first; width = width }; ty = type; name = name }) }

  module _ (fits : IsValueOf width type (seen_value h l value)) (number : (n : ℕ) → width ≡ Some n → (d : ClassId) → type ≡ PointerType d → ⊥) where
    one_line : leaf_line h (record { place = place; bits = record { first = first; width = width }; ty = type; name = name }) (seen_value h l value) ≡ item_line leaf_as_item ++ codes "\n"
    one_line =
        grouped (decimal place) (codes " ") (bits_before width first) (value_text width type (seen_value h l value)) (type_text h type) name (codes "\n")
        ∙ ap (λ (held : List ℕ). (decimal place ++ codes " " ++ (held ++ codes " " ++ type_text h type ++ codes " " ++ name)) ++ codes "\n") (sym (held_is h l width first type value fits number))

    pub leaf_entry_of : IsEntryOf h (record { item = leaf_as_item; values = seen_value h l value ∷ [] }) leaf_as_slot
    leaf_entry_of = record { place = refl; first = refl; size = refl; line = (seen_value h l value, refl, one_line, fits) }
