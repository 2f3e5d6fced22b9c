-- What is answered where the text of an array is asked for.
use Rattle.std.specs.Prelude.{ℕ, ◌<◌, ◌≤◌}
use Rattle.byte_memory.specs.Limits.{most_region_bytes}
use Rattle.cxx_hierarchy.specs.declared.records.ClassId.{ClassId}
use Rattle.cxx_hierarchy.specs.Classes.{Classes}
use Rattle.cxx_overrider.specs.Overriding.{IsAbstract}
use Rattle.abi_sound.specs.Places.{Places}
use Rattle.abi_cookie.specs.declared.answers.ArrayAnswer.{ArrayAnswer}
use Rattle.abi_cookie.specs.declared.answers.ArrayAnswer.TheVariants.{Abstract, TooLarge, Text}
use Rattle.abi_cookie.specs.Cookies.{IsCookie, array_bytes}
use Rattle.abi_cookie.specs.ArrayTexts.{array_text}

-- the answer for n elements of class c: there are none of an abstract class (ISO C++03 10.4), else the region has a limit, else the text
pub data IsArrayAnswer (h : Classes) (l : Places) (c : ClassId) (n : ℕ) : ArrayAnswer → Type 0 where
  of_abstract : IsAbstract h c → IsArrayAnswer h l c n Abstract
  too_large : (cookie : ℕ) → (IsAbstract h c → ⊥) → IsCookie h l c cookie → most_region_bytes < array_bytes (l.size c) cookie n → IsArrayAnswer h l c n TooLarge
  told : (cookie : ℕ) → (IsAbstract h c → ⊥) → IsCookie h l c cookie → array_bytes (l.size c) cookie n ≤ most_region_bytes → IsArrayAnswer h l c n (Text (array_text (l.size c) cookie n))
