-- Sorts by their numbers.
use Rattle.std.proofs.Common.{◌≡◌, ℕ, true, cond, ◌==◌, refl, sym, ap, ◌∙◌, arith}
use Rattle.std.proofs.lemmas.Grind.{common_steps}
use Rattle.cxx_grammar.specs.declared.sort.Sort.{Sort}
use Rattle.cxx_grammar.specs.declared.sort.Sort.TheVariants.{Struct, Class, Public, Protected, Private, Virtual, Boolean, Char, Short, Int, Long, Signed, Unsigned, Void, Return, New, Delete, If, Else, While, This, True, False, StaticCast, DynamicCast, Typeid, Main, Print, Dump, Name, OwnName, Number, Zero, LeftOut, OpenBrace, OpenBlock, CloseBrace, OpenParen, CloseParen, OpenBracket, CloseBracket, Semicolon, Colon, DoubleColon, Comma, Star, Ampersand, Assign, Equal, NotEqual, Bang, Arrow, Dot, Less, LessEqual, Greater, Plus, Minus, Tilde, End, Bad}
use Rattle.cxx_grammar.specs.Sorts.{sort_no, is_same}

abbrev pub sort_of : ℕ → Sort
sort_of n = cond (n == 0) Struct (cond (n == 1) Class (cond (n == 2) Public (cond (n == 3) Protected (cond (n == 4) Private (cond (n == 5) Virtual (cond (n == 6) Boolean (cond (n == 7) Char (cond (n == 8) Short (cond (n == 9) Int (cond (n == 10) Long (cond (n == 11) Signed (cond (n == 12) Unsigned (cond (n == 13) Void (cond (n == 14) Return (cond (n == 15) New (cond (n == 16) Delete (cond (n == 17) If (cond (n == 18) Else (cond (n == 19) While (cond (n == 20) This (cond (n == 21) True (cond (n == 22) False (cond (n == 23) StaticCast (cond (n == 24) DynamicCast (cond (n == 25) Typeid (cond (n == 26) Main (cond (n == 27) Print (cond (n == 28) Dump (cond (n == 29) Name (cond (n == 30) OwnName (cond (n == 31) Number (cond (n == 32) Zero (cond (n == 33) LeftOut (cond (n == 34) OpenBrace (cond (n == 35) OpenBlock (cond (n == 36) CloseBrace (cond (n == 37) OpenParen (cond (n == 38) CloseParen (cond (n == 39) OpenBracket (cond (n == 40) CloseBracket (cond (n == 41) Semicolon (cond (n == 42) Colon (cond (n == 43) DoubleColon (cond (n == 44) Comma (cond (n == 45) Star (cond (n == 46) Ampersand (cond (n == 47) Assign (cond (n == 48) Equal (cond (n == 49) NotEqual (cond (n == 50) Bang (cond (n == 51) Arrow (cond (n == 52) Dot (cond (n == 53) Less (cond (n == 54) LessEqual (cond (n == 55) Greater (cond (n == 56) Plus (cond (n == 57) Minus (cond (n == 58) Tilde (cond (n == 59) End (Bad))))))))))))))))))))))))))))))))))))))))))))))))))))))))))))

sort_of-sort_no : (s : Sort) → sort_of (sort_no s) ≡ s
sort_of-sort_no Struct = refl
sort_of-sort_no _ = refl

pub is_same_eq : (s t : Sort) → is_same s t ≡ true → s ≡ t
is_same_eq s t h = let e : sort_no s ≡ sort_no t = grind (arith, common_steps) in sym (sort_of-sort_no s) ∙ (ap sort_of e ∙ sort_of-sort_no t)

-- the same, by the other sort first
pub same_eq : (s t : Sort) → is_same t s ≡ true → s ≡ t
same_eq s t h = sym (is_same_eq t s h)

pub is_same_refl : (s : Sort) → is_same s s ≡ true
is_same_refl s = grind (arith, common_steps)
