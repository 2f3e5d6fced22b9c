-- The words and signs of the language.
use Rattle.std.specs.Prelude.{ℕ, Bool, true, false, ◌&&◌, ◌==◌, if◌then◌else◌, List, [], ◌∷◌, codes}
use Rattle.cxx_grammar.specs.declared.words.Spelling.{Spelling}
use Rattle.cxx_grammar.specs.declared.sort.Sort.{Sort}
use Rattle.cxx_grammar.specs.declared.sort.Sort.TheVariants.{Struct, Class, Public, Protected, Private, Virtual, Boolean, Char, Short, Int, Long, Signed, Unsigned, Void, Return, New, Delete, If, Else, While, This, True, False, StaticCast, DynamicCast, Typeid, Main, Print, Dump, LeftOut, OpenBrace, CloseBrace, OpenParen, CloseParen, OpenBracket, CloseBracket, Semicolon, Colon, DoubleColon, Comma, Star, Ampersand, Assign, Equal, NotEqual, Bang, Arrow, Dot, Less, LessEqual, Greater, Plus, Minus, Tilde}

abbrev pub same_bytes : List ℕ → List ℕ → Bool
same_bytes [] [] = true
same_bytes (x ∷ xs) (y ∷ ys) = x == y && same_bytes xs ys
same_bytes _ _ = false

-- the sort of the first line with these bytes, or this other one
abbrev pub look_up : List ℕ → List (List ℕ × Sort) → Sort → Sort
look_up bytes [] otherwise = otherwise
look_up bytes (l ∷ ls) otherwise = if same_bytes bytes l.0 then l.1 else look_up bytes ls otherwise

abbrev pub spelling : Spelling → List ℕ × Sort
spelling l = (l.bytes.now, l.sort)

-- the words of the language, and those of C++ that it leaves out (ISO C++03 2.11)
unfoldable pub words : List (List ℕ × Sort)
words =
    (codes "struct", Struct) ∷
    (codes "class", Class) ∷
    (codes "public", Public) ∷
    (codes "protected", Protected) ∷
    (codes "private", Private) ∷
    (codes "virtual", Virtual) ∷
    (codes "bool", Boolean) ∷
    (codes "char", Char) ∷
    (codes "short", Short) ∷
    (codes "int", Int) ∷
    (codes "long", Long) ∷
    (codes "signed", Signed) ∷
    (codes "unsigned", Unsigned) ∷
    (codes "void", Void) ∷
    (codes "return", Return) ∷
    (codes "new", New) ∷
    (codes "delete", Delete) ∷
    (codes "if", If) ∷
    (codes "else", Else) ∷
    (codes "while", While) ∷
    (codes "this", This) ∷
    (codes "true", True) ∷
    (codes "false", False) ∷
    (codes "static_cast", StaticCast) ∷
    (codes "dynamic_cast", DynamicCast) ∷
    (codes "typeid", Typeid) ∷
    (codes "main", Main) ∷
    (codes "print", Print) ∷
    (codes "dump", Dump) ∷
    (codes "alignas", LeftOut) ∷
    (codes "alignof", LeftOut) ∷
    (codes "asm", LeftOut) ∷
    (codes "auto", LeftOut) ∷
    (codes "break", LeftOut) ∷
    (codes "case", LeftOut) ∷
    (codes "catch", LeftOut) ∷
    (codes "const", LeftOut) ∷
    (codes "const_cast", LeftOut) ∷
    (codes "continue", LeftOut) ∷
    (codes "default", LeftOut) ∷
    (codes "do", LeftOut) ∷
    (codes "double", LeftOut) ∷
    (codes "enum", LeftOut) ∷
    (codes "explicit", LeftOut) ∷
    (codes "export", LeftOut) ∷
    (codes "extern", LeftOut) ∷
    (codes "float", LeftOut) ∷
    (codes "for", LeftOut) ∷
    (codes "friend", LeftOut) ∷
    (codes "goto", LeftOut) ∷
    (codes "inline", LeftOut) ∷
    (codes "mutable", LeftOut) ∷
    (codes "namespace", LeftOut) ∷
    (codes "nullptr", LeftOut) ∷
    (codes "operator", LeftOut) ∷
    (codes "register", LeftOut) ∷
    (codes "reinterpret_cast", LeftOut) ∷
    (codes "sizeof", LeftOut) ∷
    (codes "static", LeftOut) ∷
    (codes "switch", LeftOut) ∷
    (codes "template", LeftOut) ∷
    (codes "throw", LeftOut) ∷
    (codes "try", LeftOut) ∷
    (codes "typedef", LeftOut) ∷
    (codes "typename", LeftOut) ∷
    (codes "union", LeftOut) ∷
    (codes "using", LeftOut) ∷
    (codes "volatile", LeftOut) ∷
    (codes "wchar_t", LeftOut) ∷ []

-- the signs of the language (ISO C++03 2.12)
unfoldable pub signs : List (List ℕ × Sort)
signs =
    (codes "{", OpenBrace) ∷
    (codes "}", CloseBrace) ∷
    (codes "(", OpenParen) ∷
    (codes ")", CloseParen) ∷
    (codes "[", OpenBracket) ∷
    (codes "]", CloseBracket) ∷
    (codes ";", Semicolon) ∷
    (codes ":", Colon) ∷
    (codes "::", DoubleColon) ∷
    (codes ",", Comma) ∷
    (codes "*", Star) ∷
    (codes "&", Ampersand) ∷
    (codes "=", Assign) ∷
    (codes "==", Equal) ∷
    (codes "!=", NotEqual) ∷
    (codes "!", Bang) ∷
    (codes "->", Arrow) ∷
    (codes ".", Dot) ∷
    (codes "<", Less) ∷
    (codes "<=", LessEqual) ∷
    (codes ">", Greater) ∷
    (codes "+", Plus) ∷
    (codes "-", Minus) ∷
    (codes "~", Tilde) ∷ []
