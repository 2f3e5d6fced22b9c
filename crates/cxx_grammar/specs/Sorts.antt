-- The sorts of tokens by their numbers.
use Rattle.std.specs.Prelude.{ℕ, Bool, true, false, ◌==◌}
use Rattle.cxx_grammar.specs.declared.sort.Sort.{Sort}
use Rattle.cxx_grammar.specs.declared.sort.Sort.TheVariants.{Struct, Class, Public, Protected, Private, Virtual, Boolean, Char, Short, Int, Long, Signed, Unsigned, Void, Return, New, Delete, If, Else, While, This, True, False, StaticCast, DynamicCast, Typeid, Main, Print, Dump, Name, OwnName, Number, Zero, LeftOut, OpenBrace, OpenBlock, CloseBrace, OpenParen, CloseParen, OpenBracket, CloseBracket, Semicolon, Colon, DoubleColon, Comma, Star, Ampersand, Assign, Equal, NotEqual, Bang, Arrow, Dot, Less, LessEqual, Greater, Plus, Minus, Tilde, End, Bad}

abbrev pub sort_no : Sort → ℕ
sort_no Struct = 0
sort_no Class = 1
sort_no Public = 2
sort_no Protected = 3
sort_no Private = 4
sort_no Virtual = 5
sort_no Boolean = 6
sort_no Char = 7
sort_no Short = 8
sort_no Int = 9
sort_no Long = 10
sort_no Signed = 11
sort_no Unsigned = 12
sort_no Void = 13
sort_no Return = 14
sort_no New = 15
sort_no Delete = 16
sort_no If = 17
sort_no Else = 18
sort_no While = 19
sort_no This = 20
sort_no True = 21
sort_no False = 22
sort_no StaticCast = 23
sort_no DynamicCast = 24
sort_no Typeid = 25
sort_no Main = 26
sort_no Print = 27
sort_no Dump = 28
sort_no Name = 29
sort_no OwnName = 30
sort_no Number = 31
sort_no Zero = 32
sort_no LeftOut = 33
sort_no OpenBrace = 34
sort_no OpenBlock = 35
sort_no CloseBrace = 36
sort_no OpenParen = 37
sort_no CloseParen = 38
sort_no OpenBracket = 39
sort_no CloseBracket = 40
sort_no Semicolon = 41
sort_no Colon = 42
sort_no DoubleColon = 43
sort_no Comma = 44
sort_no Star = 45
sort_no Ampersand = 46
sort_no Assign = 47
sort_no Equal = 48
sort_no NotEqual = 49
sort_no Bang = 50
sort_no Arrow = 51
sort_no Dot = 52
sort_no Less = 53
sort_no LessEqual = 54
sort_no Greater = 55
sort_no Plus = 56
sort_no Minus = 57
sort_no Tilde = 58
sort_no End = 59
sort_no Bad = 60

-- whether two sorts are one
abbrev pub is_same : Sort → Sort → Bool
is_same s t = sort_no s == sort_no t

-- a name, the class's own or another
abbrev pub is_name : Sort → Bool
is_name Name = true
is_name OwnName = true
is_name _ = false

-- a number, 0 or another
abbrev pub is_number : Sort → Bool
is_number Number = true
is_number Zero = true
is_number _ = false
