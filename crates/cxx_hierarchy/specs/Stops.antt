-- The numbers of refusals and limits.
use Rattle.std.specs.Prelude.{ℕ}
use Rattle.cxx_hierarchy.specs.declared.stop.Rule.{Rule}
use Rattle.cxx_hierarchy.specs.declared.stop.Rule.TheVariants.{Lex, Syntax, UnknownClass, DuplicateClass, IncompleteClass, DuplicateBase, DuplicateMember, BadInitializer, AmbiguousName, NoSuchMember, ReturnMismatch, AmbiguousCovariant, TwoFinalOverriders, Abstract, AmbiguousBase, NotBase, DowncastVirtual, NotPolymorphic, TypeMismatch, Index, LeftOut, UnknownName, BadWidth, SharedPlace}
use Rattle.cxx_hierarchy.specs.declared.stop.LimitNo.{LimitNo}
use Rattle.cxx_hierarchy.specs.declared.stop.LimitNo.TheVariants.{L1, L2, L3, L4, L5, L6, L7, L8, L9, L10}

-- the number of a refusal of the source
abbrev pub rule_no : Rule → ℕ
rule_no Lex = 1
rule_no Syntax = 2
rule_no UnknownClass = 3
rule_no DuplicateClass = 4
rule_no IncompleteClass = 5
rule_no DuplicateBase = 6
rule_no DuplicateMember = 7
rule_no BadInitializer = 8
rule_no AmbiguousName = 9
rule_no NoSuchMember = 10
rule_no ReturnMismatch = 11
rule_no AmbiguousCovariant = 12
rule_no TwoFinalOverriders = 13
rule_no Abstract = 14
rule_no AmbiguousBase = 15
rule_no NotBase = 16
rule_no DowncastVirtual = 17
rule_no NotPolymorphic = 18
rule_no TypeMismatch = 19
rule_no Index = 20
rule_no LeftOut = 21
rule_no UnknownName = 22
rule_no BadWidth = 23
rule_no SharedPlace = 24

-- the number of a limit
abbrev pub limit_no : LimitNo → ℕ
limit_no L1 = 1
limit_no L2 = 2
limit_no L3 = 3
limit_no L4 = 4
limit_no L5 = 5
limit_no L6 = 6
limit_no L7 = 7
limit_no L8 = 8
limit_no L9 = 9
limit_no L10 = 10
