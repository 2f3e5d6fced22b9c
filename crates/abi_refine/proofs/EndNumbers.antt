-- Rules, limits and ends are told apart by what the machine answers.
use Rattle.std.proofs.Common.{◌≡◌, ℕ, Option, Some, None, refl, ap, sym, ◌∙◌}
use Rattle.std.specs.Prelude.{nat_eq, if◌then◌else◌}
use Rattle.cxx_hierarchy.specs.declared.stop.LimitNo.{LimitNo}
use Rattle.cxx_hierarchy.specs.declared.stop.LimitNo.TheVariants.{L1, L2, L3, L4, L5, L6, L7, L8, L9, L10}
use Rattle.cxx_hierarchy.specs.Stops.{limit_no}
use Rattle.path_rules.specs.Rules.{undefined_no}
use Rattle.agree_statements.proofs.Tests.{one_number}
use Rattle.text_told.specs.declared.ending.End.{End}
use Rattle.text_told.specs.declared.ending.End.TheVariants.{Done, Undefined as UndefinedEnd, OutOfSteps, Limit}
use Rattle.abi_refine.specs.Endings.{turn_of}

abbrev limit_with : ℕ → Option LimitNo
limit_with n = if nat_eq n 1 then Some L1 else if nat_eq n 2 then Some L2 else if nat_eq n 3 then Some L3 else if nat_eq n 4 then Some L4 else if nat_eq n 5 then Some L5 else if nat_eq n 6 then Some L6 else if nat_eq n 7 then Some L7 else if nat_eq n 8 then Some L8 else if nat_eq n 9 then Some L9 else if nat_eq n 10 then Some L10 else None

limit_with-number : (limit : LimitNo) → limit_with (limit_no limit) ≡ Some limit
limit_with-number L1 = refl
limit_with-number L2 = refl
limit_with-number L3 = refl
limit_with-number L4 = refl
limit_with-number L5 = refl
limit_with-number L6 = refl
limit_with-number L7 = refl
limit_with-number L8 = refl
limit_with-number L9 = refl
limit_with-number L10 = refl

same_limit : (a b : LimitNo) → limit_no a ≡ limit_no b → a ≡ b
same_limit a b e = let h : Some a ≡ Some b = sym (limit_with-number a) ∙ ap limit_with e ∙ limit_with-number b in cc

-- one answer, one end
pub same_end : (a b : End) → turn_of a ≡ turn_of b → a ≡ b
same_end Done Done e = refl
same_end Done (UndefinedEnd rule line) e = cc
same_end Done OutOfSteps e = cc
same_end Done (Limit limit) e = cc
same_end (UndefinedEnd rule line) Done e = cc
same_end (UndefinedEnd rule line) (UndefinedEnd rule' line') e =
    let number : undefined_no rule ≡ undefined_no rule' = cc in
    let place : line ≡ line' = cc in
    let same : rule ≡ rule' = one_number rule rule' number in
    cc
same_end (UndefinedEnd rule line) OutOfSteps e = cc
same_end (UndefinedEnd rule line) (Limit limit) e = cc
same_end OutOfSteps Done e = cc
same_end OutOfSteps (UndefinedEnd rule line) e = cc
same_end OutOfSteps OutOfSteps e = refl
same_end OutOfSteps (Limit limit) e = cc
same_end (Limit limit) Done e = cc
same_end (Limit limit) (UndefinedEnd rule line) e = cc
same_end (Limit limit) OutOfSteps e = cc
same_end (Limit limit) (Limit limit') e =
    let number : limit_no limit ≡ limit_no limit' = cc in
    ap Limit (same_limit limit limit' number)
