-- One object more is tested, and all that a copy tests.
use Rattle.std.proofs.Common.{◌≡◌, ℕ, zero, suc, ◌+◌, ◌<◌, Bool, List, [], ◌∷◌, ◌++◌, ap, ◌∙◌, arith, append_assoc}
use Rattle.cxx_hierarchy.specs.declared.records.ClassId.{ClassId}
use Rattle.code_ops.specs.declared.uses.Used.{Used}
use Rattle.code_ops.specs.declared.uses.Used.TheVariants.{Guards}
use Rattle.code_ops.specs.Setups.{Setup}
use Rattle.cxx_search.specs.Searches.{has_virtual_base}
use Rattle.cxx_program.specs.declared.operand.TypedOperand.{TypedOperand}
use Rattle.code_ops.specs.Arguments.{Block, free}
use Rattle.code_ops.specs.Operands.{operand_register}
use Rattle.code_ops.specs.Uses.{arrow_used, views_if}
use Rattle.code_statements.specs.CopyTests.{covered_used, copy_used}
use Rattle.code_statements.specs.invariants.Pushes.{CoversOwn}

-- the test of an object of class d and those inside it, as the definition counts classes
pub object_tested : (x : Setup) (r : ℕ) (d : ClassId) (at : ℕ) (mid asked new : List Used) → asked ≡ mid ++ Guards r at d.0 ∷ [] → CoversOwn x r d at asked new → (n : ℕ) → d.0 < n → new ≡ mid ++ Guards r at d.0 ∷ covered_used x r n d at
object_tested x r d at mid asked new guards more zero low = absurd (omega arith)
object_tested x r d at mid asked new guards more (suc n) low = more.adds n (omega arith) ∙ (ap (λ (l : List Used). l ++ covered_used x r (suc n) d at) guards ∙ append_assoc mid (Guards r at d.0 ∷ []) (covered_used x r (suc n) d at))

joined : (old mid new first rest : List Used) → mid ≡ old ++ first → new ≡ mid ++ rest → new ≡ old ++ (first ++ rest)
joined old mid new first rest e f = f ∙ (ap (λ (l : List Used). l ++ rest) e ∙ append_assoc old first rest)

-- all tests of class c's own members, as the definition counts classes
own_covered : (x : Setup) (r : ℕ) (c : ClassId) (old new : List Used) → CoversOwn x r c 0 old new → new ≡ old ++ covered_used x r (c.0 + 1) c 0
own_covered x r c old new covers = let next : suc c.0 ≡ c.0 + 1 = omega arith in covers.adds c.0 (omega arith) ∙ ap (λ (n : ℕ). old ++ covered_used x r n c 0) next

-- all tests of a copy
pub all_tested : (b : Block) (to from : TypedOperand) (c : ClassId) (read again first second : ℕ) (needed : Bool) (old one two three four five new : List Used) → read ≡ free b 0 → again ≡ free b 1 → first ≡ operand_register read to → second ≡ operand_register again from → needed ≡ has_virtual_base b.x.h c
    → one ≡ old ++ arrow_used b.scope read to c → two ≡ one ++ arrow_used b.scope again from c → three ≡ two ++ views_if needed first 0 c → four ≡ three ++ views_if needed second 0 c → CoversOwn b.x first c 0 four five → CoversOwn b.x second c 0 five new → new ≡ old ++ copy_used b to from c
all_tested b to from c read again first second needed old one two three four five new is_read is_again is_first is_second is_needed e1 e2 e3 e4 e5 e6 =
    let give = λ (r q f s : ℕ) (z : Bool).
    arrow_used b.scope r to c ++ (arrow_used b.scope q from c ++ (views_if z f 0 c ++ (views_if z s 0 c ++ (covered_used b.x f (c.0 + 1) c 0 ++ covered_used b.x s (c.0 + 1) c 0)))) in
    let cover_to = covered_used b.x first (c.0 + 1) c 0 in
    let cover_from = covered_used b.x second (c.0 + 1) c 0 in
    let views_to = views_if needed first 0 c in
    let views_from = views_if needed second 0 c in
    let covered : new ≡ four ++ (cover_to ++ cover_from) = joined four five new cover_to cover_from (own_covered b.x first c four five e5) (own_covered b.x second c five new e6) in
    let seen : new ≡ two ++ (views_to ++ (views_from ++ (cover_to ++ cover_from))) = joined two three new views_to (views_from ++ (cover_to ++ cover_from)) e3 (joined three four new views_from (cover_to ++ cover_from) e4 covered) in
    let whole : new ≡ old ++ give read again first second needed = joined old one new (arrow_used b.scope read to c) _ e1 (joined one two new (arrow_used b.scope again from c) _ e2 seen) in
    whole ∙ (ap (λ (z : Bool). old ++ give read again first second z) is_needed
    ∙ (ap (λ (f : ℕ). old ++ give read again f second (has_virtual_base b.x.h c)) (is_first ∙ ap (λ (r : ℕ). operand_register r to) is_read)
    ∙ (ap (λ (s : ℕ). old ++ give read again (operand_register (free b 0) to) s (has_virtual_base b.x.h c)) (is_second ∙ ap (λ (r : ℕ). operand_register r from) is_again)
    ∙ (ap (λ (r : ℕ). old ++ give r again (operand_register (free b 0) to) (operand_register (free b 1) from) (has_virtual_base b.x.h c)) is_read
    ∙ ap (λ (q : ℕ). old ++ give (free b 0) q (operand_register (free b 0) to) (operand_register (free b 1) from) (has_virtual_base b.x.h c)) is_again))))
