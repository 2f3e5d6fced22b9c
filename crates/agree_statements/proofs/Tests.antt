-- The checks of a block ask the rules of its statement, in their order.
use Rattle.std.proofs.Common.{◌≡◌, ℕ, suc, ◌+◌, ◌<◌, Bool, true, false, Some, None, List, [], ◌∷◌, ◌++◌, map, length, refl, ap, sym, ◌∙◌, subst, ⊎_elim, arith}
use Rattle.std.specs.Prelude.{if◌then◌else◌, ◌||◌, slice_get, ◌-◌}
use Rattle.std.specs.List.{flat_map}
use Rattle.std.specs.Option.{option_or}
use Rattle.cxx_hierarchy.specs.Classes.{Classes}
use Rattle.path_rules.specs.declared.Undefined.{Undefined}
use Rattle.path_rules.specs.declared.Undefined.TheVariants.{NullUse, Dangling, NotReady, OutsideView, Unset as UnsetUse, PureCall, BadDowncast, NonVirtualDelete, NotHeapObject, NotComplete, MissingReturn, Overflow}
use Rattle.path_rules.specs.Rules.{undefined_no}
use Rattle.foundation.proofs.Truth.{is_false, not_both}
use Rattle.foundation.proofs.Members.{Has}
use Rattle.foundation.proofs.Chosen.{has_any}
use Rattle.std.proofs.lemmas.Bool.{cases_eq}
use Rattle.path_model.specs.Values.{Objects}
use Rattle.path_model.specs.Uses.{StatementUse}
use Rattle.path_model.specs.Rules.{rules, breaks, is_broken}
use Rattle.path_model.specs.Order.{asks, asked_of, first_broken, sorted}
use Rattle.path_model.proofs.Sorted.{asks_all, broken_append}
use Rattle.byte_code.specs.declared.op.Check.{Check}
use Rattle.byte_code.specs.declared.op.Finish.TheVariants.{Check as CheckOp}
use Rattle.byte_code.specs.declared.op.Op.{Op}
use Rattle.byte_code.specs.declared.op.Op.TheVariants.{Does}
use Rattle.byte_machine.specs.declared.turn.MachineTurn.TheVariants.{Refused}
use Rattle.byte_machine.specs.Running.{Fixed, Running, Stop, Answers}
use Rattle.byte_machine.specs.Leads.{OpsLead}
use Rattle.code_ops.specs.Uses.{checks_of, sorted_checks, check_ops}
use Rattle.code_ops.specs.declared.uses.Used.{Used}
use Rattle.agree_statements.specs.Tests.{NoneBefore, Decide, Along, nothing, tested, unasked, idle, AllPass}

-- checks as ops, one after the other
check_all : List Check → List Op → List Op
check_all [] rest = rest
check_all (c ∷ checks) rest = Does (CheckOp c) ∷ check_all checks rest

check_all-is : (checks : List Check) (rest : List Op) → map Does (map CheckOp checks) ++ rest ≡ check_all checks rest
unfolding check_all
check_all-is [] rest = refl
check_all-is (c ∷ checks) rest = ap (λ ops. Does (CheckOp c) ∷ ops) (check_all-is checks rest)

check_all-append : (a b : List Check) (rest : List Op) → check_all (a ++ b) rest ≡ check_all a (check_all b rest)
unfolding check_all
check_all-append [] b rest = refl
check_all-append (c ∷ a) b rest = ap (λ ops. Does (CheckOp c) ∷ ops) (check_all-append a b rest)

-- the rules are numbered from 1
rule_at : (r : Undefined) → slice_get rules (undefined_no r - 1) ≡ Some r
rule_at NullUse = refl
rule_at Dangling = refl
rule_at NotReady = refl
rule_at OutsideView = refl
rule_at UnsetUse = refl
rule_at PureCall = refl
rule_at BadDowncast = refl
rule_at NonVirtualDelete = refl
rule_at NotHeapObject = refl
rule_at NotComplete = refl
rule_at MissingReturn = refl
rule_at Overflow = refl

number_some : (r : Undefined) → 0 < undefined_no r
number_some NullUse = omega arith
number_some Dangling = omega arith
number_some NotReady = omega arith
number_some OutsideView = omega arith
number_some UnsetUse = omega arith
number_some PureCall = omega arith
number_some BadDowncast = omega arith
number_some NonVirtualDelete = omega arith
number_some NotHeapObject = omega arith
number_some NotComplete = omega arith
number_some MissingReturn = omega arith
number_some Overflow = omega arith

number_less : (r : Undefined) → undefined_no r < 13
number_less NullUse = omega arith
number_less Dangling = omega arith
number_less NotReady = omega arith
number_less OutsideView = omega arith
number_less UnsetUse = omega arith
number_less PureCall = omega arith
number_less BadDowncast = omega arith
number_less NonVirtualDelete = omega arith
number_less NotHeapObject = omega arith
number_less NotComplete = omega arith
number_less MissingReturn = omega arith
number_less Overflow = omega arith

pub one_number : (r q : Undefined) → undefined_no r ≡ undefined_no q → r ≡ q
one_number r q e = let same : Some r ≡ Some q = sym (rule_at r) ∙ ap (λ n. slice_get rules (n - 1)) e ∙ rule_at q in cc

-- rules with the numbers from n on
abbrev AreFrom : ℕ → List Undefined → Type 0
AreFrom n [] = Unit {0}
AreFrom n (r ∷ rs) = (undefined_no r ≡ n) × AreFrom (suc n) rs

module _ (fx : Fixed) (b : Running) (P : Running → Stop → Type 0) (h : Classes) (s : Objects) where
  -- checks that pass in any case
  all_pass : (checks : List Check) (rest : List Op) → AllPass fx b P checks → OpsLead fx rest b P → OpsLead fx (check_all checks rest) b P
  unfolding check_all
  all_pass [] rest pass goes_on = goes_on
  all_pass (c ∷ checks) rest pass goes_on = (pass.0).leads (check_all checks rest) (λ e. all_pass checks rest pass.1 goes_on) (λ e. absurd (let f : false ≡ true = e in cc))

  -- the checks of one rule and use
  one_use : (rule : Undefined) (broken : Bool) (checks : List Check) (rest : List Op) → Decide fx b P (undefined_no rule) checks broken → (broken ≡ false → OpsLead fx rest b P) → (broken ≡ true → P b (Answers (Refused (undefined_no rule) b.line))) → OpsLead fx (check_all checks rest) b P
  unfolding check_all
  one_use rule broken [] rest d goes_on refused = goes_on d
  one_use rule broken (c ∷ []) rest d goes_on refused = d.leads rest goes_on refused
  one_use rule broken (c ∷ c' ∷ checks) rest d goes_on refused = absurd d

  broken_first : (rule : Undefined) (u : StatementUse) (us : List StatementUse) → breaks h s rule u ≡ true → is_broken h s (u ∷ us) rule ≡ true
  broken_first rule u us e = rw e refl

  broken_rest : (rule : Undefined) (u : StatementUse) (us : List StatementUse) (x : Bool) → breaks h s rule u ≡ false → is_broken h s us rule ≡ x → is_broken h s (u ∷ us) rule ≡ x
  broken_rest rule u us x e rest = rw e rest

  -- the checks of one rule
  one_rule : (rule : Undefined) (all us : List StatementUse) (ds : List Used) (rest : List Op) → NoneBefore h s all rule → Along fx b P h s all us ds → (is_broken h s us rule ≡ false → OpsLead fx rest b P) → (is_broken h s us rule ≡ true → P b (Answers (Refused (undefined_no rule) b.line))) →
      OpsLead fx (check_all (flat_map (checks_of rule) ds) rest) b P
  unfolding check_all
  one_rule rule all [] [] rest before nothing goes_on refused = goes_on refl
  one_rule rule all (u ∷ us) (d ∷ ds) rest before (tested _ _ test along) goes_on refused =
      subst (λ ops. OpsLead fx ops b P) (sym (check_all-append (checks_of rule d) (flat_map (checks_of rule) ds) rest))
      (one_use rule (breaks h s rule u) (checks_of rule d) (check_all (flat_map (checks_of rule) ds) rest) (test.each rule before)
      (λ fine. one_rule rule all us ds rest before along (λ e. goes_on (broken_rest rule u us false fine e)) (λ e. refused (broken_rest rule u us true fine e)))
      (λ broken. refused (broken_first rule u us broken)))
  one_rule rule all (u ∷ us) ds rest before (unasked _ fine along) goes_on refused =
      one_rule rule all us ds rest before along (λ e. goes_on (broken_rest rule u us false (fine rule) e)) (λ e. refused (broken_rest rule u us true (fine rule) e))
  one_rule rule all us (d ∷ ds) rest before (idle _ pass along) goes_on refused =
      subst (λ ops. OpsLead fx ops b P) (sym (check_all-append (checks_of rule d) (flat_map (checks_of rule) ds) rest))
      (all_pass (checks_of rule d) (check_all (flat_map (checks_of rule) ds) rest) (pass rule) (one_rule rule all us ds rest before along goes_on refused))

  -- the verdict of one rule's tests
  asked_rule : (rule : Undefined) (us : List StatementUse) → first_broken h s (asked_of rule us) ≡ (if is_broken h s us rule then Some rule else None)
  asked_rule rule [] = refl
  asked_rule rule (u ∷ us) = by_asks (asked_rule rule us) (asks rule u) (breaks h s rule u) refl refl
    where
      by_asks : first_broken h s (asked_of rule us) ≡ (if is_broken h s us rule then Some rule else None) → (a x : Bool) → asks rule u ≡ a → breaks h s rule u ≡ x →
          first_broken h s (if a then record { rule = rule; of = u } ∷ asked_of rule us else asked_of rule us) ≡ (if x || is_broken h s us rule then Some rule else None)
      by_asks rest true true asked e = rw e refl
      by_asks rest true false asked e = rw e rest
      by_asks rest false true asked e = absurd (let wanted : asks rule u ≡ true = asks_all h s rule u e in cc)
      by_asks rest false false asked e = rest

  -- all rules in turn
  by_rules : (n : ℕ) (rs : List Undefined) (us : List StatementUse) (ds : List Used) (rest : List Op) → AreFrom n rs → ((r : Undefined) → undefined_no r < n → is_broken h s us r ≡ false) → Along fx b P h s us us ds
      → (first_broken h s (flat_map (λ rule. asked_of rule us) rs) ≡ None → ((r : Undefined) → undefined_no r < n + length rs → is_broken h s us r ≡ false) → OpsLead fx rest b P)
      → ((rule : Undefined) → first_broken h s (flat_map (λ rule. asked_of rule us) rs) ≡ Some rule → P b (Answers (Refused (undefined_no rule) b.line))) →
      OpsLead fx (check_all (flat_map (λ rule. flat_map (checks_of rule) ds) rs) rest) b P
  unfolding check_all
  by_rules n [] us ds rest from before along goes_on refused = goes_on refl (λ r less. before r (omega arith))
  by_rules n (rule ∷ rs) us ds rest from before along goes_on refused =
      subst (λ ops. OpsLead fx ops b P) (sym (check_all-append (flat_map (checks_of rule) ds) (flat_map (λ rule. flat_map (checks_of rule) ds) rs) rest))
      (one_rule rule us us ds (check_all (flat_map (λ rule. flat_map (checks_of rule) ds) rs) rest) (λ r less. before r (subst (λ m. undefined_no r < m) from.0 less)) along
      (λ fine. by_rules (suc n) rs us ds rest from.1 (before_next fine) along (λ e past. goes_on (both ∙ rw (none fine) e) (λ r less. past r (omega arith))) (λ r e. refused r (both ∙ rw (none fine) e)))
      (λ broken. refused rule (both ∙ rw (some broken) refl)))
    where
      both : first_broken h s (asked_of rule us ++ flat_map (λ r. asked_of r us) rs) ≡ option_or (first_broken h s (asked_of rule us)) (first_broken h s (flat_map (λ r. asked_of r us) rs))
      both = broken_append h s (asked_of rule us) (flat_map (λ r. asked_of r us) rs)

      none : is_broken h s us rule ≡ false → first_broken h s (asked_of rule us) ≡ None
      none fine = asked_rule rule us ∙ rw fine refl

      some : is_broken h s us rule ≡ true → first_broken h s (asked_of rule us) ≡ Some rule
      some broken = asked_rule rule us ∙ rw broken refl

      before_next : is_broken h s us rule ≡ false → (r : Undefined) → undefined_no r < suc n → is_broken h s us r ≡ false
      before_next fine r less = ⊎_elim (λ (e : undefined_no r ≡ n). subst (λ q. is_broken h s us q ≡ false) (one_number rule r (from.0 ∙ sym e)) fine) (λ (other : undefined_no r ≡ n → ⊥). before r (omega arith)) (cases_eq (undefined_no r) n)

  -- the checks of a stage; behind them no use breaks a rule
  pub leads_checks : (us : List StatementUse) (ds : List Used) {rest : List Op} → Along fx b P h s us us ds → (first_broken h s (sorted us) ≡ None → ((r : Undefined) → is_broken h s us r ≡ false) → OpsLead fx rest b P)
      → ((rule : Undefined) → first_broken h s (sorted us) ≡ Some rule → P b (Answers (Refused (undefined_no rule) b.line))) →
      OpsLead fx (check_ops ds ++ rest) b P
  unfolding sorted sorted_checks
  leads_checks us ds {rest} along goes_on refused =
      subst (λ ops. OpsLead fx ops b P) (sym (check_all-is (sorted_checks ds) rest))
      (by_rules 1 rules us ds rest (refl, (refl, (refl, (refl, (refl, (refl, (refl, (refl, (refl, (refl, (refl, (refl, tt)))))))))))) (λ r less. let some = number_some r in absurd (omega arith)) along
      (λ e past. goes_on e (λ r. past r (number_less r))) refused)

  pub along_append : (all us vs : List StatementUse) (ds es : List Used) → Along fx b P h s all us ds → Along fx b P h s all vs es → Along fx b P h s all (us ++ vs) (ds ++ es)
  along_append all [] vs [] es nothing more = more
  along_append all (u ∷ us) vs (d ∷ ds) es (tested _ _ test along) more = tested u d test (along_append all us vs ds es along more)
  along_append all (u ∷ us) vs ds es (unasked _ fine along) more = unasked u fine (along_append all us vs ds es along more)
  along_append all us vs (d ∷ ds) es (idle _ pass along) more = idle d pass (along_append all us vs ds es along more)

  -- what no use breaks
  pub unbroken : (us : List StatementUse) (u : StatementUse) (r : Undefined) → is_broken h s us r ≡ false → Has us u → breaks h s r u ≡ false
  unbroken us u r none has = is_false (breaks h s r u) (λ broken. not_both (has_any (breaks h s r) us u has broken) none)
