-- A call through the words of a pointer to a function runs the final overrider in the whole object.
use Rattle.std.proofs.Common.{◌≡◌, ℕ, ◌+◌, ◌-◌, ◌*◌, ◌%◌, ◌<◌, ◌^◌, ℤ, pos, Bool, true, false, Option, Some, None, List, [], refl, ap, subst, sym, ◌∙◌, arith}
use Rattle.std.specs.Prelude.{length, map, nat_eq, slice_get}
use Rattle.std.proofs.Math.Nat.{mod-eq_of_lt}
use Rattle.cxx_hierarchy.specs.declared.records.ClassId.{ClassId}
use Rattle.cxx_hierarchy.specs.declared.records.Function.{Function as FunctionRecord}
use Rattle.cxx_hierarchy.specs.Classes.{Class, Classes, class_at, functions_in}
use Rattle.cxx_subobject.specs.declared.Subobject.{Subobject}
use Rattle.cxx_subobject.specs.Subobjects.{whole, whole_of, join, IsSubobject}
use Rattle.cxx_subobject.proofs.InsideLemmas.{whole_inside, whole_joined}
use Rattle.cxx_overrider.specs.declared.FunctionId.{FunctionId}
use Rattle.cxx_overrider.specs.declared.Overrider.{Overrider}
use Rattle.cxx_overrider.specs.Functions.{named, signature_at, signature_in, is_pure, signature_of}
use Rattle.cxx_overrider.specs.Overriding.{IsVirtual, IsFinalOverrider}
use Rattle.cxx_overrider.specs.Virtuals.{is_virtual}
use Rattle.cxx_search.specs.Searches.{final_in}
use Rattle.cxx_search.proofs.Finals.{found_in_whole, some_found}
use Rattle.cxx_search.proofs.Virtuals.{test_virtual, virtual_test}
use Rattle.abi_sound.specs.declared.class_layout.ClassLayout.{ClassLayout}
use Rattle.abi_sound.specs.Places.{Places, places_of}
use Rattle.abi_sound.proofs.Depth.{below}
use Rattle.abi_slots.specs.declared.code_numbers.BlockKind.TheVariants.{Plain}
use Rattle.abi_slots.specs.declared.code_numbers.CodeRow.{CodeRow}
use Rattle.abi_slots.specs.CodeRows.{code_of, block_kind}
use Rattle.abi_slots.specs.Groups.{return_for}
use Rattle.abi_slots.specs.Images.{return_vbase, return_constant}
use Rattle.abi_slots.specs.Listing.{entry_number}
use Rattle.abi_slots.specs.Slots.{first_key, first_kind}
use Rattle.abi_slots.specs.Seen.{PlacedTables}
use Rattle.abi_slots.proofs.Dynamics.{dynamic_whole, virtual_dynamic}
use Rattle.byte_memory.specs.Store.{Store}
use Rattle.byte_code.specs.declared.code.ImageBytes.{ImageBytes}
use Rattle.byte_code.specs.Numbers.{word_of}
use Rattle.byte_machine.specs.Running.{moved}
use Rattle.byte_machine.specs.Calls.{Callee}
use Rattle.agree_dispatch.specs.Standing.{address_in_object}
use Rattle.agree_dispatch.specs.Words.{HasEntryWord}
use Rattle.agree_dispatch.proofs.OwnKeys.{first_own}
use Rattle.agree_dispatch.proofs.Running.{entry_runs}
use Rattle.abi_memptr.specs.declared.calls.Applied.{Applied}
use Rattle.abi_memptr.specs.declared.pointers.MemberPointer.TheVariants.{Function}
use Rattle.abi_memptr.specs.Pointers.{IsFunctionIn}
use Rattle.abi_memptr.specs.PointerBytes.{HasFunctionCode, even_word, code_word_of, function_word}
use Rattle.abi_slots.specs.Views.{whole_view}
use Rattle.abi_memptr.specs.PointerCalls.{Applies, IsCompleteAt, runs_overrider, runs_nothing, runs_itself}
use Rattle.abi_memptr.specs.invariants.Targets.{entry_target}
use Rattle.abi_memptr.proofs.Targeting.{entry_found, nothing_found}
use Rattle.abi_memptr.proofs.Words.{plain_word, virtual_word}

-- a function that is declared under a name has the signature of that name
declared_named : (o : Option Class) (i : ℕ) (function : FunctionRecord ClassId) → slice_get (functions_in o) i ≡ Some function → signature_in o i ≡ Some (named function.name (map (λ p. p.ty) function.params))
declared_named None i function e = absurd (cc)
declared_named (Some class) i function e = ap (λ o. signature_at o (nat_eq i (length class.functions))) e

module _ (h : Classes) (rows : List ClassLayout) (image : ImageBytes) (codes : List CodeRow) (memory : Store) (d : ClassId) (at : ℕ) (f : FunctionId) (s : Subobject) (complete : IsCompleteAt h rows image codes memory d at) (value : IsFunctionIn h d f s) where
  abbrev l : Places
  l = places_of h rows

  -- the address of the subobject
  this_here : moved at ((places_of h rows).place d s) ≡ at + (places_of h rows).place d s
  this_here = let b = below h rows complete.sound d s value.known value.valid in let fits = complete.fits in mod-eq_of_lt (omega arith)

  kind_is : block_kind (first_key h f).kind ≡ Plain
  kind_is = ap (λ o. block_kind (first_kind o)) (declared_named (class_at h f.class) f.index value.function value.there)

  -- by the word of an entry, which is 0 where the final overrider is pure
  by_word : (o : Overrider) (placed : PlacedTables) → placed.codes ≡ codes → image.base + length image.bytes < 2 ^ 63 → IsVirtual h f → IsFinalOverrider h d s f o →
      HasEntryWord h (places_of h rows) image placed.codes memory (first_key h f) o (at + (places_of h rows).place d s) (at + (places_of h rows).place d o.at) → (p : Bool) → is_pure h o.function ≡ p →
      Applies h (places_of h rows) codes d at f s (entry_target image memory (at + (places_of h rows).place d s) (8 * entry_number h (places_of h rows) (first_key h f)))
  by_word o placed numbers low real final word true pure =
      let none = nothing_found image memory (at + l.place d s) (8 * entry_number h l (first_key h f)) (word.there ∙ ap (λ w. Some w) (word.pure pure)) in
      subst (Applies h l codes d at f s) (sym none) (runs_nothing o real final pure)
  by_word o placed numbers low real final word false pure =
      let r = word.runs pure in
      let returned = return_for h l o.function (first_key h f).function in
      let made : Callee = record { block = r.block; this = at + l.place d o.at; vbase = word_of (return_vbase returned); add = word_of (return_constant returned) } in
      let found = entry_found image memory (at + l.place d s) (entry_number h l (first_key h f)) made low r.called in
      let coded : code_of codes o.function Plain ≡ Some r.block = ap (code_of codes o.function) (sym kind_is) ∙ (ap (λ c. code_of c o.function (block_kind (first_key h f).kind)) (sym numbers) ∙ r.coded) in
      subst (Applies h l codes d at f s) (sym found) (runs_overrider o r.block real final pure coded)

  -- a virtual function, by its entry
  by_entry : is_virtual h f ≡ true → Applies h (places_of h rows) codes d at f s (entry_target image memory (at + (places_of h rows).place d s) (8 * entry_number h (places_of h rows) (first_key h f)))
  by_entry is =
      let keeps = complete.keeps in
      let real = test_virtual h f is in
      let t = complete.tables (dynamic_whole h d f.class s value.valid value.class (virtual_dynamic h f real)) in
      let joined = whole_joined h d s value.valid in
      let some = some_found h keeps d (whole_of d) (whole [] tt) s f t.stands.faultless (whole_inside h d s value.valid) value.class real in
      let o = some.0 in
      let found : final_in h (whole_of d) (join (whole_of d) s) f ≡ Some o = ap (λ u. final_in h (whole_of d) u f) joined ∙ some.1 in
      let runs = entry_runs h rows image memory d at (whole_of d) (whole_view d) t.placed t.stands s (first_key h f) o value.valid value.class (first_own h keeps f real) found in
      let here : address_in_object l d at (whole_of d) s ≡ at + l.place d s = ap (λ u. at + l.place d u) joined in
      let word = subst (λ a. HasEntryWord h l image t.placed.codes memory (first_key h f) o a (at + l.place d o.at)) here runs in
      by_word o t.placed t.numbers t.stands.low real (found_in_whole h keeps d s f o some.1) word (is_pure h o.function) refl

  -- another function, by its code
  by_code : is_virtual h f ≡ false → (code : ℕ) → code_of codes f Plain ≡ Some code → Applies h (places_of h rows) codes d at f s (Some (record { code = code; this_at = at + (places_of h rows).place d s }))
  by_code is code has = runs_itself code (λ real. let yes = virtual_test h complete.keeps f real in absurd (cc)) has

  -- what the two words lead to: an odd one to an entry, an even one to code
  through : (word this : ℕ) (result : Option Applied) → (v : Bool) → is_virtual h f ≡ v → HasFunctionCode h codes (Function f s) → word ≡ function_word h (places_of h rows) codes f → this ≡ at + (places_of h rows).place d s →
      (word % 2 ≡ 1 → result ≡ entry_target image memory this (word - 1)) →
      ((code : ℕ) → code < 2 ^ 32 → word ≡ even_word code → result ≡ Some (record { code = code; this_at = this })) → Applies h (places_of h rows) codes d at f s result
  through word this result true is coded word_is this_is odd even =
      let e : word ≡ 1 + 8 * entry_number h l (first_key h f) = word_is ∙ virtual_word h l codes f is in
      let bytes : word - 1 ≡ 8 * entry_number h l (first_key h f) = omega (arith, e) in
      let found = odd (omega (arith, e)) ∙ (ap (λ a. entry_target image memory a (word - 1)) this_is ∙ ap (entry_target image memory (at + l.place d s)) bytes) in
      subst (Applies h l codes d at f s) (sym found) (by_entry is)
  through word this result false is coded word_is this_is odd even =
      let c = coded is in
      let e : word ≡ 2 * c.0 + 2 = word_is ∙ (plain_word h l codes f is ∙ ap code_word_of c.1) in
      let found = even c.0 (complete.small f c.0 c.1) e ∙ ap (λ a. let x : Option Applied = Some (record { code = c.0; this_at = a }) in x) this_is in
      subst (Applies h l codes d at f s) (sym found) (by_code is c.0 c.1)

  pub applies : (ptr adj : ℤ) (word place this : ℕ) (result : Option Applied) → HasFunctionCode h codes (Function f s) → ptr ≡ pos (function_word h (places_of h rows) codes f) → adj ≡ pos ((places_of h rows).place d s) →
      ((n : ℕ) → ptr ≡ pos n → word ≡ n) → ((n : ℕ) → adj ≡ pos n → place ≡ n) → this ≡ moved at place →
      (word % 2 ≡ 1 → result ≡ entry_target image memory this (word - 1)) →
      ((code : ℕ) → code < 2 ^ 32 → word ≡ even_word code → result ≡ Some (record { code = code; this_at = this })) → Applies h (places_of h rows) codes d at f s result
  applies ptr adj word place this result coded ptr_is adj_is first second this_is odd even =
      let here = this_is ∙ (ap (moved at) (second (l.place d s) adj_is) ∙ this_here) in
      through word this result (is_virtual h f) refl coded (first (function_word h l codes f) ptr_is) here odd even
