-- The law of dispatch.
use Rattle.std.proofs.Common.{◌≡◌, ℕ, zero, suc, ◌+◌, ◌-◌, ◌<◌, ⊎_elim, true, Option, Some, None, List, [], ◌∷◌, length, refl, ap, subst, sym, ◌∙◌, arith, ℤ, pos, negsuc}
use Rattle.std.specs.Prelude.{slice_get, nat_eq, ◌&&◌, if◌then◌else◌, ◌-ℤ◌}
use Rattle.std.specs.List.{flat_map}
use Rattle.std.proofs.lemmas.Int.{ints}
use Rattle.std.proofs.lemmas.Bool.{eqb-true, and_parts, and_from}
use Rattle.cxx_hierarchy.specs.declared.records.ClassId.{ClassId}
use Rattle.cxx_hierarchy.specs.Classes.{Classes}
use Rattle.cxx_hierarchy.specs.VirtualBases.{HasVirtualBase}
use Rattle.cxx_subobject.specs.declared.Root.TheVariants.{Whole, Shared}
use Rattle.cxx_subobject.specs.declared.Subobject.{Subobject}
use Rattle.cxx_subobject.specs.Subobjects.{IsSubobject, whole, shared, subobject, shared_base, whole_of, last_of, class_of}
use Rattle.cxx_subobject.specs.Inside.{IsInside}
use Rattle.cxx_subobject.specs.Inside.{is_longer}
use Rattle.cxx_subobject.specs.invariants.Tests.{ReachesRoot}
use Rattle.cxx_subobject.proofs.PathLemmas.{virtual_below, class_low}
use Rattle.cxx_subobject.proofs.InsideLemmas.{inside_through, inside_shared}
use Rattle.cxx_subobject.proofs.TestLemmas.{inside_cases, inside_longer, inside_reached}
use Rattle.cxx_overrider.specs.declared.FunctionId.{FunctionId}
use Rattle.cxx_overrider.specs.declared.Overrider.{Overrider}
use Rattle.cxx_overrider.specs.Functions.{signature_of, is_pure}
use Rattle.cxx_overrider.specs.Overriding.{IsVirtualIn, IsFinalOverrider}
use Rattle.cxx_overrider.specs.Faults.{HasNoFault}
use Rattle.cxx_overrider.proofs.FinalLaws.{one_at_most, same_final}
use Rattle.abi_primary.specs.Kinds.{IsDynamic}
use Rattle.abi_sound.specs.Places.{Places}
use Rattle.abi_slots.specs.declared.words.CodeKind.{CodeKind}
use Rattle.abi_slots.specs.declared.words.EntryWord.{EntryWord}
use Rattle.abi_slots.specs.declared.words.EntryWord.TheVariants.{Pure, Code}
use Rattle.abi_slots.specs.declared.words.TableWord.{TableWord}
use Rattle.abi_slots.specs.declared.words.TableWord.TheVariants.{Vcall, Vbase, Entry}
use Rattle.abi_slots.specs.declared.words.EntryKey.{EntryKey}
use Rattle.abi_slots.specs.declared.words.Offset.{Offset}
use Rattle.abi_slots.specs.declared.words.Offset.TheVariants.{ToBase, ToOverrider}
use Rattle.abi_slots.specs.declared.words.Table.{Table}
use Rattle.abi_slots.specs.declared.words.Group.{Group}
use Rattle.cxx_overrider.specs.Virtuals.{same_name, own}
use Rattle.abi_slots.specs.Listing.{entry_key, same_entry_key, kinds_in, keys_of, listing, entries, offsets, entry_number, vbase_number, vcall_number}
use Rattle.abi_slots.specs.Views.{View, seen, place, next}
use Rattle.abi_slots.specs.Groups.{between, this_constant, this_adjust, vcall_bytes, vcall_for, return_for, named_in, IsOffsetWord, to_base, to_overrider, declares_in, declares_at, declarer, code_word, IsEntryWord, nothing, runs, is_shared_base, IsTable, view_of_group, IsGroup}
use Rattle.abi_slots.specs.Dispatch.{IsServedBy, LeadsByDistance, HasOffset, LeadsOn, ThisLeads, as_it_is, by_constant, by_base, RunsOverrider, runs_pure, runs_code, Dispatches, LeadsToVirtualBase, HasTop}
use Rattle.abi_slots.proofs.Lists.{Item, any_item, item_any, from_map, from_flat}
use Rattle.abi_slots.proofs.Names.{name_is, key_is, key_itself, name_back}
use Rattle.abi_slots.proofs.Owns.{own_class, own_virtual}
use Rattle.abi_slots.proofs.Listings.{entry_there, listing_is_named, vbase_there}
use Rattle.abi_slots.proofs.Calls.{HasCall, vcall_there}
use Rattle.abi_slots.proofs.Chains.{Setting, IsUnder, same_some, known, walk_under, IsFirstFound, first_found}
use Rattle.abi_slots.proofs.WordPlaces.{partner, offset_at, top_at, info_at, entry_at}
use Rattle.abi_slots.proofs.Dynamics.{dynamic_along, virtual_dynamic}
use Rattle.foundation.proofs.Truth.{split}

-- a function that a class declares at an entry
declared_at : (h : Classes) (l : Places) (k : EntryKey) (o : Option ClassId) → declares_in h l k o ≡ true → (c : ClassId) × (o ≡ Some c) × (f : FunctionId) × Item (own h c) f × (same_name h f k.function ≡ true) × (listing h l (entry_key f k.kind) ≡ k)
declared_at h l k None e = cc
declared_at h l k (Some c) e =
    let r = item_any (λ f. same_name h f k.function && same_entry_key (listing h l (entry_key f k.kind)) k) (own h c) e in
    let both = and_parts (same_name h r.0 k.function) (same_entry_key (listing h l (entry_key r.0 k.kind)) k) r.2 in
    (c, refl, r.0, r.1, both.0, key_is (listing h l (entry_key r.0 k.kind)) k both.1)

-- a constant that leads where it should
constant_leads : (h : Classes) (l : Places) (x : View) (group : Group) (s j o : Subobject) (d : ℤ) → place l x s ≡ place l x j → d ≡ pos (place l x o) -ℤ pos (place l x j) → ThisLeads h l x group s o (this_constant d)
constant_leads h l x group s j o (pos zero) same is = as_it_is (omega (arith, ints))
constant_leads h l x group s j o (pos (suc n)) same is = by_constant (pos (suc n)) (omega (arith, ints))
constant_leads h l x group s j o (negsuc n) same is = by_constant (negsuc n) (omega (arith, ints))

pub leads_between : (l : Places) (x : View) (s k o : Subobject) → place l x s ≡ place l x k → LeadsByDistance l x s (between l x.complete (seen x k) (seen x o)) o
leads_between l x s k o same = omega (arith, ints)

module _ (h : Classes) (l : Places) (group : Group) (of : IsGroup h l group) (set : Setting h l (view_of_group group of.class)) where
  -- the table at a number of the group, and its head
  pub table_of : (s : Subobject) (table : Table) → (at : IsServedBy h l (view_of_group group of.class) group s table) → IsTable h l (view_of_group group of.class) at.head table
  table_of s table at = of.tables.each at.number at.head table at.at_head at.at_table

  pub under_of : (s : Subobject) (table : Table) → (at : IsServedBy h l (view_of_group group of.class) group s table) → IsUnder h l (view_of_group group of.class) at.head s
  under_of s table at = (walk_under h l (view_of_group group of.class) set at.serves.steps at.head s at.serves.valid at.serves.leads).under

  -- what is listed for a class of the chain is listed for the table, at the same number
  listed_entry : (s : Subobject) (table : Table) (c : ClassId) → (at : IsServedBy h l (view_of_group group of.class) group s table) → class_of s ≡ Some c → (n : ℕ) (k : EntryKey) → slice_get (entries h l c) n ≡ Some k → slice_get (entries h l table.class) n ≡ Some k
  listed_entry s table c at e n k there =
      let under = under_of s table at in
      let t = table_of s table at in
      let one : c ≡ under.below = same_some c under.below (sym e ∙ under.of_below) in
      let other : under.above ≡ table.class = same_some under.above table.class (sym under.of_above ∙ t.class) in
      subst (λ d. slice_get (entries h l d) n ≡ Some k) other (under.entries.stays n k (subst (λ d. slice_get (entries h l d) n ≡ Some k) one there))

  listed_offset : (s : Subobject) (table : Table) (c : ClassId) → (at : IsServedBy h l (view_of_group group of.class) group s table) → class_of s ≡ Some c → (n : ℕ) (o : Offset) → slice_get (offsets h l (is_shared_base (seen (view_of_group group of.class) s)) c) n ≡ Some o → slice_get (offsets h l (is_shared_base (seen (view_of_group group of.class) at.head)) table.class) n ≡ Some o
  listed_offset s table c at e n o there =
      let under = under_of s table at in
      let t = table_of s table at in
      let one : c ≡ under.below = same_some c under.below (sym e ∙ under.of_below) in
      let other : under.above ≡ table.class = same_some under.above table.class (sym under.of_above ∙ t.class) in
      subst (λ d. slice_get (offsets h l (is_shared_base (seen (view_of_group group of.class) at.head)) d) n ≡ Some o) other (under.offsets.stays n o (subst (λ d. slice_get (offsets h l (is_shared_base (seen (view_of_group group of.class) s)) d) n ≡ Some o) one there))

  -- the word of an offset
  record HasWordOf (s : Subobject) (table : Table) (head : Subobject) (n : ℕ) (o : Offset) : Type 0 where
    word : TableWord
    is : IsOffsetWord h l (view_of_group group of.class) head o word
    has : HasOffset table n word

  offset_word : (s : Subobject) (table : Table) (c : ClassId) → (at : IsServedBy h l (view_of_group group of.class) group s table) → class_of s ≡ Some c → (n : ℕ) (o : Offset) → slice_get (offsets h l (is_shared_base (seen (view_of_group group of.class) s)) c) n ≡ Some o → HasWordOf s table at.head n o
  offset_word s table c at e n o there =
      let t = table_of s table at in
      let p = partner (IsOffsetWord h l (view_of_group group of.class) at.head) (offsets h l (is_shared_base (seen (view_of_group group of.class) at.head)) table.class) t.offset_words t.are_offsets n o (listed_offset s table c at e n o there) in
      let lt = within t.offset_words n p.0 p.1 in
      let before = t.before in
      record {
        word = p.0;
        is = p.2;
        has = record {
          number = length t.offset_words - 1 - n;
          before = omega arith;
          there = offset_at table.words t.offset_words t.entry_words _ _ t.words n (length t.offset_words - 1 - n) p.0 p.1 (omega arith);
        };
      }
    where
      within : (xs : List TableWord) (i : ℕ) (w : TableWord) → slice_get xs i ≡ Some w → i < length xs
      within [] i w f = cc
      within (y ∷ xs) zero w f = omega arith
      within (y ∷ xs) (suc i) w f = let r = within xs i w f in omega arith

  vbase_word : (table : Table) (v : ClassId) (n : ℕ) (head : Subobject) (w : TableWord) → IsOffsetWord h l (view_of_group group of.class) head (ToBase v) w → HasOffset table n w → HasOffset table n (Vbase (between l (view_of_group group of.class).complete (seen (view_of_group group of.class) head) (seen (view_of_group group of.class) (shared_base v))) v)
  vbase_word table v n head _ (to_base u) has = has

  -- the vbase word of a virtual base leads there
  pub converts : (s : Subobject) (c : ClassId) (table : Table) (v : ClassId) → IsSubobject h of.class s → class_of s ≡ Some c → HasVirtualBase h c v → IsServedBy h l (view_of_group group of.class) group s table → LeadsToVirtualBase h l (view_of_group group of.class) s c table v
  converts s c table v valid e has at =
      let x = view_of_group group of.class in
      let there = vbase_there h l set.keeps set.primaries (is_shared_base (seen x s)) c v (known h l x set c s valid e) has in
      let w = offset_word s table c at e (vbase_number h l c v) (ToBase v) there in
      record {
        distance = between l x.complete (seen x at.head) (seen x (shared_base v));
        there = vbase_word table v (vbase_number h l c v) at.head w.word w.is w.has;
        leads = leads_between l x s at.head (shared_base v) (under_of s table at).same_place;
      }

  pub has_top : (s : Subobject) (table : Table) → IsServedBy h l (view_of_group group of.class) group s table → HasTop l (view_of_group group of.class) s table
  has_top s table at =
      let x = view_of_group group of.class in
      let t = table_of s table at in
      let before = t.before in
      record {
        number = length t.offset_words;
        before = sym before;
        distance = between l x.complete (seen x at.head) (seen x (whole_of x.class));
        top = top_at table.words t.offset_words t.entry_words _ _ t.words;
        leads = leads_between l x s at.head (whole_of x.class) (under_of s table at).same_place;
        info = info_at table.words t.offset_words t.entry_words _ _ t.words;
      }

module _ (h : Classes) (l : Places) (group : Group) (of : IsGroup h l group) (set : Setting h l (view_of_group group of.class)) (fine : HasNoFault h) where
  abbrev here : View
  here = view_of_group group of.class

  -- what the vcall word says, with the overrider of the function for which it is listed
  record IsCallWord (table : Table) (n : ℕ) (head : Subobject) (path : List ClassId) (f : FunctionId) : Type 0 where
    overrider : Overrider
    final : IsFinalOverrider h of.class (named_in of.class path) f overrider
    has : HasOffset table n (Vcall (between l (view_of_group group of.class).complete (seen (view_of_group group of.class) head) (seen (view_of_group group of.class) overrider.at)) f)

  call_word : (table : Table) (path : List ClassId) (f : FunctionId) (n : ℕ) (head : Subobject) (w : TableWord) → IsOffsetWord h l (view_of_group group of.class) head (ToOverrider path f) w → HasOffset table n w → IsCallWord table n head path f
  call_word table path f n head _ (to_overrider p g o final) has = record { overrider = o; final = final; has = has }

  named_shared : (u : ClassId) (path : List ClassId) → u.0 < of.class.0 → named_in of.class (u ∷ path) ≡ subobject (Shared u) (u ∷ path)
  named_shared u path lt = split (nat_eq u.0 of.class.0) (λ b. nat_eq u.0 of.class.0 ≡ b → subobject (if b then Whole else Shared u) (u ∷ path) ≡ subobject (Shared u) (u ∷ path))
      (λ t same. absurd (let f = eqb-true u.0 of.class.0 same in omega arith))
      (λ t same. refl) refl

  -- a subobject below a virtual base of the view that declares a function of the name, and lies in the overrider's
  record IsCalled (v : ClassId) (f : FunctionId) (o : Overrider) (u : ClassId) (path : List ClassId) (g : FunctionId) : Type 0 where
    valid : IsSubobject h of.class (subobject (Shared u) (u ∷ path))
    final : IsFinalOverrider h of.class (subobject (Shared u) (u ∷ path)) g o
    less : u.0 < of.class.0

  called : (v : ClassId) (j : Subobject) (f : FunctionId) (o : Overrider) → HasVirtualBase h of.class v → IsFinalOverrider h of.class j f o → IsInside h o.at (shared_base v) → (k : HasCall h l v f) → IsCalled v f o k.base k.path k.function
  called v j f o base final over k =
      let has : HasVirtualBase h of.class k.base = ⊎_elim (λ a. subst (λ c. HasVirtualBase h of.class c) (sym a.1) base) (λ b. Rattle.cxx_subobject.proofs.PathLemmas.virtual_through h of.class v k.base base b) k.of.base in
      let valid : IsSubobject h of.class (subobject (Shared k.base) (k.base ∷ k.path)) = shared k.base k.path has k.of.leads in
      let class : class_of (subobject (Shared k.base) (k.base ∷ k.path)) ≡ Some k.function.class = ap (λ a. Some a) k.of.ends in
      let top : IsSubobject h of.class (shared_base v) = shared v [] base tt in
      let below : IsInside h (shared_base v) (subobject (Shared k.base) (k.base ∷ k.path)) = ⊎_elim
      (λ a. inside_longer h of.class (shared_base v) (subobject (Shared k.base) (k.base ∷ k.path)) top valid (record { rest = k.path; is = ap (λ c. subobject (Shared c) (c ∷ k.path)) a.1 }))
      (λ b. inside_reached h of.class (shared_base v) (subobject (Shared k.base) (k.base ∷ k.path)) valid b) k.of.base in
      let is_virtual : IsVirtualIn h of.class (subobject (Shared k.base) (k.base ∷ k.path)) k.function = record { valid = valid; class = class; is_virtual = own_virtual h set.keeps k.function.class k.function k.of.declares } in
      record {
        valid = valid;
        final = same_final h set.keeps fine of.class j (subobject (Shared k.base) (k.base ∷ k.path)) f k.function o final is_virtual (inside_through h o.at (shared_base v) (subobject (Shared k.base) (k.base ∷ k.path)) over below) (sym (name_is h f k.function k.named));
        less = virtual_below h set.keeps of.class k.base has;
      }

  -- the vcall word of a name in each table that serves a virtual base of the view
  leads_on : (v : ClassId) (j : Subobject) (f : FunctionId) (o : Overrider) → HasVirtualBase h of.class v → IsFinalOverrider h of.class j f o → IsInside h o.at (shared_base v) → HasCall h l v f → LeadsOn h l (view_of_group group of.class) group v (vcall_number h l v f) o.at
  leads_on v j f o base final over k = record {
    distance = pos (place l here o.at) -ℤ pos (place l here (shared_base v));
    leads = omega (arith, ints);
    each = λ table at.
        let w = offset_word h l group of set (shared_base v) table v at refl (vcall_number h l v f) (ToOverrider (k.base ∷ k.path) k.function) k.there in
        let c = call_word table (k.base ∷ k.path) k.function (vcall_number h l v f) at.head w.word w.is w.has in
        let there = called v j f o base final over k in
        let other = subst (λ a. IsFinalOverrider h of.class a k.function c.overrider) (named_shared k.base k.path there.less) c.final in
        let same : c.overrider ≡ o = one_at_most h of.class (subobject (Shared k.base) (k.base ∷ k.path)) k.function c.overrider o other there.final in
        let lies = (under_of h l group of set (shared_base v) table at).same_place in
        let value : pos (place l here c.overrider.at) -ℤ pos (place l here at.head) ≡ pos (place l here o.at) -ℤ pos (place l here (shared_base v)) =
        ap (λ (a : Overrider). pos (place l here a.at) -ℤ pos (place l here at.head)) same ∙ ap (λ n. pos (place l here o.at) -ℤ pos n) (sym lies) in
        (k.function, subst (λ d. HasOffset table (vcall_number h l v f) (Vcall d k.function)) value c.has);
  }

  -- where the overrider does not contain j by its path, j lies below a virtual base of it, whose vcall word leads on
  shared_leads : (s j : Subobject) (c : ClassId) (f g : FunctionId) (o : Overrider) → place l here s ≡ place l here j → IsSubobject h of.class j → class_of j ≡ Some c → Item (own h c) g → same_name h f g ≡ true → IsFinalOverrider h of.class j f o → ReachesRoot h (Some o.function.class) j.root →
      ThisLeads h l here group s o.at (this_adjust l here.complete (seen here j) (seen here o.at) (vcall_bytes h l f j.root))
  shared_leads s _ c f g o same (whole path leads) e declares named final reaches = absurd reaches
  shared_leads s _ c f g o same (shared v path has leads) e declares named final reaches =
      let j = subobject (Shared v) (v ∷ path) in
      let class : g.class ≡ c = own_class h c g declares in
      let last : last_of v path ≡ c = same_some (last_of v path) c e in
      let ends : last_of v path ≡ g.class = last ∙ sym class in
      let there : v.0 < length h = known h l here set v (shared_base v) (shared v [] has tt) refl in
      let mine : Item (own h g.class) g = subst (λ a. Item (own h a) g) (sym class) declares in
      let call = vcall_there h l set.keeps set.primaries v path f g there leads ends mine named in
      let over = inside_shared h o.function.class v o.at final.left.candidate.class reaches in
      let dynamic : IsDynamic h v = dynamic_along h v path leads (subst (λ a. IsDynamic h a) (sym ends) (virtual_dynamic h g (own_virtual h set.keeps g.class g mine))) in
      by_base v (between l here.complete (seen here j) (seen here (shared_base v))) (vcall_number h l v f) has dynamic (leads_between l here s j (shared_base v) same) (leads_on v j f o has final over call)

  adjust_leads : (s j : Subobject) (c : ClassId) (f g : FunctionId) (o : Overrider) → place l here s ≡ place l here j → IsSubobject h of.class j → class_of j ≡ Some c → Item (own h c) g → same_name h f g ≡ true → IsFinalOverrider h of.class j f o →
      ThisLeads h l here group s o.at (this_adjust l here.complete (seen here j) (seen here o.at) (vcall_for h l f j o.at))
  adjust_leads s j c f g o same valid e declares named final = split (is_longer o.at j)
      (λ b. is_longer o.at j ≡ b → ThisLeads h l here group s o.at (this_adjust l here.complete (seen here j) (seen here o.at) (if b then None else vcall_bytes h l f j.root)))
      (λ t longer. constant_leads h l here group s j o.at (between l here.complete (seen here j) (seen here o.at)) same refl)
      (λ t apart. shared_leads s j c f g o same valid e declares named final (subst (λ a. ReachesRoot h a j.root) final.left.candidate.class
      (⊎_elim (λ longer. absurd (let a = longer in let b = apart in cc)) (λ reaches. reaches) (inside_cases h o.at j final.left.candidate.contains))))
      refl

  -- the word that an entry runs
  record IsRun (head : Subobject) (k : EntryKey) (w : EntryWord) : Type 0 where
    declares : Subobject
    overrider : Overrider
    is : declarer h l here head k ≡ Some declares
    final : IsFinalOverrider h of.class declares k.function overrider
    same : w ≡ code_word h l here k declares overrider

  run_of : (head : Subobject) (k : EntryKey) (j : Subobject) (w : EntryWord) → declarer h l here head k ≡ Some j → IsEntryWord h l here head k w → IsRun head k w
  run_of head k j _ e (nothing none) = absurd (let a = e in let b = none in cc)
  run_of head k j _ e (runs i o is final) = record { declares = i; overrider = o; is = is; final = final; same = refl }

  code_runs : (s j : Subobject) (k old : EntryKey) (o : Overrider) → old ≡ listing h l k → old.kind ≡ k.kind → ThisLeads h l here group s o.at (this_adjust l here.complete (seen here j) (seen here o.at) (vcall_for h l old.function j o.at)) → RunsOverrider h l here group s k o (code_word h l here old j o)
  code_runs s j k old o is kind leads = split (is_pure h o.function)
      (λ b. is_pure h o.function ≡ b → RunsOverrider h l here group s k o (if b then Pure o.function else Code o.function old.kind (this_adjust l here.complete (seen here j) (seen here o.at) (vcall_for h l old.function j o.at)) (return_for h l o.function old.function)))
      (λ t pure. runs_pure pure)
      (λ t code.
      subst (λ (a : CodeKind). RunsOverrider h l here group s k o (Code o.function a (this_adjust l here.complete (seen here j) (seen here o.at) (vcall_for h l old.function j o.at)) (return_for h l o.function old.function))) (sym kind)
      (subst (λ (a : EntryKey). RunsOverrider h l here group s k o (Code o.function k.kind (this_adjust l here.complete (seen here j) (seen here o.at) (vcall_for h l old.function j o.at)) (return_for h l o.function a.function))) (sym is)
      (runs_code (this_adjust l here.complete (seen here j) (seen here o.at) (vcall_for h l old.function j o.at)) code leads)))
      refl

  -- a function of the class of s, and which code of it
  record IsOwnKey (c : ClassId) (k : EntryKey) : Type 0 where
    declares : Item (own h c) k.function
    class : k.function.class ≡ c
    listed : Item (flat_map (keys_of h) (own h k.function.class)) k

  own_key : (c : ClassId) (k : EntryKey) → Item (flat_map (keys_of h) (own h c)) k → IsOwnKey c k
  own_key c k i =
      let r = from_flat (keys_of h) (own h c) k i in
      let m = from_map (entry_key r.0) (kinds_in (signature_of h r.0)) k r.2 in
      let same : r.0 ≡ k.function = ap (λ (a : EntryKey). a.function) m.2 in
      let declares : Item (own h c) k.function = subst (λ a. Item (own h c) a) same r.1 in
      let class = own_class h c k.function declares in
      record { declares = declares; class = class; listed = subst (λ a. Item (flat_map (keys_of h) (own h a)) k) (sym class) i }

  -- with the first subobject of the chain whose class declares a function at the entry
  dispatches_by : (s : Subobject) (c : ClassId) (table : Table) (k old : EntryKey) → IsSubobject h of.class s → class_of s ≡ Some c → IsOwnKey c k → (at : IsServedBy h l here group s table) → old ≡ listing h l k → same_name h k.function old.function ≡ true → old.kind ≡ k.kind →
      slice_get (entries h l c) (entry_number h l k) ≡ Some old → IsFirstFound (declares_at h l old) (next l here) (of.class.0 + 1) at.head s → Dispatches h l here group s table k
  dispatches_by s c table k old valid e mine at is named kind there found =
      let t = table_of h l group of set s table at in
      let j = found.first in
      let p = partner (IsEntryWord h l here at.head) (entries h l table.class) t.entry_words t.are_entries (entry_number h l k) old (listed_entry h l group of set s table c at e (entry_number h l k) old there) in
      let run = run_of at.head old j p.0 found.is p.2 in
      let one : run.declares ≡ j = same_some run.declares j (sym run.is ∙ found.is) in
      let final : IsFinalOverrider h of.class j old.function run.overrider = subst (λ a. IsFinalOverrider h of.class a old.function run.overrider) one run.final in
      let top = (walk_under h l here set found.above at.head j at.serves.valid found.from).under in
      let down = (walk_under h l here set found.below j s top.valid_below found.to).under in
      let d = declared_at h l old (class_of j) found.passes in
      let is_virtual : IsVirtualIn h of.class s k.function = record { valid = valid; class = e ∙ ap (λ a. Some a) (sym mine.class); is_virtual = own_virtual h set.keeps c k.function mine.declares } in
      let leads = adjust_leads s j d.0 old.function d.2 run.overrider down.same_place top.valid_below d.1 d.3 (name_back h d.2 old.function d.4) final in
      let before = t.before in
      record {
        overrider = run.overrider;
        final = same_final h set.keeps fine of.class j s old.function k.function run.overrider final is_virtual (inside_through h run.overrider.at j s final.left.candidate.contains down.inside) (name_is h k.function old.function named);
        word = p.0;
        there = subst (λ n. slice_get table.words (n + entry_number h l k) ≡ Some (Entry p.0)) (sym before) (entry_at table.words t.offset_words t.entry_words _ _ t.words (entry_number h l k) p.0 p.1);
        runs = subst (λ a. RunsOverrider h l here group s k run.overrider a) (sym (run.same ∙ ap (λ a. code_word h l here old a run.overrider) one)) (code_runs s j k old run.overrider is kind leads);
      }

  -- the word of a function's entry, in the table that serves a subobject whose class declares it
  pub dispatches : (s : Subobject) (c : ClassId) (table : Table) (k : EntryKey) → IsSubobject h of.class s → class_of s ≡ Some c → Item (flat_map (keys_of h) (own h c)) k → IsServedBy h l here group s table → Dispatches h l here group s table k
  dispatches s c table k valid e i at =
      let mine = own_key c k i in
      let sig = own_virtual h set.keeps c k.function mine.declares in
      let named = listing_is_named h l set.keeps set.primaries k sig.signature sig.is in
      let old = listing h l k in
      let there : slice_get (entries h l c) (entry_number h l k) ≡ Some old = subst (λ a. slice_get (entries h l a) (entry_number h l k) ≡ Some old) mine.class (entry_there h l set.keeps set.primaries k (subst (λ (a : ClassId). a.0 < length h) (sym mine.class) (known h l here set c s valid e)) mine.listed) in
      let same : entry_key k.function old.kind ≡ k = ap (entry_key k.function) named.1 in
      let test : declares_at h l old s ≡ true = subst (λ a. declares_in h l old a ≡ true) (sym e)
      (any_item (λ f. same_name h f old.function && same_entry_key (listing h l (entry_key f old.kind)) old) (own h c) k.function mine.declares
      (and_from (same_name h k.function old.function) (same_entry_key (listing h l (entry_key k.function old.kind)) old) named.0 (subst (λ a. same_entry_key (listing h l a) old ≡ true) (sym same) (key_itself old)))) in
      let walked = walk_under h l here set at.serves.steps at.head s at.serves.valid at.serves.leads in
      let bound = class_low h set.keeps of.class walked.under.above at.head at.serves.valid walked.under.of_above in
      let far = walked.less walked.under.above walked.under.below walked.under.of_above walked.under.of_below in
      let found = first_found (declares_at h l old) (next l here) (of.class.0 + 1) at.serves.steps at.head s at.serves.leads test (omega arith) in
      dispatches_by s c table k old valid e mine at refl named.0 named.1 there found
