use Rattle.std.proofs.Common.{arith, ◌≡◌, ◌∙◌, ◌<◌, ◌≤◌, ◌*◌, ◌+◌, ◌-◌, ◌/◌, ◌++◌, [], ◌∷◌, ap, sym, subst, refl, true, false, ℕ, None}
use Rattle.std.specs.Prelude.{All, count_by, nat_lt}
use Rattle.std.specs.Result.{is_ok, is_err}
use Rattle.std.proofs.lemmas.Option.{slice_get-get_or}
use Rattle.std.proofs.lemmas.List.Elements.{All-push}
use Rattle.std.proofs.lemmas.List.Sums.{sum_by-append}
use Rattle.byte_memory.specs.declared.memory.Region.{Region}
use Rattle.byte_memory.specs.Regions.{rounded}
use Rattle.byte_memory.specs.Pages.{meets, next_start, bits_of, reached_bits, AreAdded}
use Rattle.byte_memory.proofs.Ascending.{IsAscendingBy-push}
use Rattle.byte_memory.proofs.Adding.{added_of, if_ok_of}
use Rattle.byte_memory.proofs.Reachable.{ends_below_next}
use Rattle.byte_memory.proofs.Opening.{open-users, open-kept, reached-push, next-push, next-aligned, above-none, unset-reached}
use Rattle.byte_memory.proofs.pages.PageMemoryMemory.open.Goals as goal

pub claim_pages-requires-clause-above : goal.claim_pages-requires-clause-above
claim_pages-requires-clause-above c number less =
    let self = c.args.self.now in
    let start : c.start_of_next-start.result ≡ next_start self.regions.items = rw c.deref.ensures.value at c.start_of_next-start.ensures in
    above-none self.regions.items self.pages.items number self.ascending self.kept (omega (arith, start, less))

pub invariant_of-self-2 : goal.invariant_of-self-2
invariant_of-self-2 c =
    let self = c.args.self.now in
    let items = self.regions.items in
    let region : Region = record { start = c.start_of_next-start.result; size = c.args.size; is_open = true } in
    let start : c.start_of_next-start.result ≡ next_start items = rw c.deref.ensures.value at c.start_of_next-start.ensures in
    let reserved : is_err c.try_reserve.result ≡ false = sym c.is_err.ensures.value ∙ c.if-is_err.false in
    let claimed : is_err c.claim_pages.result ≡ false = sym c.is_err-2.ensures.value ∙ c.if-is_err-2.false in
    let room = if_ok_of c.try_reserve.result reserved c.try_reserve.ensures.ok in
    let pushed : is_ok c.push.result ≡ true = c.push.ensures.succeeds (omega (arith, room)) in
    let regions = rw (pushed, c.try_reserve.ensures.items) at c.push.ensures.items in
    let added' = added_of c.claim_pages.result self.pages.items c.claim_pages.new.pages.items _ _ claimed c.claim_pages.ensures in
    let added = subst (λ (l : ℕ). AreAdded self.pages.items c.claim_pages.new.pages.items (region.start / 4096) (l + 1 - region.start / 4096)) c.last_page-last.ensures added' in
    let total = sum_by-append (λ q. rounded q.size) items (region ∷ []) in
    let ends : All (λ q. q.start + q.size ≤ region.start) items = λ k d inside. let below = ends_below_next items k _ self.ascending (slice_get-get_or items k d inside) in omega (arith, start, below) in
    let aligned = next-aligned items self.sizes in
    record {
      ascending = rw regions (IsAscendingBy-push (λ (q : Region). q.start) (λ q. q.size) items region self.ascending ends);
      sizes = rw regions (All-push (λ q. 0 < q.size) items region self.sizes c.requires.positive);
      total = rw (regions, next-push items region) (omega (arith, start, aligned.0, total, self.total));
      bound = rw regions (omega (arith, total, c.requires.room));
      ordered = added.ordered;
      users = λ number. open-users items self.pages.items c.claim_pages.new.pages.items region refl c.requires.positive added self.users number ∙ ap (count_by (meets number)) (sym regions);
      kept = λ number. open-kept items self.pages.items c.claim_pages.new.pages.items region refl c.requires.positive added self.kept number ∙ ap (λ rs. nat_lt 0 (count_by (meets number) rs)) (sym regions);
      unset = λ place past.
          let past' = rw (regions, next-push items region) at past in
          let before : 8 * next_start items ≤ place = omega (arith, start, past') in
          ap (λ f. f place) added.bits ∙ self.unset place before;
    }

pub returns : goal.returns
returns c =
    let self = c.args.self.now in
    let items = self.regions.items in
    let region : Region = record { start = c.start_of_next-start.result; size = c.args.size; is_open = true } in
    let start : c.start_of_next-start.result ≡ next_start items = rw c.deref.ensures.value at c.start_of_next-start.ensures in
    let reserved : is_err c.try_reserve.result ≡ false = sym c.is_err.ensures.value ∙ c.if-is_err.false in
    let claimed : is_err c.claim_pages.result ≡ false = sym c.is_err-2.ensures.value ∙ c.if-is_err-2.false in
    let room = if_ok_of c.try_reserve.result reserved c.try_reserve.ensures.ok in
    let pushed : is_ok c.push.result ≡ true = c.push.ensures.succeeds (omega (arith, room)) in
    let regions = rw (pushed, c.try_reserve.ensures.items) at c.push.ensures.items in
    let added' = added_of c.claim_pages.result self.pages.items c.claim_pages.new.pages.items _ _ claimed c.claim_pages.ensures in
    let added = subst (λ (l : ℕ). AreAdded self.pages.items c.claim_pages.new.pages.items (region.start / 4096) (l + 1 - region.start / 4096)) c.last_page-last.ensures added' in
    let aligned = next-aligned items self.sizes in
    let unset : (place : ℕ) → 8 * region.start ≤ place → bits_of self.pages.items place ≡ None = λ place past. self.unset place (omega (arith, start, past)) in
    let bits : reached_bits (items ++ region ∷ []) (bits_of c.claim_pages.new.pages.items) ≡ reached_bits items (bits_of self.pages.items) =
    ap (reached_bits (items ++ region ∷ [])) added.bits ∙ reached-push items region (bits_of self.pages.items) unset in (
      record {
        aligned = rw start aligned.0;
        positive = rw start aligned.1;
        limit = omega (arith, start, self.total, c.requires.room);
        above = λ k d inside. let below = ends_below_next items k _ self.ascending (slice_get-get_or items k d inside) in omega (arith, start, below);
        fresh = λ place past. unset-reached items (bits_of self.pages.items) place (unset place past);
      },
      rw (regions, bits) refl,
    )
