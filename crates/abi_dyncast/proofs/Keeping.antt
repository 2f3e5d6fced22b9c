-- What a cast reads is all that it depends on.
use Rattle.std.proofs.Common.{◌≡◌, ℕ, ◌+◌, ◌-◌, ◌*◌, ◌<◌, Bool, true, Option, Some, None, List, refl, ap, subst, sym, ◌∙◌}
use Rattle.std.specs.Prelude.{◌↔◌, IsSome, IsOk, Contains, if◌then◌else◌, Result}
use Rattle.foundation.proofs.Truth.{split}
use Rattle.byte_memory.specs.declared.memory.MemoryFault.{MemoryFault}
use Rattle.byte_memory.specs.Store.{Store, load_of}
use Rattle.byte_code.specs.Numbers.{signed_of}
use Rattle.byte_code.specs.Records.{HasSmall, IsInfoAt, HasBaseRecord, IsTableWord}
use Rattle.byte_code.specs.declared.image.InfoRecord.{InfoRecord}
use Rattle.byte_code.specs.declared.image.BaseRecord.{BaseRecord}
use Rattle.abi_dyncast.specs.declared.parts.TypedPart.{TypedPart}
use Rattle.abi_dyncast.specs.declared.parts.Edge.{Edge}
use Rattle.abi_dyncast.specs.Rule.{AnswersCast}
use Rattle.abi_dyncast.specs.Graph.{moved}
use Rattle.abi_dyncast.specs.Graph.{Graph, graph_of, word_in, loaded_or_zero, pointer_at, info_at, base_record_at, has_virtual_flag, offset_word, vbase_at, edge_by, record_at, base_record, any_edge, LeadsByEdges, stays, steps, LeadsToSome}
use Rattle.abi_dyncast.specs.Casts.{CanStep, CanReadParts, AreClosedParts, CanWalk, IsPartAtAddress, IsTargetPart, parts_below, view_at_address, CastsTo, CanCast, KeepsReads}
use Rattle.abi_dyncast.proofs.Ways.{leads_inside}
use Rattle.abi_dyncast.proofs.Transfer.{Corresponds, made, transfer}

-- two graphs are the same on parts that no edge leaves
record AreSame (g h : Graph) (parts : List TypedPart) : Type 0 where
  class : (part : TypedPart) → Contains parts part → h.class part ≡ g.class part
  count : (part : TypedPart) → Contains parts part → h.count part ≡ g.count part
  edge : (part : TypedPart) (i : ℕ) → Contains parts part → i < g.count part → h.edge part i ≡ g.edge part i

are_back : (g h : Graph) (parts : List TypedPart) → AreSame g h parts → AreSame h g parts
are_back g h parts same = record {
  class = λ part has. sym (same.class part has);
  count = λ part has. sym (same.count part has);
  edge = λ part i has lt. sym (same.edge part i has (subst (λ n. i < n) (same.count part has) lt));
}

parts_there : (g h : Graph) (parts : List TypedPart) → AreSame g h parts → AreClosedParts g parts → AreClosedParts h parts
parts_there g h parts same are = record {
  inside = λ part i has lt.
      let l = subst (λ n. i < n) (same.count part has) lt in
      subst (λ (e : Edge). Contains parts e.part) (sym (same.edge part i has l)) (are.inside part i has l);
  falls = λ part i has lt.
      let l = subst (λ n. i < n) (same.count part has) lt in
      let next = are.inside part i has l in
      let here = same.class part has in
      let below : h.class (h.edge part i).part ≡ g.class (g.edge part i).part = ap (λ (e : Edge). h.class e.part) (same.edge part i has l) ∙ same.class (g.edge part i).part next in
      let less = are.falls part i has l in
      subst (λ n. h.class (h.edge part i).part < n) (sym here) (subst (λ m. m < g.class part) (sym below) less);
}

leads_there : (g h : Graph) (parts : List TypedPart) → AreSame g h parts → AreClosedParts g parts → (allow : Edge → Bool) (part end : TypedPart) → LeadsByEdges g allow part end → Contains parts part → LeadsByEdges h allow part end
leads_there g h parts same are allow _ _ (stays part) has = stays part
leads_there g h parts same are allow _ _ (steps part end i lt a l) has =
    let e = sym (same.edge part i has lt) in
    steps part end i (subst (λ n. i < n) (sym (same.count part has)) lt) (subst (λ (w : Edge). allow w ≡ true) e a)
    (subst (λ (w : Edge). LeadsByEdges h allow w.part end) e (leads_there g h parts same are allow (g.edge part i).part end l (are.inside part i has lt)))

some_there : (g h : Graph) (parts : List TypedPart) → AreSame g h parts → AreClosedParts g parts → (allow : Edge → Bool) (at class : ℕ) (part : TypedPart) → Contains parts part → LeadsToSome g allow (IsPartAtAddress g at class) part → LeadsToSome h allow (IsPartAtAddress h at class) part
some_there g h parts same are allow at class part has way = record {
  end = way.end;
  leads = leads_there g h parts same are allow part way.end way.leads has;
  is = record { same_place = way.is.same_place; same_class = same.class way.end (leads_inside g allow parts part way.end are way.leads has) ∙ way.is.same_class };
}

target_there : (g h : Graph) (parts : List TypedPart) → AreSame g h parts → AreClosedParts g parts → (target : ℕ) (view part : TypedPart) → Contains parts view → IsTargetPart g target view part → IsTargetPart h target view part
target_there g h parts same are target view part has t = record {
  below = leads_there g h parts same are any_edge view part t.below has;
  class = same.class part (leads_inside g any_edge parts view part are t.below has) ∙ t.class;
}

corresponds : (g h : Graph) (parts : List TypedPart) → AreSame g h parts → AreClosedParts g parts → (view : TypedPart) → Contains parts view → (at class target : ℕ) → Corresponds (parts_below g view at class target) (parts_below h view at class target) (λ part. part)
corresponds g h parts same are view has at class target =
    let back = are_back g h parts same in
    let there = parts_there g h parts same are in
    let within : (part : TypedPart) → IsTargetPart g target view part → Contains parts part = λ part t. leads_inside g any_edge parts view part are t.below has in
    record {
      to = λ part t. target_there g h parts same are target view part has t;
      from = λ part t. (part, target_there h g parts back there target view part has t, refl);
      once = λ part other a b e. e;
      contains = λ part t. (λ w. some_there g h parts same are any_edge at class part (within part t) w, λ w. some_there h g parts back there any_edge at class part (within part t) w);
      above = λ part t. (λ w. some_there g h parts same are _ at class part (within part t) w, λ w. some_there h g parts back there _ at class part (within part t) w);
      seen = (λ w. some_there g h parts same are _ at class view has w, λ w. some_there h g parts back there _ at class view has w);
      reached = λ part t. (λ l. leads_there g h parts same are _ view part l has, λ l. leads_there h g parts back there _ view part l has);
    }

same_made : (answer : Option TypedPart) → made (λ (part : TypedPart). part) answer ≡ answer
same_made None = refl
same_made (Some part) = refl

-- the rule gives the same in both
cast_there : (g h : Graph) (parts : List TypedPart) → AreSame g h parts → AreClosedParts g parts → (view : TypedPart) → Contains parts view → (at class target : ℕ) (answer : Option TypedPart) → AnswersCast (parts_below h view at class target) answer → AnswersCast (parts_below g view at class target) answer
cast_there g h parts same are view has at class target answer rule =
    let t = transfer (parts_below g view at class target) (parts_below h view at class target) (λ part. part) (corresponds g h parts same are view has at class target) answer rule in
    subst (λ a. AnswersCast (parts_below g view at class target) a) (sym (same_made t.answer) ∙ t.is) t.rule

-- the words

kept : (image other : ℕ → Option ℕ) → ((at word : ℕ) → image at ≡ Some word → other at ≡ Some word) → (at : ℕ) → IsSome (image at) → other at ≡ image at
kept image other words at some = by_word (image at) refl some
  where
    by_word : (o : Option ℕ) → image at ≡ o → IsSome o → other at ≡ image at
    by_word None e s = absurd (cc)
    by_word (Some word) e s = words at word e ∙ sym e

small_kept : (image other : ℕ → Option ℕ) → ((at word : ℕ) → image at ≡ Some word → other at ≡ Some word) → (at number : ℕ) → HasSmall image at number → HasSmall other at number
small_kept image other words at number s = record { there = words at number s.there; small = s.small }

info_kept : (image other : ℕ → Option ℕ) → ((at word : ℕ) → image at ≡ Some word → other at ≡ Some word) → (at : ℕ) (info : InfoRecord) → IsInfoAt image at info → IsInfoAt other at info
info_kept image other words at info there = record {
  class = small_kept image other words at info.class there.class;
  flags = small_kept image other words (at + 8) info.flags there.flags;
  bases = small_kept image other words (at + 16) info.bases there.bases;
  first = words (at + 24) info.first there.first;
}

pub info_read : (image : ℕ → Option ℕ) (at : ℕ) (info : InfoRecord) → IsInfoAt image at info → info_at image at ≡ info
info_read image at info there =
    let a = ap word_in there.class.there in
    let b = ap word_in there.flags.there in
    let c = ap word_in there.bases.there in
    let d = ap word_in there.first in
    rw (a, b, c, d) refl

base_kept : (image other : ℕ → Option ℕ) → ((at word : ℕ) → image at ≡ Some word → other at ≡ Some word) → (at : ℕ) (base : BaseRecord) → HasBaseRecord image at base → HasBaseRecord other at base
base_kept image other words at base there = record {
  info = words at base.info there.info;
  offset_flags = record { word = there.offset_flags.word; there = words (at + 8) there.offset_flags.word there.offset_flags.there; is = there.offset_flags.is };
}

pub base_read : (image : ℕ → Option ℕ) (at : ℕ) (base : BaseRecord) → HasBaseRecord image at base → base_record_at image at ≡ base
base_read image at base there =
    let a = ap word_in there.info in
    let b : signed_of 8 true (word_in (image (at + 8))) ≡ base.offset_flags = ap (λ o. signed_of 8 true (word_in o)) there.offset_flags.there ∙ sym there.offset_flags.is in
    rw (a, b) refl

table_kept : (image other : ℕ → Option ℕ) → ((at word : ℕ) → image at ≡ Some word → other at ≡ Some word) → (at : ℕ) → IsTableWord image at → IsTableWord other at
table_kept image other words at t = record {
  infos = t.infos;
  some = t.some;
  clear = λ a has. let c = t.clear a has in record {
    info = c.info;
    there = info_kept image other words a c.info c.there;
    bases = λ i lt. let b = c.bases i lt in (b.0, base_kept image other words (c.info.first + 16 * i) b.0 b.1, b.2);
    apart = c.apart;
  };
}

-- an edge is the same where its base is not virtual, and where pointer and word are
edge_kept : (image other : ℕ → Option ℕ) (memory next : Store) (at : ℕ) (base : BaseRecord) → (has_virtual_flag base ≡ true → pointer_at next at ≡ pointer_at memory at) → (has_virtual_flag base ≡ true → other (vbase_at memory at base) ≡ image (vbase_at memory at base)) → edge_by other next at base ≡ edge_by image memory at base
edge_kept image other memory next at base pointer word =
    let make : Bool → ℕ → ℕ → Edge = λ is_public d info. record { part = record { at = moved at d; info = info }; is_public = is_public } in
    let far : (if has_virtual_flag base then word_in (other (vbase_at next at base)) else offset_word base) ≡ (if has_virtual_flag base then word_in (image (vbase_at memory at base)) else offset_word base) =
    split (has_virtual_flag base) (λ b. (if b then word_in (other (vbase_at next at base)) else offset_word base) ≡ (if b then word_in (image (vbase_at memory at base)) else offset_word base))
    (λ t. ap (λ p. word_in (other (moved p (offset_word base)))) (pointer t) ∙ ap word_in (word t))
    (λ f. refl) in
    ap (λ d. make (edge_by image memory at base).is_public d base.info) far

-- the graphs are the same
same_graphs : (image other : ℕ → Option ℕ) (memory next : Store) (parts : List TypedPart) → CanReadParts image memory parts → KeepsReads image other memory next parts → AreSame (graph_of image memory) (graph_of other next) parts
same_graphs image other memory next parts read keeps = record {
  class = λ part has. ap (λ (i : InfoRecord). i.class) (same_info part has);
  count = λ part has. ap (λ (i : InfoRecord). i.bases) (same_info part has);
  edge = λ part i has lt.
      let s = read.steps part i has lt in
      let at : record_at other part i ≡ record_at image part i = ap (λ (r : InfoRecord). r.first + 16 * i) (same_info part has) in
      let base : base_record other part i ≡ base_record image part i = ap (base_record_at other) at ∙ base_read other (record_at image part i) (base_record image part i) (base_kept image other keeps.words (record_at image part i) (base_record image part i) s.base) in
      ap (edge_by other next part.at) base
      ∙ edge_kept image other memory next part.at (base_record image part i) (λ v. ap loaded_or_zero (keeps.pointers part has)) (λ v. kept image other keeps.words (vbase_at memory part.at (base_record image part i)) (s.word v));
}
  where
    same_info : (part : TypedPart) → Contains parts part → info_at other part.info ≡ info_at image part.info
    same_info part has = info_read other part.info (info_at image part.info) (info_kept image other keeps.words part.info (info_at image part.info) (read.info part has))

step_kept : (image other : ℕ → Option ℕ) (memory next : Store) (part : TypedPart) (i : ℕ) → ((at word : ℕ) → image at ≡ Some word → other at ≡ Some word) → load_of next part.at 8 ≡ load_of memory part.at 8 → info_at other part.info ≡ info_at image part.info → CanStep image memory part i → CanStep other next part i
step_kept image other memory next part i words load info s =
    let at : record_at other part i ≡ record_at image part i = ap (λ (r : InfoRecord). r.first + 16 * i) info in
    let there = base_kept image other words (record_at image part i) (base_record image part i) s.base in
    let base : base_record other part i ≡ base_record image part i = ap (base_record_at other) at ∙ base_read other (record_at image part i) (base_record image part i) there in
    record {
      low = subst (λ n. n < 18446744073709551616) (sym at) s.low;
      base = subst (λ b. HasBaseRecord other (record_at other part i) b) (sym base) (subst (λ n. HasBaseRecord other n (base_record image part i)) (sym at) there);
      pointer = λ v. subst (λ (r : Result ℕ MemoryFault). IsOk r) (sym load) (s.pointer (ap has_virtual_flag (sym base) ∙ v));
      word = λ v.
          let old : has_virtual_flag (base_record image part i) ≡ true = ap has_virtual_flag (sym base) ∙ v in
          let where_is : vbase_at next part.at (base_record other part i) ≡ vbase_at memory part.at (base_record image part i) = ap (λ b. vbase_at next part.at b) base ∙ ap (λ r. moved (loaded_or_zero r) (offset_word (base_record image part i))) load in
          subst (λ o. IsSome o) (sym (ap other where_is ∙ kept image other words (vbase_at memory part.at (base_record image part i)) (s.word old))) (s.word old);
      table = λ v.
          let old : has_virtual_flag (base_record image part i) ≡ true = ap has_virtual_flag (sym base) ∙ v in
          let where_is : vbase_at next part.at (base_record other part i) ≡ vbase_at memory part.at (base_record image part i) = ap (λ b. vbase_at next part.at b) base ∙ ap (λ r. moved (loaded_or_zero r) (offset_word (base_record image part i))) load in
          subst (λ n. IsTableWord other n) (sym where_is) (table_kept image other words (vbase_at memory part.at (base_record image part i)) (s.table old));
    }

read_kept : (image other : ℕ → Option ℕ) (memory next : Store) (parts : List TypedPart) → CanReadParts image memory parts → KeepsReads image other memory next parts → CanReadParts other next parts
read_kept image other memory next parts read keeps = record {
  info = λ part has. subst (λ i. IsInfoAt other part.info i) (sym (same_info part has)) (info_kept image other keeps.words part.info (info_at image part.info) (read.info part has));
  steps = λ part i has lt. step_kept image other memory next part i keeps.words (keeps.pointers part has) (same_info part has) (read.steps part i has (subst (λ (r : InfoRecord). i < r.bases) (same_info part has) lt));
}
  where
    same_info : (part : TypedPart) → Contains parts part → info_at other part.info ≡ info_at image part.info
    same_info part has = info_read other part.info (info_at image part.info) (info_kept image other keeps.words part.info (info_at image part.info) (read.info part has))

view_kept : (image other : ℕ → Option ℕ) (memory next : Store) (at : ℕ) → ((at word : ℕ) → image at ≡ Some word → other at ≡ Some word) → load_of next at 8 ≡ load_of memory at 8 → IsSome (image (pointer_at memory at - 16)) → IsSome (image (pointer_at memory at - 8)) → view_at_address other next at ≡ view_at_address image memory at
view_kept image other memory next at words load top info =
    let make : ℕ → ℕ → TypedPart = λ x y. record { at = moved at x; info = y } in
    let pointer : pointer_at next at ≡ pointer_at memory at = ap loaded_or_zero load in
    let a : word_in (other (pointer_at next at - 16)) ≡ word_in (image (pointer_at memory at - 16)) = ap (λ p. word_in (other (p - 16))) pointer ∙ ap word_in (kept image other words (pointer_at memory at - 16) top) in
    let b : word_in (other (pointer_at next at - 8)) ≡ word_in (image (pointer_at memory at - 8)) = ap (λ p. word_in (other (p - 8))) pointer ∙ ap word_in (kept image other words (pointer_at memory at - 8) info) in
    let end : make (word_in (other (pointer_at next at - 16))) (word_in (other (pointer_at next at - 8))) ≡ make (word_in (image (pointer_at memory at - 16))) (word_in (image (pointer_at memory at - 8))) = ap (λ x. make x (word_in (other (pointer_at next at - 8)))) a ∙ ap (make (word_in (image (pointer_at memory at - 16)))) b in
    end

pub can_kept : (image other : ℕ → Option ℕ) (memory next : Store) (room at : ℕ) → (can : CanCast image memory room at) → load_of next at 8 ≡ load_of memory at 8 → KeepsReads image other memory next can.walk.parts → CanCast other next room at
can_kept image other memory next room at can load keeps =
    let pointer : pointer_at next at ≡ pointer_at memory at = ap loaded_or_zero load in
    let walk : CanWalk other next room (view_at_address image memory at) = record {
      parts = can.walk.parts;
      are = parts_there (graph_of image memory) (graph_of other next) can.walk.parts (same_graphs image other memory next can.walk.parts can.walk.read keeps) can.walk.are;
      read = read_kept image other memory next can.walk.parts can.walk.read keeps;
      has = can.walk.has;
      few = can.walk.few;
    } in
    record {
      pointer = subst (λ (r : Result ℕ MemoryFault). IsOk r) (sym load) can.pointer;
      top = subst (λ o. IsSome o) (sym (ap (λ p. other (p - 16)) pointer ∙ kept image other keeps.words (pointer_at memory at - 16) can.top)) can.top;
      info = subst (λ o. IsSome o) (sym (ap (λ p. other (p - 8)) pointer ∙ kept image other keeps.words (pointer_at memory at - 8) can.info)) can.info;
      top_word = subst (λ p. IsTableWord other (p - 16)) (sym pointer) (table_kept image other keeps.words (pointer_at memory at - 16) can.top_word);
      info_word = subst (λ p. IsTableWord other (p - 8)) (sym pointer) (table_kept image other keeps.words (pointer_at memory at - 8) can.info_word);
      walk = subst (λ part. CanWalk other next room part) (sym (view_kept image other memory next at keeps.words load can.top can.info)) walk;
    }

pub casts_kept : (image other : ℕ → Option ℕ) (memory next : Store) (room at : ℕ) → (can : CanCast image memory room at) → load_of next at 8 ≡ load_of memory at 8 → KeepsReads image other memory next can.walk.parts → (class target : ℕ) (result : Option ℕ) → CastsTo image memory at class target result ↔ CastsTo other next at class target result
casts_kept image other memory next room at can load keeps class target result =
    let g = graph_of image memory in
    let h = graph_of other next in
    let same = same_graphs image other memory next can.walk.parts can.walk.read keeps in
    let view = view_kept image other memory next at keeps.words load can.top can.info in
    let there = parts_there g h can.walk.parts same can.walk.are in
    let back = are_back g h can.walk.parts same in (
      λ c. record {
        answer = c.answer;
        rule = subst (λ part. AnswersCast (parts_below h part at class target) c.answer) (sym view) (cast_there h g can.walk.parts back there (view_at_address image memory at) can.walk.has at class target c.answer c.rule);
        is = c.is;
      },
      λ c. record {
        answer = c.answer;
        rule = cast_there g h can.walk.parts same can.walk.are (view_at_address image memory at) can.walk.has at class target c.answer (subst (λ part. AnswersCast (parts_below h part at class target) c.answer) view c.rule);
        is = c.is;
      },
    )
