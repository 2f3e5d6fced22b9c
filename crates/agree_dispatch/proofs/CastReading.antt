-- What a view that stands gives to a walk: the graph shows its subobjects, and all that is read is there.
use Rattle.std.proofs.Common.{◌≡◌, ℕ, zero, suc, ◌+◌, ◌*◌, ◌<◌, ◌≤◌, ◌^◌, ⊎_elim, inl, inr, Bool, true, false, Option, Some, None, List, [], ◌∷◌, length, refl, ap, subst, sym, ◌∙◌, arith, pos, ◌+ℤ◌}
use Rattle.std.specs.Prelude.{IsSome, Ok, slice_get, Contains, negsuc}
use Rattle.std.proofs.lemmas.Int.{ints}
use Rattle.foundation.proofs.Truth.{split}
use Rattle.foundation.proofs.Places.{contains_at, get_within}
use Rattle.foundation.proofs.Members.{Has, contains_from_has, has_from_contains}
use Rattle.std.proofs.lemmas.Bool.{cases_lt}
use Rattle.byte_memory.specs.Store.{Store, load_of}
use Rattle.byte_code.specs.Numbers.{word_of, IsInBytes}
use Rattle.byte_code.specs.Records.{IsInfoAt, HasBaseRecord, IsClearOf, IsTableWord}
use Rattle.byte_code.specs.declared.image.InfoRecord.{InfoRecord}
use Rattle.byte_code.specs.declared.image.BaseRecord.{BaseRecord}
use Rattle.cxx_hierarchy.specs.declared.records.ClassId.{ClassId}
use Rattle.cxx_hierarchy.specs.declared.records.Base.{Base}
use Rattle.cxx_hierarchy.specs.Classes.{Classes, bases_of}
use Rattle.cxx_hierarchy.specs.VirtualBases.{direct}
use Rattle.cxx_subobject.specs.declared.Root.TheVariants.{Whole}
use Rattle.cxx_subobject.specs.declared.Subobject.{Subobject}
use Rattle.cxx_subobject.specs.Subobjects.{IsSubobject, whole, subobject, shared_base, base_subobject, class_of}
use Rattle.cxx_subobject.specs.Inside.{IsInside}
use Rattle.cxx_subobject.proofs.PathLemmas.{class_low}
use Rattle.cxx_subobject.proofs.TreeLemmas.{base_down, base_across, edge}
use Rattle.cxx_subobject.proofs.TestLemmas.{base_class}
use Rattle.cxx_subobject.proofs.InsideLemmas.{join_class, inside_through, inside_valid}
use Rattle.abi_primary.specs.Kinds.{IsDynamic, shares}
use Rattle.abi_sound.specs.declared.class_layout.ClassLayout.{ClassLayout}
use Rattle.abi_sound.specs.Places.{Places, places_of, direct_base_place}
use Rattle.abi_sound.proofs.PlaceLemmas.{direct_place}
use Rattle.abi_sound.proofs.Depth.{below, distinct}
use Rattle.abi_slots.specs.Views.{View, seen, place}
use Rattle.abi_slots.specs.Images.{HasInfo, info_bases, info_flags}
use Rattle.abi_slots.specs.Listing.{vbase_number}
use Rattle.abi_slots.specs.Seen.{PlacedTables, Sees, IsPointOf}
use Rattle.abi_slots.proofs.ImageReading.{info_reads, base_reads}
use Rattle.abi_slots.proofs.Listings.{ArePrimaries}
use Rattle.abi_rtti.specs.TypeInfos.{type_info, info_base, offset_flags, place_of_base}
use Rattle.abi_dyncast.specs.declared.parts.TypedPart.{TypedPart}
use Rattle.abi_dyncast.specs.declared.parts.Edge.{Edge}
use Rattle.abi_dyncast.specs.Graph.{moved}
use Rattle.abi_dyncast.specs.Graph.{Graph, graph_of, info_at, has_virtual_flag, is_public, vbase_at, distance_word, edge_by, record_at, base_record}
use Rattle.abi_dyncast.specs.Casts.{CanStep}
use Rattle.abi_dyncast.proofs.Keeping.{info_read, base_read}
use Rattle.abi_dyncast.proofs.Distances.{moved_between, moved_along}
use Rattle.agree_dispatch.specs.CastStanding.{StandsInMemory}
use Rattle.agree_dispatch.proofs.CastNumbers.{moved_back}
use Rattle.agree_dispatch.proofs.Distances.{IsFar, far_plain, far_virtual}
use Rattle.agree_dispatch.proofs.Bases.{inside_base}
use Rattle.agree_dispatch.proofs.Records.{base_stands, listed_at, listed_count, virtual_read, plain_read}
use Rattle.agree_dispatch.proofs.Showing.{Shows}

abbrev pub record_for : (ClassId → ℕ) → Option ClassId → ℕ
record_for info None = 0
record_for info (Some c) = info c

-- the addresses of the records of the first n classes
abbrev infos_to : (ClassId → ℕ) → ℕ → List ℕ
infos_to info zero = []
infos_to info (suc n) = info (record { 0 = n }) ∷ infos_to info n

info_to : (info : ClassId → ℕ) (n : ℕ) (c : ClassId) → c.0 < n → Has (infos_to info n) (info c)
info_to info zero c less = absurd (omega arith)
info_to info (suc n) c less = ⊎_elim
    (λ (before : c.0 < n). inr (info_to info n c before))
    (λ (last : n ≤ c.0). let same : n ≡ c.0 = omega arith in inl (ap (λ k. info (record { 0 = k })) same))
    (cases_lt c.0 n)

info_from : (info : ClassId → ℕ) (n at : ℕ) → Has (infos_to info n) at → (c : ClassId) × (c.0 < n) × (info c ≡ at)
info_from info zero at has = absurd has
info_from info (suc n) at has = ⊎_elim
    (λ (same : info (record { 0 = n }) ≡ at). (record { 0 = n }, omega arith, same))
    (λ more. let found = info_from info n at more in let less = found.1 in (found.0, omega arith, found.2))
    has

infos_some : (info : ClassId → ℕ) (n : ℕ) → 0 < n → 0 < length (infos_to info n)
infos_some info zero some = absurd (omega arith)
infos_some info (suc n) some = omega arith

-- the part of a subobject of the complete object
abbrev pub part_of : Places → View → PlacedTables → ℕ → Subobject → TypedPart
part_of l x placed start u = record { at = start + l.place x.complete u; info = record_for placed.info (class_of u) }

module _ (h : Classes) (rows : List ClassLayout) (x : View) (placed : PlacedTables) (memory : Store) (start : ℕ) (stands : StandsInMemory h rows x placed memory start) where
  abbrev l : Places
  l = places_of h rows

  abbrev g : Graph
  g = graph_of placed.image memory

  abbrev part : Subobject → TypedPart
  part = part_of (places_of h rows) x placed start

  valid : (u : Subobject) → IsInside h x.at_sub u → IsSubobject h x.complete u
  valid u k = inside_valid h x.complete x.at_sub u stands.view.valid k

  -- the address of a subobject is low
  pub low : (u : Subobject) → IsSubobject h x.complete u → start + (places_of h rows).place x.complete u < 2 ^ 63
  low u there = let b = below h rows stands.sound x.complete u stands.view.known there in let f = stands.fits in omega arith

  known : (u : Subobject) (c : ClassId) → IsInside h x.at_sub u → class_of u ≡ Some c → c.0 < length h
  known u c k e = let a = class_low h stands.keeps x.complete c u (valid u k) e in let b = stands.view.known in omega arith

  -- a subobject of the complete object in the view, as one of the view's class
  pub record IsOfView (u : Subobject) (c : ClassId) : Type 0 where
    pub here : Subobject
    pub there : IsSubobject h x.class here
    pub of_class : class_of here ≡ Some c
    pub is : u ≡ seen x here

  pub of_view : (u : Subobject) (c : ClassId) → IsInside h x.at_sub u → class_of u ≡ Some c → IsOfView u c
  of_view u c k e =
      let both : Some k.class ≡ Some x.class = sym k.of_class ∙ stands.view.of_class in
      let same : k.class ≡ x.class = cc in
      let there : IsSubobject h x.class k.part = subst (λ (d : ClassId). IsSubobject h d k.part) same k.valid in
      record {
        here = k.part;
        there = there;
        of_class = sym (join_class h x.class x.at_sub k.part stands.view.of_class there) ∙ (ap class_of (sym k.joined) ∙ e);
        is = k.joined;
      }

  -- what the virtual pointer of a dynamic subobject leads to
  pub record IsPointing (u : Subobject) (c : ClassId) : Type 0 where
    pub of : IsOfView u c
    pub point : ℕ
    pub load : load_of memory (start + (places_of h rows).place x.complete u) 8 ≡ Ok point
    pub is_point : IsPointOf h (places_of h rows) x placed of.here point
    pub sees : Sees h (places_of h rows) x placed of.here c point

  pub pointing : (u : Subobject) (c : ClassId) → IsInside h x.at_sub u → class_of u ≡ Some c → IsDynamic h c → IsPointing u c
  pointing u c k e dynamic =
      let of = of_view u c k e in
      let p = stands.pointed of.here c of.there of.of_class dynamic in
      record {
        of = of;
        point = p.0;
        load = ap (λ (s : Subobject). load_of memory (start + (places_of h rows).place x.complete s) 8) of.is ∙ p.1;
        is_point = p.2;
        sees = stands.seen.sees of.here c p.0 of.there of.of_class p.2;
      }

  -- the record of the class of a subobject
  has_info : (u : Subobject) (c : ClassId) → IsInside h x.at_sub u → class_of u ≡ Some c → HasInfo placed.image placed.info c (type_info h l c) (placed.info c)
  has_info u c k e = stands.typed.each c (known u c k e)

  info_there : (u : Subobject) (c : ClassId) → (k : IsInside h x.at_sub u) → (e : class_of u ≡ Some c) → IsInfoAt placed.image (part u).info (record { class = c.0; flags = info_flags (type_info h l c); bases = length (info_bases (type_info h l c)); first = (has_info u c k e).first })
  info_there u c k e =
      let r = info_reads placed.image placed.info c (type_info h l c) (placed.info c) (has_info u c k e) in
      subst (λ at. IsInfoAt placed.image at (record { class = c.0; flags = info_flags (type_info h l c); bases = length (info_bases (type_info h l c)); first = (has_info u c k e).first })) (sym (ap (record_for placed.info) e)) r

  info_is : (u : Subobject) (c : ClassId) → (k : IsInside h x.at_sub u) → (e : class_of u ≡ Some c) → info_at placed.image (part u).info ≡ record { class = c.0; flags = info_flags (type_info h l c); bases = length (info_bases (type_info h l c)); first = (has_info u c k e).first }
  info_is u c k e = info_read placed.image (part u).info (record { class = c.0; flags = info_flags (type_info h l c); bases = length (info_bases (type_info h l c)); first = (has_info u c k e).first }) (info_there u c k e)

  pub class_read : (u : Subobject) (c : ClassId) → IsInside h x.at_sub u → class_of u ≡ Some c → g.class (part u) ≡ c.0
  class_read u c k e = ap (λ (i : InfoRecord). i.class) (info_is u c k e)

  pub count_read : (u : Subobject) (c : ClassId) → IsInside h x.at_sub u → class_of u ≡ Some c → g.count (part u) ≡ length (bases_of h c)
  count_read u c k e = ap (λ (i : InfoRecord). i.bases) (info_is u c k e) ∙ listed_count h l c

  pub info_stands : (u : Subobject) (c : ClassId) → IsInside h x.at_sub u → class_of u ≡ Some c → IsInfoAt placed.image (part u).info (info_at placed.image (part u).info)
  info_stands u c k e = subst (λ i. IsInfoAt placed.image (part u).info i) (sym (info_is u c k e)) (info_there u c k e)

  primaries : ArePrimaries h l
  primaries = record { direct = λ c b known. (stands.sound.each c known).direct b; virtual = λ c v known. (stands.sound.each c known).virtual v }

  -- a base that is not virtual lies low in its class
  place_low : (c : ClassId) (base : Base ClassId) → c.0 < length h → Contains (bases_of h c) base → base.is_virtual ≡ false → place_of_base (places_of h rows) c base < 2 ^ 32
  place_low c base lt listed v =
      let b = below h rows stands.sound c (subobject Whole (c ∷ base.class ∷ [])) lt (whole (base.class ∷ []) (edge h c base false listed v, tt)) in
      let bounded = (stands.sound.each c lt).bounded in
      omega arith

  base_fits : (c : ClassId) (base : Base ClassId) → c.0 < length h → Contains (bases_of h c) base → IsInBytes 8 true (offset_flags h (places_of h rows) c base)
  base_fits c base lt listed = split base.is_virtual (λ b. base.is_virtual ≡ b → IsInBytes 8 true (offset_flags h l c base))
      (λ t v. (virtual_read h l stands.keeps primaries c lt 0 base v).fits)
      (λ f v. (plain_read h l c 0 base v (place_low c base lt listed v)).fits)
      refl

  -- the record of a class and those of its bases stand behind all tables
  record_clear : (c : ClassId) (at : ℕ) → c.0 < length h → at + 8 ≤ stands.records → IsClearOf placed.image (infos_to placed.info (length h)) at (placed.info c)
  record_clear c at lt before =
      let has = stands.typed.each c lt in
      let count = listed_count h l c in
      let above = stands.above c lt in
      record {
        info = record { class = c.0; flags = info_flags (type_info h l c); bases = length (info_bases (type_info h l c)); first = has.first };
        there = info_reads placed.image placed.info c (type_info h l c) (placed.info c) has;
        bases = λ i less.
            let found = get_within (bases_of h c) i (omega arith) in
            let base = found.0 in
            let listed = contains_at (bases_of h c) i base found.1 in
            let stands_there = base_stands placed.image placed.info (info_bases (type_info h l c)) has.first i (info_base h l c base) has.bases (listed_at h l c i base found.1) in
            let smaller = stands.keeps.bases c base listed in (
              record { info = placed.info base.class; offset_flags = offset_flags h l c base },
              base_reads placed.image placed.info (info_base h l c base) (has.first + 16 * i) (base_fits c base lt listed) stands_there,
              contains_from_has (infos_to placed.info (length h)) (placed.info base.class) (info_to placed.info (length h) base.class (omega arith)),
            );
        apart = λ i less. let behind = has.behind (omega arith) in inl (omega arith);
      }

  -- so a word that stands before them is one of a table
  pub table_word : (at : ℕ) → at + 8 ≤ stands.records → IsTableWord placed.image at
  table_word at before = record {
    infos = infos_to placed.info (length h);
    some = infos_some placed.info (length h) (let k = stands.view.known in omega arith);
    clear = λ there has.
        let from = info_from placed.info (length h) there (has_from_contains (infos_to placed.info (length h)) there has) in
        subst (λ n. IsClearOf placed.image (infos_to placed.info (length h)) at n) from.2 (record_clear from.0 at from.1 before);
  }

  -- the record of a base as it is written
  abbrev written : ClassId → Base ClassId → BaseRecord
  written c base = record { info = placed.info base.class; offset_flags = offset_flags h (places_of h rows) c base }

  -- where the base of a subobject lies, by that record
  far : (u : Subobject) (c : ClassId) (base : Base ClassId) → IsInside h x.at_sub u → class_of u ≡ Some c → Contains (bases_of h c) base → IsFar placed.image memory (part u).at (part (base_subobject u base)).at (written c base)
  far u c base k e listed =
      let to = base_subobject u base in
      let inside = inside_through h x.at_sub u to k (inside_base h c u base e listed) in
      split base.is_virtual (λ b. base.is_virtual ≡ b → IsFar placed.image memory (part u).at (part to).at (written c base)) (λ t v. across v inside) (λ f v. down v inside) refl
    where
      down : base.is_virtual ≡ false → IsInside h x.at_sub (base_subobject u base) → IsFar placed.image memory (part u).at (part (base_subobject u base)).at (written c base)
      down v inside =
          let n = place_of_base l c base in
          let high = low (base_subobject u base) (valid (base_subobject u base) inside) in
          let behind : l.place x.complete (base_subobject u base) ≡ l.place x.complete u + direct_base_place h rows c base.class = ap (l.place x.complete) (base_down u base v) ∙ direct_place h rows x.complete c base.class u e in
          let same : n ≡ direct_base_place h rows c base.class = omega arith in
          let r = plain_read h l c (placed.info base.class) base v (place_low c base (known u c k e) listed v) in
          let sum : pos ((part u).at) +ℤ pos n ≡ pos (part (base_subobject u base)).at = omega (arith, ints) in
          far_plain placed.image memory (part u).at (part (base_subobject u base)).at (written c base) r.virtual_is
          (ap (moved (part u).at) r.offset_is ∙ moved_along (part u).at (part (base_subobject u base)).at (pos n) sum (omega arith) (omega arith))

      across : base.is_virtual ≡ true → IsInside h x.at_sub (base_subobject u base) → IsFar placed.image memory (part u).at (part (base_subobject u base)).at (written c base)
      across v inside =
          let step = edge h c base true listed v in
          let p = pointing u c k e (shares c base.class step) in
          let d = p.sees.converts base.class (direct c base.class step) in
          let n = vbase_number h l c base.class in
          let r = virtual_read h l stands.keeps primaries c (known u c k e) (placed.info base.class) base v in
          let lowest = stands.typed.low d.at (word_of d.distance) d.there in
          let back = d.before in
          let spot : moved p.point (word_of (negsuc (8 * n + 23))) ≡ d.at = moved_back p.point d.at (8 * n + 23) (omega arith) lowest in
          let a = low u (valid u k) in
          let b = low (base_subobject u base) (valid (base_subobject u base) inside) in
          let there : l.place x.complete (base_subobject u base) ≡ l.place x.complete (shared_base base.class) = ap (l.place x.complete) (base_across u base v) in
          let from : l.place x.complete u ≡ place l x p.of.here = ap (l.place x.complete) p.of.is in
          let leads : pos (l.place x.complete u) +ℤ d.distance ≡ pos (l.place x.complete (base_subobject u base)) = ap (λ m. pos m +ℤ d.distance) from ∙ (d.leads ∙ ap pos (sym there)) in
          far_virtual placed.image memory (part u).at (part (base_subobject u base)).at p.point d.at (word_of d.distance) (written c base) r.virtual_is p.load (ap (moved p.point) r.offset_is ∙ spot) d.there
          (moved_between start (l.place x.complete u) (l.place x.complete (base_subobject u base)) d.distance leads a b)
          (let highest = stands.below p.of.here p.point p.is_point in table_word d.at (omega arith))

  -- the record of a base stands in the image
  record IsWritten (u : Subobject) (i : ℕ) (base : BaseRecord) : Type 0 where
    low : record_at placed.image (part u) i < 2 ^ 64
    there : HasBaseRecord placed.image (record_at placed.image (part u) i) base

  written_at : (u : Subobject) (c : ClassId) (i : ℕ) (base : Base ClassId) → IsInside h x.at_sub u → class_of u ≡ Some c → slice_get (bases_of h c) i ≡ Some base → IsWritten u i (written c base)
  written_at u c i base k e at =
      let has = has_info u c k e in
      let stands_there = base_stands placed.image placed.info (info_bases (type_info h l c)) has.first i (info_base h l c base) has.bases (listed_at h l c i base at) in
      let first : record_at placed.image (part u) i ≡ has.first + 16 * i = ap (λ (r : InfoRecord). r.first + 16 * i) (info_is u c k e) in
      let lowest = stands.typed.low (has.first + 16 * i) (placed.info base.class) stands_there.class in
      let fits = base_fits c base (known u c k e) (contains_at (bases_of h c) i base at) in
      record {
        low = subst (λ n. n < 18446744073709551616) (sym first) lowest;
        there = subst (λ n. HasBaseRecord placed.image n (written c base)) (sym first) (base_reads placed.image placed.info (info_base h l c base) (has.first + 16 * i) fits stands_there);
      }

  base_is : (u : Subobject) (c : ClassId) (i : ℕ) (base : Base ClassId) → IsInside h x.at_sub u → class_of u ≡ Some c → slice_get (bases_of h c) i ≡ Some base → base_record placed.image (part u) i ≡ written c base
  base_is u c i base k e at = base_read placed.image (record_at placed.image (part u) i) (written c base) (written_at u c i base k e at).there

  pub step_stands : (u : Subobject) (c : ClassId) (i : ℕ) (base : Base ClassId) → IsInside h x.at_sub u → class_of u ≡ Some c → slice_get (bases_of h c) i ≡ Some base → CanStep placed.image memory (part u) i
  step_stands u c i base k e at =
      let w = written_at u c i base k e at in
      let f = far u c base k e (contains_at (bases_of h c) i base at) in
      let is = base_is u c i base k e at in
      record {
        low = w.low;
        base = subst (λ b. HasBaseRecord placed.image (record_at placed.image (part u) i) b) (sym is) w.there;
        pointer = λ v. f.pointer (ap has_virtual_flag (sym is) ∙ v);
        word = λ v. subst (λ b. IsSome (placed.image (vbase_at memory (part u).at b))) (sym is) (f.word (ap has_virtual_flag (sym is) ∙ v));
        table = λ v. subst (λ b. IsTableWord placed.image (vbase_at memory (part u).at b)) (sym is) (f.table (ap has_virtual_flag (sym is) ∙ v));
      }

  edge_is : (u : Subobject) (c : ClassId) (i : ℕ) (base : Base ClassId) → IsInside h x.at_sub u → class_of u ≡ Some c → slice_get (bases_of h c) i ≡ Some base → g.edge (part u) i ≡ record { part = part (base_subobject u base); is_public = base.is_public }
  edge_is u c i base k e at =
      let to = base_subobject u base in
      let listed = contains_at (bases_of h c) i base at in
      let f = far u c base k e listed in
      let make : ℕ → ℕ → Bool → Edge = λ n m p. record { part = record { at = n; info = m }; is_public = p } in
      let info : placed.info base.class ≡ record_for placed.info (class_of to) = sym (ap (record_for placed.info) (base_class u c base e)) in
      let public : is_public (written c base) ≡ base.is_public = split base.is_virtual (λ b. base.is_virtual ≡ b → is_public (written c base) ≡ base.is_public)
      (λ t v. (virtual_read h l stands.keeps primaries c (known u c k e) (placed.info base.class) base v).public_is)
      (λ t v. (plain_read h l c (placed.info base.class) base v (place_low c base (known u c k e) listed v)).public_is)
      refl in
      let same : make (moved (part u).at (distance_word placed.image memory (part u).at (written c base))) (placed.info base.class) (is_public (written c base)) ≡ make (part to).at (record_for placed.info (class_of to)) base.is_public =
      ap (λ n. make n (placed.info base.class) (is_public (written c base))) f.there ∙ (ap (λ m. make (part to).at m (is_public (written c base))) info ∙ ap (make (part to).at (record_for placed.info (class_of to))) public) in
      ap (λ b. edge_by placed.image memory (part u).at b) (base_is u c i base k e at) ∙ same

  -- the graph shows the subobjects of the view
  pub shows : Shows h x.complete x.at_sub part g
  shows = record {
    view = stands.view.valid;
    distinct = λ s t c a b e f same. distinct h rows stands.sound x.complete c s t stands.view.known a b e f (let f' : start + l.place x.complete s ≡ start + l.place x.complete t = same in omega arith);
    class = class_read;
    count = count_read;
    edge = edge_is;
  }
