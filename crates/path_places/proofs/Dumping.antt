-- The leaves that the calls tell are those of the heap object, each with its value.
use Rattle.std.proofs.Common.{◌≡◌, ℕ, ◌+◌, ◌*◌, ◌%◌, ◌^◌, ◌<◌, ◌≤◌, Option, Some, List, [], ◌∷◌, ◌++◌, length, take, get_or, map, refl, ap, subst, sym, ◌∙◌, arith}
use Rattle.std.specs.Prelude.{slice_get}
use Rattle.std.specs.List.{AllZip, flat_map}
use Rattle.std.proofs.lemmas.List.{map-append}
use Rattle.cxx_hierarchy.specs.declared.records.ClassId.{ClassId}
use Rattle.cxx_hierarchy.specs.declared.records.Member.{Member}
use Rattle.cxx_hierarchy.specs.declared.records.ValueType.{ValueType}
use Rattle.cxx_hierarchy.specs.declared.records.FieldType.{FieldType}
use Rattle.cxx_hierarchy.specs.declared.records.FieldType.TheVariants.{Value as ValueField, Object}
use Rattle.cxx_hierarchy.specs.Classes.{Classes, members_of}
use Rattle.cxx_hierarchy.specs.Declarations.{elements_of}
use Rattle.cxx_hierarchy.specs.Hierarchies.{IsHierarchy}
use Rattle.cxx_subobject.specs.declared.Subobject.{Subobject}
use Rattle.cxx_subobject.specs.declared.locations.Hop.{Hop}
use Rattle.cxx_subobject.specs.declared.locations.Hop.TheVariants.{Inherit, Member as MemberHop}
use Rattle.cxx_subobject.specs.Subobjects.{IsSubobject, class_of}
use Rattle.cxx_subobject.specs.Locations.{ObjectPart, hops_of_steps}
use Rattle.cxx_subobject.specs.Preorder.{preorder}
use Rattle.cxx_subobject.proofs.TreeLemmas.{valid_at}
use Rattle.cxx_subobject.proofs.PathLemmas.{class_found}
use Rattle.path_plan.specs.Places.{element}
use Rattle.path_plan.specs.declared.form.Form.TheVariants.{InFull}
use Rattle.path_plan.specs.Plans.{upto}
use Rattle.path_plan.specs.Whole.{whole_part}
use Rattle.path_numbers.specs.Sizes.{sizes_of, member_offset}
use Rattle.path_numbers.specs.Nodes.{Node}
use Rattle.path_numbers.specs.Numbers.{subobject_number}
use Rattle.path_numbers.specs.Heap.{root_at}
use Rattle.path_numbers.proofs.Heap.{heap_number}
use Rattle.path_model.specs.declared.outs.Value.{Value as Shown}
use Rattle.path_model.specs.declared.outs.DumpLeaf.{DumpLeaf}
use Rattle.path_model.specs.declared.outs.Out.{Out}
use Rattle.path_model.specs.declared.outs.Out.TheVariants.{Dump as DumpOut}
use Rattle.path_model.specs.Values.{Value, Leaf, Objects, inner_part}
use Rattle.path_model.specs.Places.{leaf, typed_leaves, member_leaves, own_leaves, leaves_of}
use Rattle.path_model.specs.Outs.{class_or_first, object_class, shown, dump_leaf}
use Rattle.path_model.specs.Effects.{object_out}
use Rattle.path_heap.specs.declared.heap.Heap.{Heap}
use Rattle.path_heap.specs.declared.state.Value.{Value as ValueCode}
use Rattle.path_heap.specs.Points.{Points, PointsLeaf}
use Rattle.path_heap.specs.Stands.{HeapStands, Means}
use Rattle.path_heap.proofs.Asking.{root_is_at}
use Rattle.path_places.specs.invariants.Leaves.{Grows, base_leaves, element_leaves, leaves_in, IsNumberedPart, IsMemberAt}
use Rattle.path_places.specs.invariants.Dumps.{DumpedObject, dumped_object, IsDumpSite, LeadsToPart, IsDumped, DumpsLeaf, DumpsValues, DumpsElements, DumpsMember, DumpsMembers, DumpsOwn, DumpsBases, DumpsWhole}
use Rattle.path_places.proofs.Growing.{grows_none, grows_more, grows_pushed, grows_next, grows_counted, upto_more}
use Rattle.path_places.proofs.Opening.{leaves_open, leaves_past}
use Rattle.path_places.proofs.Listing.{leaf_points, element_there, base_there}

-- one leaf

abbrev pub told_at : ℕ → ClassId → List Hop → Shown → DumpLeaf
told_at object class hops value = record { at = record { object = object; class = class; hops = hops }; value = value }

pub leaf_told : (g : DumpedObject) (hops more : List Hop) (base : Subobject) (m i k : ℕ) (code : ValueCode) (value : Shown) → more ≡ hops ++ Inherit base ∷ MemberHop m i ∷ []
    → ((h : Classes) (s : Objects) (l : Leaf) → HeapStands h g.heap s → PointsLeaf h s.classes k l → Means h s.classes code (s.leaf l))
    → ((s : Objects) (v : Value) → HeapStands g.classes g.heap s → Means g.classes s.classes code v → value ≡ shown s v)
    → (list : List Hop) → list ≡ more → DumpsLeaf g hops base m i k (told_at g.object g.class list value)
leaf_told g hops more base m i k code value more_is means shows list list_is = record {
  tells = λ s p site place there.
      let l = leaf p m i in
      let v : value ≡ shown s (s.leaf l) = shows s (s.leaf l) site.stands (means g.classes s l site.stands there) in
      let hs : list ≡ hops_of_steps p.owner ++ Inherit p.at ∷ MemberHop m i ∷ [] =
      list_is ∙ (more_is ∙ (ap (λ (t : List Hop). t ++ Inherit base ∷ MemberHop m i ∷ []) place.hops_are ∙ ap (λ (t : Subobject). hops_of_steps p.owner ++ Inherit t ∷ MemberHop m i ∷ []) place.base_is)) in
      ap (λ k. told_at k g.class list value) site.object
      ∙ (ap (λ (t : ClassId). told_at (p.object + 1) t list value) site.class
      ∙ (ap (λ (t : List Hop). told_at (p.object + 1) (object_class s p.object) t value) hs
      ∙ ap (λ (t : Shown). told_at (p.object + 1) (object_class s p.object) (hops_of_steps p.owner ++ Inherit p.at ∷ MemberHop m i ∷ []) t) v));
}

-- a member that is a number or a pointer

pub values_none : (g : DumpedObject) (hops : List Hop) (base : Subobject) (m k count : ℕ) (old : List DumpLeaf) → DumpsValues g hops base m k count 0 old old
values_none g hops base m k count old = record { tells = λ s y c member t site place a type count_is. grows_none (IsDumped s) old }

pub values_next : (g : DumpedObject) (hops : List Hop) (base : Subobject) (m k count i : ℕ) → i < count → (old mid new : List DumpLeaf) (told : DumpLeaf) → DumpsValues g hops base m k count i old mid → DumpsLeaf g hops base m i ((k + i) % 2 ^ 64) told → new ≡ mid ++ told ∷ []
    → DumpsValues g hops base m k count (i + 1) old new
values_next g hops base m k count i lt old mid new told before one new_is = record {
  tells = λ s y c member t site place a type count_is.
      let there = leaf_points g.classes site.stands.hierarchy s.classes c k m member y a t type i (omega arith) in
      let is = one.tells s y.part site place there in
      let e : map (leaf y.part m) (upto i) ++ leaf y.part m i ∷ [] ≡ map (leaf y.part m) (upto (i + 1)) = sym (ap (map (leaf y.part m)) (upto_more i) ∙ map-append (leaf y.part m) (upto i) (i ∷ [])) in
      subst (λ (ls : List Leaf). Grows (IsDumped s) old new ls) e
      (grows_more (IsDumped s) old mid new (map (leaf y.part m) (upto i)) (leaf y.part m i ∷ []) (before.tells s y c member t site place a type count_is) (grows_pushed (IsDumped s) mid new (told ∷ []) (leaf y.part m i ∷ []) new_is (is, tt)));
}

pub values_dumped : (g : DumpedObject) (hops : List Hop) (base : Subobject) (c : ClassId) (m : ℕ) (member : Member ClassId) (t : ValueType ClassId) → member.ty ≡ ValueField t → (k count : ℕ) → count ≡ elements_of member.count → (old new : List DumpLeaf) → DumpsValues g hops base m k count count old new → DumpsMember g hops base c m member k old new
values_dumped g hops base c m member t type k count count_is old new told = record {
  tells = λ s y site place a.
      subst (λ (ty : FieldType ClassId). Grows (IsDumped s) old new (typed_leaves (leaves_of g.classes) y.part m (upto (elements_of member.count)) ty)) (sym type)
      (subst (λ n. Grows (IsDumped s) old new (map (leaf y.part m) (upto n))) count_is (told.tells s y c member t site place a type count_is));
}

-- a member that is an object

pub elements_none : (g : DumpedObject) (hops : List Hop) (base : Subobject) (m : ℕ) (d : ClassId) (k count : ℕ) (old : List DumpLeaf) → DumpsElements g hops base m d k count 0 old old
elements_none g hops base m d k count old = record { tells = λ s y c member site place a type count_is. grows_none (IsDumped s) old }

-- a part of the same heap object
site_of : (g : DumpedObject) (s : Objects) (p q : ObjectPart) → p.object ≡ q.object → IsDumpSite g s p → IsDumpSite g s q
site_of g s p q e site = record { stands = site.stands; object = site.object ∙ ap (λ k. k + 1) e; class = site.class ∙ ap (object_class s) e }

pub elements_next : (g : DumpedObject) (hops : List Hop) (base : Subobject) (m : ℕ) (d : ClassId) (k count i size : ℕ) → i < count → size ≡ sizes_of g.classes InFull d → (more : List Hop) → more ≡ hops ++ Inherit base ∷ MemberHop m i ∷ []
    → (old mid new : List DumpLeaf) → DumpsElements g hops base m d k count i old mid → (list : List Hop) → list ≡ more → DumpsWhole g list d ((k + (i * size) % 2 ^ 64) % 2 ^ 64) mid new → DumpsElements g hops base m d k count (i + 1) old new
elements_next g hops base m d k count i size lt size_is more more_is old mid new before list list_is one = record {
  tells = λ s y c member site place a type count_is.
      let h = g.classes in
      let keeps = site.stands.hierarchy in
      let z = element_there h keeps s.classes c d k m member y a type i size (omega arith) size_is in
      let owner : z.node.part.owner ≡ (element y.part m i d).owner = ap (λ (t : ObjectPart). t.owner) z.is_part in
      let hs : list ≡ hops_of_steps z.node.part.owner =
      list_is ∙ (more_is ∙ (ap (λ (t : List Hop). t ++ Inherit base ∷ MemberHop m i ∷ []) place.hops_are ∙ (ap (λ (t : Subobject). hops_of_steps y.part.owner ++ Inherit t ∷ MemberHop m i ∷ []) place.base_is ∙ ap hops_of_steps (sym owner)))) in
      let grown = one.tells s z.node (site_of g s y.part z.node.part (ap (λ (t : ObjectPart). t.object) (sym z.is_part)) site) hs z.numbered z.full in
      let same : flat_map (base_leaves h z.node.part) (preorder h d) ≡ element_leaves h y.part m d i = sym (leaves_open h keeps d z.node.part) ∙ ap (leaves_of h d) z.is_part in
      grows_counted (IsDumped s) (element_leaves h y.part m d) i old mid new (before.tells s y c member site place a type count_is) (subst (λ (t : List Leaf). Grows (IsDumped s) mid new t) same grown);
}

pub objects_dumped : (g : DumpedObject) (hops : List Hop) (base : Subobject) (c : ClassId) (m : ℕ) (d : ClassId) (member : Member ClassId) → member.ty ≡ Object d → (k count : ℕ) → count ≡ elements_of member.count → (old new : List DumpLeaf) → DumpsElements g hops base m d k count count old new → DumpsMember g hops base c m member k old new
objects_dumped g hops base c m d member type k count count_is old new told = record {
  tells = λ s y site place a.
      subst (λ (ty : FieldType ClassId). Grows (IsDumped s) old new (typed_leaves (leaves_of g.classes) y.part m (upto (elements_of member.count)) ty)) (sym type)
      (subst (λ n. Grows (IsDumped s) old new (flat_map (element_leaves g.classes y.part m d) (upto n))) count_is (told.tells s y c member site place a type count_is));
}

-- the members of a class

pub members_none : (g : DumpedObject) (hops : List Hop) (base : Subobject) (c : ClassId) (k : ℕ) (old : List DumpLeaf) → DumpsMembers g hops base c k 0 old old
members_none g hops base c k old = record { tells = λ s y site place a. grows_none (IsDumped s) old }

pub members_next : (g : DumpedObject) (hops : List Hop) (base : Subobject) (c : ClassId) (k m : ℕ) (member : Member ClassId) (offset : ℕ) → slice_get (members_of g.classes c) m ≡ Some member → offset ≡ member_offset g.classes (sizes_of g.classes) c m
    → (old mid new : List DumpLeaf) → DumpsMembers g hops base c k m old mid → DumpsMember g hops base c m member ((k + offset) % 2 ^ 64) mid new → DumpsMembers g hops base c k (m + 1) old new
members_next g hops base c k m member offset listed offset_is old mid new before one = record {
  tells = λ s y site place a.
      let there : IsMemberAt g.classes s.classes c ((k + offset) % 2 ^ 64) m member y = record {
        few = a.few;
        at = a.at;
        class = a.class;
        listed = listed;
        number = ap (λ t. (k + t) % 2 ^ 64) offset_is ∙ ap (λ t. (t + member_offset g.classes (sizes_of g.classes) c m) % 2 ^ 64) (sym a.number);
      } in
      grows_counted (IsDumped s) (leaves_in g.classes c y.part) m old mid new (before.tells s y site place a)
      (subst (λ (o : Option (Member ClassId)). Grows (IsDumped s) mid new (member_leaves (leaves_of g.classes) y.part m o)) (sym listed) (one.tells s y site place there));
}

-- the subobjects of a complete object

pub bases_none : (g : DumpedObject) (hops : List Hop) (c : ClassId) (k : ℕ) (old : List DumpLeaf) → DumpsBases g hops c k [] old old
bases_none g hops c k old = record { tells = λ s y site hops_are a full. grows_none (IsDumped s) old }

bases_next : (g : DumpedObject) → IsHierarchy g.classes → (hops : List Hop) (c : ClassId) (k : ℕ) (list : List Subobject) (j : ℕ) (i : Subobject) → j < length list → IsSubobject g.classes c (get_or list j i) → (d : ClassId) → class_of (get_or list j i) ≡ Some d → (number : ℕ) → number ≡ subobject_number g.classes c (get_or list j i)
    → (old mid new : List DumpLeaf) → DumpsBases g hops c k (take j list) old mid → DumpsOwn g hops (get_or list j i) d ((k + number) % 2 ^ 64) mid new → DumpsBases g hops c k (take (j + 1) list) old new
bases_next g keeps hops c k list j i lt valid d class number number_told old mid new before one = record {
  tells = λ s y site hops_are a full.
      let h = g.classes in
      let b = get_or list j i in
      let z = base_there h keeps s.classes c d k y a full b valid class number number_told in
      let place : LeadsToPart hops b z.node.part = record { hops_are = hops_are ∙ ap (λ (t : ObjectPart). hops_of_steps t.owner) (sym z.own); base_is = ap (λ (t : ObjectPart). t.at) (sym z.own) } in
      let grown = one.tells s z.node (site_of g s y.part z.node.part (ap (λ (t : ObjectPart). t.object) (sym z.own)) site) place z.numbered in
      let told : Grows (IsDumped s) mid new (base_leaves h y.part b) =
      subst (λ (o : Option ClassId). Grows (IsDumped s) mid new (own_leaves h (leaves_of h) o (inner_part y.part b))) (sym class)
      (subst (λ (t : ObjectPart). Grows (IsDumped s) mid new (own_leaves h (leaves_of h) (Some d) t)) z.is_part grown) in
      grows_next (IsDumped s) (base_leaves h y.part) list j i old mid new lt (before.tells s y site hops_are a full) told;
}

pub bases_step : (g : DumpedObject) → IsHierarchy g.classes → (hops : List Hop) (c : ClassId) (k : ℕ) (list : List Subobject) (j : ℕ) (x : Subobject) → list ≡ preorder g.classes c → j < length list → x ≡ get_or list j x → (d : ClassId) → ((e : ClassId) → class_of x ≡ Some e → d ≡ e) → (number : ℕ) → number ≡ subobject_number g.classes c x
    → (old mid new : List DumpLeaf) → DumpsBases g hops c k (take j list) old mid → DumpsOwn g hops x d ((k + number) % 2 ^ 64) mid new → DumpsBases g hops c k (take (j + 1) list) old new
bases_step g keeps hops c k list j x is lt at d told number number_told old mid new before one =
    let h = g.classes in
    let valid = valid_at h c list j x is lt at in
    let class = class_found h c d x valid told in
    bases_next g keeps hops c k list j x lt (subst (λ (t : Subobject). IsSubobject h c t) at valid) d (ap class_of (sym at) ∙ class) number (number_told ∙ ap (subobject_number h c) at) old mid new before
    (subst (λ (t : Subobject). DumpsOwn g hops t d ((k + number) % 2 ^ 64) mid new) at one)

-- the whole heap object

all_told : (s : Objects) (told : List DumpLeaf) (leaves : List Leaf) → AllZip (IsDumped s) told leaves → told ≡ map (dump_leaf s) leaves
all_told s [] [] a = refl
all_told s [] (l ∷ leaves) a = absurd a
all_told s (x ∷ told) [] a = absurd a
all_told s (x ∷ told) (l ∷ leaves) a = ap (λ (t : DumpLeaf). t ∷ told) a.0 ∙ ap (λ (t : List DumpLeaf). dump_leaf s l ∷ t) (all_told s told leaves a.1)

abbrev pub dump_of : ℕ → ClassId → List DumpLeaf → Out
dump_of object c leaves = DumpOut object c leaves

told_out : (h : Classes) (s : Objects) (k object : ℕ) (c : ClassId) (told : List DumpLeaf) → k ≡ object → slice_get s.classes k ≡ Some c → told ≡ map (dump_leaf s) (leaves_of h c (whole_part k c)) → Some (dump_of (object + 1) c told) ≡ object_out h s k (slice_get s.classes k)
told_out h s k object c told same listed is =
    ap (λ n. Some (dump_of (n + 1) c told)) (sym same) ∙ (ap (λ (t : List DumpLeaf). Some (dump_of (k + 1) c t)) is ∙ ap (object_out h s k) (sym listed))

pub dump_told : (h : Classes) (heap : Heap) (s : Objects) → HeapStands h heap s → (k object start : ℕ) (c : ClassId) → k ≡ object → slice_get s.classes k ≡ Some c → Points h s.classes start (whole_part k c) → (none new : List DumpLeaf) → none ≡ [] → (hops : List Hop) → hops ≡ [] → DumpsWhole (dumped_object h heap (object + 1) c) hops c start none new
    → (told : List DumpLeaf) → told ≡ new → Some (dump_of (object + 1) c told) ≡ object_out h s k (slice_get s.classes k)
dump_told h heap s stands k object start c same listed q none new none_is hops hops_is one told told_is =
    let x = root_at (sizes_of h) s.classes k c in
    let x_at = root_is_at h s.classes k c listed in
    let e = heap_number h (sizes_of h) stands.hierarchy s.classes q.node x q.at x_at q.is_part in
    let site : IsDumpSite (dumped_object h heap (object + 1) c) s x.part = record { stands = stands; object = ap (λ n. n + 1) (sym same); class = ap class_or_first (sym listed) } in
    let numbered : IsNumberedPart h s.classes c start x = record { few = stands.counts.few; at = x_at; class = refl; number = ap (λ (t : Node). t.number) (sym e) ∙ q.is_number } in
    let grown = one.tells s x site hops_is numbered refl in
    let along : AllZip (IsDumped s) new (flat_map (base_leaves h x.part) (preorder h c)) = grown [] (subst (λ (l : List DumpLeaf). AllZip (IsDumped s) l []) (sym none_is) tt) in
    let all = all_told s new (leaves_of h c (whole_part k c)) (subst (λ (ls : List Leaf). AllZip (IsDumped s) new ls) (sym (leaves_open h stands.hierarchy c (whole_part k c))) along) in
    told_out h s k object c told same listed (told_is ∙ all)

pub dump_past : (h : Classes) → IsHierarchy h → (s : Objects) (k object : ℕ) (c : ClassId) → k ≡ object → slice_get s.classes k ≡ Some c → length h ≤ c.0 → (none : List DumpLeaf) → none ≡ [] → (told : List DumpLeaf) → told ≡ none → Some (dump_of (object + 1) c told) ≡ object_out h s k (slice_get s.classes k)
dump_past h keeps s k object c same listed past none none_is told told_is =
    told_out h s k object c told same listed (told_is ∙ (none_is ∙ ap (map (dump_leaf s)) (sym (leaves_past h keeps c (whole_part k c) past))))
