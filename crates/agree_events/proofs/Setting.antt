-- One setting finds the address point of its subobject's table, and the place of the subobject.
use Rattle.std.proofs.Common.{◌≡◌, ℕ, ◌+◌, ◌*◌, ◌-◌, Bool, true, false, Some, List, [], ◌∷◌, refl, ap, subst, sym, ◌∙◌, arith}
use Rattle.std.specs.Prelude.{slice_get, ℤ, pos, ◌+ℤ◌}
use Rattle.cxx_hierarchy.specs.declared.records.ClassId.{ClassId}
use Rattle.cxx_hierarchy.specs.VirtualBases.{HasVirtualBase}
use Rattle.cxx_subobject.specs.declared.Root.{Root}
use Rattle.cxx_subobject.specs.declared.Root.TheVariants.{Whole, Shared}
use Rattle.cxx_subobject.specs.declared.Subobject.{Subobject}
use Rattle.cxx_subobject.specs.Subobjects.{IsSubobject, whole as whole_is, shared, subobject, shared_base, whole_of, class_of}
use Rattle.cxx_subobject.specs.Locations.{ObjectPart}
use Rattle.cxx_subobject.proofs.InsideLemmas.{join_whole}
use Rattle.path_plan.specs.Places.{shared_part}
use Rattle.path_plan.specs.declared.form.Form.{Form}
use Rattle.path_plan.specs.declared.form.Form.TheVariants.{InFull, AsBase}
use Rattle.path_model.specs.Places.{owner_class}
use Rattle.path_model.specs.Values.{inner_part}
use Rattle.abi_slots.specs.declared.words.Group.{Group}
use Rattle.abi_slots.specs.Listing.{vbase_number}
use Rattle.abi_slots.specs.Groups.{view_of_group}
use Rattle.abi_slots.specs.Seen.{IsPointOf}
use Rattle.abi_slots.specs.Slots.{word_number}
use Rattle.abi_slots.specs.Views.{View, place}
use Rattle.abi_slots.proofs.Settings.{setting_of}
use Rattle.abi_vtt.specs.Vtts.{has_vtt}
use Rattle.abi_vtt.specs.Blocks.{table_run, run_distance, item_number}
use Rattle.abi_vtt.proofs.ImageBlocks.{run_point}
use Rattle.byte_code.specs.Images.{word_at}
use Rattle.byte_code.specs.Numbers.{word_of}
use Rattle.byte_code.specs.declared.op.PointSource.TheVariants.{Vtt}
use Rattle.byte_code.specs.declared.op.Setting.{Setting}
use Rattle.abi_dyncast.proofs.Distances.{moved_between}
use Rattle.byte_machine.specs.declared.frames.Handed.{Handed}
use Rattle.byte_machine.specs.Running.{moved}
use Rattle.byte_machine.specs.Plans.{source_word, place_through, word_offset}
use Rattle.byte_machine.proofs.PlanLeads.{place_virtual}
use Rattle.agree_dispatch.proofs.Numbers.{moved_up, moved_back, number_word}
use Rattle.agree_dispatch.proofs.Bounds.{vbase_small}
use Rattle.agree_parts.specs.Heaps.{Heap}
use Rattle.agree_parts.specs.Placed.{AreObjectsLaid}
use Rattle.agree_parts.proofs.Inside.{part_limit, known_class}
use Rattle.agree_parts.proofs.Made.{inner_is_made, shared_made, whole_owner}
use Rattle.agree_parts.proofs.Sums.{from_complete, to_inner, from_whole}
use Rattle.code_blocks.specs.Blocks.{whose_of, run_number, is_in_run, point_source, point_distance, setting_by}
use Rattle.agree_relation.specs.Worlds.{World, IsProgramWorld, world_classes, places_in, fixed}
use Rattle.agree_relation.proofs.Moved.{moved_to_part}
use Rattle.agree_events.proofs.Own.{whole_in}
use Rattle.agree_events.proofs.Noted.{Made, at_part}
use Rattle.agree_events.proofs.Settings.{IsApart, in_run, not_in_run, needs, shared_virtual}
use Rattle.agree_relation.proofs.Tables.{group_is}
use Rattle.agree_events.proofs.Tabled.{IsTabled, part_view, tables_at, seen_of, point_low, own_source}

-- what a setting finds
pub record IsSetting (w : World) (g : Heap) (x : View) (number : ℕ) (group : Group) (handed : Handed) (p : ObjectPart) (i : Subobject) (how : Setting) : Type 0 where
  pub first : ℕ
  pub source : source_word (fixed w) handed how.source ≡ Some first
  pub place : place_through (fixed w) handed (moved (at_part w g p) how.place) how.through ≡ Some (at_part w g (inner_part p i))
  pub is_point : IsPointOf (world_classes w) (places_in w) x (tables_at w number group) i (moved first how.distance)

-- the tables of the run, from the first one
run_of : (w : World) → IsProgramWorld w → (x : View) (number : ℕ) (group : Group) (n first : ℕ) (i : Subobject) → slice_get w.groups number ≡ Some group → group.name ≡ record { complete = x.complete; view = x.at_sub } → class_of x.at_sub ≡ Some x.class
    → IsPointOf (world_classes w) (places_in w) x (tables_at w number group) (whole_of x.class) first → slice_get (table_run (world_classes w) (places_in w) x.class) n ≡ Some i → IsPointOf (world_classes w) (places_in w) x (tables_at w number group) i (first + 8 * run_distance (world_classes w) (places_in w) x.class n)
run_of w world x number group n first i there named class is at =
    let h = world_classes w in
    let l = places_in w in
    let of = group_is w number group world there in
    let both : Some of.class ≡ Some x.class = sym of.view.of_class ∙ (ap (λ name. class_of name.view) named ∙ class) in
    let same : of.class ≡ x.class = cc (both) in
    let make : ClassId → Subobject → ClassId → View = λ c s e. record { complete = c; at_sub = s; class = e } in
    let view : view_of_group group of.class ≡ x = ap (λ name. make name.complete name.view of.class) named ∙ ap (make x.complete x.at_sub) same in
    let first_of_it : IsPointOf h l (view_of_group group of.class) (tables_at w number group) (whole_of of.class) first = subst (λ (v : View). IsPointOf h l v (tables_at w number group) (whole_of of.class) first) (sym view) (subst (λ (e : ClassId). IsPointOf h l x (tables_at w number group) (whole_of e) first) (sym same) is) in
    let point = run_point h l group of (setting_of h w.setup.rows world.hierarchy world.sound (view_of_group group of.class) of.view) (tables_at w number group) n i first refl first_of_it (subst (λ (e : ClassId). slice_get (table_run h l e) n ≡ Some i) (sym same) at) in
    subst (λ (v : View). IsPointOf h l v (tables_at w number group) i (first + 8 * run_distance h l x.class n)) view (subst (λ (e : ClassId). IsPointOf h l (view_of_group group of.class) (tables_at w number group) i (first + 8 * run_distance h l e n)) same point)

-- where a setting takes the point from
source_in_run : (w : World) (form : Form) (c : ClassId) (i : Subobject) (b : Bool) → has_vtt (world_classes w) c ≡ b → is_in_run w.setup c i ≡ true → point_source w.setup form c i ≡ own_source form c b
source_in_run w form c i true e test = rw (e, test) refl
source_in_run w form c i false e test = rw e refl

source_by_word : (w : World) (form : Form) (c : ClassId) (i : Subobject) → has_vtt (world_classes w) c ≡ true → is_in_run w.setup c i ≡ false → point_source w.setup form c i ≡ Vtt (whose_of form) c.0 (item_number (world_classes w) (places_in w) c i)
source_by_word w form c i e test = rw (e, test) refl

distance_in_run : (w : World) (c : ClassId) (i : Subobject) → is_in_run w.setup c i ≡ true → point_distance w.setup c i ≡ 8 * run_distance (world_classes w) (places_in w) c (run_number w.setup c i)
distance_in_run w c i test = rw test refl

distance_by_word : (w : World) (c : ClassId) (i : Subobject) → is_in_run w.setup c i ≡ false → point_distance w.setup c i ≡ 0
distance_by_word w c i test = rw test refl

-- the view of the part, and what is found of it
pub record IsViewOf (w : World) (g : Heap) (x : View) (p : ObjectPart) (c d : ClassId) (form : Form) (handed : Handed) : Type 0 where
  pub laid : AreObjectsLaid (world_classes w) w.setup.rows g
  pub made : Made w g p c
  pub whole : Made w g (whole_in p d) d
  pub full : form ≡ InFull → p.at ≡ whole_of c
  pub class : x.class ≡ c
  pub of_class : class_of x.at_sub ≡ Some c
  pub virtual : has_vtt (world_classes w) c ≡ true → x ≡ part_view d p.at c
  pub tabled : IsTabled w x form c handed (has_vtt (world_classes w) c)

point_moved : (w : World) → IsProgramWorld w → (g : Heap) (x : View) (p : ObjectPart) (c d e : ClassId) (form : Form) (handed : Handed) (of : IsViewOf w g x p c d form handed) (i : Subobject) (first distance : ℕ) → IsSubobject (world_classes w) c i → class_of i ≡ Some e
    → IsPointOf (world_classes w) (places_in w) x (tables_at w of.tabled.number of.tabled.group) i (first + distance) → moved first distance ≡ first + distance
point_moved w world g x p c d e form handed of i first distance valid class is =
    let t = of.tabled in
    let at_class : class_of x.at_sub ≡ Some x.class = of.of_class ∙ ap (λ (b : ClassId). Some b) (sym of.class) in
    let seen = seen_of w world x t.number t.group t.there t.named at_class in
    let low = point_low w world x (tables_at w t.number t.group) i e (first + distance) refl seen (subst (λ (b : ClassId). IsSubobject (world_classes w) b i) (sym of.class) valid) class is in
    moved_up first distance (omega arith)

-- a subobject in no virtual base, and one of a complete object
own_place : (w : World) (g : Heap) (p : ObjectPart) (c e : ClassId) (i : Subobject) → AreObjectsLaid (world_classes w) w.setup.rows g → Made w g p c → IsSubobject (world_classes w) c i → class_of i ≡ Some e → at_part w g (inner_part p i) ≡ at_part w g p + (places_in w).place c i → moved (at_part w g p) ((places_in w).place c i) ≡ at_part w g (inner_part p i)
own_place w g p c e i laid made valid class sum = moved_to_part (world_classes w) w.setup.rows g (at_part w g p) ((places_in w).place c i) (inner_part p i) e laid (inner_is_made (world_classes w) g p c e i made valid class) sum

whole_setting : (w : World) → IsProgramWorld w → (g : Heap) (x : View) (p : ObjectPart) (c d e : ClassId) (form : Form) (handed : Handed) (of : IsViewOf w g x p c d form handed) (i : Subobject) → IsApart w c i → class_of i ≡ Some e → i.root ≡ Whole → IsSetting w g x of.tabled.number of.tabled.group handed p i (setting_by w.setup form c i Whole)
whole_setting w world g x p c d e form handed of i apart class root =
    let h = world_classes w in
    let l = places_in w in
    let t = of.tabled in
    let at = in_run w world c i apart root in
    let n = run_number w.setup c i in
    let at_class : class_of x.at_sub ≡ Some x.class = of.of_class ∙ ap (λ (b : ClassId). Some b) (sym of.class) in
    let first : IsPointOf h l x (tables_at w t.number t.group) (whole_of x.class) t.point = subst (λ (b : ClassId). IsPointOf h l x (tables_at w t.number t.group) (whole_of b) t.point) (sym of.class) t.is_point in
    let run_is = run_of w world x t.number t.group n t.point i t.there t.named at_class first (subst (λ (b : ClassId). slice_get (table_run h l b) n ≡ Some i) (sym of.class) at.there) in
    let point : IsPointOf h l x (tables_at w t.number t.group) i (t.point + point_distance w.setup c i) = subst (λ k. IsPointOf h l x (tables_at w t.number t.group) i (t.point + k)) (ap (λ (b : ClassId). 8 * run_distance h l b n) of.class ∙ sym (distance_in_run w c i at.test)) run_is in
    record {
      first = t.point;
      source = ap (source_word (fixed w) handed) (source_in_run w form c i (has_vtt h c) refl at.test) ∙ t.own;
      place = ap (λ a. Some a) (own_place w g p c e i of.laid of.made apart.valid class (to_inner h w.setup.rows g p c i of.made apart.valid root));
      is_point = subst (λ k. IsPointOf h l x (tables_at w t.number t.group) i k) (sym (point_moved w world g x p c d e form handed of i t.point (point_distance w.setup c i) apart.valid class point)) point;
    }

-- the point of one in a virtual base, by its word
record HasWord (w : World) (g : Heap) (x : View) (number : ℕ) (group : Group) (handed : Handed) (form : Form) (c : ClassId) (i : Subobject) : Type 0 where
  first : ℕ
  source : source_word (fixed w) handed (point_source w.setup form c i) ≡ Some first
  is_point : IsPointOf (world_classes w) (places_in w) x (tables_at w number group) i (moved first (point_distance w.setup c i))

word_point : (w : World) → IsProgramWorld w → (g : Heap) (x : View) (p : ObjectPart) (c d e v : ClassId) (form : Form) (handed : Handed) (of : IsViewOf w g x p c d form handed) (i : Subobject) → IsApart w c i → class_of i ≡ Some e → i.root ≡ Shared v → HasWord w g x of.tabled.number of.tabled.group handed form c i
word_point w world g x p c d e v form handed of i apart class root =
    let h = world_classes w in
    let l = places_in w in
    let t = of.tabled in
    let has = shared_virtual w world c i v apart.valid root in
    let out = not_in_run w c i v root in
    let word = t.word i apart.valid (needs w c i v apart root) has.1 in
    let same : word.0 + 0 ≡ word.0 = omega arith in
    let none = distance_by_word w c i out in
    let point : IsPointOf h l x (tables_at w t.number t.group) i (word.0 + 0) = subst (λ k. IsPointOf h l x (tables_at w t.number t.group) i k) (sym same) word.2 in
    let moves = point_moved w world g x p c d e form handed of i word.0 0 apart.valid class point in
    record {
      first = word.0;
      source = ap (source_word (fixed w) handed) (source_by_word w form c i has.1 out) ∙ word.1;
      is_point = subst (λ k. IsPointOf h l x (tables_at w t.number t.group) i (moved word.0 k)) (sym none) (subst (λ k. IsPointOf h l x (tables_at w t.number t.group) i k) (sym moves) point);
    }

full_setting : (w : World) → IsProgramWorld w → (g : Heap) (x : View) (p : ObjectPart) (c d e v : ClassId) (handed : Handed) (of : IsViewOf w g x p c d InFull handed) (i : Subobject) → IsApart w c i → class_of i ≡ Some e → i.root ≡ Shared v → IsSetting w g x of.tabled.number of.tabled.group handed p i (setting_by w.setup InFull c i (Shared v))
full_setting w world g x p c d e v handed of i apart class root = let word = word_point w world g x p c d e v InFull handed of i apart class root in record {
  first = word.first;
  source = word.source;
  place = ap (λ a. Some a) (own_place w g p c e i of.laid of.made apart.valid class (from_whole (world_classes w) w.setup.rows g p c i of.made apart.valid (of.full refl)));
  is_point = word.is_point;
}

-- a base behind a virtual base: the word of that base leads from the view to it
shared_place : (w : World) → IsProgramWorld w → (g : Heap) (p : ObjectPart) (c d v : ClassId) (path : List ClassId) (distance : ℤ) → AreObjectsLaid (world_classes w) w.setup.rows g → Made w g p c → Made w g (whole_in p d) d → HasVirtualBase (world_classes w) c v → IsSubobject (world_classes w) v (subobject Whole (v ∷ path)) → (e : ClassId) → class_of (subobject (Shared v) (v ∷ path)) ≡ Some e
    → IsSubobject (world_classes w) c (subobject (Shared v) (v ∷ path)) → pos ((places_in w).place d p.at) +ℤ distance ≡ pos ((places_in w).place d (shared_base v))
    → moved (moved (at_part w g p) ((places_in w).place v (subobject Whole (v ∷ path)))) (word_of distance) ≡ at_part w g (inner_part p (subobject (Shared v) (v ∷ path)))
shared_place w world g p c d v path distance laid made whole has inner e class valid leads =
    let h = world_classes w in
    let l = places_in w in
    let rows = w.setup.rows in
    let i = subobject (Shared v) (v ∷ path) in
    let s = subobject Whole (v ∷ path) in
    let owner : owner_class h g.classes p.object p.owner ≡ Some d = whole_owner h g (whole_in p d) d whole refl in
    let base = shared_made h g p c v made has in
    let mine = from_complete h rows g p c d made owner in
    let theirs = from_complete h rows g (shared_part p v) v d base owner in
    let behind : at_part w g (inner_part p i) ≡ at_part w g (shared_part p v) + l.place v s = to_inner h rows g (shared_part p v) v s base inner refl in
    let limit = part_limit h rows g (inner_part p i) e laid (inner_is_made h g p c e i made valid class) in
    let low = part_limit h rows g p c laid made in
    let start = at_part w g (whole_in p d) + l.place v s in
    let first : moved (at_part w g p) (l.place v s) ≡ start + l.place d p.at = moved_up (at_part w g p) (l.place v s) (omega arith) ∙ omega arith in
    let last : start + l.place d (shared_base v) ≡ at_part w g (inner_part p i) = omega arith in
    ap (λ a. moved a (word_of distance)) first ∙ (moved_between start (l.place d p.at) (l.place d (shared_base v)) distance leads (omega arith) (omega arith) ∙ last)

base_setting : (w : World) → IsProgramWorld w → (g : Heap) (x : View) (p : ObjectPart) (c d e v : ClassId) (handed : Handed) (of : IsViewOf w g x p c d AsBase handed) (i : Subobject) → IsApart w c i → class_of i ≡ Some e → (path : List ClassId) → i ≡ subobject (Shared v) (v ∷ path) → IsSubobject (world_classes w) v (subobject Whole (v ∷ path))
    → IsSetting w g x of.tabled.number of.tabled.group handed p i (setting_by w.setup AsBase c i (Shared v))
base_setting w world g x p c d e v handed of i apart class path is inner =
    let h = world_classes w in
    let l = places_in w in
    let rows = w.setup.rows in
    let t = of.tabled in
    let root : i.root ≡ Shared v = ap (λ (s : Subobject). s.root) is in
    let has = shared_virtual w world c i v apart.valid root in
    let word = word_point w world g x p c d e v AsBase handed of i apart class root in
    let at_class : class_of x.at_sub ≡ Some x.class = of.of_class ∙ ap (λ (b : ClassId). Some b) (sym of.class) in
    let seen = seen_of w world x t.number t.group t.there t.named at_class in
    let whole_valid : IsSubobject h x.class (whole_of c) = subst (λ (b : ClassId). IsSubobject h b (whole_of c)) (sym of.class) (whole_is [] tt) in
    let sees = seen.sees (whole_of c) c t.point whole_valid refl t.is_point in
    let converts = sees.converts v has.0 in
    let n = vbase_number h l c v in
    let small = vbase_small h rows world.hierarchy world.sound c v (known_class h rows g p c of.laid of.made) has.0 in
    let bytes : word_offset (word_number n) ≡ 18446744073709551616 - 8 * (n + 3) = number_word n (omega arith) in
    let low = point_low w world x (tables_at w t.number t.group) (whole_of c) c t.point refl seen whole_valid refl t.is_point in
    let back : moved t.point (word_offset (word_number n)) ≡ converts.at = ap (moved t.point) bytes ∙ moved_back t.point converts.at (8 * (n + 3)) converts.before (omega arith) (omega arith) in
    let view = of.virtual has.1 in
    let own : place l x (whole_of c) ≡ l.place d p.at = ap (λ (y : View). place l y (whole_of c)) view ∙ ap (l.place d) (join_whole p.at c) in
    let other : place l x (shared_base v) ≡ l.place d (shared_base v) = ap (λ (y : View). place l y (shared_base v)) view in
    let leads : pos (l.place d p.at) +ℤ converts.distance ≡ pos (l.place d (shared_base v)) = ap (λ k. pos k +ℤ converts.distance) (sym own) ∙ (converts.leads ∙ ap pos other) in
    let same_path : l.place v (subobject Whole i.path) ≡ l.place v (subobject Whole (v ∷ path)) = ap (λ (s : Subobject). l.place v (subobject Whole s.path)) is in
    let to = shared_place w world g p c d v path converts.distance of.laid of.made of.whole has.0 inner e (ap class_of (sym is) ∙ class) (subst (λ (s : Subobject). IsSubobject h c s) is apart.valid) leads in
    record {
      first = word.first;
      source = word.source;
      place = place_virtual (fixed w) handed (moved (at_part w g p) (l.place v (subobject Whole i.path))) t.point (word_of converts.distance) (Some (word_number n)) (word_number n) refl (t.first_word refl has.1) (ap (word_at w.image) back ∙ converts.there)
          ∙ ap (λ a. Some a) (ap (λ k. moved (moved (at_part w g p) k) (word_of converts.distance)) same_path ∙ (to ∙ ap (λ (s : Subobject). at_part w g (inner_part p s)) (sym is)));
      is_point = word.is_point;
    }

shared_shape : (w : World) (c v : ClassId) (i : Subobject) → IsSubobject (world_classes w) c i → i.root ≡ Shared v → (path : List ClassId) × (i ≡ subobject (Shared v) (v ∷ path)) × IsSubobject (world_classes w) v (subobject Whole (v ∷ path))
shared_shape w c v _ (whole_is path leads) root = absurd (cc (root))
shared_shape w c v _ (shared u path has leads) root =
    let same : u ≡ v = cc (root) in
    (path, ap (λ (z : ClassId). subobject (Shared z) (z ∷ path)) same, subst (λ (z : ClassId). IsSubobject (world_classes w) z (subobject Whole (z ∷ path))) same (whole_is path leads))

-- each setting of a view
pub setting : (w : World) → IsProgramWorld w → (g : Heap) (x : View) (p : ObjectPart) (c d e : ClassId) (form : Form) (handed : Handed) (of : IsViewOf w g x p c d form handed) (i : Subobject) → IsApart w c i → class_of i ≡ Some e → (root : Root) → i.root ≡ root → IsSetting w g x of.tabled.number of.tabled.group handed p i (setting_by w.setup form c i root)
setting w world g x p c d e form handed of i apart class Whole root = whole_setting w world g x p c d e form handed of i apart class root
setting w world g x p c d e InFull handed of i apart class (Shared v) root = full_setting w world g x p c d e v handed of i apart class root
setting w world g x p c d e AsBase handed of i apart class (Shared v) root = let shape = shared_shape w c v i apart.valid root in base_setting w world g x p c d e v handed of i apart class shape.0 shape.1 shape.2
