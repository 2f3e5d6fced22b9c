-- Constructors and destructors of two states that differ in notes alone.
use Rattle.std.proofs.Common.{ℕ, zero, suc, Bool, true, false, Option, Some, None}
use Rattle.std.specs.Prelude.{find, ◌&&◌}
use Rattle.byte_memory.specs.declared.memory.Region.{Region}
use Rattle.byte_memory.specs.Regions.{starts}
use Rattle.byte_memory.specs.Store.{close_of}
use Rattle.byte_code.specs.declared.op.Opening.{Opening}
use Rattle.byte_code.specs.declared.op.Setting.{Setting}
use Rattle.byte_code.specs.declared.op.Phase.{Phase}
use Rattle.byte_shadow.specs.Shadows.{Notes, noted_raw, phased, viewed}
use Rattle.byte_machine.specs.declared.frames.Handed.{Handed}
use Rattle.byte_machine.specs.Heap.{object_at}
use Rattle.byte_machine.specs.Running.{Fixed, Running, Effect, moved}
use Rattle.byte_machine.specs.Calls.{opening}
use Rattle.byte_machine.specs.Plans.{handed_to, part_frame, part_opened_by, part_opened, source_word, place_through, table_set, with_notes, where_noted, unnoted, part_begun, region_closed, is_ended, is_heap_object, closed_if, part_phased, view_set}
use Rattle.byte_laws.proofs.Alike.{Past, past, still, Alike, goes, stuck_left, stuck_right, stuck_both}
use Rattle.byte_laws.proofs.SameTests.{if_alike, with_word_alike}
use Rattle.byte_laws.proofs.SameValues.{with_memory_alike}

opened_by_alike : (f : Fixed) (s : Running) (n : Notes) (how : Opening) (this again : ℕ) (handed : Option Handed) → Alike (past s) (part_opened_by f s how this again handed) (part_opened_by f (with_notes s n) how this again handed)
opened_by_alike f s n how this again None = stuck_both
opened_by_alike f s n how this again (Some handed) = goes (opening (part_frame f how (moved this how.place) again handed) s) n still

pub part_opened_alike : (f : Fixed) (s : Running) (n : Notes) (how : Opening) (count this : ℕ) → Alike (past s) (part_opened f s how count this) (part_opened f (with_notes s n) how count this)
part_opened_alike f s n how zero this = goes s n still
part_opened_alike f s n how (suc again) this = opened_by_alike f s n how this again (handed_to f s.top.handed this how.hand)

pub table_set_alike : (f : Fixed) (s : Running) (n : Notes) (how : Setting) (this : ℕ) → Alike (past s) (table_set f s how this) (table_set f (with_notes s n) how this)
table_set_alike f s n how this = with_word_alike (source_word f s.top.handed how.source) (λ point. with_word_alike (place_through f s.top.handed (moved this how.place) how.through) (λ at. with_memory_alike s n _ _))

-- an entry may be there in one of both alone
noted_alike : {was : Past} (phase phase' : Option Phase) {next next' : Effect} → Alike was next next' → Alike was (where_noted phase next) (where_noted phase' next')
noted_alike None None h = stuck_both
noted_alike None (Some phase') h = stuck_left h
noted_alike (Some phase) None h = stuck_right h
noted_alike (Some phase) (Some phase') h = h

unnoted_alike : {was : Past} (phase phase' : Option Phase) {next next' : Effect} → Alike was next next' → Alike was (unnoted phase next) (unnoted phase' next')
unnoted_alike None None h = h
unnoted_alike None (Some phase') h = stuck_right h
unnoted_alike (Some phase) None h = stuck_left h
unnoted_alike (Some phase) (Some phase') h = stuck_both

pub part_begun_alike : (s : Running) (n : Notes) (class : ℕ) (owner : ℕ × ℕ) (this : ℕ) → Alike (past s) (part_begun s class owner this) (part_begun (with_notes s n) class owner this)
part_begun_alike s n class owner this = unnoted_alike _ _ (goes (with_notes s (noted_raw s.notes this class owner.0 owner.1)) (noted_raw n this class owner.0 owner.1) still)

region_closed_alike : (s : Running) (n : Notes) (at : ℕ) (region : Option Region) → Alike (past s) (region_closed s at region) (region_closed (with_notes s n) at region)
region_closed_alike s n at None = stuck_both
region_closed_alike s n at (Some region) = if_alike region.is_open (goes (record s { memory = close_of s.memory at region.size }) n still) stuck_both

closed_if_alike : (s : Running) (n : Notes) (b : Bool) (at : ℕ) → Alike (past s) (closed_if b s at) (closed_if b (with_notes s n) at)
closed_if_alike s n false at = goes s n still
closed_if_alike s n true at = region_closed_alike s n at (find (starts at) s.memory.regions)

pub part_phased_alike : (s : Running) (n : Notes) (class : ℕ) (phase : Phase) (this : ℕ) → Alike (past s) (part_phased s class phase this) (part_phased (with_notes s n) class phase this)
part_phased_alike s n class phase this = noted_alike _ _ (closed_if_alike (with_notes s (phased s.notes this class phase)) (phased n this class phase) (is_ended phase && is_heap_object this class (object_at s.objects this)) this)

pub view_set_alike : (s : Running) (n : Notes) (owner : ℕ × ℕ) (at class : ℕ) → Alike (past s) (view_set s owner at class) (view_set (with_notes s n) owner at class)
view_set_alike s n owner at class = noted_alike _ _ (goes (with_notes s (viewed s.notes owner.0 owner.1 at class)) (viewed n owner.0 owner.1 at class) still)
