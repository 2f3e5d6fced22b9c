use Rattle.std.proofs.Common.{refl}
use Rattle.byte_shadow.specs.Meaning.{shadow_place}
use Rattle.byte_shadow.proofs.MapLemmas.{list_found, wide_found, put-wide, unlisted}
use Rattle.byte_shadow.proofs.note_map.NoteMap.insert.Goals as goal

pub returns-clause-ok : goal.returns-clause-ok
returns-clause-ok c =
    let old = c.args.self.now in
    let none = unlisted (list_found old c.args.at c.args.class) (wide_found old c.args.at c.args.class) c.requires in
    put-wide old (record { list = old.list; wide = c.insert-2.new.self; changed = old.changed; viewed = old.viewed }) c.args.at c.args.class c.args.note none refl (λ a d. c.in_ok-insert-2.ensures.updates.0 (shadow_place a d))
