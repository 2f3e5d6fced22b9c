use Rattle.std.proofs.Common.{◌≡◌, ◌<◌, ◌^◌, ℕ, List, length, ap, subst, sym, ◌∙◌}
use Rattle.abi_sound.specs.Places.{places_of}
use Rattle.code_ops.specs.Setups.{setup}
use Rattle.abi_slots.specs.declared.words.Group.{Group}
use Rattle.abi_slots.specs.declared.words.TypeInfo.{TypeInfo}
use Rattle.abi_slots.specs.declared.words.VttWord.{VttWord}
use Rattle.abi_image.specs.Conditions.{HaveOwnNames, AllNameTables, AreKnownGroups, AreKnownInfos, words_in_image}
use Rattle.agree_events.proofs.Names.{one_group}
use Rattle.abi_world.specs.Made.{AreAllTables}
use Rattle.abi_world.proofs.Named.{all_vtts_name}
use Rattle.abi_world.proofs.Known.{groups_fine}
use Rattle.abi_world.proofs.ImageWords.{few_words}
use Rattle.abi_world.proofs.Infos.{infos_known}
use Rattle.abi_world.proofs.image.program_image.Goals as goal

pub encode-requires-clause-items : goal.encode-requires-clause-items
encode-requires-clause-items g c =
    let made = c.in_ok-tables.ensures in
    ap length c.deref-2.ensures.value ∙ ((made.one_vtt_each ∙ sym made.one_info_each) ∙ sym (ap length c.deref-3.ensures.value))

pub encode-requires-clause-names : goal.encode-requires-clause-names
encode-requires-clause-names g c =
    let tables = c.in_ok-tables.tables in
    subst (λ (gs : List Group). HaveOwnNames gs) (sym c.deref.ensures.value) (one_group c.args.h.now (places_of c.args.h.now (g.L.SoundLayout.rows c.args.layout.now)) c.keeps.ensures tables.groups.items c.in_ok-tables.ensures.groups_are)

pub encode-requires-clause-tables : goal.encode-requires-clause-tables
encode-requires-clause-tables g c =
    let tables = c.in_ok-tables.tables in
    let all = all_vtts_name c.args.h.now (places_of c.args.h.now (g.L.SoundLayout.rows c.args.layout.now)) tables.groups.items tables.vtts.items tables.infos.items c.in_ok-tables.ensures in
    subst (λ (gs : List Group). AllNameTables gs c.deref-2.result.now) (sym c.deref.ensures.value) (subst (λ (vs : List (List VttWord)). AllNameTables tables.groups.items vs) (sym c.deref-2.ensures.value) all)

pub encode-requires-clause-groups : goal.encode-requires-clause-groups
encode-requires-clause-groups g c =
    let x = setup c.args.h.now (g.L.SoundLayout.rows c.args.layout.now) c.args.program.now in
    let tables = c.in_ok-tables.tables in
    let size : length c.deref-3.result.now ≡ length c.args.h.now = ap length c.deref-3.ensures.value ∙ c.in_ok-tables.ensures.one_info_each in
    let all = groups_fine x c.args.numbers.now c.keeps.ensures c.requires.typed c.requires.numbered tables.groups.items c.in_ok-tables.ensures.groups_are in
    subst (λ (n : ℕ). AreKnownGroups c.args.numbers.now n c.deref.result.now) (sym size) (subst (λ (gs : List Group). AreKnownGroups c.args.numbers.now (length c.args.h.now) gs) (sym c.deref.ensures.value) all)

pub encode-requires-clause-infos : goal.encode-requires-clause-infos
encode-requires-clause-infos g c =
    let tables = c.in_ok-tables.tables in
    let made = c.in_ok-tables.ensures in
    let all = infos_known c.args.h.now (places_of c.args.h.now (g.L.SoundLayout.rows c.args.layout.now)) c.keeps.ensures tables.infos.items made.one_info_each made.infos_are in
    subst (λ (is : List TypeInfo). AreKnownInfos (length is) is) (sym c.deref-3.ensures.value) all

pub encode-requires-clause-few : goal.encode-requires-clause-few
encode-requires-clause-few g c =
    let l = places_of c.args.h.now (g.L.SoundLayout.rows c.args.layout.now) in
    let tables = c.in_ok-tables.tables in
    let all = few_words c.args.h.now l c.keeps.ensures tables.groups.items tables.vtts.items tables.infos.items c.in_ok-tables.ensures c.requires.words in
    subst (λ (gs : List Group). words_in_image gs c.deref-2.result.now c.deref-3.result.now < 2 ^ 32) (sym c.deref.ensures.value)
    (subst (λ (vs : List (List VttWord)). words_in_image tables.groups.items vs c.deref-3.result.now < 2 ^ 32) (sym c.deref-2.ensures.value)
    (subst (λ (is : List TypeInfo). words_in_image tables.groups.items tables.vtts.items is < 2 ^ 32) (sym c.deref-3.ensures.value) all))

pub returns : goal.returns
returns g c =
    let tables = c.in_ok-tables.tables in
    let image = c.in_ok-image.image in
    let l = places_of c.args.h.now (g.L.SoundLayout.rows c.args.layout.now) in
    let is = c.in_ok-image.ensures in
    record {
      groups = c.deref.result.now;
      vtts = c.deref-2.result.now;
      infos = c.deref-3.result.now;
      addresses = is.addresses;
      tables =
          subst (λ (gs : List Group). AreAllTables c.args.h.now l gs c.deref-2.result.now c.deref-3.result.now) (sym c.deref.ensures.value)
          (subst (λ (vs : List (List VttWord)). AreAllTables c.args.h.now l tables.groups.items vs c.deref-3.result.now) (sym c.deref-2.ensures.value)
          (subst (λ (is : List TypeInfo). AreAllTables c.args.h.now l tables.groups.items tables.vtts.items is) (sym c.deref-3.ensures.value) c.in_ok-tables.ensures));
      stand = is.tables;
      small = is.small;
    }
