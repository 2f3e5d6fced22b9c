use Rattle.std.proofs.Common.{◌∙◌}
use Rattle.cxx_expression.specs.declared.known.KnownName.{KnownName}
use Rattle.cxx_expression.proofs.Knowing.{name_kept}
use Rattle.cxx_expression.proofs.known.Known.keep_name.Goals as goal

pub returns : goal.returns
returns c =
    let name : KnownName = record { name = c.from_vec-name.result; looked = c.args.looked } in
    λ h means knows. name_kept h c.args.self.now c.put_name.new.self c.key_of.result c.args.c c.unwrap_or-number.result c.args.name.now name c.key_of.ensures (c.from_vec-name.ensures ∙ c.in_ok-from_slice.ensures.items)
    c.in_ok-put_name.ensures.put c.in_ok-put_name.ensures.bases c.in_ok-put_name.ensures.polymorphic means knows
