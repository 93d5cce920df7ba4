use Rattle.std.proofs.Common.{sym, ap, ◌∙◌}
use Rattle.caf_declare.specs.Table.{found}
use Rattle.caf_declare.proofs.Entries.{found_as_bytes}
use Rattle.caf_declare.proofs.table.Table.look.Goals as goal

pub returns : goal.returns
returns g c = c.copied.ensures ∙ c.get.ensures.value ∙ sym (found_as_bytes c.self.inside.map.entries c.args.name.now) ∙ ap (λ t. found t c.args.name.now) c.self.view_is
