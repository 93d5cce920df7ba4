use Rattle.std.proofs.Common.{sym, ap, ◌∙◌, is_some, refl}
use Rattle.caf_declare.specs.Table.{found, as_bytes}
use Rattle.caf_declare.proofs.Entries.{found_as_bytes, added}
use Rattle.caf_declare.proofs.table.Table.add.Goals as goal

pub returns-then-contains_key : goal.returns-then-contains_key
returns-then-contains_key g c =
    (ap (λ t. is_some (found t c.args.name.now)) (sym c.self.view_is) ∙ ap is_some (found_as_bytes c.self.inside.map.entries c.args.name.now) ∙ sym c.contains_key.ensures ∙ c.if-contains_key.true, refl)

pub returns : goal.returns
returns g c = (
  ap (λ t. is_some (found t c.args.name.now)) (sym c.self.view_is) ∙ ap is_some (found_as_bytes c.self.inside.map.entries c.args.name.now) ∙ sym c.contains_key.ensures ∙ c.if-contains_key.false,
  ap as_bytes c.in_ok-insert.ensures.entries ∙ added c.self.inside.map.entries c.args.self.now c.in_ok-key.key c.args.name.now c.args.item c.self.view_is c.in_ok-key.ensures.ok (sym c.contains_key.ensures ∙ c.if-contains_key.false),
)
