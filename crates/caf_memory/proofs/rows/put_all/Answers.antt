use Rattle.std.proofs.Common.{◌∙◌, ap, arith, length, List, ℤ, []}
use Rattle.std.proofs.lemmas.List.{get_or_default}
use Rattle.std.proofs.Math.Seq.{map-set_same}
use Rattle.caf_memory.proofs.Spliced.{length-spliced}
use Rattle.caf_memory.proofs.rows.put_all.Goals as goal

pub returns-clause-lengths : goal.returns-clause-lengths
returns-clause-lengths c =
    let rows = c.args.cells.now.items in
    let object = c.args.object in
    let row = c.index_mut-row.result.now in
    let value = c.index_mut-row.ensures.value in
    let same = get_or_default rows object row [] c.requires.object in
    let long = length-spliced row c.args.at c.args.values.now (omega (arith, ap length value, ap length same)) in
    map-set_same (λ (r : List ℤ). length r) rows object c.overwrite.new.row row (ap length c.overwrite.ensures ∙ long ∙ ap length value)
