use Rattle.std.proofs.Common.{◌∙◌, sym, arith, drop, length, ap, ◌+◌, get_or, pos, w64, SFits, rules}
use Rattle.std.proofs.lemmas.Int.{to_z-of_z}
use Rattle.std.proofs.lemmas.List.{length-set}
use Rattle.caf_base.specs.Sections.{spliced}
use Rattle.caf_memory.proofs.Spliced.{spliced-turn}
use Rattle.caf_memory.proofs.rows.overwrite.Goals as goal

pub loop-place-preserved : goal.loop-place-preserved
loop-place-preserved c =
    let at = c.args.at in
    let place = c.loop-place.place in
    let values = c.args.values.now in
    let fits : SFits w64 (get_or values place (pos 0)) = search rules in
    let put = simp to_z-of_z at c.set.ensures in
    record {
      left = ap (λ row. spliced row (at + (place + 1)) (drop (place + 1) values)) put ∙ sym (spliced-turn c.loop-place.row at place values (pos 0) c.loop-place-test.true (omega arith)) ∙ c.loop-place.invariant.left;
      length = ap length put ∙ length-set c.loop-place.row (at + place) (get_or values place (pos 0)) ∙ c.loop-place.invariant.length;
    }
