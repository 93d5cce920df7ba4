use Rattle.std.proofs.Common.{◌≡◌, sym, ◌∙◌, ap, count_by, length, arith}
use Rattle.std.specs.Vec.{with_items}
use Rattle.std.proofs.lemmas.List.{with_items_is}
use Rattle.caf_reduce.specs.Sum.{missing_in, is_inside, sum_of, emptied}
use Rattle.caf_reduce.proofs.Parts.{missing-emptied, inside-emptied, sum_of-emptied}
use Rattle.caf_reduce.proofs.summer.Summer.reset.Goals as goal

pub invariant_of-self : goal.invariant_of-self
invariant_of-self c =
    let before = c.self.inside.parts.items in
    let long : length c.empty.new.parts ≡ c.self.inside.parts.len = omega arith in
    let after : (with_items c.self.inside.parts c.empty.new.parts).items ≡ emptied before =
    with_items_is c.self.inside.parts c.empty.new.parts long ∙ c.empty.ensures ∙ ap emptied c.as_mut_slice.ensures.value in
    record {
      all = c.self.invariant.all ∙ sym (ap (λ ps. count_by is_inside ps) after ∙ inside-emptied before);
      missing = c.self.invariant.all ∙ sym (ap (λ ps. missing_in ps) after ∙ missing-emptied before);
      sum = sym (ap sum_of after ∙ sum_of-emptied before);
    }
