use Rattle.std.proofs.Common.{count_by, map, length, arith, sym, ◌∙◌, ap, zero-add, ◌++◌, ◌∷◌, []}
use Rattle.std.specs.List.{range_with_len}
use Rattle.std.proofs.lemmas.List.Sums.{count_by-le-length}
use Rattle.std.proofs.lemmas.List.FromFn.{map-range_with_len_more, length-map-range_with_len}
use Rattle.caf_reduce.specs.Tree.{first_part}
use Rattle.caf_reduce.specs.Sum.{is_missing, is_inside, missing_in, sum_of}
use Rattle.caf_reduce.proofs.Parts.{bit-le-1, missing-push, sum_of-first, inside-first}
use Rattle.caf_reduce.proofs.summer.Summer.new.Goals as goal

pub overflow_add-all : goal.overflow_add-all
overflow_add-all c =
    let parts = c.loop-from.parts.items in
    let long = ap length c.loop-from.invariant.parts ∙ length-map-range_with_len (first_part c.args.size c.args.rank) 0 c.loop-from.from in
    omega (arith, count_by-le-length is_missing parts, c.loop-from.invariant.all, long, c.count-all.ensures, bit-le-1 (is_missing c.first_part-part.result))

pub loop-from-preserved : goal.loop-from-preserved
loop-from-preserved c =
    let pushed = c.in_ok-push.ensures.items in
    let part = c.first_part-part.result in
    let first = first_part c.args.size c.args.rank in
    record {
      parts =
          pushed ∙ ap (λ ps. ps ++ part ∷ []) c.loop-from.invariant.parts ∙ ap (λ p. map first (range_with_len 0 c.loop-from.from) ++ p ∷ []) c.first_part-part.ensures ∙ sym (map-range_with_len_more first 0 c.loop-from.from c.loop-from.from (zero-add _));
      all = omega (arith, ap missing_in pushed, missing-push c.loop-from.parts.items part, c.loop-from.invariant.all, c.count-all.ensures);
    }

pub invariant_of-result : goal.invariant_of-result
invariant_of-result c =
    let parts = c.loop-from.invariant.parts in
    let size = c.args.size in
    let rank = c.args.rank in
    let ranks = range_with_len 0 c.loop-from.from in
    record {
      all = omega (arith, c.loop-from.invariant.all, ap (λ ps. missing_in ps) parts, ap (λ ps. count_by is_inside ps) parts, inside-first size rank ranks);
      missing = c.loop-from.invariant.all;
      sum = sym (ap sum_of parts ∙ sum_of-first size rank ranks);
    }
