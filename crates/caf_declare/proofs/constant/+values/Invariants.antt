use Rattle.std.proofs.Common.{◌≡◌, drop, map}
use Rattle.caf_declare.specs.Constants.{chained, worth_of, known_in}
use Rattle.caf_declare.proofs.constant.+values.Given as goal

-- what is so far, and what is left
abbrev pub invariant-chained-loop-operator : goal.invariant-chained-loop-operator
invariant-chained-loop-operator l =
    chained l.at.line l.at.item.now l.fn.first (map (λ p. (p.0, worth_of (known_in l.at) l.at.line l.at.item.now p.1)) l.others)
    ≡ chained l.at.line l.at.item.now l.so_far (map (λ p. (p.0, worth_of (known_in l.at) l.at.line l.at.item.now p.1)) (drop l.operator-index l.others))
