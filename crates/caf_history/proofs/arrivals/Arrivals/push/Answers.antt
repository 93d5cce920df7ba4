use Rattle.std.proofs.Common.{◌≡◌, ◌∙◌, ap, rules, length, [], ◌∷◌, ◌++◌}
use Rattle.caf_history.proofs.Pushed.{arrival_pushed}
use Rattle.caf_history.proofs.arrivals.Arrivals.push.Goals as goal

pub invariant_of-self-2 : goal.invariant_of-self-2
invariant_of-self-2 c =
    let pushed : c.push.new.self.items ≡ c.self.inside.all.items ++ c.args.arrival ∷ [] = search rules in
    let long : c.len-place.result ≡ length c.self.inside.all.items = search rules in
    arrival_pushed c.self.inside.all.items c.push.new.self.items c.args.arrival c.self.inside.index c.add.new.self c.as_slice-path.result.now c.len-place.result pushed c.as_slice-path.ensures long c.in_ok-add.ensures.ok c.self.invariant
