use Rattle.std.proofs.Common.{◌≡◌, ◌∙◌, ap, rules, length, [], ◌∷◌, ◌++◌, refl}
use Rattle.std.specs.Prelude.{not, nat_eq}
use Rattle.caf_history.proofs.Pushed.{finish_pushed}
use Rattle.caf_history.proofs.finishes.FinishesLeft.push.Goals as goal

pub invariant_of-self-2 : goal.invariant_of-self-2
invariant_of-self-2 c =
    let pushed : c.push.new.self.items ≡ c.self.inside.all.items ++ c.args.finish ∷ [] = search rules in
    let long : c.len-place.result ≡ length c.self.inside.all.items = search rules in
    finish_pushed c.self.inside.all.items c.push.new.self.items c.args.finish c.self.inside.index c.add.new.self c.as_slice-path.result.now (not (nat_eq c.args.finish.number 0)) c.len-place.result pushed c.as_slice-path.ensures refl long c.in_ok-add.ensures.ok c.self.invariant
