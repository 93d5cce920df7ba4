use Rattle.std.proofs.Common.{sym, ◌∙◌, refl, ap}
use Rattle.caf_finish.specs.declared.rank_state.RankState.{RankState}
use Rattle.caf_finish.specs.Events.{wave_of}
use Rattle.caf_finish.proofs.Allowed.{state-found, take, and-first, and-not}
use Rattle.caf_finish.proofs.ledger.Ledger.may_take.Goals as goal

pub returns-then-not-state : goal.returns-then-not-state
returns-then-not-state g c =
    let n = state-found g.h c.args.self.now c.requires c.args.message c.in-Some.state (sym c.message.ensures ∙ c.in-Some.is) in
    let wave = ap (λ (s : RankState). s.wave) (c.rank.ensures ∙ c.requires.ranks c.in-Some.state.target) in
    take g.h c.args.message c.in-Some.state c.rank.result.wave _ n wave (and-first _ _ c.if-not-state.true)

pub returns-else-not-state : goal.returns-else-not-state
returns-else-not-state g c =
    let n = state-found g.h c.args.self.now c.requires c.args.message c.in-Some.state (sym c.message.ensures ∙ c.in-Some.is) in
    take g.h c.args.message c.in-Some.state (wave_of g.h c.in-Some.state.target) _ n refl (and-not _ _ c.if-not-state.false)
