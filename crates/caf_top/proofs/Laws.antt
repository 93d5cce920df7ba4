-- A text means one program, and one of which a fault can be told means none.
use Rattle.std.proofs.Common.{◌≡◌, ℕ, List, Some, Result, Ok, Err, subst}
use Rattle.caf_lexer.specs.Tokens.{tokens_of}
use Rattle.caf_lexer.specs.declared.token.Token.{Token}
use Rattle.caf_kinds.specs.Units.{Means, meaning}
use Rattle.caf_program.specs.Ships.{KeepsShips}
use Rattle.caf_program.specs.declared.program.Program.{Program}
use Rattle.caf_teamcheck.specs.Faults.{Breaks, IsMemory}
use Rattle.caf_teamcheck.specs.declared.fault.ShipFault.{ShipFault}
use Rattle.caf_teamcheck.specs.declared.fault.ShipFault.TheVariants as ship
use Rattle.caf_tree.specs.Units.{Spells}
use Rattle.caf_tree.specs.declared.unit.Unit.{Unit as Written}
use Rattle.caf_top.specs.Refusals.{IsWrong, MeansWrong, ShipsWrong, SpellWrong, Told, told_of_ships}
use Rattle.caf_top.specs.Sees.{IsMeant, IsSpelled, Sees}

-- what the crates below prove
abbrev pub OneUnit : Type 0
OneUnit = (tokens : List Token) (one other : Written) → Spells tokens one → Spells tokens other → one ≡ other

abbrev pub OneMeaning : Type 0
OneMeaning = (u : Written) (p q : Program) → Means u p → Means u q → p ≡ q

abbrev pub Broken : Type 0
Broken = (p : Program) (f : ShipFault) → Breaks p f → (IsMemory f → ⊥) → KeepsShips p → ⊥

one_value : {A E : Type 0} (r : Result A E) (x y : A) → r ≡ Ok x → r ≡ Ok y → x ≡ y
one_value (Ok z) x y e f = cc
one_value (Err z) x y e f = cc

not_both : {A E : Type 0} (r : Result A E) (x : A) (y : E) → r ≡ Ok x → r ≡ Err y → ⊥
not_both (Ok z) x y e f = cc
not_both (Err z) x y e f = cc

one_spelled : OneUnit → OneMeaning → (ts : List Token) (p q : Program) → IsSpelled ts p → IsSpelled ts q → p ≡ q
one_spelled unit means ts p q a b =
    let same : a.written ≡ b.written = unit ts a.written b.written a.spells.0 b.spells.0 in
    means b.written p q (subst (λ u. Means u p) same a.meant.means) b.meant.means

pub one_program : OneUnit → OneMeaning → (bytes : List ℕ) (p q : Program) → Sees bytes p → Sees bytes q → p ≡ q
one_program unit means bytes p q a b =
    let same : a.tokens ≡ b.tokens = one_value (tokens_of bytes) a.tokens b.tokens a.has_tokens b.has_tokens in
    one_spelled unit means b.tokens p q (subst (λ ts. IsSpelled ts p) same a.spelled) b.spelled

no_memory : (f : ShipFault) (told : Told) → told_of_ships f ≡ Some told → IsMemory f → ⊥
no_memory (ship.CollectiveInShip line name) told e m = m
no_memory (ship.InoutInShip line name) told e m = m
no_memory ship.Memory told e m = cc

not_shipped : Broken → (p : Program) (told : Told) → ShipsWrong p told → KeepsShips p → ⊥
not_shipped broken p told w keeps = broken p w.fault w.broken (no_memory w.fault told w.tells) keeps

not_meant : OneMeaning → Broken → (u : Written) (told : Told) (p : Program) → MeansWrong u told → IsMeant u p → ⊥
not_meant means broken u told p (MeansWrong.names f is tells) m = not_both (meaning u) p f m.means is
not_meant means broken u told p (MeansWrong.ships q is wrong) m =
    not_shipped broken q told wrong (subst KeepsShips (means u p q m.means is) m.ships)

not_spelled : OneUnit → OneMeaning → Broken → (ts : List Token) (told : Told) (p : Program) → SpellWrong ts told → IsSpelled ts p → ⊥
not_spelled unit means broken ts told p (SpellWrong.syntax none word) s = none s.written s.spells.0
not_spelled unit means broken ts told p (SpellWrong.deep many none word) s = none s.written s.spells
not_spelled unit means broken ts told p (SpellWrong.written u spells wrong) s =
    let same : s.written ≡ u = unit ts s.written u s.spells.0 spells.0 in
    not_meant means broken u told p wrong (subst (λ v. IsMeant v p) same s.meant)

pub no_program : OneUnit → OneMeaning → Broken → (bytes : List ℕ) (told : Told) (p : Program) → IsWrong bytes told → Sees bytes p → ⊥
no_program unit means broken bytes told p (IsWrong.bytes f is tells) s = not_both (tokens_of bytes) s.tokens f s.has_tokens is
no_program unit means broken bytes told p (IsWrong.tokens ts has wrong) s =
    let same : s.tokens ≡ ts = one_value (tokens_of bytes) s.tokens ts s.has_tokens has in
    not_spelled unit means broken ts told p wrong (subst (λ t. IsSpelled t p) same s.spelled)
