-- Tokens spell at most one unit.
use Rattle.std.proofs.Common.{◌≡◌, ℕ, ◌+◌, ◌≤◌, List, [], Result, Ok, Err, ap, sym, ◌∙◌, subst, refl, arith}
use Rattle.caf_lexer.specs.declared.token.Token.{Token}
use Rattle.caf_tree.specs.declared.unit.Unit.{Unit as Program}
use Rattle.caf_tree.specs.Units.{UnitForm, SpellsWithin, Spells}
use Rattle.caf_exprparse.specs.Reading.{Refusal, Syntax, Deep, Outcome}
use Rattle.caf_exprparse.proofs.Good.{Fits, Good}
use Rattle.caf_exprparse.proofs.OneToken.{any}
use Rattle.caf_parser.specs.Reader.{unit_in}
use Rattle.caf_parser.proofs.Whole.{good_at}

-- where a unit is spelled to a depth, the reader to this depth or a greater one answers it
read_to : (u : Program) (r : Outcome Program) (G : Type 0) → G → Fits G any u [] r → r ≡ Ok (u, [])
read_to u (Ok p) G g f = let k = f.1 tt in ap (λ (x : Program). Ok (x, p.1)) k.0 ∙ ap (λ us. Ok (u, us)) k.1
read_to u (Err Deep) G g f = absurd (f g tt)
read_to u (Err Syntax) G g f = absurd f

read_at : (n m : ℕ) → m ≤ n → (ts : List Token) (u : Program) → SpellsWithin m ts u → unit_in n ts ≡ Ok (u, [])
read_at n m le ts u h = read_to u (unit_in n ts) (m ≤ n) le ((good_at n m).fits u ts [] h)

same_unit : {u v : Program} → ◌≡◌ {A = Outcome Program} (Ok (u, [])) (Ok (v, [])) → u ≡ v
same_unit {u} {v} e = let k : ◌≡◌ {A = Program × List Token} (u, []) (v, []) = cc in ap (λ (p : Program × List Token). p.0) k

pub one_unit : (ts : List Token) (u v : Program) → Spells ts u → Spells ts v → u ≡ v
one_unit ts u v h k = same_unit (sym (read_at (h.0 + k.0) h.0 (omega arith) ts u h.1) ∙ read_at (h.0 + k.0) k.0 (omega arith) ts v k.1)
