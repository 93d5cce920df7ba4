-- A turn of a loop that reads one after another, where what it reads is too deep.
use Rattle.std.proofs.Common.{◌≡◌, ℕ, suc, ◌+◌, ◌-◌, ◌<◌, List, Option, Some, None, Result, Ok, Err, refl, ap, ◌∙◌, arith}
use Rattle.caf_lexer.specs.declared.token.Token.{Token}
use Rattle.caf_exprparse.specs.declared.fault.ParseFault.{ParseFault}
use Rattle.caf_exprparse.specs.declared.fault.ParseFault.TheVariants as fault
use Rattle.caf_exprparse.specs.Reading.{Refusal, Syntax, Deep, Outcome, Reader, many_from, more_from}
use Rattle.caf_exprparse.specs.Reads.{kind_of}
use Rattle.caf_exprparse.proofs.Fallback.{with_front}

halts_deep : {A : Type 0} (p : Reader A) (found : List A) (n at : ℕ) (ts : List Token) (x : Outcome (List A)) → at < n → x ≡ with_front found (many_from p (n - at) ts) → p ts ≡ Err Deep → x ≡ Err Deep
halts_deep p found n at ts x h e f =
    let k : n - at ≡ suc (n - (at + 1)) = omega arith in
    e ∙ ap (λ m. with_front found (many_from p m ts)) k ∙ ap (λ r. with_front found (more_from ts r (many_from p (n - (at + 1))))) f

-- whether a fault is one of the syntax
abbrev pub of_syntax : ParseFault → Type 0
of_syntax (fault.Syntax line) = Unit {0}
of_syntax _ = ⊥

pub halts : {A : Type 0} (p : Reader A) (found : List A) (n at : ℕ) (ts : List Token) (x : Outcome (List A)) → at < n → x ≡ with_front found (many_from p (n - at) ts)
    → (f : ParseFault) → (of_syntax f → ⊥) → ((r : Refusal) → kind_of f ≡ Some r → p ts ≡ Err r) → (r : Refusal) → kind_of f ≡ Some r → x ≡ Err r
halts p found n at ts x h e (fault.Syntax line) other g r k = absurd (other tt)
halts p found n at ts x h e (fault.Deep line) other g Deep k = halts_deep p found n at ts x h e (g Deep k)
halts p found n at ts x h e (fault.Deep line) other g Syntax k = absurd (let w : ◌≡◌ {A = Refusal} Deep Syntax = cc in cc)
halts p found n at ts x h e fault.Memory other g r k = absurd (let w : ◌≡◌ {A = Option Refusal} None (Some r) = k in cc)
