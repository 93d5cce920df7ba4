-- What one stage of reading answers, as the answer of the stage before.
use Rattle.std.proofs.Common.{◌≡◌, ℕ, List, Option, Some, None, Result, Ok, Err, sym, ap, subst}
use Rattle.caf_declare.specs.declared.fault.Fault.{Fault}
use Rattle.caf_kinds.specs.Faults.{Answers, Broke, told}
use Rattle.caf_kinds.specs.Units.{meaning}
use Rattle.caf_kinds.specs.declared.fault.KindFault.{KindFault}
use Rattle.caf_kinds.specs.declared.fault.KindFault.TheVariants as kinds
use Rattle.caf_lexer.specs.Tokens.{Answers as Lexes, tokens_of}
use Rattle.caf_lexer.specs.declared.fault.LexFault.{LexFault}
use Rattle.caf_lexer.specs.declared.fault.LexFault.TheVariants as lexical
use Rattle.caf_lexer.specs.declared.token.Token.{Token}
use Rattle.caf_parser.specs.Answer.{SpellsShallow}
use Rattle.caf_program.specs.declared.program.Program.{Program}
use Rattle.caf_tree.specs.declared.unit.Unit.{Unit as Written}
use Rattle.caf_top.specs.Reading.{IsShippable, Reads, SaysIf, told_by}
use Rattle.caf_top.specs.Refusals.{IsWrong, MeansWrong, ShipsWrong, SpellWrong, Told, told_of_kinds, told_of_tokens}
use Rattle.caf_top.specs.Sees.{IsMeant, IsSpelled, Sees}
use Rattle.caf_top.specs.declared.refusal.Refusal.{Refusal}
use Rattle.caf_top.specs.declared.refusal.Stop.{Stop}
use Rattle.caf_top.specs.declared.refusal.Stop.TheVariants as stop

-- what a refusal says is what is told
says : (o : Option Told) (r : Refusal) → SaysIf o (stop.Refused r) → o ≡ Some (told_by r)
says (Some t) r h = ap Some (sym h)
says None r h = absurd h

-- ---- what is meant

pub meant_here : (u : Written) (q : Program) → meaning u ≡ Ok q → (r : Result Program Stop) → Reads (IsShippable q) (ShipsWrong q) r → Reads (IsMeant u) (MeansWrong u) r
meant_here u q is (Ok p) h = subst (IsMeant u) (sym h.0) (record { means = is; ships = h.1 })
meant_here u q is (Err (stop.Refused r)) h = MeansWrong.ships q is h
meant_here u q is (Err stop.Memory) h = h

broke_as : (u : Written) (f : Fault) → meaning u ≡ Err f → (s : Stop) → SaysIf (told_of_kinds (told f)) s → Reads (IsMeant u) (MeansWrong u) (Err s)
broke_as u f is (stop.Refused r) h = MeansWrong.names f is (says (told_of_kinds (told f)) r h)
broke_as u f is stop.Memory h = tt

broke : (u : Written) (k : KindFault) → Broke (meaning u) k → (s : Stop) → SaysIf (told_of_kinds k) s → Reads (IsMeant u) (MeansWrong u) (Err s)
broke u k b s h = broke_as u b.first b.broken s (subst (λ x. SaysIf (told_of_kinds x) s) b.tells h)

wanting : (P : Program → Type 0) (W : Told → Type 0) (s : Stop) → SaysIf None s → Reads P W (Err s)
wanting P W (stop.Refused r) h = absurd h
wanting P W stop.Memory h = tt

pub names_told : (u : Written) (k : KindFault) → Answers (meaning u) (Err k) → (s : Stop) → SaysIf (told_of_kinds k) s → Reads (IsMeant u) (MeansWrong u) (Err s)
names_told u (kinds.Undeclared line name) b s h = broke u (kinds.Undeclared line name) b s h
names_told u (kinds.Twice line name) b s h = broke u (kinds.Twice line name) b s h
names_told u (kinds.WrongKind line name) b s h = broke u (kinds.WrongKind line name) b s h
names_told u (kinds.WrongCount line name) b s h = broke u (kinds.WrongCount line name) b s h
names_told u (kinds.NotCoarray line name) b s h = broke u (kinds.NotCoarray line name) b s h
names_told u (kinds.DoVariable line name) b s h = broke u (kinds.DoVariable line name) b s h
names_told u (kinds.ReadOnly line name) b s h = broke u (kinds.ReadOnly line name) b s h
names_told u (kinds.BadConstant line name) b s h = broke u (kinds.BadConstant line name) b s h
names_told u (kinds.TooManyCells line name) b s h = broke u (kinds.TooManyCells line name) b s h
names_told u kinds.Memory b s h = wanting (IsMeant u) (MeansWrong u) s h

-- ---- what is spelled

pub spelled_here : (ts : List Token) (u : Written) → SpellsShallow ts u → (r : Result Program Stop) → Reads (IsMeant u) (MeansWrong u) r → Reads (IsSpelled ts) (SpellWrong ts) r
spelled_here ts u spells (Ok p) h = record { written = u; spells = spells; meant = h }
spelled_here ts u spells (Err (stop.Refused r)) h = SpellWrong.written u spells h
spelled_here ts u spells (Err stop.Memory) h = h

-- ---- what the bytes hold

held : (bytes : List ℕ) (ts : List Token) → tokens_of bytes ≡ Ok ts → (r : Result Program Stop) → Reads (IsSpelled ts) (SpellWrong ts) r → Reads (Sees bytes) (IsWrong bytes) r
held bytes ts is (Ok p) h = record { tokens = ts; has_tokens = is; spelled = h }
held bytes ts is (Err (stop.Refused r)) h = IsWrong.tokens ts is h
held bytes ts is (Err stop.Memory) h = h

-- where they were handed on as a slice
pub held_here : (bytes : List ℕ) (ts us : List Token) → tokens_of bytes ≡ Ok ts → us ≡ ts → (r : Result Program Stop) → Reads (IsSpelled us) (SpellWrong us) r → Reads (Sees bytes) (IsWrong bytes) r
held_here bytes ts us is same r h = held bytes ts is r (subst (λ x. Reads (IsSpelled x) (SpellWrong x) r) same h)

unlexed : (bytes : List ℕ) (f : LexFault) → tokens_of bytes ≡ Err f → (s : Stop) → SaysIf (told_of_tokens f) s → Reads (Sees bytes) (IsWrong bytes) (Err s)
unlexed bytes f is (stop.Refused r) h = IsWrong.bytes f is (says (told_of_tokens f) r h)
unlexed bytes f is stop.Memory h = tt

pub tokens_told : (bytes : List ℕ) (f : LexFault) → Lexes (Err f) (tokens_of bytes) → (s : Stop) → SaysIf (told_of_tokens f) s → Reads (Sees bytes) (IsWrong bytes) (Err s)
tokens_told bytes (lexical.NotAscii line) is s h = unlexed bytes (lexical.NotAscii line) is s h
tokens_told bytes (lexical.LongLine line) is s h = unlexed bytes (lexical.LongLine line) is s h
tokens_told bytes (lexical.BadToken line) is s h = unlexed bytes (lexical.BadToken line) is s h
tokens_told bytes (lexical.BadNumber line) is s h = unlexed bytes (lexical.BadNumber line) is s h
tokens_told bytes (lexical.OpenContinuation line) is s h = unlexed bytes (lexical.OpenContinuation line) is s h
tokens_told bytes lexical.Memory is s h = wanting (Sees bytes) (IsWrong bytes) s h
