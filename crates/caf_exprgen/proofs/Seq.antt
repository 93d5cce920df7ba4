-- Instructions one after another.
use Rattle.std.proofs.Common.{◌≡◌, List, [], ◌++◌, append_assoc, append-nil, ap, sym, ◌∙◌}
use Rattle.caf_code.specs.declared.instr.Instr.{Instr}
use Rattle.caf_exprgen.specs.Placed.{Begins}

pub append_three : (a b c : List Instr) → (a ++ b) ++ c ≡ a ++ (b ++ c)
append_three a b c = append_assoc a b c

pub begins_same : (a b : List Instr) → b ≡ a → Begins a b
begins_same a b e = record { rest = []; is = e ∙ sym (append-nil a) }

pub begins_more : (a b c : List Instr) → b ≡ a ++ c → Begins a b
begins_more a b c e = record { rest = c; is = e }

pub begins_on : (a b c : List Instr) → Begins a b → Begins b c → Begins a c
begins_on a b c g h = record { rest = g.rest ++ h.rest; is = h.is ∙ ap (λ l. l ++ h.rest) g.is ∙ append_assoc a g.rest h.rest }
