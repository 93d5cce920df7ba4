-- The code of each form of expression that is made of several pieces.
use Rattle.std.proofs.Common.{◌≡◌, ℕ, suc, ◌+◌, ◌<◌, List, [], ◌∷◌, ◌++◌, length, drop, drop-cons, get_or, sym, ap, ◌∙◌, arith, append_assoc, append-nil, refl}
use Rattle.caf_base.specs.declared.arithmetic.BinaryOperator.{BinaryOperator}
use Rattle.caf_base.specs.declared.arithmetic.UnaryOperator.{UnaryOperator}
use Rattle.caf_program.specs.declared.expr.ExprR.{ExprR}
use Rattle.caf_program.specs.declared.expr.ExprR.TheOpen.{ExprR-F}
use Rattle.caf_program.specs.declared.expr.ExprR.TheFolds.{fold-roll-ExprR}
use Rattle.caf_program.specs.declared.expr.ExprR.TheVariants.{Chain, Coindexed, Element, Pointed, Unary, rolls-Chain, rolls-Coindexed, rolls-Element, rolls-Pointed, rolls-Unary}
use Rattle.caf_program.specs.declared.expr.PlaceR.{PlaceR}
use Rattle.caf_program.specs.Value.{count}
use Rattle.caf_code.specs.Numbers.{unary_instr}
use Rattle.caf_code.specs.declared.instr.Instr.{Instr}
use Rattle.caf_code.specs.declared.instr.Instr.TheVariants as instr
use Rattle.caf_code.specs.declared.instr.Reach.TheVariants as reach
use Rattle.caf_exprgen.specs.ExprCode.{Coded, asked_at, asked_behind, chain_code, chain_reads, code_layer, coded, coded_counts, coded_operands, expr_code, joined, reads_code}
use Rattle.caf_exprgen.proofs.Gives.{coded_count}

coded_Element : (o : ℕ) (i : ExprR) → coded (Element o i) ≡ record { count = (coded i).count; code = λ at. expr_code i at ++ instr.Load reach.Element o ∷ []; reads = reads_code i }
coded_Element o i = ap coded (sym (rolls-Element o i)) ∙ fold-roll-ExprR Coded code_layer (ExprR-F.Element o i)

coded_Unary : (w : UnaryOperator) (a : ExprR) → coded (Unary w a) ≡ record { count = (coded a).count; code = λ at. expr_code a at ++ unary_instr w ∷ []; reads = reads_code a }
coded_Unary w a = ap coded (sym (rolls-Unary w a)) ∙ fold-roll-ExprR Coded code_layer (ExprR-F.Unary w a)

coded_Coindexed : (o : ℕ) (i : ExprR) (p : PlaceR ExprR)
    → coded (Coindexed o i p) ≡ record {
      count = (coded i).count + (coded p.rank).count + 1;
      code = λ at. instr.Held (at + (coded i).count + (coded p.rank).count) ∷ [];
      reads = λ at. reads_code i at ++ (reads_code p.rank (at + (coded i).count) ++ (asked_at o p.team (coded i) (coded p.rank) at ∷ []));
    }
coded_Coindexed o i p = ap coded (sym (rolls-Coindexed o i p)) ∙ fold-roll-ExprR Coded code_layer (ExprR-F.Coindexed o i p)

coded_Pointed : (c : ℕ) (i : ExprR) → coded (Pointed c i) ≡ record { count = (coded i).count + 1; code = λ at. instr.Held (at + (coded i).count) ∷ []; reads = λ at. reads_code i at ++ (asked_behind c (coded i) at ∷ []) }
coded_Pointed c i = ap coded (sym (rolls-Pointed c i)) ∙ fold-roll-ExprR Coded code_layer (ExprR-F.Pointed c i)

coded_Chain : (a : ExprR) (rest : List (BinaryOperator × ExprR))
    → coded (Chain a rest) ≡ record {
      count = (coded a).count + coded_counts (coded_operands rest);
      code = λ at. expr_code a at ++ chain_code (coded_operands rest) (at + (coded a).count);
      reads = λ at. reads_code a at ++ chain_reads (coded_operands rest) (at + (coded a).count);
    }
coded_Chain a rest = ap coded (sym (rolls-Chain a rest)) ∙ fold-roll-ExprR Coded code_layer (ExprR-F.Chain a rest)

-- one instruction behind the code of an operand
behind : (out mid all : List Instr) (i : Instr) (front whole : List Instr) → mid ≡ out ++ front → whole ≡ front ++ i ∷ [] → all ≡ mid ++ i ∷ [] → all ≡ out ++ whole
behind out mid all i front whole e f g = g ∙ ap (λ l. l ++ i ∷ []) e ∙ append_assoc out front (i ∷ []) ∙ ap (λ l. out ++ l) (sym f)

pub element_behind : (e i x : ExprR) (o at : ℕ) (out mid all : List Instr) → e ≡ Element o i → x ≡ i → mid ≡ out ++ expr_code x at → all ≡ mid ++ instr.Load reach.Element o ∷ [] → all ≡ out ++ expr_code e at
element_behind e i x o at out mid all is same front last =
    behind out mid all (instr.Load reach.Element o) (expr_code x at) (expr_code e at) front
    (ap (λ y. expr_code y at) is ∙ ap (λ c. c.code at) (coded_Element o i) ∙ ap (λ y. expr_code y at ++ instr.Load reach.Element o ∷ []) (sym same)) last

pub unary_behind : (e a x : ExprR) (w : UnaryOperator) (i : Instr) (at : ℕ) (out mid all : List Instr) → e ≡ Unary w a → x ≡ a → i ≡ unary_instr w → mid ≡ out ++ expr_code x at → all ≡ mid ++ i ∷ [] → all ≡ out ++ expr_code e at
unary_behind e a x w i at out mid all is same word front last =
    behind out mid all (unary_instr w) (expr_code x at) (expr_code e at) front
    (ap (λ y. expr_code y at) is ∙ ap (λ c. c.code at) (coded_Unary w a) ∙ ap (λ y. expr_code y at ++ unary_instr w ∷ []) (sym same)) (last ∙ ap (λ j. mid ++ j ∷ []) word)

-- where the value of an element of another image, or behind a copointer, is held
pub coindexed_held : (e i x y : ExprR) (o : ℕ) (p : PlaceR ExprR) (at : ℕ) → e ≡ Coindexed o i p → x ≡ i → y ≡ p.rank
    → ((coded e).count ≡ count x + count y + 1) × (expr_code e at ≡ instr.Held (at + count x + count y) ∷ [])
coindexed_held e i x y o p at is same rank =
    let ci : (coded i).count ≡ count x = coded_count i ∙ ap count (sym same) in
    let cr : (coded p.rank).count ≡ count y = coded_count p.rank ∙ ap count (sym rank) in
    let whole = ap coded is ∙ coded_Coindexed o i p in
    let place : at + (coded i).count + (coded p.rank).count ≡ at + count x + count y = omega (arith, ci, cr) in
    let counted : (coded i).count + (coded p.rank).count + 1 ≡ count x + count y + 1 = omega (arith, ci, cr) in
    (ap (λ c. c.count) whole ∙ counted, ap (λ c. c.code at) whole ∙ ap (λ n. instr.Held n ∷ []) place)

pub pointed_held : (e i x : ExprR) (c at : ℕ) → e ≡ Pointed c i → x ≡ i → ((coded e).count ≡ count x + 1) × (expr_code e at ≡ instr.Held (at + count x) ∷ [])
pointed_held e i x c at is same =
    let ci : (coded i).count ≡ count x = coded_count i ∙ ap count (sym same) in
    let whole = ap coded is ∙ coded_Pointed c i in
    let place : at + (coded i).count ≡ at + count x = omega (arith, ci) in
    let counted : (coded i).count + 1 ≡ count x + 1 = omega (arith, ci) in
    (ap (λ c. c.count) whole ∙ counted, ap (λ c. c.code at) whole ∙ ap (λ n. instr.Held n ∷ []) place)

abbrev of_chain : ExprR → List (BinaryOperator × ExprR) → Coded
of_chain a rest = code_layer (ExprR-F.Chain (coded a) (coded_operands rest))

chained : (e a x : ExprR) (rest more : List (BinaryOperator × ExprR)) → e ≡ Chain a rest → x ≡ a → more ≡ rest → coded e ≡ of_chain x more
chained e a x rest more is same these = ap coded is ∙ coded_Chain a rest ∙ ap (λ y. of_chain y rest) (sym same) ∙ ap (λ l. of_chain x l) (sym these)

-- the first operand of a chain, and what is left then
pub chain_begins : (e a x : ExprR) (rest more : List (BinaryOperator × ExprR)) (at next : ℕ) (out mid : List Instr) → e ≡ Chain a rest → x ≡ a → more ≡ rest → mid ≡ out ++ expr_code x at → next ≡ at + (coded x).count
    → (next + coded_counts (coded_operands more) ≡ at + (coded e).count) × (mid ++ chain_code (coded_operands more) next ≡ out ++ expr_code e at)
chain_begins e a x rest more at next out mid is same these front counted =
    let whole = chained e a x rest more is same these in
    let c = ap (λ c. c.count) whole in (
      omega (arith, counted, c),
      ap (λ n. mid ++ chain_code (coded_operands more) n) counted
          ∙ ap (λ l. l ++ chain_code (coded_operands more) (at + (coded x).count)) front
          ∙ append_assoc out (expr_code x at) (chain_code (coded_operands more) (at + (coded x).count))
          ∙ ap (λ l. out ++ l) (sym (ap (λ c. c.code at) whole)),
    )

-- the reads of an expression that is an operand's alone
pub element_reads : (e i x : ExprR) (o at : ℕ) → e ≡ Element o i → x ≡ i → reads_code e at ≡ reads_code x at
element_reads e i x o at is same = ap (λ y. reads_code y at) is ∙ ap (λ c. c.reads at) (coded_Element o i) ∙ ap (λ y. reads_code y at) (sym same)

pub element_count : (e i x : ExprR) (o : ℕ) → e ≡ Element o i → x ≡ i → (coded e).count ≡ (coded x).count
element_count e i x o is same = ap (λ y. (coded y).count) is ∙ ap (λ c. c.count) (coded_Element o i) ∙ ap (λ y. (coded y).count) (sym same)

pub unary_reads : (e a x : ExprR) (w : UnaryOperator) (at : ℕ) → e ≡ Unary w a → x ≡ a → reads_code e at ≡ reads_code x at
unary_reads e a x w at is same = ap (λ y. reads_code y at) is ∙ ap (λ c. c.reads at) (coded_Unary w a) ∙ ap (λ y. reads_code y at) (sym same)

pub unary_count : (e a x : ExprR) (w : UnaryOperator) → e ≡ Unary w a → x ≡ a → (coded e).count ≡ (coded x).count
unary_count e a x w is same = ap (λ y. (coded y).count) is ∙ ap (λ c. c.count) (coded_Unary w a) ∙ ap (λ y. (coded y).count) (sym same)

joined_append : (xs ys : List (List Instr)) → joined (xs ++ ys) ≡ joined xs ++ joined ys
joined_append [] ys = refl
joined_append (x ∷ xs) ys = ap (λ l. x ++ l) (joined_append xs ys) ∙ sym (append_assoc x (joined xs) (joined ys))

-- the reads of what leads to an element at a place, and then its own
coindexed_reads : (e i x y : ExprR) (o : ℕ) (p : PlaceR ExprR) (at : ℕ) → e ≡ Coindexed o i p → x ≡ i → y ≡ p.rank
    → ((coded e).count ≡ (coded x).count + (coded y).count + 1) × (joined (reads_code e at) ≡ joined (reads_code x at) ++ (joined (reads_code y (at + (coded x).count)) ++ asked_at o p.team (coded x) (coded y) at))
coindexed_reads e i x y o p at is same rank =
    let whole : coded e ≡ code_layer (ExprR-F.Coindexed o (coded x) (record { team = p.team; rank = coded y })) =
    ap coded is ∙ coded_Coindexed o i p ∙ ap (λ z. code_layer (ExprR-F.Coindexed o (coded z) (record { team = p.team; rank = coded p.rank }))) (sym same)
    ∙ ap (λ z. code_layer (ExprR-F.Coindexed o (coded x) (record { team = p.team; rank = coded z }))) (sym rank) in
    let one = asked_at o p.team (coded x) (coded y) at in
    let behind = reads_code y (at + (coded x).count) in (
      ap (λ c. c.count) whole,
      ap (λ c. joined (c.reads at)) whole ∙ joined_append (reads_code x at) (behind ++ (one ∷ []))
          ∙ ap (λ l. joined (reads_code x at) ++ l) (joined_append behind (one ∷ []) ∙ ap (λ l. joined behind ++ l) (append-nil one)),
    )

pointed_reads : (e i x : ExprR) (c at : ℕ) → e ≡ Pointed c i → x ≡ i → ((coded e).count ≡ (coded x).count + 1) × (joined (reads_code e at) ≡ joined (reads_code x at) ++ asked_behind c (coded x) at)
pointed_reads e i x c at is same =
    let whole : coded e ≡ code_layer (ExprR-F.Pointed c (coded x)) = ap coded is ∙ coded_Pointed c i ∙ ap (λ z. code_layer (ExprR-F.Pointed c (coded z))) (sym same) in
    let one = asked_behind c (coded x) at in
    (ap (λ c. c.count) whole, ap (λ c. joined (c.reads at)) whole ∙ joined_append (reads_code x at) (one ∷ []) ∙ ap (λ l. joined (reads_code x at) ++ l) (append-nil one))

-- the reads of the first operand of a chain, and those that are left then
pub chain_reads_begin : (e a x : ExprR) (rest more : List (BinaryOperator × ExprR)) (at next : ℕ) (out mid : List Instr) → e ≡ Chain a rest → x ≡ a → more ≡ rest → mid ≡ out ++ joined (reads_code x at) → next ≡ at + (coded x).count
    → (next + coded_counts (coded_operands more) ≡ at + (coded e).count) × (mid ++ joined (chain_reads (coded_operands more) next) ≡ out ++ joined (reads_code e at))
chain_reads_begin e a x rest more at next out mid is same these front counted =
    let whole = chained e a x rest more is same these in
    let others = chain_reads (coded_operands more) (at + (coded x).count) in
    let c = ap (λ c. c.count) whole in (
      omega (arith, counted, c),
      ap (λ n. mid ++ joined (chain_reads (coded_operands more) n)) counted ∙ ap (λ l. l ++ joined others) front ∙ append_assoc out (joined (reads_code x at)) (joined others)
          ∙ ap (λ l. out ++ l) (sym (joined_append (reads_code x at) others) ∙ sym (ap (λ c. joined (c.reads at)) whole)),
    )

-- the code of the reads of a subscript and a rank, and of the read of the element at that place
pub coindexed_asked : (e i x y : ExprR) (o : ℕ) (p : PlaceR ExprR) (at next : ℕ) (out mid more all : List Instr) → e ≡ Coindexed o i p → x ≡ i → y ≡ p.rank
    → mid ≡ out ++ joined (reads_code x at) → next ≡ at + (coded x).count → more ≡ mid ++ joined (reads_code y next) → all ≡ more ++ asked_at o p.team (coded x) (coded y) at → all ≡ out ++ joined (reads_code e at)
coindexed_asked e i x y o p at next out mid more all is same rank first counted second third =
    let one = asked_at o p.team (coded x) (coded y) at in
    let before = joined (reads_code x at) in
    let behind = joined (reads_code y next) in
    third ∙ ap (λ l. l ++ one) second ∙ ap (λ l. (l ++ behind) ++ one) first ∙ append_assoc (out ++ before) behind one ∙ append_assoc out before (behind ++ one)
    ∙ ap (λ n. out ++ (before ++ (joined (reads_code y n) ++ one))) counted ∙ ap (λ l. out ++ l) (sym (coindexed_reads e i x y o p at is same rank).1)

pub coindexed_count : (e i x y : ExprR) (o : ℕ) (p : PlaceR ExprR) → e ≡ Coindexed o i p → x ≡ i → y ≡ p.rank → (coded e).count ≡ (coded x).count + (coded y).count + 1
coindexed_count e i x y o p is same rank = (coindexed_reads e i x y o p 0 is same rank).0

pub pointed_asked : (e i x : ExprR) (c at : ℕ) (out mid all : List Instr) → e ≡ Pointed c i → x ≡ i → mid ≡ out ++ joined (reads_code x at) → all ≡ mid ++ asked_behind c (coded x) at → all ≡ out ++ joined (reads_code e at)
pointed_asked e i x c at out mid all is same first second =
    let one = asked_behind c (coded x) at in
    let before = joined (reads_code x at) in
    second ∙ ap (λ l. l ++ one) first ∙ append_assoc out before one ∙ ap (λ l. out ++ l) (sym (pointed_reads e i x c at is same).1)

-- the reads of a further operand, and those that are left then
pub chain_reads_on : (p : BinaryOperator × ExprR) (more : List (BinaryOperator × ExprR)) (at next : ℕ) (out mid : List Instr) → mid ≡ out ++ joined (reads_code p.1 at) → next ≡ at + (coded p.1).count
    → mid ++ joined (chain_reads (coded_operands more) next) ≡ out ++ joined (chain_reads (coded_operands (p ∷ more)) at)
chain_reads_on p more at next out mid front counted =
    let others = chain_reads (coded_operands more) (at + (coded p.1).count) in
    let own = joined (reads_code p.1 at) in
    ap (λ n. mid ++ joined (chain_reads (coded_operands more) n)) counted ∙ ap (λ l. l ++ joined others) front ∙ append_assoc out own (joined others) ∙ ap (λ l. out ++ l) (sym (joined_append (reads_code p.1 at) others))

pub drop_item : {A : Type 0} (l : List A) (i : ℕ) (x : A) → i < length l → x ≡ get_or l i x → drop i l ≡ x ∷ drop (i + 1) l
drop_item l i x within is =
    let e : suc i ≡ i + 1 = omega arith in
    drop-cons l i x within ∙ ap (λ y. y ∷ drop (suc i) l) (sym is) ∙ ap (λ n. x ∷ drop n l) e
