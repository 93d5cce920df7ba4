-- What is added for an expression, part by part.
use Rattle.std.proofs.Common.{◌≡◌, List, [], ◌∷◌, ◌++◌, map, refl, ap, sym, ◌∙◌, append_assoc}
use Rattle.std.specs.List.{flat_map}
use Rattle.caf_lexer.specs.declared.token.What.{What}
use Rattle.caf_lexer.specs.declared.token.What.TheVariants as what
use Rattle.caf_lexer.specs.declared.token.Sign.{Sign}
use Rattle.caf_lexer.specs.declared.token.Sign.TheVariants as sign
use Rattle.caf_lexer.specs.declared.token.Word.{Word}
use Rattle.caf_lexer.specs.declared.token.Word.TheVariants as word
use Rattle.caf_tree.specs.declared.expr.Operator.{Operator}
use Rattle.caf_tree.specs.declared.expr.Relation.{Relation}
use Rattle.caf_tree.specs.declared.expr.FrontSign.{FrontSign}
use Rattle.caf_tree.specs.declared.expr.Expr.{Expr}
use Rattle.caf_tree.specs.declared.expr.Expr.TheVariants as e'
use Rattle.caf_tree.specs.declared.expr.Expr.TheOpen.{Expr-F}
use Rattle.caf_tree.specs.declared.expr.Expr.TheFolds.{fold-Expr, fold-roll-Expr}
use Rattle.caf_tree.specs.Expressions.{operator_sign, relation_sign, front_sign}
use Rattle.caf_tree.specs.Said.{Said, each_after, in_parentheses, comma, two_or_more, of_sign, expression_layer, expression_said}
use Rattle.caf_printer.proofs.Expressions.{said-min, said-max, said-signed, said-not, said-compare}

pub not_layer : (e x y : Expr) (old one two : Said) → e ≡ e'.Not x → y ≡ x → one ≡ old ++ of_sign sign.Not → two ≡ one ++ expression_said y → two ≡ old ++ expression_said e
not_layer e x y old one two is same a b =
    b ∙ ap (λ us. us ++ expression_said y) a ∙ append_assoc old (of_sign sign.Not) (expression_said y)
    ∙ ap (λ us. old ++ us) (ap (λ u. what.Sign sign.Not ∷ expression_said u) same ∙ sym (said-not x) ∙ ap expression_said (sym is))

pub signed_layer : (e x y : Expr) (s : FrontSign) (t : Sign) (old one two : Said) → e ≡ e'.Signed s x → y ≡ x → t ≡ front_sign s → one ≡ old ++ of_sign t → two ≡ one ++ expression_said y → two ≡ old ++ expression_said e
signed_layer e x y s t old one two is same side a b =
    b ∙ ap (λ us. us ++ expression_said y) a ∙ append_assoc old (of_sign t) (expression_said y)
    ∙ ap (λ us. old ++ us) (ap (λ u. what.Sign t ∷ expression_said u) same ∙ ap (λ u. what.Sign u ∷ expression_said x) side ∙ sym (said-signed s x) ∙ ap expression_said (sym is))

abbrev pub chained_said : List (Operator × Expr) → Said
chained_said pairs = flat_map (λ (p : Operator × List What). what.Sign (operator_sign p.0) ∷ p.1) (map (λ (p : Operator × Expr). (p.0, expression_said p.1)) pairs)

said-chained : (x : Expr) (pairs : List (Operator × Expr)) → expression_said (e'.Chain x pairs) ≡ expression_said x ++ chained_said pairs
said-chained x pairs = ap expression_said (sym (e'.rolls-Chain x pairs)) ∙ fold-roll-Expr Said expression_layer (Expr-F.Chain x pairs)

pub chain_layer : (e x y : Expr) (pairs others : List (Operator × Expr)) (old one two : Said) → e ≡ e'.Chain x pairs → y ≡ x → others ≡ pairs → one ≡ old ++ expression_said y → two ≡ one ++ chained_said others → two ≡ old ++ expression_said e
chain_layer e x y pairs others old one two is same these a b =
    b ∙ ap (λ us. us ++ chained_said others) a ∙ append_assoc old (expression_said y) (chained_said others)
    ∙ ap (λ us. old ++ us) (ap (λ u. expression_said u ++ chained_said others) same ∙ ap (λ ps. expression_said x ++ chained_said ps) these ∙ sym (said-chained x pairs) ∙ ap expression_said (sym is))

pub compare_layer : (e x y u v : Expr) (r : Relation) (t : Sign) (old one two three : Said) → e ≡ e'.Compare x r y → u ≡ x → v ≡ y → t ≡ relation_sign r
    → one ≡ old ++ expression_said u → two ≡ one ++ of_sign t → three ≡ two ++ expression_said v → three ≡ old ++ expression_said e
compare_layer e x y u v r t old one two three is first second side a b c =
    c ∙ ap (λ us. us ++ expression_said v) b ∙ append_assoc one (of_sign t) (expression_said v)
    ∙ ap (λ us. us ++ what.Sign t ∷ expression_said v) a ∙ append_assoc old (expression_said u) (what.Sign t ∷ expression_said v)
    ∙ ap (λ us. old ++ us)
    (ap (λ w. expression_said w ++ what.Sign t ∷ expression_said v) first ∙ ap (λ w. expression_said x ++ what.Sign t ∷ expression_said w) second
    ∙ ap (λ w. expression_said x ++ what.Sign w ∷ expression_said y) side ∙ sym (said-compare x r y) ∙ ap expression_said (sym is))

abbrev pub others_said : List Expr → Said
others_said others = each_after sign.Comma (λ (s : List What). s) (map expression_said others)

operands_whole : (w : Word) (u v : Expr) (others : List Expr) (old one two three four : Said) → one ≡ old ++ what.Word w ∷ what.Sign sign.LeftParenthesis ∷ expression_said u → two ≡ one ++ comma (expression_said v)
    → three ≡ two ++ others_said others → four ≡ three ++ of_sign sign.RightParenthesis → four ≡ old ++ what.Word w ∷ two_or_more (expression_said u) (expression_said v) (map expression_said others)
operands_whole w u v others old one two three four a b c d =
    let last = of_sign sign.RightParenthesis in
    let lead = what.Word w ∷ what.Sign sign.LeftParenthesis ∷ expression_said u in
    d ∙ ap (λ us. us ++ last) (c ∙ ap (λ us. us ++ others_said others) b ∙ append_assoc one (comma (expression_said v)) (others_said others)
    ∙ ap (λ us. us ++ (comma (expression_said v) ++ others_said others)) a ∙ append_assoc old lead (comma (expression_said v) ++ others_said others))
    ∙ append_assoc old (lead ++ (comma (expression_said v) ++ others_said others)) last

pub min_layer : (e x y u v : Expr) (these others : List Expr) (old one two three four : Said) → e ≡ e'.Min x y these → u ≡ x → v ≡ y → others ≡ these
    → one ≡ old ++ what.Word word.Min ∷ what.Sign sign.LeftParenthesis ∷ expression_said u → two ≡ one ++ comma (expression_said v)
    → three ≡ two ++ others_said others → four ≡ three ++ of_sign sign.RightParenthesis → four ≡ old ++ expression_said e
min_layer e x y u v these others old one two three four is first second more a b c d =
    operands_whole word.Min u v others old one two three four a b c d
    ∙ ap (λ us. old ++ us)
    (ap (λ w. what.Word word.Min ∷ two_or_more (expression_said w) (expression_said v) (map expression_said others)) first
    ∙ ap (λ w. what.Word word.Min ∷ two_or_more (expression_said x) (expression_said w) (map expression_said others)) second
    ∙ ap (λ w. what.Word word.Min ∷ two_or_more (expression_said x) (expression_said y) (map expression_said w)) more
    ∙ sym (said-min x y these) ∙ ap expression_said (sym is))

pub max_layer : (e x y u v : Expr) (these others : List Expr) (old one two three four : Said) → e ≡ e'.Max x y these → u ≡ x → v ≡ y → others ≡ these
    → one ≡ old ++ what.Word word.Max ∷ what.Sign sign.LeftParenthesis ∷ expression_said u → two ≡ one ++ comma (expression_said v)
    → three ≡ two ++ others_said others → four ≡ three ++ of_sign sign.RightParenthesis → four ≡ old ++ expression_said e
max_layer e x y u v these others old one two three four is first second more a b c d =
    operands_whole word.Max u v others old one two three four a b c d
    ∙ ap (λ us. old ++ us)
    (ap (λ w. what.Word word.Max ∷ two_or_more (expression_said w) (expression_said v) (map expression_said others)) first
    ∙ ap (λ w. what.Word word.Max ∷ two_or_more (expression_said x) (expression_said w) (map expression_said others)) second
    ∙ ap (λ w. what.Word word.Max ∷ two_or_more (expression_said x) (expression_said y) (map expression_said w)) more
    ∙ sym (said-max x y these) ∙ ap expression_said (sym is))
