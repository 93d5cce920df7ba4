use Rattle.std.proofs.Common.{◌≡◌, ◌+◌, ◌++◌, [], ◌∷◌, drop, length, sym, ap, ◌∙◌, arith, append_assoc, length-append}
use Rattle.std.proofs.lemmas.Grind.{common_steps}
use Rattle.std.proofs.lemmas.Result.{on_ok_weaker}
use Rattle.caf_codegen.specs.StmtCode.{block, codes, do_code, guarded, last_code, sizes, stmt_code, texts_in}
use Rattle.caf_codegen.proofs.Parts.{statement_joined, texts_joined}
use Rattle.caf_codegen.proofs.Patched.{block_step, code_If, do_joined, guarded_filled, guarded_go, if_filled, loop_filled, while_joined}
use Rattle.caf_codegen.proofs.statement.+statements.Goals as goal

pub gen_block-loop-statement-preserved : goal.gen_block-loop-statement-preserved
gen_block-loop-statement-preserved t c =
    let body = c.args.block.now in
    let i = c.loop-statement.statement-index in
    let out = c.loop-statement.code.items in
    let texts = c.loop-statement.texts in
    let s = c.statement-item.result in
    let here : drop i body ≡ s ∷ drop (i + 1) body = grind (arith, common_steps) in
    let more = c.in_ok-gen_statement.ensures.texts in
    record {
      code =
          block_step out c.gen_statement.new.code.items s (drop (i + 1) body) (length texts) (length c.gen_statement.new.texts) c.in_ok-gen_statement.ensures.code (ap length more ∙ length-append texts (stmt_code s).texts)
          ∙ ap (λ l. out ++ block (codes l) (length out) (length texts)) (sym here) ∙ c.loop-statement.invariant.code;
      texts =
          ap (λ l. l ++ texts_in (codes (drop (i + 1) body))) more ∙ append_assoc texts (stmt_code s).texts (texts_in (codes (drop (i + 1) body)))
          ∙ ap (λ l. texts ++ texts_in (codes l)) (sym here) ∙ c.loop-statement.invariant.texts;
    }

pub gen_guarded-returns-clause-code : goal.gen_guarded-returns-clause-code
gen_guarded-returns-clause-code t c =
    guarded_filled c.args.block.now c.args.code.now.items c.put.new.code.items c.gen_block.new.code.items c.put-2.new.code.items _ c.len-test.result c.args.next c.in_ok-out.out (length c.args.texts.now)
    (c.len-test.ensures ∙ c.args.code.now.ok.0) c.in_ok-put.ensures c.in_ok-gen_block.ensures.code c.in_ok-put-2.ensures (c.in_ok-out.ensures ∙ c.len.ensures ∙ c.put-2.new.code.ok.0)

pub gen_guarded-returns-clause-go : goal.gen_guarded-returns-clause-go
gen_guarded-returns-clause-go t c =
    guarded_go c.args.block.now c.args.code.now.items c.put.new.code.items c.gen_block.new.code.items _ c.len-go.result (length c.args.texts.now) c.in_ok-put.ensures c.in_ok-gen_block.ensures.code (c.len-go.ensures ∙ c.gen_block.new.code.ok.0)

pub gen_loop-returns-clause-code : goal.gen_loop-returns-clause-code
gen_loop-returns-clause-code t c =
    loop_filled c.args.body.now c.args.variable c.args.code.now.items c.put.new.code.items c.put-2.new.code.items c.put-3.new.code.items c.gen_block.new.code.items c.gen_turn.new.code.items _ c.store.result c.len-enter.result c.in_ok-top.top c.in_ok-out.out (length c.args.texts.now)
    c.in_ok-put.ensures c.store.ensures c.in_ok-put-2.ensures (c.len-enter.ensures ∙ c.put-2.new.code.ok.0) c.in_ok-put-3.ensures (c.in_ok-top.ensures ∙ c.len.ensures ∙ c.put-3.new.code.ok.0)
    c.in_ok-gen_block.ensures.code c.in_ok-gen_turn.ensures (c.in_ok-out.ensures ∙ c.len-2.ensures ∙ c.gen_turn.new.code.ok.0)

pub gen_last-returns-in_ok-end-in-If-clause-code : goal.gen_last-returns-in_ok-end-in-If-clause-code
gen_last-returns-in_ok-end-in-If-clause-code t c =
    let base = c.args.code.now.items in
    let texts = c.args.texts.now in
    let k = length texts in
    let first = c.gen_value.new.code.items in
    let second = c.gen_guarded.new.code.items in
    let j = length c.gen_guarded.new.texts in
    let more = c.in_ok-go-in-If.ensures.texts ∙ ap (λ l. texts ++ texts_in (codes l)) c.as_slice-in-If.ensures in
    if_filled c.args.start c.in-If.line c.in-If.condition c.in-If.block c.in-If.otherwise base first second c.gen_block.new.code.items c.in_ok-go-in-If.go c.in_ok-end-in-If.end k j c.in_ok-gen_value-in-If.ensures.code
    (c.in_ok-go-in-If.ensures.code ∙ ap (λ l. first ++ guarded (codes l) 0 (length first) k) c.as_slice-in-If.ensures)
    (c.in_ok-go-in-If.ensures.go ∙ ap (λ l. length first + 1 + sizes (codes l)) c.as_slice-in-If.ensures)
    (c.in_ok-gen_block-in-If.ensures.code ∙ ap (λ l. second ++ block (codes l) (length second) j) c.as_slice-in-If-2.ensures)
    (ap length more ∙ length-append texts (texts_in (codes c.in-If.block)))
    (c.in_ok-end-in-If.ensures ∙ c.len.ensures ∙ c.gen_block.new.code.ok.0)
    ∙ ap (λ s. base ++ (last_code c.args.start s).code (length base) k) (sym c.in-If.is)

pub gen_last-returns-in_ok-end-in-If-clause-texts : goal.gen_last-returns-in_ok-end-in-If-clause-texts
gen_last-returns-in_ok-end-in-If-clause-texts t c =
    let texts = c.args.texts.now in
    let x = texts_in (codes c.in-If.block) in
    let y = texts_in (codes c.in-If.otherwise) in
    c.in_ok-gen_block-in-If.ensures.texts ∙ ap (λ l. c.gen_guarded.new.texts ++ texts_in (codes l)) c.as_slice-in-If-2.ensures
    ∙ ap (λ l. l ++ y) (c.in_ok-go-in-If.ensures.texts ∙ ap (λ l. texts ++ texts_in (codes l)) c.as_slice-in-If.ensures) ∙ append_assoc texts x y
    ∙ ap (λ k. texts ++ k.texts) (sym (code_If c.args.start c.in-If.line c.in-If.condition c.in-If.block c.in-If.otherwise)) ∙ ap (λ s. texts ++ (last_code c.args.start s).texts) (sym c.in-If.is)

pub gen_last-returns-in_ok-gen_bounds-in-Do-clause-code : goal.gen_last-returns-in_ok-gen_bounds-in-Do-clause-code
gen_last-returns-in_ok-gen_bounds-in-Do-clause-code t c =
    let base = c.args.code.now.items in
    let k = length c.args.texts.now in
    let first = c.gen_bounds.new.code.items in
    on_ok_weaker c.gen_loop.result
    (λ e. do_joined c.args.start c.in-Do.line c.in-Do.variable c.in-Do.first c.in-Do.last c.in-Do.step c.in-Do.body base first c.gen_loop.new.code.items k c.in_ok-gen_bounds-in-Do.ensures
    (e ∙ ap (λ l. first ++ (do_code c.in-Do.variable [] (codes l)).code (length first) k) c.as_slice-in-Do.ensures)
    ∙ ap (λ s. base ++ (last_code c.args.start s).code (length base) k) (sym c.in-Do.is))
    c.gen_loop.ensures.code

pub gen_last-returns-in_ok-gen_guarded-in-While-clause-code : goal.gen_last-returns-in_ok-gen_guarded-in-While-clause-code
gen_last-returns-in_ok-gen_guarded-in-While-clause-code t c =
    let base = c.args.code.now.items in
    let k = length c.args.texts.now in
    let first = c.gen_value-in-While.new.code.items in
    while_joined c.in-While.line c.in-While.condition c.in-While.body base first c.gen_guarded-in-While.new.code.items c.args.start k c.in_ok-gen_value-in-While.ensures.code
    (c.in_ok-gen_guarded-in-While.ensures.code ∙ ap (λ l. first ++ guarded (codes l) c.args.start (length first) k) c.as_slice-in-While.ensures)
    ∙ ap (λ s. base ++ (last_code c.args.start s).code (length base) k) (sym c.in-While.is)

pub gen_statement-returns-clause-code : goal.gen_statement-returns-clause-code
gen_statement-returns-clause-code t c =
    on_ok_weaker c.gen_last.result
    (statement_joined c.args.statement.now c.args.code.now.items c.ask_statement.new.code.items c.gen_last.new.code.items c.in_ok-start.start (length c.args.texts.now) (c.in_ok-start.ensures ∙ c.len.ensures ∙ c.args.code.now.ok.0) c.in_ok-ask_statement.ensures)
    c.gen_last.ensures.code

pub gen_statement-returns-clause-texts : goal.gen_statement-returns-clause-texts
gen_statement-returns-clause-texts t c = on_ok_weaker c.gen_last.result (texts_joined c.args.statement.now c.args.texts.now c.gen_last.new.texts c.in_ok-start.start) c.gen_last.ensures.texts
