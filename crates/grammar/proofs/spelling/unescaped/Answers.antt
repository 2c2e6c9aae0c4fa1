use Rattle.std.proofs.Common.{◌∙◌, ap, sym, suc, drop, drop-cons, add-one}
use Rattle.grammar.specs.Spelling as spec
use Rattle.grammar.proofs.spelling.unescaped.Goals as goal

pub returns-in-None : goal.returns-in-None
returns-in-None c =
    let text = c.args.text.now in
    let i = c.loop-byte.byte-index in
    sym (c.loop-byte.invariant ∙ ap (λ z. spec.behind c.loop-byte.bytes.items (spec.unescaped c.loop-byte.escaped z)) (drop-cons text i 0 c.loop-byte-test.true)
    ∙ c.in_ok-put.ensures (drop (suc i) text) ∙ ap (λ z. spec.goes_on c.put.new.bytes.items z (drop (suc i) text)) c.in-None.is)

pub loop-byte-preserved : goal.loop-byte-preserved
loop-byte-preserved c =
    let text = c.args.text.now in
    let i = c.loop-byte.byte-index in
    c.loop-byte.invariant ∙ ap (λ z. spec.behind c.loop-byte.bytes.items (spec.unescaped c.loop-byte.escaped z)) (drop-cons text i 0 c.loop-byte-test.true)
    ∙ c.in_ok-put.ensures (drop (suc i) text) ∙ ap (λ z. spec.goes_on c.put.new.bytes.items z (drop (suc i) text)) c.in-Some.is
    ∙ ap (λ n. spec.behind c.put.new.bytes.items (spec.unescaped c.in-Some.next (drop n text))) (sym (add-one i))
