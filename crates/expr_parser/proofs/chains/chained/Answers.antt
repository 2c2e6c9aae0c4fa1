use Rattle.std.proofs.Common.{◌≡◌, ◌∷◌, ◌++◌, [], refl, sym, ◌∙◌, ap}
use Rattle.expr_parser.proofs.LinkParts.{no_links, some_links}
use Rattle.expr_parser.proofs.chains.chained.Goals as goal

pub returns-then-is_empty : goal.returns-then-is_empty
returns-then-is_empty c links h =
    let none = c.if-is_empty.ensures.0 refl in
    sym (no_links links c.args.operands c.args.at c.args.first (h ∙ ap (λ z. (z, c.args.operands)) none))

pub returns : goal.returns
returns c links h =
    let is : c.append.new.self ≡ c.args.first ∷ c.args.operands =
    c.in_ok-append.ensures ∙ ap (λ z. z ++ c.args.operands) (c.in_ok-push.ensures.ok ∙ ap (λ z. z ++ c.args.first ∷ []) c.new-all.ensures) in
    rw is (sym (some_links links c.args.operators c.args.operands c.args.at c.args.first h (λ e. let f = c.if-is_empty.ensures.1 e in cc)))
