use Rattle.std.proofs.Common.{[], Ok, subst, List}
use Rattle.elm_base.specs.declared.tree.Declaration.{Declaration}
use Rattle.module_grammar.specs.Chunks.{chunks}
use Rattle.module_grammar.specs.ModuleReader as spec
use Rattle.module_parser.specs.Saying.{GivesNext}
use Rattle.module_parser.proofs.Steps.{declaration_turn}
use Rattle.module_parser.proofs.reading.declarations.Goals as goal

pub turns-preserved : goal.turns-preserved
turns-preserved c =
    rw c.in_ok-push.ensures.ok
    (declaration_turn c.args.depth (spec.declarations c.args.depth [] (chunks c.args.tokens.now)) c.turns.found c.turns.tokens c.next_declaration.new.tokens c.in_ok-next.next
    c.turns.left c.in_ok-next.room
    (subst (λ (z : List Declaration). GivesNext (spec.declared c.args.depth z) c.turns.left (chunks c.turns.tokens) (Ok (c.in_ok-next.next, c.in_ok-next.room)) (chunks c.next_declaration.new.tokens))
    c.as_slice.ensures c.in_ok-next.ensures) c.turns.invariant)
