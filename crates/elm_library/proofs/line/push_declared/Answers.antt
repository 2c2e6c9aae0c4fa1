use Rattle.std.proofs.Common.{sym, subst, map}
use Rattle.elm_base.specs.Lexemes.{lexeme}
use Rattle.elm_library.specs.declared.mark.Mark.{Mark}
use Rattle.elm_library.specs.Answers.{PushesLine}
use Rattle.elm_library.specs.Reading.{bad_line}
use Rattle.elm_library.proofs.line.push_declared.Goals as goal

pub returns-in-Device : goal.returns-in-Device
returns-in-Device c =
    subst (λ (m : Mark). PushesLine m (lexeme c.args.first.now).at c.args.number (map lexeme c.args.line.now) (bad_line (lexeme c.args.first.now)) c.args.out.now c.push_device.new.out c.push_device.result)
    (sym c.in-Device.is) (c.push_device.ensures c.args.number)

pub returns-in-Opaque : goal.returns-in-Opaque
returns-in-Opaque c =
    subst (λ (m : Mark). PushesLine m (lexeme c.args.first.now).at c.args.number (map lexeme c.args.line.now) (bad_line (lexeme c.args.first.now)) c.args.out.now c.push_opaque.new.out c.push_opaque.result)
    (sym c.in-Opaque.is) (c.push_opaque.ensures c.args.number)
