use Rattle.elm_library.proofs.Texts.{told}
use Rattle.elm_library.proofs.reading.push_module.Goals as goal

pub returns-in-Err : goal.returns-in-Err
returns-in-Err c =
    told c.args.number.now c.args.source.now c.read_text.new.number c.args.out.now c.args.out.now c.as_bytes.result.now c.in-Err.halt c.refused.result
    c.in-Err.ensures c.as_bytes.ensures.value c.refused.ensures
