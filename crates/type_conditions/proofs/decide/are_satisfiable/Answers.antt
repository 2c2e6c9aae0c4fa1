use Rattle.std.proofs.Common.{◌≡◌, length, subst}
use Rattle.type_terms.specs.Depth.{AreNotesBelow}
use Rattle.type_terms.specs.Terms.{nodes_of}
use Rattle.elm_base.specs.declared.memory.Halt.TheVariants as halt
use Rattle.type_conditions.proofs.Deciding.{as_unit, answered-yes, answered-no, grown-on}
use Rattle.type_conditions.proofs.decide.are_satisfiable.Goals as goal

pub returns-in_err-note_all-clause-grown : goal.returns-in_err-note_all-clause-grown
returns-in_err-note_all-clause-grown c = grown-on _ _ _ (as_unit c.args.types.now c.make_type.new.self c.new.result c.in_ok-simple.ensures.state c.new.ensures) c.note_all.ensures.grown

pub returns-in-Ok-clause-grown : goal.returns-in-Ok-clause-grown
returns-in-Ok-clause-grown c = grown-on _ _ _ (as_unit c.args.types.now c.make_type.new.self c.new.result c.in_ok-simple.ensures.state c.new.ensures) c.note_all.ensures.grown

pub returns-in-Err-Because-clause-grown : goal.returns-in-Err-Because-clause-grown
returns-in-Err-Because-clause-grown c = grown-on _ _ _ (as_unit c.args.types.now c.make_type.new.self c.new.result c.in_ok-simple.ensures.state c.new.ensures) c.note_all.ensures.grown

pub returns-clause-grown : goal.returns-clause-grown
returns-clause-grown c = grown-on _ _ _ (as_unit c.args.types.now c.make_type.new.self c.new.result c.in_ok-simple.ensures.state c.new.ensures) c.note_all.ensures.grown

pub returns-in-Ok-clause-yes : goal.returns-in-Ok-clause-yes
returns-in-Ok-clause-yes c = λ _.
    let tells = rw c.store-4.ensures.store at c.in_ok-notes.ensures.tells in
    let noted = rw c.as_slice.ensures at c.in_ok-note_all.ensures.noted in
    let met = rw c.store-5.ensures.store at c.in-Ok.ensures.met in
    let sound = rw c.store-2.ensures.store at c.stays_sound.ensures in
    let grown = rw c.store-3.ensures.store at c.stays_sound-2.ensures in
    answered-yes c.args.types.now c.make_type.new.self c.note_all.new.types _ _ _ sound grown (as_unit c.args.types.now c.make_type.new.self c.new.result c.in_ok-simple.ensures.state c.new.ensures) c.in_ok-simple.ensures.place tells noted
    met.0 met.1 met.2 met.3

pub returns-in-Err-Because-clause-no : goal.returns-in-Err-Because-clause-no
returns-in-Err-Because-clause-no c = λ _.
    let tells = rw c.store-4.ensures.store at c.in_ok-notes.ensures.tells in
    let noted = rw c.as_slice.ensures at c.in_ok-note_all.ensures.noted in
    let refused = rw c.store-5.ensures.store at c.in-Err-Because.ensures.refused in
    let sound = rw c.store-2.ensures.store at c.stays_sound.ensures in
    let same = rw c.store.ensures.store at c.notes-notes.ensures.notes in
    let inside = rw c.store.ensures.store at c.notes-notes.ensures.inside in
    let below = subst (AreNotesBelow (length (nodes_of c.args.types.now))) same inside in
    let proper = c.requires in
    answered-no c.args.types.now c.make_type.new.self c.note_all.new.types _ _ _ sound below proper
    (as_unit c.args.types.now c.make_type.new.self c.new.result c.in_ok-simple.ensures.state c.new.ensures) c.in_ok-simple.ensures.place tells noted
    (refused (λ (e : c.in-Err-Because.field-0 ≡ halt.NoMemory). let f = c.in-Err-Because.field-0-is in cc (e, f)))
