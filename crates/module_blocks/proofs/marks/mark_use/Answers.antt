use Rattle.std.proofs.Common.{◌≡◌, ◌∙◌, ℕ, ◌+◌, IsTrue, List, length, slice_get, sym, ap, subst, arith}
use Rattle.bit_rows.specs.Table.{Table}
use Rattle.module_blocks.specs.Marks.{Adds}
use Rattle.module_blocks.specs.Refers.{names_one, refers_by}
use Rattle.module_blocks.proofs.Adding.{RefersBelow, Adds-more, Adds-same, refers_more, refers_same, refers_all}
use Rattle.module_blocks.proofs.marks.mark_use.Goals as goal
use Rattle.module_blocks.proofs.marks.mark_use.Goals.{then-stands_in, else-stands_in}

pub loop-a-preserved : goal.loop-a-preserved
loop-a-preserved c =
    let home = c.args.«module».now in
    let used = c.args.used.now in
    let definitions = c.args.definitions.now in
    let end = c.args.end in
    let a = c.loop-a.a in
    let P = RefersBelow home definitions end used a in
    let R = RefersBelow home definitions end used (a + 1) in
    let Q : ℕ → ℕ → Type 0 = λ x y. (x ≡ a) × IsTrue (names_one home used.answer (slice_get definitions y)) in
    elim c.if-stands_in.branch [
      | then-stands_in w ↦ record {
        width = ap (λ (t : Table). t.bits) w.table-is ∙ w.mark_targets.ensures.width ∙ c.loop-a.invariant.width;
        height = ap (λ (t : Table). length t.rows) w.table-is ∙ w.mark_targets.ensures.height ∙ c.loop-a.invariant.height;
        adds = Adds-more P Q R c.args.table.now c.loop-a.table c.if-stands_in.table c.loop-a.invariant.adds
            (subst (λ (t : Table). Adds Q c.loop-a.table t) (sym w.table-is) w.mark_targets.ensures.adds)
            (refers_more home definitions end used a (sym c.stands_in.ensures ∙ w.if-stands_in.true));
      }
      | else-stands_in w ↦ record {
        width = ap (λ (t : Table). t.bits) w.table-is ∙ c.loop-a.invariant.width;
        height = ap (λ (t : Table). length t.rows) w.table-is ∙ c.loop-a.invariant.height;
        adds = Adds-same P R c.args.table.now c.if-stands_in.table
            (subst (λ (t : Table). Adds P c.args.table.now t) (sym w.table-is) c.loop-a.invariant.adds)
            (refers_same home definitions end used a (sym c.stands_in.ensures ∙ w.if-stands_in.false));
      }
    ]

pub returns-clause-adds : goal.returns-clause-adds
returns-clause-adds c =
    let home = c.args.«module».now in
    let used = c.args.used.now in
    let definitions = c.args.definitions.now in
    let end = c.args.end in
    Adds-same (RefersBelow home definitions end used c.loop-a.a) (λ x y. IsTrue (refers_by home definitions end used x y)) c.args.table.now c.loop-a.table
    c.loop-a.invariant.adds (refers_all home definitions end used c.loop-a.a (omega arith))
