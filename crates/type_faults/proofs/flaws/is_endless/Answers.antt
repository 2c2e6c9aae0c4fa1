use Rattle.std.proofs.Common.{◌≡◌, ℕ, ◌≤◌, false, length, sym, ◌∙◌, arith}
use borrow.Author.Count.{below_more}
use Rattle.bit_rows.specs.Table.{bit_of}
use Rattle.type_faults.specs.Flaws.{leads_back}
use Rattle.type_faults.proofs.Ranges.{any_true, any_false}
use Rattle.type_faults.proofs.flaws.is_endless.Goals as goal

pub loop-a-preserved : goal.loop-a-preserved
loop-a-preserved c =
    below_more (λ (k : ℕ). leads_back c.args.aliases.now (bit_of c.args.reached.now) c.args.«module».now c.args.name.now k ≡ false) c.loop-a.a
    c.loop-a.invariant (sym c.leads_back.ensures ∙ c.if-leads_back.false)

pub returns-then-leads_back : goal.returns-then-leads_back
returns-then-leads_back c =
    sym (any_true (leads_back c.args.aliases.now (bit_of c.args.reached.now) c.args.«module».now c.args.name.now) 0 (length c.args.aliases.now) c.loop-a.a
    (omega arith) (omega arith) (sym c.leads_back.ensures ∙ c.if-leads_back.true))

pub returns : goal.returns
returns c =
    sym (any_false (leads_back c.args.aliases.now (bit_of c.args.reached.now) c.args.«module».now c.args.name.now) 0 (length c.args.aliases.now)
    (λ k low below. c.loop-a.invariant k (omega arith)))
