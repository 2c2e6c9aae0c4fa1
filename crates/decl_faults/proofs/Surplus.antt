-- The ports that come in behind as many as may.
use Rattle.std.proofs.Common.{◌≡◌, ◌-◌, ◌≤◌, List, ◌++◌, Result, OnOk, length, take, drop, sym, ◌∙◌, ap, subst, arith}
use Rattle.std.proofs.lemmas.List.{append-nil, drop_all, take_all, length-drop}
use Rattle.elm_base.specs.declared.tree.Declaration.{Declaration}
use Rattle.module_names.specs.declared.flaws.Flaw.{Flaw}
use Rattle.decl_faults.specs.Ports.{max_inbound, inbound, surplus}

pub none_behind : (out ports : List Flaw) (declarations : List Declaration) → ports ≡ inbound declarations → length ports ≤ max_inbound →
    out ≡ out ++ surplus declarations
none_behind out ports declarations e h =
    sym (ap (λ (flaws : List Flaw). out ++ flaws) (ap (drop max_inbound) (sym e) ∙ drop_all max_inbound ports h) ∙ append-nil out)

pub behind : {X E : Type 0} (answer : Result X E) (new out ports flaws : List Flaw) (declarations : List Declaration) → ports ≡ inbound declarations →
    flaws ≡ ports → OnOk answer (new ≡ out ++ take (length flaws - max_inbound) (drop max_inbound flaws)) →
    OnOk answer (new ≡ out ++ surplus declarations)
behind answer new out ports flaws declarations e same h =
    let rest : take (length flaws - max_inbound) (drop max_inbound flaws) ≡ drop max_inbound flaws =
    take_all (length flaws - max_inbound) (drop max_inbound flaws) (let long = length-drop max_inbound flaws in omega (arith, long)) in
    subst (λ (xs : List Flaw). OnOk answer (new ≡ out ++ xs)) (rest ∙ ap (drop max_inbound) (same ∙ e)) h
