use Rattle.std.proofs.Common.{ℕ, [], ◌∷◌, subst, sym}
use Rattle.std.proofs.lemmas.List.Elements.{All-append, All-cons, All-nil}
use Rattle.schedule_exports.specs.Loads.{IsRun, IsSomeRun}
use Rattle.schedule_exports.proofs.flows.runs.Goals as goal

pub loop-p-preserved : goal.loop-p-preserved
loop-p-preserved c =
    let Told = IsSomeRun c.args.instance.now c.args.plan.now in
    let told = subst (λ (p : ℕ). IsRun c.args.instance.now c.args.plan.now p c.run_of.result) (sym c.run_of.ensures.process) c.run_of.ensures in
    rw c.in_ok-push.ensures.items
    (All-append Told c.loop-p.runs.items (c.run_of.result ∷ []) c.loop-p.invariant (All-cons Told c.run_of.result [] told (All-nil Told)))
