-- A greatest wait is there: the greatest of the finitely many times that a process may have to wait for.
use Rattle.std.proofs.Common.{ℕ, ◌≡◌, length, arith, inl, inr, false}
use Rattle.std.proofs.lemmas.Bool.{cases_Bool, both_ways}
use Rattle.ttp_model.specs.Instance.{Instance, process_at, message_at, node_of}
use Rattle.ttp_model.specs.Raising.{IsRaised}
use Rattle.ttp_model.proofs.Alike.{link_or_not}
use Rattle.ttp_model.proofs.Decide.{Decision, like, both, refuted, equal, below, contained}
use Rattle.ttp_model.proofs.Raising.{raised_of, raised_least}
use Rattle.tt_choice.specs.Choice.{Choice}
use Rattle.sought_plans.specs.Known.{Known, le_of, bef_of}
use Rattle.sought_plans.specs.Dominance.{MayGoBefore, IsSentTo, last_arrival, IsGreatestWait}

sent_or_not : (i : Instance) (p m : ℕ) → Decision (IsSentTo i p m)
sent_or_not i p m = both _ _ (below m (length i.messages)) (contained (message_at i m).receivers p)

known_or_not : (f : Known) (p x : ℕ) → Decision (bef_of f p x ≡ false)
known_or_not f p x = elim (cases_Bool (bef_of f p x)) [ inl is ↦ inr (λ not. absurd (both_ways _ not is)) | inr not ↦ inl not ]

goes_or_not : (i : Instance) (f : Known) (p x : ℕ) → Decision (MayGoBefore i f p x)
goes_or_not i f p x = like _ (MayGoBefore i f p x)
    (λ all. record { other = all.0.0; one_node = all.0.1; not_known = all.1.0; no_link = all.1.1 })
    (λ may. ((may.other, may.one_node), (may.not_known, may.no_link)))
    (both _ _ (both _ _ (refuted _ (equal x p)) (equal (node_of i x) (node_of i p))) (both _ _ (known_or_not f p x) (refuted _ (link_or_not i p x))))

-- the greatest wait is found by going over the processes, and from there over the messages
pub greatest_wait_from : (i : Instance) (c : Choice) (f : Known) (p ended time : ℕ) → IsRaised (length i.processes) (MayGoBefore i f p) (le_of f) (process_at i p).release ended → IsRaised (length i.messages) (IsSentTo i p) (last_arrival i c f) ended time → IsGreatestWait i c f p time
greatest_wait_from i c f p ended time others all = record {
  wait = record {
    release = omega (arith, others.least, all.least);
    others = λ x h may. omega (arith, others.each x h may, all.least);
    messages = λ m is. all.each m is.0 is;
  };
  least = λ other wait.
      raised_least _ _ _ _ time other all (raised_least _ _ _ _ ended other others wait.release wait.others) (λ m h is. wait.messages m is);
}

pub greatest_wait : (i : Instance) (c : Choice) (f : Known) (p : ℕ) → (time : ℕ) × IsGreatestWait i c f p time
greatest_wait i c f p =
    let others = raised_of (MayGoBefore i f p) (le_of f) (process_at i p).release (length i.processes) (goes_or_not i f p) in
    let all = raised_of (IsSentTo i p) (last_arrival i c f) others.0 (length i.messages) (sent_or_not i p) in
    (all.0, greatest_wait_from i c f p others.0 all.0 others.1 all.1)
