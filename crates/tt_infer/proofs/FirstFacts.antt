-- What is known at first holds.
use Rattle.std.proofs.Common.{ℕ, ◌+◌, length, arith, refl, ◌∙◌}
use Rattle.std.proofs.lemmas.List.{length-map, length-replicate, get_or-replicate, get_or-map}
use Rattle.ttp_model.specs.Instance.{Instance}
use Rattle.ttp_model.specs.Rules.{IsInstance}
use Rattle.tt_choice.specs.Choice.{Choice, IsChoice}
use Rattle.sought_plans.specs.Known.{Fits, Hold, first_facts}
use Rattle.tt_infer.specs.Facts.{AreFacts}

pub first_facts_fit : (i : Instance) (c : Choice) → IsChoice i c → Fits i (first_facts i c)
first_facts_fit i c ok = record {
  es = length-replicate (length i.processes) 0;
  le = length-replicate (length i.processes) i.cluster.horizon;
  lo = ok.lo_length;
  top = length-map c.hi _ ∙ ok.hi_length;
  processes = ok.processes;
  tests = ok.tests;
}

pub first_facts_hold : (i : Instance) (c : Choice) (goal : ℕ) → IsChoice i c → Hold i c goal (first_facts i c)
first_facts_hold i c goal ok plan sought = record {
  es = λ p h. omega (arith, get_or-replicate {A = ℕ} (length i.processes) p 0 0 h);
  le = λ p h. omega (arith, get_or-replicate {A = ℕ} (length i.processes) p i.cluster.horizon 0 h, sought.settled.valid.in_time p h);
  lo = λ m h. (sought.chosen.ranges m h).0;
  top = λ m h. omega (arith, get_or-map (λ r. r + 1) c.hi m 0 0 (omega (arith, ok.hi_length, h)), sought.chosen.ranges m h);
  bef = sought.chosen.pairs;
  some_left = refl;
}

pub first_inference : (i : Instance) (c : Choice) (goal : ℕ) → IsInstance i → IsChoice i c → AreFacts (record { instance = i; choice = c; goal = goal; known = first_facts i c })
first_inference i c goal w ok = record { instance = w; choice = ok; fits = first_facts_fit i c ok; holds = first_facts_hold i c goal ok }
