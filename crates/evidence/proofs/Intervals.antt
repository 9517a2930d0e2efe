-- Which intervals are told as too short, by what an answer says.
use Rattle.std.proofs.Common.{◌≡◌, ◌≢◌, ℕ, ◌-◌, ◌*◌, ◌<◌, ◌≤◌, length, Option, Some, None, IsSome, arith, refl, inl, inr}
use Rattle.ttp_model.specs.declared.step.Step.{Step}
use Rattle.ttp_model.specs.declared.step.Step.TheVariants.{XLoad, XFrames, XChannel}
use Rattle.ttp_model.specs.Totals.{total}
use Rattle.sought_plans.specs.Conclusions.{NothingLeft, sharpened}
use Rattle.tt_infer.specs.Facts.{Facts}
use Rattle.tt_infer.specs.Table.{HasHalf}
use Rattle.tt_choice.specs.Extremes.{cap_most}
use Rattle.sought_plans.specs.Premises.{bytes_copied, bytes_counted, load_within}
use Rattle.load_bounds.specs.Loads.{IsNodeLoad, IsFrameLoad, IsLawfulNow}

module _ (s : Facts) (n a b : ℕ) where
  pub not_just_full : (answer : Option Step) → IsNodeLoad s n answer
      → b - a ≡ total (load_within s.instance s.known n a b) (length s.instance.processes) → answer ≢ Some (XLoad n a b)
  not_just_full (Some step) says full same =
      let is = says.1.1.0 in
      let from : says.0 ≡ a = cc in
      let until : says.1.0 ≡ b = cc in
      let lawful : IsLawfulNow s (XLoad n says.0 says.1.0) = rw is at says.1.1.1 in
      omega (arith, full, rw (from, until) at lawful.lawful.premise.load)
  not_just_full None says full same = cc

  pub too_short : (answer : Option Step) → IsNodeLoad s n answer → n < length s.instance.nodes → a ≤ b
      → b - a < total (load_within s.instance s.known n a b) (length s.instance.processes) → IsSome answer
  too_short (Some step) says there span load = refl
  too_short None says there span load = absurd (says a b (record {
    after = sharpened s.instance s.known NothingLeft;
    lawful = record {
      there = there;
      premise = record { span = span; load = load };
      conclusion = NothingLeft;
      concludes = refl;
      known = refl;
    };
  }))

  pub frames_not_just_full : (answer : Option Step) → IsFrameLoad s n answer
      → s.instance.cluster.channels * ((b - a) * cap_most s.instance s.choice n) ≡ total (bytes_copied s.instance s.choice s.known n a b) (length s.instance.messages)
      → answer ≢ Some (XFrames n a b)
  frames_not_just_full (Some step) (inl on_one) full same =
      let is : step ≡ XChannel on_one.0 n on_one.1.0 on_one.1.1.0 = on_one.1.1.1.0 in
      cc
  frames_not_just_full (Some step) (inr on_all) full same =
      let is = on_all.1.1.0 in
      let from : on_all.0 ≡ a = cc in
      let until : on_all.1.0 ≡ b = cc in
      let lawful : IsLawfulNow s (XFrames n on_all.0 on_all.1.0) = rw is at on_all.1.1.1 in
      omega (arith, full, rw (from, until) at lawful.lawful.premise.bytes)
  frames_not_just_full None says full same = cc

  pub frames_too_small : (answer : Option Step) → IsFrameLoad s n answer → n < length s.instance.nodes → a ≤ b
      → s.instance.cluster.channels * ((b - a) * cap_most s.instance s.choice n) < total (bytes_copied s.instance s.choice s.known n a b) (length s.instance.messages)
      → IsSome answer
  frames_too_small (Some step) says there span bytes = refl
  frames_too_small None says there span bytes = absurd (says.1 a b (record {
    after = sharpened s.instance s.known NothingLeft;
    lawful = record {
      there = there;
      premise = record { span = span; bytes = bytes };
      conclusion = NothingLeft;
      concludes = refl;
      known = refl;
    };
  }))

  pub frames_too_small_on_one : (k : ℕ) (answer : Option Step) → IsFrameLoad s n answer → HasHalf s.instance n k → a ≤ b
      → (b - a) * cap_most s.instance s.choice n < total (bytes_counted s.instance s.choice s.known k n a b) (length s.instance.messages)
      → IsSome answer
  frames_too_small_on_one k (Some step) says there span bytes = refl
  frames_too_small_on_one k None says there span bytes = absurd (says.0 k a b (record {
    after = sharpened s.instance s.known NothingLeft;
    lawful = record {
      there = there;
      premise = record { span = span; bytes = bytes };
      conclusion = NothingLeft;
      concludes = refl;
      known = refl;
    };
  }))
