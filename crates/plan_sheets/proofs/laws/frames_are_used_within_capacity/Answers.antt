use Rattle.std.proofs.Common.{slice_index}
use Rattle.ttp_model.proofs.ValidPlans.{frames_fit_lem}
use Rattle.plan_sheets.proofs.laws.frames_are_used_within_capacity.Goals as goal

pub returns : goal.returns
returns c = λ i plan r k channel w inside. frames_fit_lem i plan (slice_index plan.order k) r channel w inside
