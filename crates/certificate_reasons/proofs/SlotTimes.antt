-- What is asked of how far slots move is said of the plans that are sought.
use Rattle.std.proofs.Common.{◌≡◌, ap}
use Rattle.sought_plans.specs.Known.{Known}
use Rattle.sought_plans.specs.Setting.{Setting}
use Rattle.tt_infer.specs.Facts.{Facts}
use Rattle.tt_infer.specs.Setting.{inference}

pub instance_is : (s : Setting) (k : Known) (f : Facts) → inference s k ≡ f → s.instance ≡ f.instance
instance_is s k f is = ap (λ (x : Facts). x.instance) is

pub choice_is : (s : Setting) (k : Known) (f : Facts) → inference s k ≡ f → s.choice ≡ f.choice
choice_is s k f is = ap (λ (x : Facts). x.choice) is
