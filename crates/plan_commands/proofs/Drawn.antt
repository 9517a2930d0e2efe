-- Why `draw` is refused: as `verify` is, or for the number of slots.
use Rattle.std.proofs.Common.{ℕ, List, Option, None, Some, IfSome}
use Rattle.plan_sheets.specs.declared.pictures.picture.Shown.{Shown}
use Rattle.plan_commands.specs.declared.verdict.Verified.{Verified}
use Rattle.command_streams.specs.declared.ending.Fault.{Fault}
use Rattle.command_streams.specs.declared.ending.Fault.TheVariants.{Memory, TooManySlots}
use Rattle.command_streams.specs.declared.ending.End.{End}
use Rattle.command_streams.specs.declared.ending.End.TheVariants.{Refused}
use Rattle.command_streams.specs.Outcomes.{IsCommandAnswer, OnDone}
use Rattle.plan_commands.specs.Drawings.{IsDrawAnswer, IsDrawRefused, IsPictureText, IsUndrawn}
use Rattle.plan_commands.specs.Printed.{IsPrinted, IsUnprinted}
use Rattle.plan_commands.specs.Verdicts.{IsTold}
use Rattle.plan_commands.proofs.Tellings.{answered, refused_outcome}

module _ (shown : Shown) (instance plan : List ℕ) where
  as_drawn : (fault : Fault) → IsUnprinted instance plan fault → IsDrawRefused shown instance plan fault
  as_drawn (TooManySlots count) refused = absurd refused
  as_drawn fault refused = refused

-- so it is of what two readers tell, where they do
module _ (shown : Shown) (IsTextAt : List ℕ → List ℕ → End → List ℕ → Type 0) (old : Option (List ℕ)) where
  pub undrawn : (a b : Option (List ℕ)) (fault : Fault) → IfSome a (λ instance. IfSome b (λ plan. IsUnprinted instance plan fault))
      → IfSome a (λ instance. IfSome b (λ plan. IsCommandAnswer (IsTextAt instance plan) (IsDrawRefused shown instance plan) old old (Refused fault)))
  undrawn None b fault refused = tt
  undrawn (Some instance) None fault refused = tt
  undrawn (Some instance) (Some plan) fault refused =
      refused_outcome (IsTextAt instance plan) (IsDrawRefused shown instance plan) (λ never. never) old fault (as_drawn shown instance plan fault refused)

module _ (width : ℕ) (shown : Shown) where
  too_large : (instance plan : List ℕ) (v : Verified) → IsPrinted instance plan v → (fault : Fault) → IsUndrawn shown v.instance v.plan fault
      → IsDrawRefused shown instance plan fault
  too_large instance plan v is Memory why = tt
  too_large instance plan v is (TooManySlots count) why = record { verified = v; is = is; many = why }
  too_large instance plan v is fault why = absurd why

  pub drawn_of_readers : (a b : Option (List ℕ)) (v : Verified) (old new : Option (List ℕ)) (end : End)
      → IfSome a (λ instance. IfSome b (λ plan. IsPrinted instance plan v))
      → IsCommandAnswer (OnDone (IsPictureText width shown v.instance v.plan)) (IsUndrawn shown v.instance v.plan) old new end
      → IfSome a (λ instance. IfSome b (λ plan. IsDrawAnswer width shown instance plan old new end))
  drawn_of_readers None b v old new end is drawn = tt
  drawn_of_readers (Some instance) None v old new end is drawn = tt
  drawn_of_readers (Some instance) (Some plan) v old new end is drawn =
      answered (IsPictureText width shown v.instance v.plan) (IsTold (IsPrinted instance plan) (IsPictureText width shown))
      (λ text tells. record { verified = v; is = is; tells = tells })
      (IsUndrawn shown v.instance v.plan) (IsDrawRefused shown instance plan) (too_large instance plan v is) old new end drawn
