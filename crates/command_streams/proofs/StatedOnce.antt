-- Bytes that state an instance are read as that one, unless the reader failed or memory was refused.
use Rattle.std.proofs.Common.{◌≡◌, ℕ, ◌<◌, List, length, Option, None, Some, IfSome, Result, Ok, MatchResult, arith, refl, sym, ap, subst, length-append}
use Rattle.ttp_model.specs.Instance.{Instance}
use Rattle.instance_text.specs.Faults.{States}
use Rattle.instance_text.specs.declared.error.TextError.{TextError}
use Rattle.instance_text.specs.declared.error.TextError.TheVariants as text
use Rattle.command_streams.specs.declared.input.Taken.{Taken}
use Rattle.command_streams.specs.declared.input.Stop.TheVariants.{OverLimit}
use Rattle.command_streams.specs.declared.ending.Source.{Source}
use Rattle.command_streams.specs.declared.ending.Source.TheVariants as source
use Rattle.command_streams.specs.declared.ending.Fault.{Fault}
use Rattle.command_streams.specs.declared.ending.Fault.TheVariants.{InstanceText, Memory, TooLong, Unread}
use Rattle.command_streams.specs.Endings.{IsNotOfTexts}
use Rattle.command_streams.specs.declared.limits.TheConstants.{INSTANCE_LIMIT}
use Rattle.command_streams.specs.Instances.{HasInstance, IsInstanceFault}
use Rattle.command_streams.specs.Streams.{IsReadFault, IsTaken}

-- bytes state one instance
pub stated_once : (bytes : List ℕ) (i j : Instance) → States bytes (Ok i) → States bytes (Ok j) → i ≡ j
stated_once bytes i j a b =
    let one = a.document.parsed in
    let other = b.document.parsed in
    let reads = a.reading in
    let said = b.reading in
    cc

-- want of memory for a text is no fault of it
pub text_memory : (error : TextError) → error ≡ text.OutOfMemory → IsNotOfTexts (InstanceText error)
text_memory error is = subst (λ (e : TextError). IsNotOfTexts (InstanceText e)) (sym is) refl

-- ---- a reader's fault

-- where one byte more than the limit was taken, there are more
pub over_limit : (limit : ℕ) (taken : Taken) (known : Option (List ℕ)) → taken.stop ≡ OverLimit → IfSome known (IsTaken limit taken)
    → IfSome known (λ bytes. limit < length bytes)
over_limit limit taken None over is = tt
over_limit limit taken (Some bytes) over is =
    let until = rw over at is.until in
    omega (arith, until, ap length is.first, length-append taken.bytes.items is.rest)

-- what holds of each fault of reading
module _ (Holds : Fault → Type 0) (of : Source) (limit : ℕ) (known : Option (List ℕ)) (memory : Holds Memory) (unread : Holds (Unread of))
    (long : IfSome known (λ bytes. limit < length bytes) → Holds (TooLong of)) where
  pub by_read_fault : (fault : Fault) → IsReadFault of limit known fault → Holds fault
  by_read_fault Memory is = memory
  by_read_fault (Unread other) is = subst (λ (s : Source). Holds (Unread s)) (sym is) unread
  by_read_fault (TooLong other) is = subst (λ (s : Source). Holds (TooLong s)) (sym is.0) (long is.1)
  by_read_fault fault is = absurd is

pub unread_judged : (known : Option (List ℕ)) (fault : Fault) → IsReadFault source.Instance INSTANCE_LIMIT known fault
    → IfSome known (λ bytes. IsInstanceFault bytes fault)
unread_judged None fault is = tt
unread_judged (Some bytes) fault is = by_read_fault (IsInstanceFault bytes) source.Instance INSTANCE_LIMIT (Some bytes) tt tt (λ long. long) fault is

-- such a fault is none of a text that states an instance, which is within the limit
no_longer : (bytes : List ℕ) (i : Instance) → HasInstance bytes i → INSTANCE_LIMIT < length bytes → ⊥
no_longer bytes i has long = omega (arith, long, has.within)

pub unread_only : (known : Option (List ℕ)) (fault : Fault) → IsReadFault source.Instance INSTANCE_LIMIT known fault
    → IfSome known (λ bytes. (i : Instance) → HasInstance bytes i → IsNotOfTexts fault)
unread_only None fault is = tt
unread_only (Some bytes) fault is =
    λ i has. by_read_fault IsNotOfTexts source.Instance INSTANCE_LIMIT (Some bytes) refl tt (λ long. absurd (no_longer bytes i has long)) fault is

-- what is read of a reader's bytes is so of all that it had
pub read_only : (known : Option (List ℕ)) (read : List ℕ) (result : Result Instance Fault) → IfSome known (λ bytes. read ≡ bytes)
    → ((i : Instance) → HasInstance read i → MatchResult result (λ j. j ≡ i) IsNotOfTexts)
    → IfSome known (λ bytes. (i : Instance) → HasInstance bytes i → MatchResult result (λ j. j ≡ i) IsNotOfTexts)
read_only None read result all only = tt
read_only (Some bytes) read result all only = λ i has. only i (subst (λ (b : List ℕ). HasInstance b i) (sym all) has)
