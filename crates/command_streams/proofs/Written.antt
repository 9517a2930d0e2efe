-- What a writer holds after one write more.
use Rattle.std.proofs.Common.{ℕ, ◌+◌, List, ◌++◌, take, drop, Some, None, Option, sym, ap, ◌∙◌, append_assoc}
use Rattle.std.proofs.Math.Seq.{take-add}
use Rattle.std.specs.Io.KnownBytes.{Appends}

pub Appends-take_more : (old middle new : Option (List ℕ)) (text : List ℕ) (at n : ℕ) → Appends old middle (take at text)
    → Appends middle new (take n (drop at text)) → Appends old new (take (at + n) text)
Appends-take_more None middle new text at n first second = tt
Appends-take_more (Some xs) None new text at n first second = absurd first
Appends-take_more (Some xs) (Some ys) None text at n first second = absurd second
Appends-take_more (Some xs) (Some ys) (Some zs) text at n first second =
    second ∙ ap (λ (bs : List ℕ). bs ++ take n (drop at text)) first ∙ append_assoc xs (take at text) (take n (drop at text))
    ∙ ap (λ (bs : List ℕ). xs ++ bs) (sym (take-add at n text))
