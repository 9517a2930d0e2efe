use Rattle.std.proofs.Common.{◌*◌, ℕ, ◌≡◌, ◌⊎◌, IsTrue, subst, sym}
use Rattle.tt_choice.proofs.Before.{put_same, put_kept, put_only}
use Rattle.tt_choice.proofs.Packed.{put_packed, size}
use Rattle.tt_choice.proofs.precedence.Precedence.put.Goals as goal
use Rattle.tt_choice.specs.Packed.{packed}
use Rattle.tt_choice.specs.Precedence.{goes_before}

pub returns-clause-value : goal.returns-clause-value
returns-clause-value c =
    let first = rw (← c.self.view_is) at c.requires.first in
    let second = rw (← c.self.view_is) at c.requires.second in
    let count = c.self.inside.processes in
    let words = c.self.inside.words.items in
    rw (← c.self.view_is) (put_packed count c.args.p c.args.q c.index_mut.result.now words c.index_mut.ensures.value first second c.self.invariant)

pub returns-clause-now : goal.returns-clause-now
returns-clause-now c =
    let first = rw (← c.self.view_is) at c.requires.first in
    let second = rw (← c.self.view_is) at c.requires.second in
    let count = c.self.inside.processes in
    let words = c.self.inside.words.items in
    subst (λ b. IsTrue (goes_before b c.args.p c.args.q))
    (sym (put_packed count c.args.p c.args.q c.index_mut.result.now words c.index_mut.ensures.value first second c.self.invariant))
    (put_same (packed count words) c.args.p c.args.q first second (size (count * count) 0 words))

pub returns-clause-kept : goal.returns-clause-kept
returns-clause-kept c =
    let first = rw (← c.self.view_is) at c.requires.first in
    let second = rw (← c.self.view_is) at c.requires.second in
    let count = c.self.inside.processes in
    let words = c.self.inside.words.items in
    rw (← c.self.view_is) (subst (λ b. (j k : ℕ) → IsTrue (goes_before (packed count words) j k) → IsTrue (goes_before b j k))
    (sym (put_packed count c.args.p c.args.q c.index_mut.result.now words c.index_mut.ensures.value first second c.self.invariant))
    (λ j k holds. put_kept (packed count words) c.args.p c.args.q j k first second (size (count * count) 0 words) holds))

pub returns-clause-only : goal.returns-clause-only
returns-clause-only c =
    let first = rw (← c.self.view_is) at c.requires.first in
    let second = rw (← c.self.view_is) at c.requires.second in
    let count = c.self.inside.processes in
    let words = c.self.inside.words.items in
    rw (← c.self.view_is) (subst (λ b. (j k : ℕ) → IsTrue (goes_before b j k) → IsTrue (goes_before (packed count words) j k) ⊎ ((j ≡ c.args.p) × (k ≡ c.args.q)))
    (sym (put_packed count c.args.p c.args.q c.index_mut.result.now words c.index_mut.ensures.value first second c.self.invariant))
    (λ j k holds. put_only (packed count words) c.args.p c.args.q j k first second holds))
