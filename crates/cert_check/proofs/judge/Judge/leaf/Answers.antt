use Rattle.std.proofs.Common.{ℕ, Err}
use Rattle.ttp_model.specs.Instance.{Instance}
use Rattle.certificate.specs.declared.fault.CertTextError.{CertTextError}
use Rattle.certificate.specs.declared.fault.CertTextError.TheVariants as text
use Rattle.certificate.specs.Reading.{IsFaultOf}
use Rattle.cert_check.specs.declared.fault.StreamFault.TheVariants.{Text}
use Rattle.cert_check.specs.declared.leaves.HeldLeaf.{HeldLeaf}
use Rattle.cert_check.specs.Waiting.{IsLeafAnswer, steps_of}
use Rattle.cert_check.proofs.judge.Judge.leaf.Goals as goal

-- a fault of a leaf's text is told as it is
text_fault : (i : Instance) (low : ℕ) (h : HeldLeaf) (fault : CertTextError) → IsFaultOf (Unit {0}) fault (steps_of h)
    → IsLeafAnswer i low h (Err (Text fault))
text_fault i low h text.OutOfMemory is = tt
text_fault i low h (text.At line fault) is = is

pub judge_leaf-requires : goal.judge_leaf-requires
judge_leaf-requires g c = rw c.requires.of c.requires.waits.choice

pub returns-in-Ok-judge_leaf-clause-ok : goal.returns-in-Ok-judge_leaf-clause-ok
returns-in-Ok-judge_leaf-clause-ok g c =
    let e = c.in-Ok-judge_leaf.ensures in
    let read = rw c.as_slice.ensures.value at c.in-Ok.ensures in
    let closes = rw (c.requires.of, c.requires.waits.none_kept, c.as_slice-in-Ok.ensures.value) at e.closes in
    (c.in-Ok.steps.items, (read, record { goal = e.goal; closes = closes }))

pub returns-in-Ok-clause-err : goal.returns-in-Ok-clause-err
returns-in-Ok-clause-err g c =
    let read = rw c.as_slice.ensures.value at c.in-Ok.ensures in
    let tells = rw (c.requires.of, c.requires.waits.none_kept, c.as_slice-in-Ok.ensures.value) at c.in-Err-judge_leaf.ensures.err in
    (c.in-Ok.steps.items, (read, tells))

pub returns-clause-err : goal.returns-clause-err
returns-clause-err g c =
    text_fault c.args.self.now.instance.now c.args.self.now.low c.args.held.now c.in-Err.fault (rw c.as_slice.ensures.value at c.in-Err.ensures)
