-- Steps that read nothing of a choice that a wider one doesn't say too lead as far there.
use Rattle.std.proofs.Common.{◌≡◌, ◌≢◌, ℕ, List, [], ◌∷◌, IsFalse, arith, inl, inr, refl, ap, sym, subst, ◌∙◌}
use Rattle.ttp_model.specs.declared.step.Step.{Step}
use Rattle.ttp_model.specs.declared.step.Leaf.{Leaf}
use Rattle.ttp_model.specs.Instance.{Instance}
use Rattle.ttp_model.specs.Rules.{IsInstance}
use Rattle.tt_choice.specs.Choice.{Choice, IsChoice}
use Rattle.tt_choice.specs.Inside.{IsInside}
use Rattle.tt_infer.specs.declared.fact.Fact.{Fact}
use Rattle.sought_plans.specs.Known.{Known, Fits, first_facts}
use Rattle.sought_plans.specs.Conclusions.{Conclusion, StartsFrom, EndsUntil, SentFrom, SentBefore, GoesFirst, NothingLeft, IsAbout, sharpened}
use Rattle.tt_infer.specs.Sharper.{IsSharper}
use Rattle.tt_infer.specs.Leaves.{LeadSharply, ClosesSharply}
use Rattle.tt_infer.specs.Targets.{fact_of, target}
use Rattle.tt_infer.specs.Reads.{AgreeOn, AgreeOnReads}
use Rattle.tt_infer.specs.Shared.{SayAlike, IsWritten, ReadShared}
use Rattle.tt_infer.proofs.FirstFacts.{first_facts_fit}
use Rattle.tt_infer.proofs.Keeps.{Fits-sharpened}
use Rattle.tt_infer.proofs.Sound.{step_is_about}
use Rattle.tt_infer.proofs.Rows.{target_is}
use Rattle.tt_infer.proofs.monotone.FirstFacts.{first_facts_sharper}
use Rattle.tt_infer.proofs.monotone.Nested.{IsStronger}
use Rattle.tt_infer.proofs.monotone.Sharpened.{IsSharper-stronger}
use Rattle.tt_infer.proofs.SameGiven.{lawful_alike}
use Rattle.tt_infer.proofs.shared.After.{agree_after}
use Rattle.tt_infer.proofs.shared.Written.{agree_written, still_sharp}

-- a conclusion says as much as itself
stronger_itself : (k : Conclusion) → IsStronger k k
stronger_itself (StartsFrom p time) = (time, refl, omega arith)
stronger_itself (EndsUntil p time) = (time, refl, omega arith)
stronger_itself (SentFrom m r) = (r, refl, omega arith)
stronger_itself (SentBefore m r) = (r, refl, omega arith)
stronger_itself (GoesFirst p q) = refl
stronger_itself NothingLeft = refl

closed_too : (i : Instance) (f h : Known) (k : Conclusion) → h.closed ≡ f.closed → (sharpened i h k).closed ≡ (sharpened i f k).closed
closed_too i f h (StartsFrom p time) same = same
closed_too i f h (EndsUntil p time) same = same
closed_too i f h (SentFrom m r) same = same
closed_too i f h (SentBefore m r) same = same
closed_too i f h (GoesFirst p q) same = same
closed_too i f h NothingLeft same = refl

-- Behind some steps this is known of the choice, and that, which is no more, of the wider one: alike of what both say at first, and
-- of what the steps wrote.
record Shares (i : Instance) (c d : Choice) (before : List Step) (f h : Known) : Type 0 where
  fits : Fits i f
  also : Fits i h
  less : IsSharper h f
  closed : h.closed ≡ f.closed
  said : (fact : Fact) → SayAlike i c d fact → AgreeOn f h fact
  written : (fact : Fact) → IsWritten i before fact → AgreeOn f h fact

module _ (i : Instance) (c d : Choice) (goal : ℕ) (w : IsInstance i) where
  shares_after : (before : List Step) (f h : Known) (step : Step) (k : Conclusion) → Shares i c d before f h → IsAbout i k → fact_of k ≡ target i step → sharpened i f k ≢ f → Shares i c d (step ∷ before) (sharpened i f k) (sharpened i h k)
  shares_after before f h step k t about is sharp =
      let new : AgreeOn (sharpened i f k) (sharpened i h k) (target i step) = subst (AgreeOn (sharpened i f k) (sharpened i h k)) is (agree_written i f h t.fits t.also t.less k about sharp) in
      record {
        fits = Fits-sharpened i f k t.fits;
        also = Fits-sharpened i h k t.also;
        less = IsSharper-stronger i h f k k t.also t.fits t.less about (stronger_itself k);
        closed = closed_too i f h k t.closed;
        said = λ fact alike. agree_after i f h t.fits t.also k about fact (t.said fact alike);
        written = λ fact wrote. elim wrote [
          | inl here ↦ subst (AgreeOn (sharpened i f k) (sharpened i h k)) (sym here) new
          | inr earlier ↦ agree_after i f h t.fits t.also k about fact (t.written fact earlier)
        ];
      }

  lead_shared : (before : List Step) (f h : Known) (steps : List Step) (g : Known) → Shares i c d before f h → LeadSharply i c goal f steps g → ReadShared i c d goal f before steps → (end : Known) × LeadSharply i d goal h steps end × (end.closed ≡ g.closed)
  lead_shared before f h [] g t lead read = (h, refl, t.closed ∙ sym (ap (λ (k : Known). k.closed) lead))
  lead_shared before f h (step ∷ steps) g t lead read =
      let next = lead.1.0 in
      let lawful = lead.1.1 in
      let k = lawful.conclusion in
      let about = step_is_about i c goal f step k w lawful.there lawful.premise lawful.concludes in
      let is = target_is i c goal f step k lawful.concludes in
      let sharp : sharpened i f k ≢ f = λ same. lead.1.2 (lawful.known ∙ same) in
      let agree : AgreeOnReads i c goal f d goal h step = record {
        facts = λ fact reads. elim (read.0 fact reads) [ inl said ↦ t.said fact said | inr wrote ↦ t.written fact wrote ];
        limits = read.1;
      } in
      let left : IsFalse h.closed = t.closed ∙ lead.0 in
      let later = subst (λ (x : Known). Shares i c d (step ∷ before) x (sharpened i h k)) (sym lawful.known) (shares_after before f h step k t about is sharp) in
      let rest = lead_shared (step ∷ before) next (sharpened i h k) steps g later lead.1.3 (read.2 next lawful) in (
        rest.0,
        (left, (sharpened i h k, lawful_alike i c goal f d goal h step next agree lawful, still_sharp i f h t.fits t.also t.less k about left sharp, rest.1)),
        rest.2,
      )

pub leaf_shared : (i : Instance) (c d : Choice) (leaf : Leaf) → IsInstance i → IsChoice i c → IsChoice i d → IsInside i c d → ReadShared i c d leaf.goal (first_facts i c) [] leaf.steps → ClosesSharply i c leaf → ClosesSharply i d leaf
leaf_shared i c d leaf w ok wide inside read closes =
    let begin : Shares i c d [] (first_facts i c) (first_facts i d) = record {
      fits = first_facts_fit i c ok;
      also = first_facts_fit i d wide;
      less = first_facts_sharper i c d ok wide inside;
      closed = refl;
      said = λ fact alike. alike;
      written = λ fact none. absurd none;
    } in
    let led = lead_shared i c d leaf.goal w [] (first_facts i c) (first_facts i d) leaf.steps closes.0 begin closes.1 read in
    (led.0, led.1, led.2 ∙ closes.2)
