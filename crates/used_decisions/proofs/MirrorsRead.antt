-- What is marked of a message that leads turned frames alone is what such a step uses.
use Rattle.std.proofs.Common.{◌≡◌, ℕ, ◌<◌, ◌≤◌, ◌==◌, ◌⊎◌, length, true, arith, inl, inr, sym, subst}
use Rattle.std.proofs.lemmas.Bool.{eq-eqb}
use Rattle.tt_infer.specs.Sources.{Lower}
use Rattle.ttp_model.specs.Instance.{source_of}
use Rattle.ttp_model.specs.Limits.{both_channels}
use Rattle.ttp_model.specs.Network.{messages_of, is_message_of}
use Rattle.ttp_model.specs.Plans.{is_on}
use Rattle.tt_choice.specs.Branches.{root_choice}
use Rattle.tt_choice.specs.Decisions.{AreOpenDecisions}
use Rattle.sought_plans.specs.Known.{Known, lo_of, top_of}
use Rattle.tt_infer.specs.Reads.{TellsApart}
use Rattle.tt_infer.specs.declared.fact.Fact.{Fact}
use Rattle.tt_infer.specs.declared.fact.Fact.TheVariants.{FirstRound, LateRound}
use Rattle.tt_infer.specs.declared.limit.Limit.TheVariants.{Copies}
use Rattle.used_decisions.specs.Turns.{Path, last_of, fixes_any}
use Rattle.used_decisions.specs.Marks.{IsTold}
use Rattle.used_decisions.specs.declared.given.Given.{Given}
use Rattle.used_decisions.specs.declared.uses.Uses.{Uses}
use Rattle.used_decisions.specs.Steps.{IsSourceRead, TellsAside, TellsEach, TellsFact, TellsRoundsApart, decisions_of}
use Rattle.used_decisions.proofs.Each.{Stays, told_of}
use Rattle.used_decisions.proofs.OneChannel.{told_channel}
use Rattle.used_decisions.proofs.Tells.{fact_more, limit_more}

pub lower_stays : (path : Path) (given : Given) (m : ℕ) → Stays (λ uses k. k < m → TellsAside path given uses m k)
lower_stays path given m = λ old new k more told below. record {
  twice = limit_more path old new more (Copies k) (told below).twice;
  apart = λ f known fact tells. fact_more path old new more given fact ((told below).apart f known fact tells);
}

-- rounds tell that two messages are apart
pub is_apart : (f : Known) (m k : ℕ) (fact : Fact) → TellsApart f m k fact → (top_of f k ≤ lo_of f m) ⊎ (top_of f m ≤ lo_of f k)
is_apart f m k fact tells = elim tells [ inl before ↦ inl before.0 | inr behind ↦ inr behind.1 ]

pub rounds_apart : (path : Path) (given : Given) (uses : Uses) (m k : ℕ) → TellsFact path given uses (FirstRound k) → TellsFact path given uses (LateRound k)
    → TellsFact path given uses (FirstRound m) → TellsFact path given uses (LateRound m) → TellsRoundsApart path given uses m k
rounds_apart path given uses m k first late own_first own_late = λ f known fact tells. elim tells [
  | inl before ↦ elim before.1 [
    | inl is ↦ subst (TellsFact path given uses) (sym is) late
    | inr is ↦ subst (TellsFact path given uses) (sym is) own_first
  ]
  | inr behind ↦ elim behind.2 [
    | inl is ↦ subst (TellsFact path given uses) (sym is) own_late
    | inr is ↦ subst (TellsFact path given uses) (sym is) first
  ]
]

module _ (path : Path) (given : Given) (uses : Uses) (m : ℕ) (are : AreOpenDecisions path.instance (root_choice path.instance) (decisions_of path.turns))
    (own : m < length path.instance.messages → IsTold uses.levels (last_of (fixes_any m) path.turns))
    (lower : m < length path.instance.messages → TellsEach (λ uses k. k < m → TellsAside path given uses m k)
    (messages_of path.instance (source_of path.instance m)) uses) where
  aside_of : m < length path.instance.messages → (k : ℕ) → k < m → source_of path.instance k ≡ source_of path.instance m → TellsAside path given uses m k
  aside_of there k below one_node =
      let picks : is_message_of path.instance (source_of path.instance m) k ≡ true = eq-eqb (source_of path.instance k) (source_of path.instance m) one_node in
      told_of (λ uses k. k < m → TellsAside path given uses m k) (is_message_of path.instance (source_of path.instance m))
      (length path.instance.messages) uses k (lower there) (omega (arith, below, there)) picks below

  pub mirror_read : IsSourceRead path given uses (Lower m)
  mirror_read = record {
    facts = λ f known there fact reads. (aside_of there reads.0 reads.1 reads.2.0).apart f known fact reads.2.1;
    limits = λ f known there place limit reads. elim reads [
      | inl of_own ↦ elim of_own [
        | inl is ↦ rw is (told_channel path.instance m there path.turns are uses.levels (λ (k : ℕ). k == both_channels) (own there))
        | inr is ↦ rw is (told_channel path.instance m there path.turns are uses.levels (is_on 1) (own there))
      ]
      | inr some ↦ rw some.4 (aside_of there some.0 some.1 some.2).twice
    ];
  }
