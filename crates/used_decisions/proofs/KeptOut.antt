-- What keeps a message out of a frame is marked.
use Rattle.std.proofs.Common.{◌≡◌, ◌≢◌, ℕ, ◌<◌, ◌⊎◌, length, true, false, IsTrue, IsFalse, inl, inr, sym, subst}
use Rattle.std.proofs.lemmas.Bool.{eq-eqb}
use Rattle.tt_infer.specs.Sources.{Earlier}
use Rattle.ttp_model.specs.Instance.{source_of}
use Rattle.ttp_model.specs.Network.{messages_of, is_message_of}
use Rattle.tt_choice.specs.Kept.{sets_least, sets_greatest}
use Rattle.sought_plans.specs.Known.{Known, lo_of}
use Rattle.tt_infer.specs.declared.fact.Fact.TheVariants.{FirstRound, LateRound}
use Rattle.tt_infer.specs.declared.limit.Limit.TheVariants.{LeastSlot, LeastFrame}
use Rattle.used_decisions.specs.Turns.{Path, last_of}
use Rattle.used_decisions.specs.declared.given.Given.{Given}
use Rattle.used_decisions.specs.declared.uses.Uses.{Uses}
use Rattle.used_decisions.specs.Given.{gives_least}
use Rattle.used_decisions.specs.Uses.{IsMore}
use Rattle.used_decisions.specs.Steps.{AreRoundsKnown, IsSourceRead, TellsEach, TellsFact, TellsKeptOut, TellsLimit, is_behind, is_below}
use Rattle.used_decisions.proofs.Each.{Stays, told_of}
use Rattle.used_decisions.proofs.Rounds.{later_is_known, is_not_earlier, earlier_is_known}
use Rattle.used_decisions.proofs.Tells.{fact_more}

pub kept_out_more : (path : Path) (given : Given) (old new : Uses) (r k : ℕ) → IsMore old new → TellsKeptOut path given old r k
    → TellsKeptOut path given new r k
kept_out_more path given old new r k more told = λ f known fact keeps. fact_more path old new more given fact (told f known fact keeps)

pub other_stays : (path : Path) (given : Given) (m r : ℕ) → Stays (λ uses k. k ≢ m → TellsKeptOut path given uses r k)
other_stays path given m r = λ old new k more told differ. kept_out_more path given old new r k more (told differ)

module _ (path : Path) (given : Given) (uses : Uses) (m r : ℕ) (there : m < length path.instance.messages) where
  -- a branch says that it is sent later, and is marked
  pub later_told : IsFalse (gives_least given m) → IsTrue (is_behind r (last_of (sets_least m) path.turns))
      → TellsFact path given uses (FirstRound m) → TellsKeptOut path given uses r m
  later_told never behind told = λ f known fact keeps. elim keeps [
    | inl later ↦ subst (TellsFact path given uses) (sym later.1) told
    | inr early ↦ absurd (is_not_earlier path given f known m there r never behind early.0)
  ]

  first_told : (f : Known) → AreRoundsKnown path given f → IsTrue (gives_least given m) ⊎ IsFalse (is_behind r (last_of (sets_least m) path.turns))
      → r < lo_of f m → TellsFact path given uses (FirstRound m)
  first_told f known not_later later = inl (later_is_known path given f known m there r later not_later)

  -- none does, and the one on its greatest round is marked
  pub earlier_told : IsTrue (gives_least given m) ⊎ IsFalse (is_behind r (last_of (sets_least m) path.turns))
      → TellsFact path given uses (LateRound m) → TellsKeptOut path given uses r m
  earlier_told not_later told = λ f known fact keeps. elim keeps [
    | inl later ↦ subst (TellsFact path given uses) (sym later.1) (first_told f known not_later later.0)
    | inr early ↦ subst (TellsFact path given uses) (sym early.2) told
  ]

  -- nor does that say that it is sent earlier
  pub neither_told : IsTrue (gives_least given m) ⊎ IsFalse (is_behind r (last_of (sets_least m) path.turns))
      → is_below r (last_of (sets_greatest m) path.turns) ≡ false → TellsKeptOut path given uses r m
  neither_told not_later not_below = λ f known fact keeps. elim keeps [
    | inl later ↦ subst (TellsFact path given uses) (sym later.1) (first_told f known not_later later.0)
    | inr early ↦ subst (TellsFact path given uses) (sym early.2) (earlier_is_known path given f known m there uses.levels r early.1 not_below)
  ]

pub late_read : (path : Path) (given : Given) (uses : Uses) (m r : ℕ)
    → (m < length path.instance.messages → TellsLimit path uses (LeastSlot (source_of path.instance m)))
    → (m < length path.instance.messages → TellsLimit path uses (LeastFrame (source_of path.instance m)))
    → (m < length path.instance.messages → TellsFact path given uses (FirstRound m))
    → (m < length path.instance.messages → TellsEach (λ uses k. k ≢ m → TellsKeptOut path given uses r k)
    (messages_of path.instance (source_of path.instance m)) uses)
    → IsSourceRead path given uses (Earlier m r)
late_read path given uses m r slot capacity first others = record {
  facts = λ f known there fact reads. elim reads [
    | inl own ↦ elim own [
      | inl is ↦ subst (TellsFact path given uses) (sym is) (first there)
      | inr is ↦ subst (TellsFact path given uses) (sym is) tt
    ]
    | inr some ↦
        let k = some.0 in
        let picks : is_message_of path.instance (source_of path.instance m) k ≡ true = eq-eqb _ _ some.2.0.one_node in
        told_of (λ uses k. k ≢ m → TellsKeptOut path given uses r k) (is_message_of path.instance (source_of path.instance m))
        (length path.instance.messages) uses k (others there) some.1 picks some.2.0.other f known fact some.2.1
  ];
  limits = λ f known there place limit reads. elim reads [ inl is ↦ rw is (slot there) | inr is ↦ rw is (capacity there) ];
}
