-- The first of those of which something holds: one more, and no more.
use Rattle.std.proofs.Common.{◌≡◌, ◌⊎◌, ◌<◌, List, [], ◌∷◌, ◌++◌, All, length, arith, inl, inr}
use Rattle.std.proofs.lemmas.List.{length_push}
use Rattle.std.proofs.lemmas.List.Elements.{All-push, All-weaker, Contains-append_left, Contains-push}
use Rattle.std.proofs.lemmas.List.Quantifiers.{all_pairs_push}
use Rattle.plan_cycles.specs.declared.fits.Fit.{Fit}
use Rattle.plan_cycles.specs.Fits.{AreFirst, GoesBefore, most_fits}

pub first_of_none : (Holds : Fit → Type 0) → ((fit : Fit) → ¬ Holds fit) → AreFirst Holds []
first_of_none Holds none = record {
  each = λ k d inside. absurd (omega (arith, inside));
  rising = λ j k d less inside. absurd (omega (arith, inside));
  few = omega arith;
  others = λ fit holds. absurd (none fit holds);
}

module _ (Holds Held : Fit → Type 0) (fits : List Fit) (are : AreFirst Holds fits) (more : (fit : Fit) → Holds fit → Held fit) where
  -- it holds of no others
  pub first_same : ((fit : Fit) → Held fit → Holds fit) → AreFirst Held fits
  first_same less = record {
    each = All-weaker Holds Held more fits are.each;
    rising = are.rising;
    few = are.few;
    others = λ fit held. are.others fit (less fit held);
  }

  -- it holds of others that go behind all of these, which are as many as may be
  pub first_full : length fits ≡ most_fits → ((fit : Fit) → Held fit → Holds fit ⊎ All (λ told. GoesBefore told fit) fits) → AreFirst Held fits
  first_full full behind = record {
    each = All-weaker Holds Held more fits are.each;
    rising = are.rising;
    few = are.few;
    others = λ fit held. elim (behind fit held) [ inl holds ↦ are.others fit holds | inr after ↦ inr (full, after) ];
  }

  -- it holds of one more, which goes behind all of these, and there is room
  pub first_more : (next : Fit) → length fits < most_fits → Held next → All (λ told. GoesBefore told next) fits → ((fit : Fit) → Held fit → Holds fit ⊎ (fit ≡ next)) → AreFirst Held (fits ++ next ∷ [])
  first_more next room held after known = record {
    each = All-push Held fits next (All-weaker Holds Held more fits are.each) held;
    rising = all_pairs_push GoesBefore fits next are.rising after;
    few = omega (arith, length_push fits next, room);
    others = λ fit is. elim (known fit is) [
      | inl holds ↦ elim (are.others fit holds) [
        | inl among ↦ inl (Contains-append_left fits (next ∷ []) fit among)
        | inr full ↦ absurd (omega (arith, full.0, room))
      ]
      | inr same ↦ inl (rw same (Contains-push fits next))
    ];
  }
