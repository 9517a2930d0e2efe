-- The entries of the messages so far, and those of a round in which none is sent.
use Rattle.std.proofs.Common.{◌≡◌, ℕ, zero, suc, ◌+◌, ◌<◌, Bool, true, false, List, [], ◌∷◌, ◌++◌, Contains, length, filter, map, append_assoc, arith, refl, ap, sym, add-one}
use Rattle.std.specs.List.{flat_map, range_with_len}
use Rattle.std.proofs.lemmas.List.{append-nil}
use Rattle.std.proofs.lemmas.List.FromFn.{filter_of_map_range_with_len_more}
use Rattle.ttp_model.specs.declared.plan.Plan.{Plan}
use Rattle.ttp_model.specs.Instance.{Instance}
use Rattle.ttp_model.specs.Plans.{HasLengths}
use Rattle.plan_facts.proofs.Silent.{in_no_frame}
use Rattle.medl_tables.specs.Rows.{entries_of, entries_on, entry_of, is_entry}

module _ {X : Type 0} (p : X → Bool) (f : ℕ → X) where
  abbrev kept : ℕ → List X
  kept m = filter p (map f (range_with_len 0 m))

  pub filter-taken : (before now : List X) (m : ℕ) (x : X) → p (f m) ≡ true → x ≡ f m → now ≡ before ++ filter p (map f (range_with_len 0 m))
      → now ++ x ∷ [] ≡ before ++ filter p (map f (range_with_len 0 (m + 1)))
  filter-taken before now m x passes is so_far =
      rw (filter_of_map_range_with_len_more p f 0 m m (omega arith), passes, is, so_far) (append_assoc before (kept m) (f m ∷ []))

  pub filter-left : (before now : List X) (m : ℕ) → p (f m) ≡ false → now ≡ before ++ filter p (map f (range_with_len 0 m))
      → now ≡ before ++ filter p (map f (range_with_len 0 (m + 1)))
  filter-left before now m fails so_far =
      rw (filter_of_map_range_with_len_more p f 0 m m (omega arith), fails, so_far) (ap (λ rest. before ++ rest) (sym (append-nil (kept m))))

  filter-none : (n : ℕ) → ((m : ℕ) → m < n → p (f m) ≡ false) → filter p (map f (range_with_len 0 n)) ≡ []
  filter-none zero fails = refl
  filter-none (suc n) fails =
      let more = rw add-one at (filter_of_map_range_with_len_more p f 0 n n (omega arith)) in
      rw (more, filter-none n (λ m inside. fails m (omega (arith, inside))), fails n (omega arith)) refl

-- nothing of each is nothing of all
pub flat_map-none : {X Y : Type 0} (f : X → List Y) (xs : List X) → ((x : X) → f x ≡ []) → flat_map f xs ≡ []
flat_map-none f [] none = refl
flat_map-none f (x ∷ xs) none = rw (none x, flat_map-none f xs none) refl

pub entries_of-none : (i : Instance) (plan : Plan) (node n r : ℕ) → HasLengths i plan → ¬ Contains plan.rounds r → entries_of i plan node n r ≡ []
entries_of-none i plan node n r lengths none = flat_map-none (entries_on i plan node n r) (range_with_len 0 i.cluster.channels) each_channel
  where
    each : (c m : ℕ) → m < length i.messages → is_entry i plan node n r c m ≡ false
    each c m inside = rw (in_no_frame i plan n r c lengths none m inside) refl

    each_channel : (c : ℕ) → entries_on i plan node n r c ≡ []
    each_channel c = filter-none (λ e. is_entry i plan node n r c e.message) (entry_of i plan n r c) (length i.messages) (each c)
