-- Whether processes or nodes are twins can be told.
use Rattle.std.proofs.Common.{◌≡◌, ◌≢◌, ℕ, ◌<◌, ◌↔◌, length, Contains, refl, subst}
use Rattle.ttp_model.specs.Instance.{Instance, node_at, process_at, link_at, message_at, source_of}
use Rattle.ttp_model.specs.Graph.{HasLink}
use Rattle.ttp_model.specs.Twins.{AreTwins, AreSilentTwins, SendsNothing, ReceivesNothing}
use Rattle.ttp_model.proofs.Decide.{Decision, like, both, implied, refuted, equal, below, each_below, some_below, contained, equal_lists}

module _ (i : Instance) where
  pub link_or_not : (p q : ℕ) → Decision (HasLink i p q)
  link_or_not p q = like ((l : ℕ) × (l < length i.links) × (((link_at i l).before ≡ p) × ((link_at i l).after ≡ q))) (HasLink i p q)
      (λ some. record { link = some.0; is_there = some.1; before = some.2.0; after = some.2.1 })
      (λ has. (has.link, has.is_there, (has.before, has.after)))
      (some_below (λ l. ((link_at i l).before ≡ p) × ((link_at i l).after ≡ q)) (length i.links) (λ l. both _ _ (equal _ _) (equal _ _)))

  pub sends_nothing : (p : ℕ) → Decision (SendsNothing i p)
  sends_nothing p = each_below (λ m. (message_at i m).sender ≢ p) (length i.messages) (λ m. refuted _ (equal _ _))

  pub receives_nothing : (p : ℕ) → Decision (ReceivesNothing i p)
  receives_nothing p = like ((m : ℕ) → m < length i.messages → ¬ Contains (message_at i m).receivers p) (ReceivesNothing i p)
      (λ none q has. none has.message has.is_there has.receiver)
      (λ none m inside contains. none (message_at i m).sender (record { message = m; is_there = inside; sender = refl; receiver = contains }))
      (each_below (λ m. ¬ Contains (message_at i m).receivers p) (length i.messages) (λ m. refuted _ (contained _ _)))

  -- what links to p links to q
  links_in : (p q : ℕ) → Decision ((k : ℕ) → HasLink i k p → HasLink i k q)
  links_in p q = like ((l : ℕ) → l < length i.links → (link_at i l).after ≡ p → HasLink i (link_at i l).before q) ((k : ℕ) → HasLink i k p → HasLink i k q)
      (λ each k has. subst (λ j. HasLink i j q) has.before (each has.link has.is_there has.after))
      (λ all l inside after. all (link_at i l).before (record { link = l; is_there = inside; before = refl; after = after }))
      (each_below (λ l. (link_at i l).after ≡ p → HasLink i (link_at i l).before q) (length i.links) (λ l. implied _ _ (equal _ _) (link_or_not _ _)))

  -- p links to nothing that q doesn't link to
  links_out : (p q : ℕ) → Decision ((k : ℕ) → HasLink i p k → HasLink i q k)
  links_out p q = like ((l : ℕ) → l < length i.links → (link_at i l).before ≡ p → HasLink i q (link_at i l).after) ((k : ℕ) → HasLink i p k → HasLink i q k)
      (λ each k has. subst (λ j. HasLink i q j) has.after (each has.link has.is_there has.before))
      (λ all l inside before. all (link_at i l).after (record { link = l; is_there = inside; before = before; after = refl }))
      (each_below (λ l. (link_at i l).before ≡ p → HasLink i q (link_at i l).after) (length i.links) (λ l. implied _ _ (equal _ _) (link_or_not _ _)))

  same_before : (p q : ℕ) → Decision ((k : ℕ) → HasLink i k p ↔ HasLink i k q)
  same_before p q = like (((k : ℕ) → HasLink i k p → HasLink i k q) × ((k : ℕ) → HasLink i k q → HasLink i k p)) ((k : ℕ) → HasLink i k p ↔ HasLink i k q)
      (λ ways k. (ways.0 k, ways.1 k))
      (λ same. (λ k. (same k).0, λ k. (same k).1))
      (both _ _ (links_in p q) (links_in q p))

  same_after : (p q : ℕ) → Decision ((k : ℕ) → HasLink i p k ↔ HasLink i q k)
  same_after p q = like (((k : ℕ) → HasLink i p k → HasLink i q k) × ((k : ℕ) → HasLink i q k → HasLink i p k)) ((k : ℕ) → HasLink i p k ↔ HasLink i q k)
      (λ ways k. (ways.0 k, ways.1 k))
      (λ same. (λ k. (same k).0, λ k. (same k).1))
      (both _ _ (links_out p q) (links_out q p))

  numbers : (p q : ℕ) → Decision ((((p < length i.processes) × (q < length i.processes)) × ((p ≢ q) × ((process_at i p).node ≡ (process_at i q).node))) × (((process_at i p).wcet ≡ (process_at i q).wcet) × (((process_at i p).release ≡ (process_at i q).release) × ((process_at i p).deadline ≡ (process_at i q).deadline))))
  numbers p q = both _ _
      (both _ _ (both _ _ (below _ _) (below _ _)) (both _ _ (refuted _ (equal _ _)) (equal _ _)))
      (both _ _ (equal _ _) (both _ _ (equal _ _) (equal _ _)))

  links_alike : (p q : ℕ) → Decision ((((k : ℕ) → HasLink i k p ↔ HasLink i k q) × ((k : ℕ) → HasLink i p k ↔ HasLink i q k)) × ((¬ HasLink i p q) × (¬ HasLink i q p)))
  links_alike p q = both _ _ (both _ _ (same_before p q) (same_after p q)) (both _ _ (refuted _ (link_or_not p q)) (refuted _ (link_or_not q p)))

  without_messages : (p q : ℕ) → Decision ((SendsNothing i p × SendsNothing i q) × (ReceivesNothing i p × ReceivesNothing i q))
  without_messages p q = both _ _ (both _ _ (sends_nothing p) (sends_nothing q)) (both _ _ (receives_nothing p) (receives_nothing q))

  -- two processes are twins or they aren't
  pub twins_or_not : (p q : ℕ) → Decision (AreTwins i p q)
  twins_or_not p q = like _ (AreTwins i p q)
      (λ all. record {
        p_is = all.0.0.0.0;
        q_is = all.0.0.0.1;
        two = all.0.0.1.0;
        node = all.0.0.1.1;
        wcet = all.0.1.0;
        release = all.0.1.1.0;
        deadline = all.0.1.1.1;
        predecessors = all.1.0.0.0;
        successors = all.1.0.0.1;
        no_link = all.1.0.1.0;
        no_link_back = all.1.0.1.1;
        p_sends = all.1.1.0.0;
        q_sends = all.1.1.0.1;
        p_receives = all.1.1.1.0;
        q_receives = all.1.1.1.1;
      })
      (λ t. ((((t.p_is, t.q_is), (t.two, t.node)), (t.wcet, (t.release, t.deadline))), (((t.predecessors, t.successors), (t.no_link, t.no_link_back)), ((t.p_sends, t.q_sends), (t.p_receives, t.q_receives)))))
      (both _ _ (numbers p q) (both _ _ (links_alike p q) (without_messages p q)))

  silent : (u : ℕ) → Decision ((m : ℕ) → m < length i.messages → source_of i m ≢ u)
  silent u = each_below (λ m. source_of i m ≢ u) (length i.messages) (λ m. refuted _ (equal _ _))

  -- two nodes are silent twins or they aren't
  pub silent_twins_or_not : (u v : ℕ) → Decision (AreSilentTwins i u v)
  silent_twins_or_not u v = like _ (AreSilentTwins i u v)
      (λ all. record { u_is = all.0.0; v_is = all.0.1.0; two = all.0.1.1; u_silent = all.1.0; v_silent = all.1.1.0; capacities = all.1.1.1 })
      (λ t. ((t.u_is, (t.v_is, t.two)), (t.u_silent, (t.v_silent, t.capacities))))
      (both _ _ (both _ _ (below u (length i.nodes)) (both _ _ (below v (length i.nodes)) (refuted _ (equal u v)))) (both _ _ (silent u) (both _ _ (silent v) (equal_lists (node_at i u).capacities (node_at i v).capacities))))
