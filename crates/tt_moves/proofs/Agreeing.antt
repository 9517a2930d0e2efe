-- Twins are two processes that agree.
use Rattle.std.proofs.Common.{◌<◌, ℕ, length, refl, inl, inr}
use Rattle.ttp_model.specs.Instance.{Instance, message_at}
use Rattle.ttp_model.specs.Twins.{AreTwins, SendsNothing, ReceivesNothing}
use Rattle.tt_moves.specs.Alike.{Agree, HasNoMessages}

module _ (i : Instance) (p q : ℕ) where
  pub twins_from_agree : p < length i.processes → q < length i.processes → Agree i p q → AreTwins i p q
  twins_from_agree p_is q_is a = record {
    p_is = p_is;
    q_is = q_is;
    two = a.like.two;
    node = a.like.node;
    wcet = a.like.wcet;
    release = a.like.release;
    deadline = a.like.deadline;
    predecessors = λ k. (a.links.predecessors.each k, a.links.predecessors_back.each k);
    successors = λ k. (a.links.successors.each k, a.links.successors_back.each k);
    no_link = a.unlinked.there;
    no_link_back = a.unlinked.back;
    p_sends = λ m inside is. a.first.none m inside (record { one = inl is });
    q_sends = λ m inside is. a.second.none m inside (record { one = inl is });
    p_receives = λ k has. a.first.none has.message has.is_there (record { one = inr has.receiver });
    q_receives = λ k has. a.second.none has.message has.is_there (record { one = inr has.receiver });
  }

  pub agree_from_twins : AreTwins i p q → Agree i p q
  agree_from_twins t = record {
    like = record { two = t.two; node = t.node; wcet = t.wcet; release = t.release; deadline = t.deadline };
    unlinked = record { there = t.no_link; back = t.no_link_back };
    links = record {
      predecessors = record { each = λ k. (t.predecessors k).0 };
      predecessors_back = record { each = λ k. (t.predecessors k).1 };
      successors = record { each = λ k. (t.successors k).0 };
      successors_back = record { each = λ k. (t.successors k).1 };
    };
    first = none_from p t.p_sends t.p_receives;
    second = none_from q t.q_sends t.q_receives;
  }
    where
      none_from : (r : ℕ) → SendsNothing i r → ReceivesNothing i r → HasNoMessages i r
      none_from r sends receives = record {
        none = λ m inside is. elim is.one [
          | inl sender ↦ sends m inside sender
          | inr among ↦ receives (message_at i m).sender (record { message = m; is_there = inside; sender = refl; receiver = among })
        ];
      }
