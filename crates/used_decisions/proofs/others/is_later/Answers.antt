use Rattle.std.proofs.Common.{inl, inr, sym, ◌∙◌}
use Rattle.std.proofs.lemmas.Bool.{false≢true}
use Rattle.used_decisions.proofs.others.is_later.Goals as goal

pub returns-then-has_least : goal.returns-then-has_least
returns-then-has_least c = record {
  given = λ is. absurd (false≢true is);
  behind = λ is there. absurd (false≢true is);
  no = λ is there. inl (sym c.has_least.ensures ∙ c.if-has_least.true);
}

pub returns : goal.returns
returns c = record {
  given = λ is. sym c.has_least.ensures ∙ c.if-has_least.false;
  behind = λ is there. sym (c.begins_behind.ensures there) ∙ is;
  no = λ is there. inr (sym (c.begins_behind.ensures there) ∙ is);
}
