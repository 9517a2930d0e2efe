use Rattle.std.proofs.Common.{arith, refl, rules, ◌∙◌}
use Rattle.cert_check.proofs.Pieces.{nothing_to_come}
use Rattle.cert_check.proofs.batches.Batches.read_on.Goals as goal

pub nodes-init : goal.nodes-init
nodes-init g c = record {
  stands = λ low first front s. s;
  room = c.requires.room;
  most = refl;
  less = omega arith;
  still = λ none. refl;
}

pub take_next-self-requires-clause-somewhere : goal.take_next-self-requires-clause-somewhere
take_next-self-requires-clause-somewhere g c =
    let s = c.requires.somewhere in
    (s.0, s.1, s.2, c.nodes.invariant.stands s.0 s.1 s.2 s.3)

pub returns-then-is_full : goal.returns-then-is_full
returns-then-is_full g c =
    let e = c.take_next-self.ensures in
    let before = c.nodes.invariant in
    record {
      stands = λ low first front s. e.stands low first front (before.stands low first front s);
      few = omega (arith, e.few, before.room, e.most);
      most = e.most ∙ before.most;
      less = λ some. omega (arith, e.less, before.less);
      still = λ none. absurd (omega (arith, none, e.less, before.less));
    }

pub nodes-preserved : goal.nodes-preserved
nodes-preserved g c =
    let e = c.take_next-self.ensures in
    let before = c.nodes.invariant in
    record {
      stands = λ low first front s. e.stands low first front (before.stands low first front s);
      room = search rules;
      most = e.most ∙ before.most;
      less = omega (arith, e.less, before.less);
      still = λ none. absurd (omega (arith, none, e.less, before.less));
    }

pub returns : goal.returns
returns g c =
    let before = c.nodes.invariant in
    let ended = nothing_to_come c.nodes.self.ahead c.nodes.stream (c.is_open.ensures.no c.nodes-test.false) in
    record {
      stands = before.stands;
      few = omega (arith, before.room);
      most = before.most;
      less = λ some. omega (arith, some, ended);
      still = before.still;
    }
