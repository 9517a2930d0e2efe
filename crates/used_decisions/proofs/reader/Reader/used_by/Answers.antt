use Rattle.std.proofs.Common.{◌≡◌, length, arith, sym, subst, ◌∙◌}
use Rattle.ttp_model.specs.Instance.{Instance}
use Rattle.used_decisions.specs.Steps.{HasFlags}
use Rattle.used_decisions.proofs.UsedBy.{begun, used_is_kept_of, wider}
use Rattle.used_decisions.proofs.reader.Reader.used_by.Goals as goal

pub returns-clause-kept : goal.returns-clause-kept
returns-clause-kept c = λ ms same room w are keeps closes.
    let path = c.args.path.now in
    let is : c.self.inside.instance.now ≡ path.instance = c.self.view_is ∙ sym same in
    let has : HasFlags path.instance c.self.inside.given = subst (λ (i : Instance). HasFlags i c.self.inside.given) is c.self.invariant in
    let b = c.begin_leaf.ensures in
    let fresh = begun path.instance c.self.inside.given c.begin_leaf.new.self b.processes b.least b.greatest b.before has in
    let wide = wider path.turns c.args.depth (length c.in_ok-uses.uses.levels) c.in_ok-uses.ensures room in
    used_is_kept_of c.args.self.now path c.in_ok-uses.uses c.read_steps.new.uses c.levels.result ms c.args.leaf.now same w are wide keeps
    (λ read. rw c.as_slice.ensures.value at (c.read_steps.ensures.told read fresh.1))
    (record {
      kept = c.levels.ensures.kept;
      places =
          c.levels.ensures.places (wider path.turns (length c.in_ok-uses.uses.levels) (length c.read_steps.new.uses.levels)
          (omega (arith, c.read_steps.ensures.more.room)) wide);
      above =
          c.levels.ensures.above (wider path.turns (length c.in_ok-uses.uses.levels) (length c.read_steps.new.uses.levels)
          (omega (arith, c.read_steps.ensures.more.room)) wide);
      below =
          c.levels.ensures.below (wider path.turns (length c.in_ok-uses.uses.levels) (length c.read_steps.new.uses.levels)
          (omega (arith, c.read_steps.ensures.more.room)) wide);
    })
    closes
