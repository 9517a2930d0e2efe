use Rattle.std.proofs.Common.{◌<◌, length, arith}
use Rattle.std.proofs.lemmas.List.Elements.{All-contains}
use Rattle.ttp_model.specs.Rules.{IsProcess}
use Rattle.ttp_model.specs.Instance.{message_at}
use Rattle.ttp_model.specs.declared.error.Place.TheVariants.{AtMessage}
use Rattle.evidence.proofs.Refused.{no_instance}
use Rattle.evidence.proofs.model.rules.received_by_nobody.Goals as goal

pub returns : goal.returns
returns c = λ p sent. no_instance _ _ _ c.tables.view_is c.build.ensures.ok
    (λ w. let inside : length c.args.tables.processes < length c.args.tables.processes = All-contains (IsProcess c.args.tables)
    (message_at c.args.tables sent.message).receivers (length c.args.tables.processes)
    (w.indices (AtMessage sent.message) sent.is_there).1 sent.receiver in omega arith)
