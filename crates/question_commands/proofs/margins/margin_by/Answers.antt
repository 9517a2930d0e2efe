use Rattle.question_commands.proofs.MarginAnswers.{margined_by, plan_valid, printable, process_there, same_processes}
use Rattle.question_commands.proofs.margins.margin_by.Goals as goal

pub greatest_margin-requires-clause-there : goal.greatest_margin-requires-clause-there
greatest_margin-requires-clause-there g c = λ κs alive.
    same_processes c.args.instance.now c.in_ok-within.within c.args.terms c.in_ok-within.ensures c.args.processes.now c.requires.there

pub texts_of-requires-clause-printable : goal.texts_of-requires-clause-printable
texts_of-requires-clause-printable g c =
    printable c.in_ok-within.within c.args.processes.now c.args.terms.scale c.args.asking.now.options c.nodes-base.ensures.instance
    (same_processes c.args.instance.now c.in_ok-within.within c.args.terms c.in_ok-within.ensures c.args.processes.now c.requires.there)
    c.requires.some c.in-Ok.margin c.in-Ok.ensures

pub texts_of-requires-clause-process : goal.texts_of-requires-clause-process
texts_of-requires-clause-process g c =
    process_there c.args.instance.now c.in_ok-within.within c.args.terms c.in_ok-within.ensures c.args.processes.now c.args.asking.now.options
    c.in-Ok.margin c.in-Ok.ensures

pub texts_of-requires-clause-valid : goal.texts_of-requires-clause-valid
texts_of-requires-clause-valid g c =
    plan_valid c.args.instance.now c.in_ok-within.within c.args.terms c.in_ok-within.ensures c.args.processes.now c.args.asking.now.options
    c.in-Ok.margin c.in-Ok.ensures

pub returns-in-Ok-texts_of : goal.returns-in-Ok-texts_of
returns-in-Ok-texts_of g c =
    margined_by c.args.instance.now c.in_ok-within.within c.args.terms c.in_ok-within.ensures c.args.processes.now c.args.asking.now.options
    c.in-Ok.margin c.in-Ok-texts_of.texts c.in-Ok.ensures c.in-Ok-texts_of.ensures
