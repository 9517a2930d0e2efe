use Rattle.plan_commands.proofs.Traced.{has_nodes, too_few, wrong_word}
use Rattle.plan_commands.proofs.replay.text_of_losses.Goals as goal

pub returns-in-Err-TooFewNodes-clause-judged : goal.returns-in-Err-TooFewNodes-clause-judged
returns-in-Err-TooFewNodes-clause-judged c = λ plan of.
    too_few c.args.instance.now c.args.medl.now c.nodes-nodes.ensures.instance c.requires.tables
    (rw c.in-Err-TooFewNodes.field-0-is at c.in-Err-TooFewNodes.ensures)

pub word_of_loss-requires-clause-nodes : goal.word_of_loss-requires-clause-nodes
word_of_loss-requires-clause-nodes c =
    has_nodes c.args.instance.now c.args.medl.now c.nodes-nodes.ensures.instance c.requires.tables

pub returns-in-Err-WrongLoss-clause-judged : goal.returns-in-Err-WrongLoss-clause-judged
returns-in-Err-WrongLoss-clause-judged c = λ plan of.
    wrong_word c.args.instance.now c.args.medl.now c.nodes-nodes.ensures.instance c.requires.tables plan of c.args.words.now _ c.in-Err-WrongLoss.k _ c.requires.losses
    (rw c.in-Err-WrongLoss.field-0-is at c.in-Err-WrongLoss.ensures) (rw c.in-Err-WrongLoss.k-is at c.word_of_loss.ensures)
