use Rattle.plan_format.proofs.Spaced.{head_pushed}
use Rattle.plan_format.proofs.printing.push_head.Goals as goal

pub returns : goal.returns
returns c =
    head_pushed c.args.instance.now c.first_line.result.now c.args.text.now.items c.extend_from_slice.new.self.items
    c.extend_from_slice-2.new.self.items c.push_number.new.text.items c.push.new.self.items c.args.delay
    c.first_line.ensures c.in_ok-extend_from_slice.ensures.items c.in_ok-extend_from_slice-2.ensures.items
    c.in_ok-push_number.ensures.ok c.in_ok-push.ensures.items
