use Rattle.std.proofs.Common.{length, slice_index, arith, eq-eqb}
use Rattle.std.proofs.lemmas.Bool.{eqb-true}
use Rattle.ttp_model.specs.declared.error.Place.TheVariants.{AtMessage}
use Rattle.plan_sheets.proofs.Loads.{bytes-of_no_messages, messages-of_no_bytes}
use Rattle.plan_sheets.proofs.pictures.laws.slots_without_messages_are_hollow.Goals as goal

pub returns : goal.returns
returns c = λ i plan r k channel wi.
    let n = slice_index plan.order k in
    let count = length i.messages in (
      λ hollow. messages-of_no_bytes i plan n r channel (λ m inside. (wi.ranges (AtMessage m) inside).0) count (omega arith) (eqb-true _ 0 hollow),
      λ none. eq-eqb _ 0 (bytes-of_no_messages i plan n r channel count none),
    )
