use Rattle.search_core.proofs.Ledger.{accounted, done_in}
use Rattle.search_core.proofs.laws.accounts_balance.Goals as goal

pub returns : goal.returns
returns c = record { balance = accounted; done = done_in }
