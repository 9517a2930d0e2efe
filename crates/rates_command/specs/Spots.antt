-- Which place is told, with the name that stands there. Own profile.
use Rattle.std.specs.Prelude.{◌≡◌, List, ℕ, [], Option, Some, codes}
use Rattle.toml.specs.Data.{Members}
use Rattle.instance_text.specs.declared.error.Place.TheVariants.{Cluster, Node, Process, Link, Message}
use Rattle.instance_reasons.specs.declared.spots.Spot.{Spot}
use Rattle.instance_reasons.specs.Spots as spots
use Rattle.rates_model.specs.declared.error.RatesPlace.{RatesPlace}
use Rattle.rates_model.specs.declared.error.RatesPlace.TheVariants.{AtCluster, AtNode, AtProcess, AtLink, AtMessage, AtChain}
use Rattle.rates_model.specs.Rates.{Rates, chain_at, message_at, node_at, process_at}
use Rattle.rates_text.specs.declared.error.RatesTable.{RatesTable}
use Rattle.rates_text.specs.declared.error.RatesTable.TheVariants.{Of, Chain}
use Rattle.rates_command.specs.Tables as tables

-- what a table of a text is called
abbrev pub table_word : RatesTable → List ℕ
table_word (Of place) = spots.table_word place
table_word (Chain c) = codes "chain"

-- and its index in its array
abbrev pub index_of : RatesTable → Option ℕ
index_of (Of place) = spots.index_of place
index_of (Chain c) = Some c

-- which table of a text states what stands at a place
abbrev pub table_of : RatesPlace → RatesTable
table_of AtCluster = Of Cluster
table_of (AtNode n) = Of (Node n)
table_of (AtProcess p) = Of (Process p)
table_of (AtLink l) = Of (Link l)
table_of (AtMessage m) = Of (Message m)
table_of (AtChain c) = Chain c

-- the name at a place of a cluster, or none
abbrev pub name_at : Rates → RatesPlace → List ℕ
name_at rho AtCluster = []
name_at rho (AtNode n) = (node_at rho n).name
name_at rho (AtProcess p) = (process_at rho p).name
name_at rho (AtLink l) = []
name_at rho (AtMessage m) = (message_at rho m).name
name_at rho (AtChain c) = (chain_at rho c).name

-- the name in a table of a text, or none
abbrev pub text_name : Members → RatesTable → List ℕ
text_name ms (Of place) = spots.text_name ms place
text_name ms (Chain c) = tables.name_at (Chain c) ms

-- a place of a cluster
pub record IsRatesSpot (rho : Rates) (at : RatesPlace) (s : Spot) : Type 0 where
  pub table_is : s.table.now ≡ table_word (table_of at)
  pub index_is : s.index ≡ index_of (table_of at)
  pub name_is : s.name.now ≡ name_at rho at

-- and of a text
pub record IsRatesTextSpot (ms : Members) (place : RatesTable) (s : Spot) : Type 0 where
  pub table_is : s.table.now ≡ table_word place
  pub index_is : s.index ≡ index_of place
  pub name_is : s.name.now ≡ text_name ms place
