-- Which place is told, with the name that stands there. Own profile.
use Rattle.std.specs.Prelude.{◌≡◌, List, ℕ, [], Option, None, Some, codes}
use Rattle.toml.specs.Data.{Members}
use Rattle.ttp_model.specs.declared.error.Place.{Place as ModelPlace}
use Rattle.ttp_model.specs.declared.error.Place.TheVariants.{AtCluster, AtLink, AtMessage, AtNode, AtProcess}
use Rattle.ttp_model.specs.Instance.{Instance}
use Rattle.ttp_model.specs.Names.{message_name, node_name, process_name}
use Rattle.instance_text.specs.declared.error.Place.{Place}
use Rattle.instance_text.specs.declared.error.Place.TheVariants.{Cluster, Link, Message, Node, Process, Top}
use Rattle.instance_reasons.specs.declared.spots.Spot.{Spot}
use Rattle.instance_reasons.specs.Tables as tables

-- the name at a place of an instance, or none
abbrev pub name_at : Instance → ModelPlace → List ℕ
name_at i AtCluster = []
name_at i (AtNode n) = node_name i n
name_at i (AtProcess p) = process_name i p
name_at i (AtLink l) = []
name_at i (AtMessage m) = message_name i m

-- which table of a text states what stands there
abbrev pub table_of : ModelPlace → Place
table_of AtCluster = Cluster
table_of (AtNode n) = Node n
table_of (AtProcess p) = Process p
table_of (AtLink l) = Link l
table_of (AtMessage m) = Message m

-- the name in a table of a text, or none
abbrev pub text_name : Members → Place → List ℕ
text_name ms Top = []
text_name ms Cluster = []
text_name ms (Node n) = tables.name_at (Node n) ms
text_name ms (Process p) = tables.name_at (Process p) ms
text_name ms (Link l) = []
text_name ms (Message m) = tables.name_at (Message m) ms

-- what a table of a text is called
abbrev pub table_word : Place → List ℕ
table_word Top = codes "top of the text"
table_word Cluster = codes "cluster"
table_word (Node n) = codes "node"
table_word (Process p) = codes "process"
table_word (Link l) = codes "link"
table_word (Message m) = codes "message"

-- and its index in its array
abbrev pub index_of : Place → Option ℕ
index_of Top = None
index_of Cluster = None
index_of (Node n) = Some n
index_of (Process p) = Some p
index_of (Link l) = Some l
index_of (Message m) = Some m

-- a place of an instance
pub record IsSpot (i : Instance) (at : ModelPlace) (s : Spot) : Type 0 where
  pub table_is : s.table.now ≡ table_word (table_of at)
  pub index_is : s.index ≡ index_of (table_of at)
  pub name_is : s.name.now ≡ name_at i at

-- and of a text
pub record IsTextSpot (ms : Members) (place : Place) (s : Spot) : Type 0 where
  pub table_is : s.table.now ≡ table_word place
  pub index_is : s.index ≡ index_of place
  pub name_is : s.name.now ≡ text_name ms place
