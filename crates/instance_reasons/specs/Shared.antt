-- Why a name is refused that stands twice: where it stands first. Own profile.
use Rattle.std.specs.Prelude.{◌≡◌, ◌≢◌, ℕ, List, []}
use Rattle.ttp_model.specs.declared.error.Part.{Part}
use Rattle.ttp_model.specs.declared.error.Part.TheVariants as part
use Rattle.ttp_model.specs.declared.error.Place.{Place}
use Rattle.ttp_model.specs.declared.error.Place.TheVariants.{AtCluster, AtLink, AtMessage, AtNode, AtProcess}
use Rattle.ttp_model.specs.Instance.{Instance}
use Rattle.ttp_model.specs.Lists.{IsFirstFailure}
use Rattle.ttp_model.specs.Names.{message_name, node_name, process_name}
use Rattle.instance_reasons.specs.declared.shared.SharedName.{SharedName}

-- the k-th name of a list; links have none
abbrev pub name_in : Instance → Part → ℕ → List ℕ
name_in i part.Nodes k = node_name i k
name_in i part.Processes k = process_name i k
name_in i part.Links k = []
name_in i part.Messages k = message_name i k

-- two entries of a list have a name: the second, and the first before it
pub record AreShared (i : Instance) (list : Part) (second : ℕ) (r : SharedName) : Type 0 where
  pub list_is : r.list ≡ list
  pub name_is : r.name.now ≡ name_in i list second
  pub second_is : r.second ≡ second
  pub first_is : IsFirstFailure second (λ k. name_in i list k ≢ name_in i list second) r.first

-- that is so of the entry at a place
abbrev pub IsSharedName : Instance → Place → SharedName → Type 0
IsSharedName i AtCluster r = ⊥
IsSharedName i (AtNode n) r = AreShared i part.Nodes n r
IsSharedName i (AtProcess p) r = AreShared i part.Processes p r
IsSharedName i (AtLink l) r = ⊥
IsSharedName i (AtMessage m) r = AreShared i part.Messages m r
