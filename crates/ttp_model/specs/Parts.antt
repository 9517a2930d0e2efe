-- The tables that are handed in, before they are judged, as an instance.
use Rattle.ttp_model.specs.declared.parts.Parts.{Parts}
use Rattle.ttp_model.specs.Instance.{Instance, instance_with}

-- the instance that the tables are
abbrev pub instance_of : Parts → Instance
instance_of parts = instance_with parts.cluster parts.nodes.items parts.processes.items parts.links.items parts.messages.items
