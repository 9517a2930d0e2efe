-- How the keys of an instance's text are spelled: this project's own profile of TOML.
use Rattle.std.specs.Prelude.{ℕ, List, codes}
use Rattle.instance_text.specs.declared.error.Key.{Key}
use Rattle.instance_text.specs.declared.error.Key.TheVariants as key

-- the bytes of a key
abbrev pub text_of : Key → List ℕ
text_of key.Cluster = codes "cluster"
text_of key.Node = codes "node"
text_of key.Process = codes "process"
text_of key.Link = codes "link"
text_of key.Message = codes "message"
text_of key.Precision = codes "precision"
text_of key.Lead = codes "lead"
text_of key.Trail = codes "trail"
text_of key.Head = codes "head"
text_of key.PerByte = codes "per_byte"
text_of key.CopyOut = codes "copy_out"
text_of key.CopyIn = codes "copy_in"
text_of key.Horizon = codes "horizon"
text_of key.Channels = codes "channels"
text_of key.Name = codes "name"
text_of key.Capacities = codes "capacities"
text_of key.Wcet = codes "wcet"
text_of key.Release = codes "release"
text_of key.Deadline = codes "deadline"
text_of key.From = codes "from"
text_of key.To = codes "to"
text_of key.Bytes = codes "bytes"
text_of key.Both = codes "both"
