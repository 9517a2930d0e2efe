-- How the keys of a text of several rates are spelled: this project's own profile of TOML.
use Rattle.std.specs.Prelude.{ℕ, List, codes}
use Rattle.rates_text.specs.declared.error.RatesKey.{RatesKey}
use Rattle.rates_text.specs.declared.error.RatesKey.TheVariants as key

-- the bytes of a key
abbrev pub text_of : RatesKey → List ℕ
text_of key.Cluster = codes "cluster"
text_of key.Node = codes "node"
text_of key.Process = codes "process"
text_of key.Link = codes "link"
text_of key.Message = codes "message"
text_of key.Chain = codes "chain"
text_of key.Precision = codes "precision"
text_of key.Lead = codes "lead"
text_of key.Trail = codes "trail"
text_of key.Head = codes "head"
text_of key.PerByte = codes "per_byte"
text_of key.CopyOut = codes "copy_out"
text_of key.CopyIn = codes "copy_in"
text_of key.Channels = codes "channels"
text_of key.Store = codes "store"
text_of key.Round = codes "round"
text_of key.Name = codes "name"
text_of key.Capacity = codes "capacity"
text_of key.Wcet = codes "wcet"
text_of key.Period = codes "period"
text_of key.Release = codes "release"
text_of key.Deadline = codes "deadline"
text_of key.From = codes "from"
text_of key.To = codes "to"
text_of key.Delay = codes "delay"
text_of key.Bytes = codes "bytes"
text_of key.Both = codes "both"
text_of key.Through = codes "through"
text_of key.Age = codes "age"
