-- The line that the program writes on standard error for each fault.
use Rattle.std.specs.Prelude.{ℕ, List, [], ◌∷◌, ◌++◌, ◌==◌, if◌then◌else◌, codes, decimal}
use Rattle.std.specs.List.{flat_map}
use Rattle.ttp_model.specs.declared.error.Part.{Part}
use Rattle.ttp_model.specs.declared.error.Part.TheVariants as part
use Rattle.ttp_model.specs.declared.error.Place.{Place}
use Rattle.ttp_model.specs.declared.error.Place.TheVariants.{AtCluster, AtNode, AtProcess, AtLink, AtMessage}
use Rattle.ttp_model.specs.declared.error.ModelError.{ModelError}
use Rattle.ttp_model.specs.declared.error.ModelError.TheVariants as model
use Rattle.ttp_model.specs.declared.fault.PlanPart.{PlanPart}
use Rattle.ttp_model.specs.declared.fault.PlanPart.TheVariants as list
use Rattle.ttp_model.specs.declared.fault.PlanFault.{PlanFault}
use Rattle.ttp_model.specs.declared.fault.PlanFault.TheVariants as broken
use Rattle.instance_text.specs.Keys.{text_of}
use Rattle.instance_text.specs.declared.error.Place.{Place as TextPlace}
use Rattle.instance_text.specs.declared.error.Place.TheVariants as at
use Rattle.instance_text.specs.declared.error.TextError.{TextError}
use Rattle.instance_text.specs.declared.error.TextError.TheVariants as text
use Rattle.plan_format.specs.declared.fault.LineFault.{LineFault}
use Rattle.plan_format.specs.declared.fault.LineFault.TheVariants as line
use Rattle.plan_format.specs.declared.fault.PlanTextError.{PlanTextError}
use Rattle.plan_format.specs.declared.fault.PlanTextError.TheVariants as plan_text
use Rattle.certificate.specs.declared.fault.LineFault as certificate_lines
use Rattle.certificate.specs.declared.fault.LineFault.TheVariants as spelt
use Rattle.certificate.specs.declared.fault.CertTextError.{CertTextError}
use Rattle.certificate.specs.declared.fault.CertTextError.TheVariants as certificate_text
use Rattle.tree_check.specs.declared.fault.NodeFault.{NodeFault}
use Rattle.tree_check.specs.declared.fault.NodeFault.TheVariants.{ChildCount, NotOpen, LowGoal, RefusedStep, NotClosed}
use Rattle.tree_check.specs.declared.fault.CertFault.{CertFault}
use Rattle.tree_check.specs.declared.fault.CertFault.TheVariants as certificate
use Rattle.command_streams.specs.declared.ending.Source.{Source}
use Rattle.command_streams.specs.declared.ending.Source.TheVariants as source
use Rattle.command_streams.specs.declared.ending.Sink.{Sink}
use Rattle.command_streams.specs.declared.ending.Sink.TheVariants as sink
use Rattle.command_streams.specs.declared.ending.SearchFault.{SearchFault}
use Rattle.command_streams.specs.declared.ending.SearchFault.TheVariants as search
use Rattle.command_streams.specs.declared.ending.Fault.{Fault}
use Rattle.command_streams.specs.declared.ending.Fault.TheVariants.{NoMark, LossForm, InstanceText, Memory, PlanText, Plan, StatedDelay, CertificateText, Certificate, DeepCertificate, TooFewNodes, WrongLoss, NoSuchProcess, NoSuchRunner, TooManySlots, LongSchedule, NoSuchNode, ShortPeriod, ShortTables, LongTables, Search, TooLong, Unread, Unwritten}
use Rattle.command_streams.specs.declared.ending.End.{End}
use Rattle.command_streams.specs.declared.ending.End.TheVariants.{Done, Different, Absent, Stopped, Refused, RefusedOf}
use Rattle.command_streams.specs.declared.ending.Release.{Release}
use Rattle.command_streams.specs.declared.ending.Release.TheVariants.{New, Old}
use Rattle.command_streams.specs.Endings.{fault_status}
use Rattle.command_streams.specs.Wording.{spaced}

-- the word for a list of the instance
abbrev pub part_word : Part → List ℕ
part_word part.Nodes = codes "node"
part_word part.Processes = codes "process"
part_word part.Links = codes "link"
part_word part.Messages = codes "message"

-- the words for a place of the instance
abbrev pub place_words : Place → List ℕ
place_words AtCluster = codes "cluster"
place_words (AtNode n) = codes "node " ++ decimal n
place_words (AtProcess p) = codes "process " ++ decimal p
place_words (AtLink l) = codes "link " ++ decimal l
place_words (AtMessage m) = codes "message " ++ decimal m

-- the words for a table of its text
abbrev pub table_words : TextPlace → List ℕ
table_words at.Top = codes "top"
table_words at.Cluster = codes "cluster"
table_words (at.Node n) = codes "node " ++ decimal n
table_words (at.Process p) = codes "process " ++ decimal p
table_words (at.Link l) = codes "link " ++ decimal l
table_words (at.Message m) = codes "message " ++ decimal m

-- the line of a refusal by the model, with its place
abbrev pub model_line : ModelError → List ℕ
model_line (model.Length list) = codes "instance M1 " ++ part_word list
model_line (model.NoReceiver m) = codes "instance M1 message " ++ decimal m
model_line (model.NameForm at) = codes "instance M2 " ++ place_words at
model_line (model.NameRepeated at) = codes "instance M3 " ++ place_words at
model_line (model.NoSuchIndex at) = codes "instance M4 " ++ place_words at
model_line (model.OutOfRange at) = codes "instance M5 " ++ place_words at
model_line (model.Capacities n) = codes "instance M6 node " ++ decimal n
model_line (model.ReceiverOnSender m) = codes "instance M7 message " ++ decimal m
model_line model.ShortLead = codes "instance M8"
model_line model.ShortTrail = codes "instance M9"
model_line (model.Deadline p) = codes "instance M10 process " ++ decimal p
model_line (model.LinkAcross l) = codes "instance M11 link " ++ decimal l
model_line (model.ReceiverTwice m) = codes "instance M12 message " ++ decimal m
model_line (model.Cycle ps) = codes "instance M13" ++ flat_map spaced ps
model_line (model.BothOfOne m) = codes "instance M15 message " ++ decimal m
model_line model.OutOfMemory = codes "memory"

-- the line of a text that states no instance, with its table and key
abbrev pub text_line : TextError → List ℕ
text_line text.NotToml = codes "instance T1"
text_line (text.UnknownKey place) = codes "instance T2 " ++ table_words place
text_line (text.MissingKey place key) = (codes "instance T3 " ++ table_words place) ++ (codes " " ++ text_of key)
text_line (text.WrongKind place key) = (codes "instance T4 " ++ table_words place) ++ (codes " " ++ text_of key)
text_line (text.OutOfRange place key) = (codes "instance T5 " ++ table_words place) ++ (codes " " ++ text_of key)
text_line (text.UnknownName place key) = (codes "instance T6 " ++ table_words place) ++ (codes " " ++ text_of key)
text_line (text.Model error) = model_line error
text_line text.OutOfMemory = codes "memory"

-- the code of what is wrong with a line of a plan's text
abbrev pub line_code : LineFault → List ℕ
line_code line.Form = codes "F1"
line_code line.Name = codes "F2"
line_code line.Order = codes "F3"
line_code line.Number = codes "F4"
line_code line.EarlyEnd = codes "F5"
line_code line.Trailing = codes "F6"

-- the line of a text that spells no plan, with the number of its line from 1
abbrev pub plan_text_line : PlanTextError → List ℕ
plan_text_line (plan_text.At line fault) = (codes "plan " ++ line_code fault) ++ (codes " " ++ decimal line)
plan_text_line plan_text.OutOfMemory = codes "memory"

-- the number of a list of a plan
abbrev pub plan_list_number : PlanPart → ℕ
plan_list_number list.Order = 0
plan_list_number list.Capacities = 1
plan_list_number list.Starts = 2
plan_list_number list.Rounds = 3
plan_list_number list.Channels = 4

-- the line of a plan that is not valid, with its indices
abbrev pub plan_line : PlanFault → List ℕ
plan_line (broken.WrongLength list) = codes "plan V1 " ++ decimal (plan_list_number list)
plan_line (broken.WrongOrder k) = codes "plan V2 " ++ decimal k
plan_line (broken.WrongCapacity n) = codes "plan V3 " ++ decimal n
plan_line (broken.TooEarly p) = codes "plan V4 " ++ decimal p
plan_line (broken.TooLate p) = codes "plan V5 " ++ decimal p
plan_line (broken.Overlap p q) = (codes "plan V6 " ++ decimal p) ++ (codes " " ++ decimal q)
plan_line (broken.BrokenLink l) = codes "plan V7 " ++ decimal l
plan_line (broken.NotReady m) = codes "plan V8 " ++ decimal m
plan_line (broken.NotArrived m q) = (codes "plan V9 " ++ decimal m) ++ (codes " " ++ decimal q)
plan_line (broken.Overfull n r) = (codes "plan V10 " ++ decimal n) ++ (codes " " ++ decimal r)
plan_line (broken.OverfullOn n r c) = ((codes "plan V10 " ++ decimal n) ++ (codes " " ++ decimal r)) ++ (codes " " ++ decimal c)
plan_line (broken.WrongChannel m) = codes "plan V11 " ++ decimal m

-- the code of what is wrong with a line of a certificate's text
abbrev pub certificate_line_code : certificate_lines.LineFault → List ℕ
certificate_line_code spelt.FirstLine = codes "G1"
certificate_line_code spelt.Form = codes "G2"
certificate_line_code spelt.Number = codes "G3"
certificate_line_code spelt.Depth = codes "G4"
certificate_line_code spelt.EarlyEnd = codes "G5"
certificate_line_code spelt.Trailing = codes "G6"

-- the line of a text that spells no certificate, with the number of its line from 1
abbrev pub certificate_text_line : CertTextError → List ℕ
certificate_text_line (certificate_text.At line fault) = (codes "certificate " ++ certificate_line_code fault) ++ (codes " " ++ decimal line)
certificate_text_line certificate_text.OutOfMemory = codes "memory"

-- the code of what is wrong with a node of a certificate
abbrev pub node_code : NodeFault → List ℕ
node_code ChildCount = codes "C1"
node_code NotOpen = codes "C2"
node_code LowGoal = codes "C3"
node_code RefusedStep = codes "C4"
node_code NotClosed = codes "C5"

-- the line of a certificate that does not prove its bound, which stands on line 2 of its text
abbrev pub certificate_line : CertFault → List ℕ
certificate_line certificate.LowTooGreat = codes "certificate C6 2"
certificate_line (certificate.At line fault) = (codes "certificate " ++ node_code fault) ++ (codes " " ++ decimal line)
certificate_line certificate.OutOfMemory = codes "memory"

-- the line of a search that has no answer
abbrev pub search_line : SearchFault → List ℕ
search_line search.Memory = codes "memory"
search_line search.Thread = codes "solve thread"

-- the word for what could not be read
abbrev pub source_word : Source → List ℕ
source_word source.Instance = codes "instance"
source_word source.Plan = codes "plan"
source_word source.Certificate = codes "certificate"

-- the word for what could not be written
abbrev pub sink_word : Sink → List ℕ
sink_word sink.Certificate = codes "certificate"
sink_word sink.Reduced = codes "reduced"
sink_word sink.Plan = codes "plan"
sink_word sink.Out = codes "out"

-- the line of every fault, without its end
abbrev pub fault_line : Fault → List ℕ
fault_line NoMark = codes "usage bundle"
fault_line (LossForm k) = codes "usage loss " ++ decimal k
fault_line (InstanceText error) = text_line error
fault_line Memory = codes "memory"
fault_line (PlanText error) = plan_text_line error
fault_line (Plan fault) = plan_line fault
fault_line (StatedDelay delay) = codes "plan D1 " ++ decimal delay
fault_line (CertificateText error) = certificate_text_line error
fault_line (Certificate fault) = certificate_line fault
fault_line (DeepCertificate line) = codes "certificate deep " ++ decimal line
fault_line TooFewNodes = codes "replay N1"
fault_line (TooManySlots count) = codes "draw slots " ++ decimal count
fault_line (LongSchedule count) = codes "schedule slots " ++ decimal count
fault_line NoSuchNode = codes "schedule node"
fault_line (ShortPeriod rounds) = (codes "period rounds " ++ decimal rounds.needed) ++ (codes " " ++ decimal rounds.held)
fault_line (ShortTables rounds) = (codes "tables rounds " ++ decimal rounds.needed) ++ (codes " " ++ decimal rounds.held)
fault_line (LongTables count) = codes "tables slots " ++ decimal count
fault_line (NoSuchProcess k) = codes "limit name " ++ decimal k
fault_line (NoSuchRunner k) = codes "margin name " ++ decimal k
fault_line (WrongLoss k) = codes "replay N2 " ++ decimal k
fault_line (Search fault) = search_line fault
fault_line (Unread source) = codes "read " ++ source_word source
fault_line (TooLong source) = codes "read " ++ source_word source
fault_line (Unwritten sink) = codes "write " ++ sink_word sink

-- the line of a fault behind words, with its end
abbrev pub line_behind : List ℕ → Fault → List ℕ
line_behind words fault = words ++ (fault_line fault ++ 10 ∷ [])

-- the word for a release
abbrev pub release_word : Release → List ℕ
release_word Old = codes "old "
release_word New = codes "new "

-- what stands before the line of a fault of a release: nothing where memory was refused, which is no matter of a release
abbrev pub release_words : Release → Fault → List ℕ
release_words release fault = if fault_status fault == 4 then [] else release_word release

-- what is written on standard error at each end
abbrev pub report_of : End → List ℕ
report_of Done = []
report_of Different = []
report_of Absent = []
report_of Stopped = []
report_of (Refused fault) = fault_line fault ++ 10 ∷ []
report_of (RefusedOf release fault) = line_behind (release_words release fault) fault
