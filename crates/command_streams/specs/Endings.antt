-- The status that the program exits with.
use Rattle.std.specs.Prelude.{◌≡◌, ℕ}
use Rattle.ttp_model.specs.declared.error.ModelError.TheVariants as model
use Rattle.instance_text.specs.declared.error.TextError.TheVariants as text
use Rattle.plan_format.specs.declared.fault.PlanTextError.TheVariants as plan_text
use Rattle.certificate.specs.declared.fault.CertTextError.TheVariants as certificate_text
use Rattle.tree_check.specs.declared.fault.CertFault.TheVariants as certificate
use Rattle.command_streams.specs.declared.ending.SearchFault.TheVariants as search
use Rattle.command_streams.specs.declared.ending.Fault.{Fault}
use Rattle.command_streams.specs.declared.ending.Fault.TheVariants.{NoMark, LossForm, InstanceText, Memory, PlanText, Plan, StatedDelay, CertificateText, Certificate, DeepCertificate, TooFewNodes, WrongLoss, NoSuchProcess, NoSuchRunner, TooManySlots, LongSchedule, NoSuchNode, ShortPeriod, ShortTables, LongTables, Search, TooLong, Unread, Unwritten}
use Rattle.command_streams.specs.declared.ending.End.{End}
use Rattle.command_streams.specs.declared.ending.End.TheVariants.{Done, Different, Absent, Stopped, Refused, RefusedOf}

-- of a refusal: 2 usage, 3 the instance, 4 memory, 5 the plan, the certificate or a loss, 6 a file, 7 the search
abbrev pub fault_status : Fault → ℕ
fault_status NoMark = 2
fault_status (LossForm k) = 2
fault_status (InstanceText text.OutOfMemory) = 4
fault_status (InstanceText (text.Model model.OutOfMemory)) = 4
fault_status (InstanceText _) = 3
fault_status Memory = 4
fault_status (PlanText plan_text.OutOfMemory) = 4
fault_status (PlanText (plan_text.At line fault)) = 5
fault_status (Plan fault) = 5
fault_status (StatedDelay delay) = 5
fault_status (CertificateText certificate_text.OutOfMemory) = 4
fault_status (CertificateText (certificate_text.At line fault)) = 5
fault_status (Certificate certificate.OutOfMemory) = 4
fault_status (Certificate _) = 5
fault_status (DeepCertificate line) = 5
fault_status TooFewNodes = 5
fault_status (TooManySlots count) = 5
fault_status (LongSchedule count) = 5
fault_status NoSuchNode = 5
fault_status (ShortPeriod rounds) = 5
fault_status (ShortTables rounds) = 5
fault_status (LongTables count) = 5
fault_status (NoSuchProcess k) = 5
fault_status (NoSuchRunner k) = 5
fault_status (WrongLoss k) = 5
fault_status (Search search.Memory) = 4
fault_status (Search _) = 7
fault_status (Unread source) = 6
fault_status (TooLong source) = 6
fault_status (Unwritten sink) = 6

-- the fault isn't one of what is given: a reader or a writer failed, or memory was refused
abbrev pub IsNotOfTexts : Fault → Type 0
IsNotOfTexts (Unread source) = Unit {0}
IsNotOfTexts (Unwritten sink) = Unit {0}
IsNotOfTexts fault = fault_status fault ≡ 4

-- of every end: 0 where the command did what it is for, and 1 where something is different of two
abbrev pub status_of : End → ℕ
status_of Done = 0
status_of Different = 1
status_of Absent = 10
status_of Stopped = 11
status_of (Refused fault) = fault_status fault
status_of (RefusedOf release fault) = fault_status fault
