-- The line that the program writes on standard error for each fault of a cluster of several rates.
use Rattle.std.specs.Prelude.{ℕ, List, [], ◌∷◌, ◌++◌, codes, decimal}
use Rattle.std.specs.List.{flat_map}
use Rattle.ttp_model.specs.declared.error.Place.{Place}
use Rattle.ttp_model.specs.declared.error.Place.TheVariants.{AtCluster, AtNode, AtProcess, AtLink, AtMessage}
use Rattle.ttp_model.specs.declared.error.ModelError.{ModelError}
use Rattle.ttp_model.specs.declared.error.ModelError.TheVariants as model
use Rattle.ttp_model.specs.Instance.{Instance, link_at}
use Rattle.ttp_model.specs.Names.{node_name, process_name, message_name}
use Rattle.rates_model.specs.declared.error.RatesPart.{RatesPart}
use Rattle.rates_model.specs.declared.error.RatesPart.TheVariants as part
use Rattle.rates_model.specs.declared.error.RatesPlace.{RatesPlace}
use Rattle.rates_model.specs.declared.error.RatesPlace.TheVariants as place
use Rattle.rates_model.specs.declared.error.RatesError.{RatesError}
use Rattle.rates_model.specs.declared.error.RatesError.TheVariants as rates
use Rattle.rates_text.specs.Keys.{text_of}
use Rattle.rates_text.specs.declared.error.RatesTable.{RatesTable}
use Rattle.rates_text.specs.declared.error.RatesTable.TheVariants as at
use Rattle.rates_text.specs.declared.error.RatesTextError.{RatesTextError}
use Rattle.rates_text.specs.declared.error.RatesTextError.TheVariants as text
use Rattle.endless_schedules.specs.declared.unrolling.UnrollFault.{UnrollFault}
use Rattle.endless_schedules.specs.declared.unrolling.UnrollFault.TheVariants as unrolled
use Rattle.ttp_model.specs.Parts.{instance_of}
use Rattle.command_streams.specs.Lines.{fault_line, part_word, table_words}
use Rattle.rates_command.specs.declared.ending.RatesFault.{RatesFault}
use Rattle.rates_command.specs.declared.ending.RatesFault.TheVariants.{Memory, Text, Unrolled, Unread, TooLong, OfPlan, Unwritten}
use Rattle.rates_command.specs.declared.ending.RatesEnd.{RatesEnd}
use Rattle.rates_command.specs.declared.ending.RatesEnd.TheVariants.{Done, Refused}

-- the word for a list
abbrev pub rates_part_word : RatesPart → List ℕ
rates_part_word part.Nodes = codes "node"
rates_part_word part.Processes = codes "process"
rates_part_word part.Links = codes "link"
rates_part_word part.Messages = codes "message"
rates_part_word part.Chains = codes "chain"

-- the words for a place
abbrev pub rates_place_words : RatesPlace → List ℕ
rates_place_words place.AtCluster = codes "cluster"
rates_place_words (place.AtNode n) = codes "node " ++ decimal n
rates_place_words (place.AtProcess p) = codes "process " ++ decimal p
rates_place_words (place.AtLink l) = codes "link " ++ decimal l
rates_place_words (place.AtMessage m) = codes "message " ++ decimal m
rates_place_words (place.AtChain c) = codes "chain " ++ decimal c

-- the words for a table of the text
abbrev pub rates_table_words : RatesTable → List ℕ
rates_table_words (at.Of table) = table_words table
rates_table_words (at.Chain c) = codes "chain " ++ decimal c

-- the line of a broken rule, with its place
abbrev pub rates_model_line : RatesError → List ℕ
rates_model_line (rates.Length list) = codes "rates J1 " ++ rates_part_word list
rates_model_line (rates.NoReceiver m) = codes "rates J1 message " ++ decimal m
rates_model_line (rates.Through c) = codes "rates J1 chain " ++ decimal c
rates_model_line (rates.NameForm at) = codes "rates J2 " ++ rates_place_words at
rates_model_line (rates.NameRepeated at) = codes "rates J3 " ++ rates_place_words at
rates_model_line (rates.NoSuchIndex at) = codes "rates J4 " ++ rates_place_words at
rates_model_line (rates.OutOfRange at) = codes "rates J5 " ++ rates_place_words at
rates_model_line (rates.NoRoom p) = codes "rates J6 process " ++ decimal p
rates_model_line (rates.NothingRead c k) = (codes "rates J7 chain " ++ decimal c) ++ (codes " " ++ decimal k)
rates_model_line (rates.ShortRound slots round) = (codes "rates J8 " ++ decimal slots) ++ (codes " " ++ decimal round)
rates_model_line rates.LongCycle = codes "rates J9"
rates_model_line (rates.LongRound round cycle) = (codes "rates J10 " ++ decimal round) ++ (codes " " ++ decimal cycle)

-- the line of a text that states no cluster, with its table and key
abbrev pub rates_text_line : RatesTextError → List ℕ
rates_text_line text.NotToml = codes "rates T1"
rates_text_line (text.UnknownKey table) = codes "rates T2 " ++ rates_table_words table
rates_text_line (text.MissingKey table key) = (codes "rates T3 " ++ rates_table_words table) ++ (codes " " ++ text_of key)
rates_text_line (text.WrongKind table key) = (codes "rates T4 " ++ rates_table_words table) ++ (codes " " ++ text_of key)
rates_text_line (text.OutOfRange table key) = (codes "rates T5 " ++ rates_table_words table) ++ (codes " " ++ text_of key)
rates_text_line (text.UnknownName table key) = (codes "rates T6 " ++ rates_table_words table) ++ (codes " " ++ text_of key)
rates_text_line (text.Refused error) = rates_model_line error
rates_text_line text.OutOfMemory = codes "memory"

-- the names of the two ends of a link
abbrev pub link_names : Instance → ℕ → List ℕ
link_names i l = process_name i (link_at i l).before ++ (codes " " ++ process_name i (link_at i l).after)

-- the words for a place of the instance of a cycle, by names
abbrev pub named_place : Instance → Place → List ℕ
named_place i AtCluster = codes "cluster"
named_place i (AtNode n) = codes "node " ++ node_name i n
named_place i (AtProcess p) = codes "process " ++ process_name i p
named_place i (AtLink l) = codes "link " ++ link_names i l
named_place i (AtMessage m) = codes "message " ++ message_name i m

-- the name of a process behind a space
abbrev pub spaced_name : Instance → ℕ → List ℕ
spaced_name i p = codes " " ++ process_name i p

-- the line of a refusal of the instance of a cycle, by names
abbrev pub named_line : Instance → ModelError → List ℕ
named_line i (model.Length list) = codes "rates M1 " ++ part_word list
named_line i (model.NoReceiver m) = codes "rates M1 " ++ named_place i (AtMessage m)
named_line i (model.NameForm at) = codes "rates M2 " ++ named_place i at
named_line i (model.NameRepeated at) = codes "rates M3 " ++ named_place i at
named_line i (model.NoSuchIndex at) = codes "rates M4 " ++ named_place i at
named_line i (model.OutOfRange at) = codes "rates M5 " ++ named_place i at
named_line i (model.Capacities n) = codes "rates M6 " ++ named_place i (AtNode n)
named_line i (model.ReceiverOnSender m) = codes "rates M7 " ++ named_place i (AtMessage m)
named_line i model.ShortLead = codes "rates M8"
named_line i model.ShortTrail = codes "rates M9"
named_line i (model.Deadline p) = codes "rates M10 " ++ named_place i (AtProcess p)
named_line i (model.LinkAcross l) = codes "rates M11 " ++ named_place i (AtLink l)
named_line i (model.ReceiverTwice m) = codes "rates M12 " ++ named_place i (AtMessage m)
named_line i (model.Cycle ps) = codes "rates M13" ++ flat_map (spaced_name i) ps
named_line i (model.BothOfOne m) = codes "rates M15 " ++ named_place i (AtMessage m)
named_line i model.OutOfMemory = codes "memory"

-- the line where there is no instance
abbrev pub unroll_line : UnrollFault → List ℕ
unroll_line (unrolled.TooMany list) = codes "rates M1 " ++ part_word list
unroll_line (unrolled.Refused refused) = named_line (instance_of refused.tables) refused.error
unroll_line unrolled.OutOfMemory = codes "memory"

-- the line of each fault
abbrev pub rates_line : RatesFault → List ℕ
rates_line Memory = codes "memory"
rates_line (Text error) = rates_text_line error
rates_line (Unrolled fault) = unroll_line fault
rates_line Unread = codes "read rates"
rates_line TooLong = codes "read rates"
rates_line (OfPlan fault) = fault_line fault
rates_line Unwritten = codes "write out"

-- what is written on standard error at an end
abbrev pub rates_report : RatesEnd → List ℕ
rates_report Done = []
rates_report (Refused fault) = rates_line fault ++ 10 ∷ []
