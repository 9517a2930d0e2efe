-- A refused text that is read again has the same fault, and what is a reason in it is one of its bytes.
use Rattle.std.proofs.Common.{◌≡◌, ◌≢◌, ℕ, String, Global, ◌≤◌, List, Option, None, Some, option_map, Ok, Err, lit<, lit≤, refl, sym, subst, arith}
use Rattle.std.specs.BTreeMap.{BTreeMap}
use Rattle.toml.specs.Data.{Members}
use Rattle.toml.specs.View.{table_view}
use Rattle.toml.specs.declared.value.Value.{Value}
use Rattle.ttp_model.specs.Instance.{Instance}
use Rattle.ttp_model.specs.Rules.{KeepsLimits, Lengths, Rule}
use Rattle.ttp_model.specs.Refusals.{IsFirstWrongLength, IsRefusal, KeepsRulesBefore, rule_number}
use Rattle.ttp_model.specs.declared.error.Part.{Part}
use Rattle.ttp_model.specs.declared.error.Part.TheVariants as part
use Rattle.ttp_model.specs.declared.error.ModelError.{ModelError}
use Rattle.ttp_model.specs.declared.error.ModelError.TheVariants as model
use Rattle.instance_text.specs.declared.error.TextError.{TextError}
use Rattle.instance_text.specs.declared.error.TextError.TheVariants.{Model, NotToml, OutOfMemory}
use Rattle.ttp_model.specs.declared.parts.Parts.{Parts}
use Rattle.instance_text.specs.Faults.{IsDocument, IsFirstTextFault, IsNoDocument, IsRefusedBy, States}
use Rattle.instance_text.specs.Index.{cut_index, cut_index_in}
use Rattle.instance_text.specs.Kinds.{index_in}
use Rattle.instance_text.specs.Stated.{stated, stated_by}
use Rattle.ttp_model.specs.Parts.{instance_of}
use Rattle.instance_text.proofs.CutIndices.{only_stated}
use Rattle.instance_text.proofs.CutLaws.{BothOrNeither, HaveLengths, KnowSame, alike_ok, alike_stated}
use Rattle.instance_reasons.specs.declared.grammar.NotToml.{NotToml as Unparsed}
use Rattle.instance_reasons.specs.declared.counts.WrongCount.{WrongCount}
use Rattle.instance_reasons.specs.declared.counts.WrongCount.TheVariants.{Empty, TooMany}
use Rattle.instance_reasons.specs.declared.reason.InstanceReason.{InstanceReason}
use Rattle.instance_reasons.specs.declared.reason.InstanceReason.TheVariants as reason
use Rattle.instance_reasons.specs.declared.reason.ReadAgain.TheVariants as again
use Rattle.instance_reasons.specs.declared.rules.RuleReason.{RuleReason}
use Rattle.instance_reasons.specs.declared.rules.RuleReason.TheVariants as rule
use Rattle.instance_reasons.specs.Counts.{IsWrongCount, count_of}
use Rattle.instance_reasons.specs.Reasons.{IsInstanceReason, IsReadAgain, IsReasonIn}
use Rattle.instance_reasons.specs.Rules.{IsRuleReason}
use Rattle.instance_reasons.specs.Texts.{IsOfTable}

-- ---- parts, of whose indices 32 bits are kept

known : (o : Option ℕ) → BothOrNeither o (option_map cut_index o)
known None = tt
known (Some k) = tt

know_same : (names : List (List ℕ)) → KnowSame (index_in names) (cut_index_in names)
know_same names name = known (index_in names name)

least : (rule : Rule) → 1 ≤ rule_number rule
least Lengths = lit≤ tt
least _ = lit≤ tt

none_before : (i : Instance) → KeepsRulesBefore i Lengths
none_before i = record { each = λ earlier lt. absurd (omega (arith, least earlier, lt)) }

module _ (i j : Instance) (same : HaveLengths i j) where
  wrong_too : (list : Part) → IsFirstWrongLength i list → IsFirstWrongLength j list
  wrong_too part.Nodes wrong = rw same.nodes at wrong
  wrong_too part.Processes wrong = rw (same.nodes, same.processes) at wrong
  wrong_too part.Links wrong = rw (same.nodes, same.processes, same.links) at wrong
  wrong_too part.Messages wrong = rw (same.nodes, same.processes, same.links, same.messages) at wrong

  same_count : (list : Part) → count_of j list ≡ count_of i list
  same_count part.Nodes = sym same.nodes
  same_count part.Processes = sym same.processes
  same_count part.Links = sym same.links
  same_count part.Messages = sym same.messages

  counted_too : (list : Part) (r : WrongCount) → IsWrongCount j list r → IsWrongCount i list r
  counted_too list (Empty l) is = rw (same_count list) at is
  counted_too list (TooMany l entries most by) is = rw (same_count list) at is

  count_told : (list : Part) (r : RuleReason) → IsRuleReason j (model.Length list) r → IsRuleReason i (model.Length list) r
  count_told list (rule.WrongCount r) is = counted_too list r is
  count_told list r is = absurd is

-- the parts are refused for the same, and for the same reason
abbrev IsAlike : Instance → Instance → ModelError → Type 0
IsAlike i j e = IsRefusal j e × ((r : RuleReason) → IsRuleReason j e r → IsRuleReason i e r)

module _ (bytes : List ℕ) (i : Instance) (states : States bytes (Ok i)) (ms : Members) (document : IsDocument bytes ms) (j : Instance)
    (cut : stated_by cut_index_in ms ≡ Ok j)
  where
    uncut : (e : ModelError) → KeepsLimits i → IsRefusal i e → IsAlike i j e
    uncut e limits refusal = subst (λ x. IsAlike i x e) (only_stated i limits bytes ms j document states cut) (refusal, λ r is. is)

    have_lengths : HaveLengths i j
    have_lengths =
        let one = states.document.parsed in
        let two = document.parsed in
        let table : states.table ≡ ms = cc in
        let reads : stated ms ≡ Ok i = rw table at states.reading in
        let other = alike_ok HaveLengths (stated ms) (stated_by cut_index_in ms) i (alike_stated index_in cut_index_in know_same ms) reads in
        let found = other.1 in
        let is : other.0 ≡ j = cc in
        rw is at other.2

    pub refused_alike : (e : ModelError) → IsRefusal i e → IsAlike i j e
    refused_alike (model.Length list) refusal =
        ((none_before j, wrong_too i j have_lengths list refusal.1), count_told i j have_lengths list)
    refused_alike model.OutOfMemory refusal = uncut model.OutOfMemory (refusal.each Lengths (lit< tt)) refusal
    refused_alike e refusal = uncut e (refusal.0.each Lengths (lit< tt)) refusal

-- ---- bytes

module _ (bytes : List ℕ) where
  said : (e : TextError) (r : InstanceReason) (x : Unparsed) → IsNoDocument bytes → e ≡ NotToml → IsReasonIn (again.NotToml x) e r → IsInstanceReason bytes NotToml r
  said e (reason.NotToml r) x none is _ = none
  said e (reason.Text r) x none is never = absurd never
  said e (reason.Rule r) x none is never = absurd never

  pub no_toml : (e : TextError) (x : Unparsed) → IsFirstTextFault bytes e → e ≢ OutOfMemory → IsNoDocument bytes → IsReadAgain bytes e (again.NotToml x)
  no_toml NotToml x first other none = record { has_fault = refl; tells = λ r is. said NotToml r x none refl is }
  no_toml (Model e) x first other none = absurd (none first.states.table first.states.document)
  no_toml OutOfMemory x first other none = absurd (other refl)
  no_toml e x first other none = absurd (none first.table first.document)

  text_told : (e : TextError) (t : BTreeMap (String Global) Value) (r : InstanceReason) → IsOfTable e → IsDocument bytes (table_view t)
      → stated (table_view t) ≡ Err e → IsReasonIn (again.Table t) e r → IsInstanceReason bytes e r
  text_told NotToml t r never document first told = absurd never
  text_told (Model e) t r never document first told = absurd never
  text_told OutOfMemory t r never document first told = absurd never
  text_told e t (reason.Text r) of_table document first told = record { table = table_view t; document = document; first = first; told = told }
  text_told e t r of_table document first never = absurd never

  same_table : (e : TextError) (ms : Members) → States bytes (Err e) → IsDocument bytes ms → stated ms ≡ Err e
  same_table e ms states document =
      let one = states.document.parsed in
      let two = document.parsed in
      let table : states.table ≡ ms = cc in
      rw table at states.reading

  pub of_table : (e : TextError) (t : BTreeMap (String Global) Value) → IsFirstTextFault bytes e → e ≢ OutOfMemory → ((m : ModelError) → e ≢ Model m)
      → IsDocument bytes (table_view t) → IsReadAgain bytes e (again.Table t)
  of_table NotToml t first other text document = absurd (first (table_view t) document)
  of_table (Model e) t first other text document = absurd (text e refl)
  of_table OutOfMemory t first other text document = absurd (other refl)
  of_table e t first other text document =
      record { has_fault = tt; tells = λ r is. text_told e t r tt document (same_table e (table_view t) first document) is }

  rule_told : (e : ModelError) (ps : Parts) (refused : IsRefusedBy bytes e) (r : InstanceReason)
      → ((x : RuleReason) → IsRuleReason (instance_of ps) e x → IsRuleReason refused.problem e x)
      → IsReasonIn (again.Parts ps) (Model e) r → IsInstanceReason bytes (Model e) r
  rule_told e ps refused (reason.Rule r) alike told = record { refused = refused; told = alike r told }
  rule_told e ps refused r alike never = absurd never

  pub of_parts : (e : ModelError) (ps : Parts) (ms : Members) → IsRefusedBy bytes e → IsDocument bytes ms → stated_by cut_index_in ms ≡ Ok (instance_of ps)
      → IsReadAgain bytes (Model e) (again.Parts ps)
  of_parts e ps ms refused document cut =
      let alike = refused_alike bytes refused.problem refused.states ms document (instance_of ps) cut e refused.refusal in
      record { has_fault = (alike.0, refused.other); tells = λ r is. rule_told e ps refused r alike.1 is }
