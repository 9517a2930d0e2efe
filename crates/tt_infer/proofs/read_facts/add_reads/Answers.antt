use Rattle.std.proofs.Common.{◌≡◌, ap, sym, subst, ◌∙◌}
use Rattle.std.proofs.lemmas.Result.{on_ok_weaker}
use Rattle.tt_infer.specs.Reads.{IsFactOf, IsSourceThere, OfEach, OfOne}
use Rattle.tt_infer.specs.Sources.{Reads, source_said, reads_said}
use Rattle.tt_infer.specs.Table.{reads}
use Rattle.tt_infer.proofs.Rows.{sources_are_there}
use Rattle.tt_infer.specs.Added.{AddsFacts}
use Rattle.tt_infer.proofs.AddedFacts.{adds_both, adds_none}
use Rattle.tt_infer.proofs.read_facts.add_reads.Goals as goal

pub returns-in-Nothing : goal.returns-in-Nothing
returns-in-Nothing c =
    let f = c.args.facts.now in
    let said = rw c.instance-instance.ensures.value at c.reads.ensures in
    λ there. subst (λ (r : Reads). AddsFacts (λ fact. OfOne (λ source. IsFactOf f.instance f.choice f.known source fact) r) c.args.told.now.items c.args.told.now.items)
    (sym (ap reads_said c.in-Nothing.is) ∙ said) (adds_none (λ fact. ⊥) _ (λ fact is. is))

pub returns-in-One : goal.returns-in-One
returns-in-One c =
    let f = c.args.facts.now in
    let rules = rw c.instance-instance.ensures.value at c.nodes-nodes.ensures.instance in
    let said : reads_said c.reads.result ≡ reads f.instance c.args.step.now = rw c.instance-instance.ensures.value at c.reads.ensures in
    let is = sym (ap reads_said c.in-One.is) ∙ said in
    λ there.
    let each = subst (OfEach (IsSourceThere f.instance)) (sym is) (sources_are_there f.instance f.choice f.goal f.known c.args.step.now rules there) in
    on_ok_weaker c.add_source.result (λ adds. subst (λ (r : Reads). AddsFacts (λ fact. OfOne (λ source. IsFactOf f.instance f.choice f.known source fact) r)
    c.args.told.now.items c.add_source.new.told.items) is adds) (c.add_source.ensures each)

pub returns-in_ok-add_source-in-Two : goal.returns-in_ok-add_source-in-Two
returns-in_ok-add_source-in-Two c =
    let f = c.args.facts.now in
    let rules = rw c.instance-instance.ensures.value at c.nodes-nodes.ensures.instance in
    let said : reads_said c.reads.result ≡ reads f.instance c.args.step.now = rw c.instance-instance.ensures.value at c.reads.ensures in
    let is = sym (ap reads_said c.in-Two.is) ∙ said in
    λ there.
    let each = subst (OfEach (IsSourceThere f.instance)) (sym is) (sources_are_there f.instance f.choice f.goal f.known c.args.step.now rules there) in
    on_ok_weaker c.add_source-in-Two-2.result (λ adds. subst (λ (r : Reads). AddsFacts (λ fact. OfOne (λ source. IsFactOf f.instance f.choice f.known source fact) r)
    c.args.told.now.items c.add_source-in-Two-2.new.told.items) is (adds_both
    (IsFactOf f.instance f.choice f.known (source_said c.in-Two.first)) (IsFactOf f.instance f.choice f.known (source_said c.in-Two.second)) _ _ _
    (c.in_ok-add_source-in-Two.ensures each.0) adds)) (c.add_source-in-Two-2.ensures each.1)
