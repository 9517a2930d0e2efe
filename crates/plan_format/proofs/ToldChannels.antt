-- The two laws of what a text tells of channels: a line for each message where there are two, and nothing where there is one.
use Rattle.std.proofs.Common.{◌≡◌, ℕ, true, false, List, [], ◌++◌, length, replicate, Ok, inl, inr, refl, sym, ap, ap₂, subst, ◌∙◌, arith}
use Rattle.std.proofs.lemmas.Bool.{cases_Bool, cond-true, cond-false, eqb-true, eqb-false}
use Rattle.std.proofs.lemmas.List.{length-map, length-replicate}
use Rattle.line_text.proofs.Results.{ok_is}
use Rattle.ttp_model.specs.declared.error.Part.TheVariants.{Messages}
use Rattle.ttp_model.specs.declared.error.Place.TheVariants.{AtCluster}
use Rattle.ttp_model.specs.Instance.{Instance}
use Rattle.ttp_model.specs.Rules.{IsInstance}
use Rattle.plan_format.specs.declared.column.Column.TheVariants.{Channel}
use Rattle.ttp_model.specs.Names.{names_in}
use Rattle.plan_format.specs.Channels.{has_two_channels, CanBeTold}
use Rattle.plan_format.specs.Spelling.{numbered, channel_lines}
use Rattle.plan_format.specs.Reading.{Reading, part_at, channels_line, channels_at}
use Rattle.plan_format.proofs.Lines.{numbers_take, numbers_again}
use Rattle.plan_format.proofs.NameForm.{names_form}

-- what is read, and the text behind it
abbrev channels_read : List ℕ → List ℕ → Reading (List ℕ × List ℕ)
channels_read channels rest = Ok (channels, rest)

two_at : (i : Instance) (text : List ℕ) → has_two_channels i ≡ true → channels_at i text ≡ part_at i Channel (channels_line i) text
unfolding channels_at
two_at i text two = cond-true (has_two_channels i) (part_at i Channel (channels_line i) text) (channels_read (replicate (length i.messages) 0) text) two

one_at : (i : Instance) (text : List ℕ) → has_two_channels i ≡ false → channels_at i text ≡ channels_read (replicate (length i.messages) 0) text
unfolding channels_at
one_at i text one = cond-false (has_two_channels i) (part_at i Channel (channels_line i) text) (channels_read (replicate (length i.messages) 0) text) one

two_lines : (i : Instance) (channels : List ℕ) → has_two_channels i ≡ true → channel_lines i channels ≡ numbered Channel (names_in i Messages) channels
unfolding channel_lines
two_lines i channels two = cond-true (has_two_channels i) (numbered Channel (names_in i Messages) channels) [] two

one_lines : (i : Instance) (channels : List ℕ) → has_two_channels i ≡ false → channel_lines i channels ≡ []
unfolding channel_lines
one_lines i channels one = cond-false (has_two_channels i) (numbered Channel (names_in i Messages) channels) [] one

-- ---- what is read is spelled so

-- what reading gives of channels: the text of so many, which can be told
pub record AreChannelsRead (i : Instance) (text channels rest : List ℕ) : Type 0 where
  pub spelled : text ≡ channel_lines i channels ++ rest
  pub long : length channels ≡ length i.messages
  pub told : CanBeTold i channels

two_take : (i : Instance) (text : List ℕ) (x : List ℕ × List ℕ) → has_two_channels i ≡ true → channels_at i text ≡ Ok x → AreChannelsRead i text x.0 x.1
two_take i text x double e =
    let lines = numbers_take (channels_line i) Channel (names_in i Messages) text x (sym (two_at i text double) ∙ e) in
    record {
      spelled = lines.0 ∙ ap (λ (front : List ℕ). front ++ x.1) (sym (two_lines i x.0 double));
      long = lines.1 ∙ length-map i.messages (λ m. m.name);
      told = record { one = λ single. absurd (omega (arith, single, eqb-true i.cluster.channels 2 double)); two = λ _. lines.2 };
    }

one_take : (i : Instance) (text : List ℕ) (x : List ℕ × List ℕ) → has_two_channels i ≡ false → channels_at i text ≡ Ok x → AreChannelsRead i text x.0 x.1
one_take i text x single e =
    let zeros = replicate (length i.messages) 0 in
    let is : (zeros, text) ≡ x = ok_is (zeros, text) x (sym (one_at i text single) ∙ e) in
    subst (λ (y : List ℕ × List ℕ). AreChannelsRead i text y.0 y.1) is
    (record {
      spelled = ap (λ (front : List ℕ). front ++ text) (sym (one_lines i zeros single));
      long = length-replicate (length i.messages) 0;
      told = record { one = λ _. refl; two = λ double. absurd (eqb-false i.cluster.channels 2 single double) };
    })

pub channels_take : (i : Instance) (text : List ℕ) (x : List ℕ × List ℕ) → channels_at i text ≡ Ok x → AreChannelsRead i text x.0 x.1
channels_take i text x e = elim (cases_Bool (has_two_channels i)) [
  | inl double ↦ two_take i text x double e
  | inr single ↦ one_take i text x single e
]

-- ---- what is spelled so is read

module _ (i : Instance) (w : IsInstance i) (channels rest : List ℕ) (long : length channels ≡ length i.messages) (told : CanBeTold i channels) where
  two_again : has_two_channels i ≡ true → channels_at i (channel_lines i channels ++ rest) ≡ Ok (channels, rest)
  two_again double =
      ap (channels_at i) (ap (λ (front : List ℕ). front ++ rest) (two_lines i channels double))
      ∙ (two_at i (numbered Channel (names_in i Messages) channels ++ rest) double
      ∙ numbers_again (channels_line i) Channel (names_in i Messages) channels rest (names_form i w Messages)
      (long ∙ sym (length-map i.messages (λ m. m.name))) (told.two (eqb-true i.cluster.channels 2 double)))

  one_again : has_two_channels i ≡ false → channels_at i (channel_lines i channels ++ rest) ≡ Ok (channels, rest)
  one_again other =
      let least = (w.ranges AtCluster).channels_least in
      let most = (w.ranges AtCluster).channels in
      let not_two = eqb-false i.cluster.channels 2 other in
      let single : i.cluster.channels ≡ 1 = omega (arith, least, most, not_two) in
      one_at i (channel_lines i channels ++ rest) other
      ∙ ap₂ channels_read (sym (told.one single)) (ap (λ (front : List ℕ). front ++ rest) (one_lines i channels other))

  pub channels_again : channels_at i (channel_lines i channels ++ rest) ≡ Ok (channels, rest)
  channels_again = elim (cases_Bool (has_two_channels i)) [
    | inl double ↦ two_again double
    | inr other ↦ one_again other
  ]
