-- Lines that are told one after another, and what a fault leaves of them.
use Rattle.std.proofs.Common.{Bool, true, false, ◌≡◌, ◌∙◌, ℕ, ◌+◌, List, [], ◌∷◌, ◌++◌, length, take, Option, None, Some, Result, Ok, Err, IfErr, IfSome, OnOk, append-nil, length-append, arith, refl, subst, sym}
use Rattle.std.specs.Io.KnownBytes.{Appends, Keeps}
use Rattle.std.proofs.KnownBytes.{Appends-kept, Appends-nil, Appends-trans}
use Rattle.std.proofs.Math.Seq.{drop-append_seam, take-add, take-append_seam}
use Rattle.std.proofs.lemmas.List.{flat_map_more, take_all}
use Rattle.ttp_model.specs.Instance.{Instance}
use Rattle.plan_questions.specs.outcome.Options.{Options}
use Rattle.instance_variants.specs.declared.kept.constraints.Constraint.{Constraint}
use Rattle.plan_questions.specs.Conflicts.{AreMarked, IsBegun, IsConflict, IsNarrowing}
use Rattle.plan_questions.specs.declared.conflicts.conflict.Conflict.{Conflict}
use Rattle.plan_questions.specs.declared.conflicts.needs.Need.{Need}
use Rattle.plan_questions.specs.LateAnswers.{IsLateness}
use Rattle.plan_questions.specs.declared.late.answer.Lateness.{Lateness}
use Rattle.command_streams.specs.declared.ending.Sink.TheVariants as sink
use Rattle.command_streams.specs.declared.ending.Fault.{Fault}
use Rattle.command_streams.specs.declared.ending.Fault.TheVariants.{Memory, Search, Unwritten}
use Rattle.command_streams.specs.Streams.{AppendsPart}
use Rattle.question_commands.specs.Words.{Lines, late_line, late_lines, lines_behind, need_line, need_lines, none_lines, others_text}
use Rattle.question_commands.specs.Answers.{AreCut, IsAskedFor, IsLateInPlace}
use Rattle.question_commands.specs.Telling.{AreLinesBehind, AreLinesCut, AreLinesCutBehind, AreLinesTold, AreNeedsCut, AreOthersUnsaid, IsLateUnsaid, IsUnsaid, IsWriterFault}

part_more : (xs ys : List ℕ) (n : ℕ) → take (length xs + n) (xs ++ ys) ≡ xs ++ take n ys
part_more xs ys n = take-add (length xs) n (xs ++ ys) ∙ rw (take-append_seam xs ys, drop-append_seam xs ys) refl

module _ (a b d : Option (List ℕ)) where
  -- a part of a text stands behind a text
  pub part_behind : (xs ys : List ℕ) → Appends a b xs → AppendsPart b d ys → AppendsPart a d (xs ++ ys)
  part_behind xs ys one part = record {
    count = length xs + part.count;
    within = omega (arith, part.within, length-append xs ys);
    appends = subst (Appends a d) (sym (part_more xs ys part.count)) (Appends-trans a b d xs (take part.count ys) one part.appends);
  }

  -- what a fault leaves of a text stands behind a text
  pub cut_behind : (fault : Fault) (xs ys : List ℕ) → Appends a b xs → AreCut fault ys b d → AreCut fault (xs ++ ys) a d
  cut_behind Memory xs ys one cut = Appends-trans a b d xs ys one cut
  cut_behind (Search fault) xs ys one cut = Appends-trans a b d xs ys one cut
  cut_behind (Unwritten sink.Out) xs ys one cut = part_behind xs ys one cut
  cut_behind fault xs ys one cut = absurd cut

-- a text is written and flushed
pub flushed : (a b d : Option (List ℕ)) (text : List ℕ) → Appends a b text → Keeps b d → Appends a d text
flushed a b d text one keeps = Appends-kept a b d text one keeps

-- or not flushed: all of it may stand
pub unflushed : (a b d : Option (List ℕ)) (text : List ℕ) → Appends a b text → Keeps b d → AppendsPart a d text
unflushed a b d text one keeps = record {
  count = length text;
  within = omega arith;
  appends = subst (Appends a d) (sym (take_all (length text) text (omega arith))) (Appends-kept a b d text one keeps);
}

-- nothing is written
pub nothing : (a b : Option (List ℕ)) → Keeps a b → Appends a b []
nothing a b keeps = Appends-kept a a b [] (Appends-nil a) keeps

-- the text of a writer's fault
pub unsaid : (text : List ℕ) (a b : Option (List ℕ)) (fault : Fault) → IsWriterFault text a b fault → IsUnsaid text a b fault
unsaid text a b fault is = rw is.0 is.1

pub unsaid_as : {T : Type 0} (told : Result T Fault) (said text : List ℕ) (a b : Option (List ℕ)) → said ≡ text
    → IfErr told (IsWriterFault said a b) → IfErr told (IsUnsaid text a b)
unsaid_as (Ok done) said text a b same is = tt
unsaid_as (Err fault) said text a b same is = unsaid text a b fault (rw same at is)

module _ (i : Instance) (options : Options) (old new : Conflict) (c : Constraint) (h : IsNarrowing i options old) (k : IsNarrowing i options new)
    (told : new.needed.items ≡ old.needed.items ++ c ∷ []) (a b d : Option (List ℕ)) (written : Appends a b (need_lines i old.needed.items)) where
  more_lines : need_lines i new.needed.items ≡ need_lines i old.needed.items ++ need_line i c
  more_lines = rw told (sym (flat_map_more (need_line i) [] old.needed.items c))

  -- one line more
  pub lines_more : Appends b d (need_line i c) → Appends a d (need_lines i new.needed.items)
  lines_more line = subst (Appends a d) (sym more_lines) (Appends-trans a b d (need_lines i old.needed.items) (need_line i c) written line)

  -- or a fault
  pub need_cut : (fault : Fault) → IsUnsaid (need_line i c) b d fault → AreNeedsCut i options a d fault
  need_cut Memory is = record {
    kept = old.kept;
    cert = old.cert;
    needed = old.needed.items;
    conflict = h.known;
    cut = Appends-kept a b d (need_lines i old.needed.items) written is;
  }
  need_cut (Unwritten sink.Out) is = record {
    kept = new.kept;
    cert = new.cert;
    needed = new.needed.items;
    conflict = k.known;
    cut = subst (AppendsPart a d) (sym more_lines) (part_behind a b d (need_lines i old.needed.items) (need_line i c) written is);
  }
  need_cut fault is = absurd is

-- a search that has no answer leaves the lines that were told
pub search_cut : (i : Instance) (options : Options) (conflict : Conflict) (h : IsNarrowing i options conflict) (a b : Option (List ℕ)) (fault : Fault)
    → AreCut fault (need_lines i conflict.needed.items) a b → AreNeedsCut i options a b fault
search_cut i options conflict h a b fault cut = record { kept = conflict.kept; cert = conflict.cert; needed = conflict.needed.items; conflict = h.known; cut = cut }

module _ (i : Instance) (options : Options) (a b : Option (List ℕ)) (fault : Fault) (text : List ℕ) (is : IsWriterFault text a b fault) where
  pub others_unsaid : (conflict : Conflict) (needs : List Need) → AreMarked i options conflict.kept conflict.needed.items needs → text ≡ others_text i needs
      → AreOthersUnsaid i options conflict a b fault
  others_unsaid conflict needs marked same = rw is.0 (needs, marked, rw same at is.1)

  pub late_unsaid : (asked : Bool) (lateness : Lateness) → asked ≡ true → IsLateness i options lateness → text ≡ late_line lateness
      → IsLateUnsaid i options asked a b fault
  late_unsaid asked lateness on late same = rw is.0 (lateness, late, on, rw same at is.1)

-- how late all has to end is told at its place
late_placed : (asked : Bool) (needs : List Need) (late : Option Lateness) → IsAskedFor asked late → IsLateInPlace asked (Some needs) late
late_placed asked needs None is = tt
late_placed true needs (Some late) is = tt
late_placed false needs (Some late) is = absurd cc

module _ (i : Instance) (options : Options) (asked : Bool) (conflict : Conflict) (known : IsConflict i options conflict.kept conflict.cert conflict.needed.items) where
  abbrev told : Option (List Need) → Option Lateness → Lines
  told others late = record { needed = conflict.needed.items; others = others; late = late }

  pub others_cut : (a b : Option (List ℕ)) (fault : Fault) → AreOthersUnsaid i options conflict a b fault
      → AreLinesCutBehind i options asked conflict a b fault
  others_cut a b Memory keeps = record {
    lines = told None None;
    needed = refl;
    true_lines = record { conflict = known; others = tt; late = tt; place = tt };
    cut = nothing a b keeps;
  }
  others_cut a b (Unwritten sink.Out) is = record {
    lines = told (Some is.0) None;
    needed = refl;
    true_lines = record { conflict = known; others = is.1; late = tt; place = tt };
    cut = subst (AppendsPart a b) (sym (append-nil (others_text i is.0))) is.2;
  }
  others_cut a b fault is = absurd is

  module _ (needs : List Need) (marked : AreMarked i options conflict.kept conflict.needed.items needs) (a b d : Option (List ℕ)) (one : Appends a b (others_text i needs)) where
    pub late_cut : (fault : Fault) → IsLateUnsaid i options asked b d fault → AreLinesCutBehind i options asked conflict a d fault
    late_cut Memory keeps = record {
      lines = told (Some needs) None;
      needed = refl;
      true_lines = record { conflict = known; others = marked; late = tt; place = tt };
      cut = Appends-trans a b d (others_text i needs) [] one (nothing b d keeps);
    }
    late_cut (Search fault) keeps = record {
      lines = told (Some needs) None;
      needed = refl;
      true_lines = record { conflict = known; others = marked; late = tt; place = tt };
      cut = Appends-trans a b d (others_text i needs) [] one (nothing b d keeps);
    }
    late_cut (Unwritten sink.Out) is = record {
      lines = told (Some needs) (Some is.0);
      needed = refl;
      true_lines = record { conflict = known; others = marked; late = is.1; place = rw is.2 tt };
      cut = part_behind a b d (others_text i needs) (late_line is.0) one is.3;
    }
    late_cut fault is = absurd is

    pub all_behind : (late : Option Lateness) → IfSome late (IsLateness i options) → IsAskedFor asked late → Appends b d (late_lines late)
        → AreLinesBehind i options asked conflict a d
    all_behind late is just two = record {
      lines = told (Some needs) late;
      needed = refl;
      true_lines = record { conflict = known; others = marked; late = is; place = late_placed asked needs late just };
      all = record { others = refl; late = just };
      written = Appends-trans a b d (others_text i needs) (late_lines late) one two;
    }

module _ (i : Instance) (options : Options) (asked : Bool) (a b d : Option (List ℕ)) where
  -- the first line of them all
  pub head_cut : (conflict : Conflict) (fault : Fault) → IsBegun i options conflict → IsWriterFault none_lines a b fault → AreLinesCut i options asked a b fault
  head_cut conflict fault begun is = rw is.0 (record {
    kept = conflict.kept;
    cert = conflict.cert;
    lines = record { needed = []; others = None; late = None };
    true_lines = record { conflict = rw begun.untold at begun.narrowing.known; others = tt; late = tt; place = tt };
    cut = subst (AppendsPart a b) (sym (append-nil none_lines)) is.1;
  })

  pub lines_cut : (fault : Fault) → Appends a b none_lines → AreNeedsCut i options b d fault → AreLinesCut i options asked a d fault
  lines_cut fault head is = record {
    kept = is.kept;
    cert = is.cert;
    lines = record { needed = is.needed; others = None; late = None };
    true_lines = record { conflict = is.conflict; others = tt; late = tt; place = tt };
    cut = cut_behind a b d fault none_lines (need_lines i is.needed ++ []) head
        (subst (λ (text : List ℕ). AreCut fault text b d) (sym (append-nil (need_lines i is.needed))) is.cut);
  }

  module _ (e : Option (List ℕ)) (conflict : Conflict) (head : Appends a b none_lines) (needs : Appends b d (need_lines i conflict.needed.items)) where
    cut_at_last : (fault : Fault) → AreLinesCutBehind i options asked conflict d e fault → AreLinesCut i options asked a e fault
    cut_at_last fault is = record {
      kept = conflict.kept;
      cert = conflict.cert;
      lines = is.lines;
      true_lines = is.true_lines;
      cut = cut_behind a b e fault none_lines (need_lines i is.lines.needed ++ lines_behind i is.lines) head
          (cut_behind b d e fault (need_lines i is.lines.needed) (lines_behind i is.lines) (rw is.needed needs) is.cut);
    }

    all_told : AreLinesBehind i options asked conflict d e → AreLinesTold i options asked conflict a e
    all_told is = record {
      lines = is.lines;
      true_lines = is.true_lines;
      all = is.all;
      written = Appends-trans a b e none_lines (need_lines i is.lines.needed ++ lines_behind i is.lines) head
          (Appends-trans b d e (need_lines i is.lines.needed) (lines_behind i is.lines) (rw is.needed needs) is.written);
    }

    -- what stands behind the needs is told last
    pub all_told_last : {T : Type 0} (told : Result T Fault) → OnOk told (AreLinesBehind i options asked conflict d e)
        → OnOk told (AreLinesTold i options asked conflict a e)
    all_told_last (Ok done) is = all_told is
    all_told_last (Err fault) is = tt

    pub cut_last : {T : Type 0} (told : Result T Fault) → IfErr told (AreLinesCutBehind i options asked conflict d e)
        → IfErr told (AreLinesCut i options asked a e)
    cut_last (Ok done) is = tt
    cut_last (Err fault) is = cut_at_last fault is
