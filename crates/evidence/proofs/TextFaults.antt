-- What the reason of each of these faults tells, by computing it.
use Rattle.std.proofs.Common.{◌≡◌, ◌∙◌, ℕ, List, Option, Some, Bor, codes, map, option_map, pos, ap, subst}
use Rattle.std.specs.Str.{chars}
use Rattle.strsim.specs.Edits.{cost_at, next_row, rows}
use Rattle.toml.specs.Data.{Data, Members, array, integer, item, member, no_items, no_members, string, table}
use Rattle.instance_text.specs.declared.error.Key.TheVariants.{Capacities, From, Horizon, To}
use Rattle.instance_text.specs.declared.error.Key.TheVariants as key
use Rattle.instance_text.specs.declared.error.Place.TheVariants.{Cluster, Link, Message, Node, Process, Top}
use Rattle.instance_text.specs.declared.error.TextError.TheVariants.{OutOfRange, UnknownKey, UnknownName, WrongKind as KindFault}
use Rattle.instance_text.specs.Keys.{text_of}
use Rattle.instance_text.specs.Tables.{keys_at}
use Rattle.instance_reasons.specs.declared.near.NearName.{NearName}
use Rattle.instance_reasons.specs.declared.near.NearName.TheVariants.{Meant}
use Rattle.instance_reasons.specs.declared.texts.OddKey.{OddKey}
use Rattle.instance_reasons.specs.declared.texts.OddName.{OddName}
use Rattle.instance_reasons.specs.declared.texts.TextReason.{TextReason}
use Rattle.instance_reasons.specs.declared.texts.TextReason.TheVariants as reason
use Rattle.instance_reasons.specs.declared.texts.UnfitNumber.{UnfitNumber}
use Rattle.instance_reasons.specs.declared.texts.WrongKind.{WrongKind}
use Rattle.instance_reasons.specs.declared.values.Found.TheVariants.{Item}
use Rattle.instance_reasons.specs.declared.values.Kind.TheVariants as kind
use Rattle.instance_reasons.specs.declared.values.Shape.{Shape}
use Rattle.instance_reasons.specs.declared.values.Shape.TheVariants.{Many}
use Rattle.instance_reasons.specs.Near.{nearest}
use Rattle.instance_reasons.specs.NearNames.{AreNear}
use Rattle.instance_reasons.specs.Tables.{and_then, value_at}
use Rattle.instance_reasons.specs.Texts.{IsTextReason, name_of_none, names_at}
use Rattle.instance_reasons.specs.Unknown.{unknown_key}
use Rattle.instance_reasons.specs.Values.{found_of, unfit_of}

module _ (ms : Members) (told : TextReason) where
  pub past_the_largest : ms ≡ member (codes "cluster") (table (member (codes "horizon") (integer (pos 4294967296)) no_members)) no_members
      → IsTextReason ms (OutOfRange Cluster Horizon) told → (r : UnfitNumber) → told ≡ reason.UnfitNumber r → r.number ≡ Some (pos 4294967296)
  past_the_largest is tells r same =
      let t = subst (λ (x : TextReason). IsTextReason ms (OutOfRange Cluster Horizon) x) same tells in
      t.number_is ∙ ap (λ (ms : Members). and_then (value_at Cluster Horizon ms) unfit_of) is

  pub wrong_item : ms ≡ member (codes "node") (array (item (table (member (codes "capacities")
      (array (item (integer (pos 8)) (item (string (codes "x")) no_items))) no_members)) no_items)) no_members
      → IsTextReason ms (KindFault (Node 0) Capacities) told → (r : WrongKind) → told ≡ reason.WrongKind r
      → (r.found ≡ Some (Item kind.Text)) × (r.wanted ≡ Many kind.Number)
  wrong_item is tells r same =
      let t = subst (λ (x : TextReason). IsTextReason ms (KindFault (Node 0) Capacities) x) same tells in (
        t.found_is ∙ ap (λ (wanted : Shape). option_map (found_of wanted) (value_at (Node 0) Capacities ms)) t.wanted_is
            ∙ ap (λ (ms : Members). option_map (found_of (Many kind.Number)) (value_at (Node 0) Capacities ms)) is,
        t.wanted_is,
      )

  pub odd_key : (d e : Data) → ms ≡ member (codes "cluster") d (member (codes "nodes") e no_members) → IsTextReason ms (UnknownKey Top) told
      → (r : OddKey) → told ≡ reason.OddKey r → (option_map (λ s. s.now) r.key ≡ Some (codes "nodes")) × (option_map (λ s. s.now) r.near ≡ Some (codes "node"))
  unfolding rows chars next_row cost_at
  odd_key d e is tells r same =
      let t = subst (λ (x : TextReason). IsTextReason ms (UnknownKey Top) x) same tells in (
        t.key_is ∙ ap (unknown_key Top) is,
        t.near_is ∙ ap (λ (ms : Members). and_then (unknown_key Top ms) (λ word. nearest word (map text_of (keys_at Top)))) is,
      )

  pub first_name : ms ≡ member (codes "message") (array (item (table (member (codes "to")
      (array (item (string (codes "b")) (item (string (codes "a")) no_items))) no_members)) no_items)) no_members
      → IsTextReason ms (UnknownName (Message 0) To) told → (r : OddName) → told ≡ reason.OddName r → option_map (λ s. s.now) r.name ≡ Some (codes "a")
  first_name is tells r same =
      let t = subst (λ (x : TextReason). IsTextReason ms (UnknownName (Message 0) To) x) same tells in
      t.name_is ∙ ap (name_of_none (Message 0) To) is

  pub no_node : ms ≡ member (codes "process") (array (item (table
      (member (codes "name") (string (codes "p")) (member (codes "node") (string (codes "p")) no_members))) no_items)) no_members
      → IsTextReason ms (UnknownName (Process 0) key.Node) told → (r : OddName) → told ≡ reason.OddName r
      → (r.list.now ≡ codes "node") × (option_map (λ s. s.now) r.name ≡ Some (codes "p"))
  no_node is tells r same =
      let t = subst (λ (x : TextReason). IsTextReason ms (UnknownName (Process 0) key.Node) x) same tells in
      (t.list_is, t.name_is ∙ ap (name_of_none (Process 0) key.Node) is)

  pub nearer : ms ≡ member (codes "link") (array (item (table
      (member (codes "from") (string (codes "ab")) no_members)) no_items)) (member (codes "process")
      (array (item (table (member (codes "name") (string (codes "abcd")) no_members))
      (item (table (member (codes "name") (string (codes "abc")) no_members)) no_items))) no_members)
      → IsTextReason ms (UnknownName (Link 0) From) told → (r : OddName) (x : Bor (List ℕ)) → told ≡ reason.OddName r → r.near ≡ Some (Meant x)
      → x.now ≡ codes "abc"
  unfolding rows chars next_row cost_at
  nearer is tells r x same near =
      let t = subst (λ (x : TextReason). IsTextReason ms (UnknownName (Link 0) From) x) same tells in
      let told_near = subst (λ (n : Option NearName). AreNear (and_then (name_of_none (Link 0) From ms) (λ word. nearest word (names_at (Link 0) ms))) n) near t.near_is in
      (subst (λ (ms : Members). AreNear (and_then (name_of_none (Link 0) From ms) (λ word. nearest word (names_at (Link 0) ms))) (Some (Meant x))) is told_near).0
