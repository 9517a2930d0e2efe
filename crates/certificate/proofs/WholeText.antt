-- The laws of the whole text: what is read is spelled so, what is spelled so is read, and reading gives
-- one answer.
use Rattle.std.proofs.Common.{◌≡◌, ◌≢◌, ℕ, ◌+◌, ◌<◌, ◌^◌, true, List, [], ◌∷◌, ◌++◌, length, Some, Ok, Err, IfOk, refl, sym, ap, subst, ◌∙◌, arith}
use Rattle.std.specs.Prelude.{◌==◌}
use Rattle.std.specs.List.{flat_map}
use Rattle.std.proofs.lemmas.List.{append-nil}
use Rattle.std.proofs.lemmas.List.Elements.{All-nil, All-cons, All-head}
use Rattle.line_text.specs.Results.{or_fault, check}
use Rattle.line_text.proofs.Results.{bind_ok, ok_is, or_fault_ok, check_ok}
use Rattle.certificate.specs.declared.fault.LineFault.TheVariants.{FirstLine, Trailing}
use Rattle.certificate.specs.declared.fault.CertTextError.TheVariants.{At, OutOfMemory}
use Rattle.certificate.specs.declared.node.Node.{Node}
use Rattle.certificate.specs.Cert.{Cert}
use Rattle.certificate.specs.Lines.{lines}
use Rattle.certificate.specs.Trees.{Trees, preorder}
use Rattle.certificate.specs.declared.version.Version.{Version}
use Rattle.certificate.specs.Versions.{version_line, version_of, allows_low}
use Rattle.certificate.specs.Words.{low_words, lows_with}
use Rattle.certificate.specs.Spelling.{line_with, node_text, cert_text, CertHasText, SpellsCert}
use Rattle.certificate.specs.Reading.{Reading, IsAnswerIn, HasLow, line_at, said_in, low_at, ReadsTrees, certificate_of, ReadsOn, Reads}
use Rattle.certificate.specs.Nodes.{nodes_in}
use Rattle.certificate.proofs.Heads.{line_takes, line_again, version_again, version_lacks, version_takes}
use Rattle.certificate.proofs.Said.{said_takes, said_again, line_lacks}
use Rattle.certificate.proofs.Tables.{lows_said, low_sayable}
use Rattle.certificate.proofs.TreeLaws.{trees_text, IsTaken, trees_take, trees_again, one_reading}

-- ---- the first two lines

low_joined : (version : Version) (text after first rest : List ℕ) (low : ℕ) → text ≡ version_line version ++ 10 ∷ after → after ≡ first ++ 10 ∷ rest → first ≡ line_with (low_words low)
    → text ≡ version_line version ++ 10 ∷ (line_with (low_words low) ++ 10 ∷ rest)
low_joined version text after first rest low a b c = rw (a, b, c) refl

low_takes : (text : List ℕ) (x : (Version × ℕ) × List ℕ) → low_at text ≡ Ok x → (text ≡ version_line x.0.0 ++ 10 ∷ (line_with (low_words x.0.1) ++ 10 ∷ x.1)) × (x.0.1 < 2 ^ 32)
unfolding low_at
low_takes text x e =
    let first = bind_ok (line_at 1 text) _ x e in
    let version = bind_ok (or_fault (At 1 FirstLine) (version_of first.0.0)) _ x first.2 in
    let second = bind_ok (line_at 2 first.0.1) _ x version.2 in
    let low = bind_ok (said_in low_words lows_with allows_low 2 second.0.0) _ x second.2 in
    let is : ((version.0, low.0), second.0.1) ≡ x = ok_is ((version.0, low.0), second.0.1) x low.2 in
    let said = said_takes low_words lows_with allows_low (λ low. Unit {0}) lows_said 2 second.0.0 low.0 low.1 in
    let one = version_takes text first.0.0 first.0.1 version.0 first.1 (or_fault_ok (At 1 FirstLine) (version_of first.0.0) version.0 version.1) in
    subst (λ (y : (Version × ℕ) × List ℕ). (text ≡ version_line y.0.0 ++ 10 ∷ (line_with (low_words y.0.1) ++ 10 ∷ y.1)) × (y.0.1 < 2 ^ 32)) is (
      low_joined version.0 text first.0.1 second.0.0 second.0.1 low.0 one (line_takes 2 first.0.1 second.0.0 second.0.1 second.1) said.0,
      All-head (λ n. n < 2 ^ 32) low.0 [] said.1,
    )

low_steps : (version : Version) (text after first rest : List ℕ) (low : ℕ) → line_at 1 text ≡ Ok (version_line version, after) → version_of (version_line version) ≡ Some version → line_at 2 after ≡ Ok (first, rest)
    → said_in low_words lows_with allows_low 2 first ≡ Ok low → low_at text ≡ Ok ((version, low), rest)
unfolding low_at
low_steps version text after first rest low a b c d = rw (a, b, c, d) refl

low_again : (version : Version) (low : ℕ) (rest : List ℕ) → low < 2 ^ 32 → low_at (version_line version ++ 10 ∷ (line_with (low_words low) ++ 10 ∷ rest)) ≡ Ok ((version, low), rest)
low_again version low rest lt =
    let fit = All-cons (λ n. n < 2 ^ 32) low [] lt (All-nil (λ n. n < 2 ^ 32)) in
    low_steps version (version_line version ++ 10 ∷ (line_with (low_words low) ++ 10 ∷ rest)) (line_with (low_words low) ++ 10 ∷ rest) (line_with (low_words low)) rest low
    (line_again 1 (version_line version) (line_with (low_words low) ++ 10 ∷ rest) (version_lacks version))
    (version_again version)
    (line_again 2 (line_with (low_words low)) rest (line_lacks low_words lows_with low (low_sayable low) fit))
    (said_again low_words lows_with allows_low 2 low (low_sayable low) fit refl)

-- ---- the nodes that were read are a tree

nodes_of : (read : Reading (Trees × List ℕ)) (nodes : List Node) (rest : List ℕ) → Ok (nodes, rest) ≡ nodes_in read → (trees : Trees) × ((read ≡ Ok (trees, rest)) × (nodes ≡ preorder trees))
nodes_of (Err fault) nodes rest e = absurd cc
nodes_of (Ok trees) nodes rest e =
    let same : (nodes, rest) ≡ (preorder trees.0, trees.1) = ok_is (nodes, rest) (preorder trees.0, trees.1) e in
    let rest_is : rest ≡ trees.1 = ap (λ (x : List Node × List ℕ). x.1) same in
    (trees.0, (ap (λ (r : List ℕ). Ok (trees.0, r)) (sym rest_is), ap (λ (x : List Node × List ℕ). x.0) same))

pub nothing_left : (rest : List ℕ) → (length rest == 0) ≡ true → rest ≡ []
nothing_left [] e = refl
nothing_left (x ∷ xs) e = absurd (grind arith)

-- ---- what is read is spelled so

certificate_takes : (version : Version) (low : ℕ) (read : Reading (Trees × List ℕ)) (c : Cert) → Ok c ≡ certificate_of version low read → (trees : Trees) × ((read ≡ Ok (trees, [])) × (record { version = version; low = low; tree = trees } ≡ c))
certificate_takes version low (Err fault) c e = absurd cc
certificate_takes version low (Ok trees) c e =
    let end = bind_ok (check (At (3 + lines trees.0) Trailing) (length trees.1 == 0)) _ c (sym e) in
    let none = nothing_left trees.1 (check_ok (At (3 + lines trees.0) Trailing) (length trees.1 == 0) end.0 end.1) in
    (trees.0, (ap (λ (r : List ℕ). Ok (trees.0, r)) none, ok_is (record { version = version; low = low; tree = trees.0 }) c end.2))

spelled_by : (text : List ℕ) (first : Reading ((Version × ℕ) × List ℕ)) (c : Cert) → low_at text ≡ first → ReadsOn first (Ok c) → SpellsCert text c
spelled_by text (Err fault) c e h = absurd cc
spelled_by text (Ok first) c e h =
    let t = certificate_takes first.0.0 first.0.1 h.0 c h.1.1 in
    let head = low_takes text first e in
    let r : ReadsTrees first.0.0 0 1 3 first.1 (Ok (t.0, [])) = subst (ReadsTrees first.0.0 0 1 3 first.1) t.1.0 h.1.0 in
    let taken : IsTaken first.0.0 0 1 first.1 t.0 [] = trees_take first.0.0 r (omega arith) in
    subst (SpellsCert text) t.1.1
    (record {
      value = record { low = head.1; tree = record { one = taken.trees; shallow = omega (arith, taken.shallow) }; nodes = taken.nodes; allowed = taken.allowed };
      spelled =
          head.0
          ∙ ap (λ (b : List ℕ). version_line first.0.0 ++ 10 ∷ (line_with (low_words first.0.1) ++ 10 ∷ b)) (taken.spelled ∙ append-nil (trees_text t.0));
    })

pub takes : (text : List ℕ) (c : Cert) → Reads text (Ok c) → SpellsCert text c
takes text c h = spelled_by text (low_at text) c refl h

-- ---- what is spelled so is read

pub again : (text : List ℕ) (c : Cert) → SpellsCert text c → Reads text (Ok c)
again text c s =
    let head = ap low_at s.spelled ∙ low_again c.version c.low (flat_map node_text (preorder c.tree)) s.value.low in
    let tree = trees_again c.version 0 1 3 c.tree [] s.value.tree.one (omega (arith, s.value.tree.shallow)) s.value.nodes s.value.allowed in
    rw head (Ok (c.tree, []), (subst (λ (t : List ℕ). ReadsTrees c.version 0 1 3 t (Ok (c.tree, []))) (append-nil (trees_text c.tree)) tree, refl))

-- ---- reading gives one answer

one_answer_after : (first : Reading ((Version × ℕ) × List ℕ)) (a b : Reading Cert) → ReadsOn first a → ReadsOn first b → a ≡ b
one_answer_after (Err fault) a b ha hb = ha ∙ sym hb
one_answer_after (Ok first) a b ha hb = ha.1.1 ∙ ap (certificate_of first.0.0 first.0.1) (one_reading first.0.0 ha.1.0 hb.0 hb.1.0) ∙ sym hb.1.1

pub one_answer : (text : List ℕ) (a b : Reading Cert) → Reads text a → Reads text b → a ≡ b
one_answer text a b ha hb = one_answer_after (low_at text) a b ha hb

-- ---- what an answer says

pub found_by : (text : List ℕ) (r : Reading Cert) → IsAnswerIn (HasLow text) (λ x. x) r (Reads text) → IfOk r (λ c. SpellsCert text c)
found_by text (Ok c) answer = takes text c answer
found_by text (Err e) answer = tt

pub only_by : (text : List ℕ) (r : Reading Cert) → IsAnswerIn (HasLow text) (λ x. x) r (Reads text) → (c : Cert) → SpellsCert text c → r ≢ Err OutOfMemory → r ≡ Ok c
only_by text (Ok d) answer c s memory = one_answer text (Ok d) (Ok c) answer (again text c s)
only_by text (Err OutOfMemory) answer c s memory = absurd (memory refl)
only_by text (Err (At line fault)) answer c s memory = one_answer text (Err (At line fault)) (Ok c) answer (again text c s)

-- ---- no two certificates have one spelling

pub spelled_once : (c d : Cert) → CertHasText c → CertHasText d → cert_text c ≡ cert_text d → c ≡ d
spelled_once c d hc hd same =
    ok_is c d (one_answer (cert_text c) (Ok c) (Ok d) (again (cert_text c) c (record { value = hc; spelled = refl })) (again (cert_text c) d (record { value = hd; spelled = same })))
