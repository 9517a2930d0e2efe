-- What a stream says of a whole text, from what its lines and nodes say.
use Rattle.std.proofs.Common.{◌≡◌, ℕ, List, [], ◌∷◌, ◌++◌, reverse, Option, IfSome, Ok, Err, refl, sym, ap, subst, ◌∙◌, rules}
use Rattle.certificate.specs.declared.fault.CertTextError.{CertTextError}
use Rattle.certificate.specs.declared.fault.CertTextError.TheVariants.{At, OutOfMemory}
use Rattle.certificate.specs.declared.fault.SourceFault.{SourceFault}
use Rattle.certificate.specs.declared.fault.SourceFault.TheVariants.{Read, TooLong, Text}
use Rattle.certificate.specs.declared.node.Node.{Node}
use Rattle.certificate.specs.Trees.{trees_of}
use Rattle.certificate.specs.Reading.{Reading, low_at, HasLow, IsFaultIn, Reads}
use Rattle.certificate.specs.Sources.{Says, HasText, IsFaultOn, OrMemory}
use Rattle.certificate.specs.Opened.{ReadsRest, Gives, IsRestFault, IsTextFault, certificate_with}
use Rattle.certificate.specs.Blocks.{MayLeave, Stops}
use Rattle.certificate.specs.Streams.{IsCertFault, IsNodeFault}
use Rattle.certificate.proofs.Opened.{whole_text}
use Rattle.certificate.specs.declared.version.Version.{Version}

-- a text that may be left where nothing is taken is what the reader has
pub untouched : (known : Option (List ℕ)) (front text : List ℕ) → front ≡ [] → MayLeave known front text → IfSome known (λ bytes. bytes ≡ text)
untouched known front text none left =
    let is : text ≡ left.more = left.text_is ∙ ap (λ (f : List ℕ). f ++ left.more) none in
    subst (λ (t : List ℕ). IfSome known (λ bytes. bytes ≡ t)) (sym is) left.known_is

-- the nodes that are left behind the bound make the whole
pub with_low : (version : Version) (Before After : List ℕ → Type 0) (due : List ℕ) (line low : ℕ) → due ≡ 1 ∷ [] → line ≡ 3 → Says Before After low_at (version, low)
    → (read : Reading (List Node)) → Gives version After due line read → (text : List ℕ) × (Before text × Reads text (certificate_with version low read))
with_low version Before After due line low due_is line_is said read g =
    let t = said g.0 g.1.0 in
    let one : ReadsRest version (reverse (1 ∷ [])) line g.0 read = subst (λ (ks : List ℕ). ReadsRest version (reverse ks) line g.0 read) due_is g.1.1 in
    let rest : ReadsRest version (1 ∷ []) 3 g.0 read = subst (λ (n : ℕ). ReadsRest version (1 ∷ []) n g.0 read) line_is one in
    (t.0, (t.1.0, whole_text version t.0 g.0 low read t.1.1 rest))

-- a fault of the first two lines is that of the whole
pub low_fault : (Before : List ℕ → Type 0) (taken : ℕ) (e : SourceFault) → IsFaultOn (Stops taken) Before low_at e
    → IsCertFault (λ reading. (text : List ℕ) × (Before text × Reads text reading)) taken e
low_fault Before taken Read h = tt
low_fault Before taken TooLong h = h
low_fault Before taken (Text OutOfMemory) h = tt
low_fault Before taken (Text (At line fault)) h = (h.0, (h.1.0, rw h.1.1 refl))

pub node_fault : (version : Version) (Before : List ℕ → Type 0) (due : List ℕ) (line taken : ℕ) (e : SourceFault) → IsRestFault version (OrMemory (Stops taken)) Before due line e
    → IsNodeFault (Gives version Before due line) taken e
node_fault version Before due line taken Read h = tt
node_fault version Before due line taken TooLong h = h
node_fault version Before due line taken (Text OutOfMemory) h = tt
node_fault version Before due line taken (Text (At at fault)) h = h

-- ---- a text that is all there

pub cert_reads : (version : Version) (text first : List ℕ) (After : List ℕ → Type 0) (line low : ℕ) (nodes : List Node) → first ≡ text → line ≡ 3 → Says (λ t. t ≡ first) After low_at (version, low) → Gives version After (1 ∷ []) line (Ok nodes)
    → Reads text (Ok (record { version = version; low = low; tree = trees_of nodes }))
cert_reads version text first After line low nodes is line_is said g =
    let whole = with_low version (λ t. t ≡ first) After (1 ∷ []) line low refl line_is said (Ok nodes) g in
    subst (λ (t : List ℕ). Reads t (Ok (record { version = version; low = low; tree = trees_of nodes }))) (whole.1.0 ∙ is) whole.1.1

has_low : (version : Version) (text first : List ℕ) (After : List ℕ → Type 0) (low : ℕ) → first ≡ text → Says (λ t. t ≡ first) After low_at (version, low) → HasText After → HasLow text
has_low version text first After low is said has =
    let t = said has.0 has.1 in
    let e : low_at text ≡ Ok ((version, low), has.0) = ap low_at (sym (t.1.0 ∙ is)) ∙ t.1.1 in
    rw e (search rules)

pub cert_fault : (version : Version) (e : SourceFault) (text first : List ℕ) (After : List ℕ → Type 0) (line low : ℕ) → first ≡ text → line ≡ 3 → Says (λ t. t ≡ first) After low_at (version, low) → HasText After
    → IsRestFault version (OrMemory (λ x. ⊥)) After (1 ∷ []) line e → IsTextFault text e
cert_fault version Read text first After line low is line_is said has h = absurd h
cert_fault version TooLong text first After line low is line_is said has h = absurd h
cert_fault version (Text OutOfMemory) text first After line low is line_is said has h = has_low version text first After low is said has
cert_fault version (Text (At at fault)) text first After line low is line_is said has h =
    let whole = with_low version (λ t. t ≡ first) After (1 ∷ []) line low refl line_is said (Err (At at fault)) h in
    subst (λ (t : List ℕ). Reads t (Err (At at fault))) (whole.1.0 ∙ is) whole.1.1

pub told_fault : (text : List ℕ) (e : CertTextError) → IsTextFault text (Text e) → IsFaultIn (HasLow text) e (Reads text)
told_fault text OutOfMemory h = h
told_fault text (At at fault) h = h
