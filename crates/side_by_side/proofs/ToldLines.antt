-- The line of a fault is as many lines behind the node's as the fault is.
use Rattle.std.proofs.Common.{◌≡◌, ℕ, ◌+◌, ◌-◌, ◌^◌, min, List, slice_index_or, arith, refl, ap, ◌∙◌}
use Rattle.ttp_model.specs.Instance.{Instance}
use Rattle.tt_choice.specs.Choice.{Choice}
use Rattle.certificate.specs.Trees.{preorder}
use Rattle.certificate.specs.Lines.{line_of}
use Rattle.certificate.specs.Cert.{Cert}
use Rattle.tree_check.specs.declared.fault.NodeFault.{NodeFault}
use Rattle.tree_check.specs.declared.fault.CertFault.TheVariants as cert
use Rattle.tree_check.specs.Faults.{told_line}
use Rattle.side_by_side.specs.Joined.{own_trees, certificate_at}
use Rattle.side_by_side.specs.Faults.{IsAtFault, TellsOwn}
use Rattle.side_by_side.proofs.OneRead.{certificate_read}

told_sum : (a b x y r : ℕ) → a ≡ told_line x → b ≡ told_line y → r ≡ min (a + b) (2 ^ 64 - 1) → r ≡ told_line (x + y)
told_sum a b x y r first second is = omega (arith, first, second, is)

pub told_there : (i : Instance) (certs : List Cert) (k place : ℕ) (c : Choice) (one : Cert) (line first result : ℕ) (fault : NodeFault)
    → one ≡ slice_index_or certs k one → first ≡ told_line (line_of (preorder one.tree) place) → result ≡ min (first + line) (2 ^ 64 - 1)
    → TellsOwn i certs k place c (cert.At line fault) → IsAtFault i certs k result fault
told_there i certs k place c one line first result fault is first_is result_is tells =
    let here = tells.tells 0 refl in
    let same : one ≡ certificate_at certs k = certificate_read certs k one tells.there.certificate is in
    let at : first ≡ told_line (line_of (preorder (own_trees certs k)) place) = first_is ∙ ap (λ (x : Cert). told_line (line_of (preorder x.tree) place)) same in
    record {
      place = place;
      choice = c;
      node = tells.node;
      there = tells.there;
      behind = here.0;
      told = told_sum first line (line_of (preorder (own_trees certs k)) place) here.0 result at here.1 result_is;
      wrong = here.2;
    }
