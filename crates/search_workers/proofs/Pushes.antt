-- Tasks that are pushed one after another, the last first.
use Rattle.std.proofs.Common.{◌≡◌, List, [], ◌∷◌, ◌++◌, sym, ap, ◌∙◌, append_assoc}
use Rattle.std.proofs.lemmas.List.{append-nil}
use Rattle.std.specs.List.Sorted.{IsPermutation}
use Rattle.std.proofs.lemmas.List.Sorted.{IsPermutation-refl, IsPermutation-trans, IsPermutation-append_right, IsPermutation-append_comm}
use Rattle.branch_tree.specs.Task.{Task}
use Rattle.steal_pool.proofs.Orders.{then_same}
use Rattle.search_workers.specs.Run.{Pushes}

pub none_pushed : (before tasks : List Task) → Pushes before before tasks tasks
none_pushed before tasks = record { gave = []; pushes = sym (append-nil before); all = IsPermutation-refl tasks }

pub one_pushed : (before after more tasks left rest : List Task) (t : Task) → Pushes before after tasks left → left ≡ rest ++ t ∷ []
    → more ≡ after ++ t ∷ [] → Pushes before more tasks rest
one_pushed before after more tasks left rest t p is then =
    let turned = IsPermutation-append_right p.gave _ _ (IsPermutation-append_comm rest (t ∷ [])) in
    let behind = then_same _ _ _ p.all (ap (λ (l : List Task). p.gave ++ l) is) in
    record {
      gave = p.gave ++ t ∷ [];
      pushes = then ∙ (ap (λ (l : List Task). l ++ t ∷ []) p.pushes ∙ append_assoc before p.gave (t ∷ []));
      all = then_same _ _ _ (IsPermutation-trans _ _ _ behind turned) (sym (append_assoc p.gave (t ∷ []) rest));
    }

-- the same of tasks in another order
pub pushed_of : (before after tasks turned left : List Task) → IsPermutation tasks turned → Pushes before after turned left → Pushes before after tasks left
pushed_of before after tasks turned left same p =
    record { gave = p.gave; pushes = p.pushes; all = IsPermutation-trans tasks turned (p.gave ++ left) same p.all }
