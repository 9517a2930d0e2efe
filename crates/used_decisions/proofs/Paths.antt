-- The decisions that were taken, as one comes behind them or the last one goes.
use Rattle.std.proofs.Common.{◌≡◌, ◌-◌, List, [], ◌∷◌, ◌++◌, length, take, sym, subst, append_assoc}
use Rattle.std.proofs.lemmas.List.{map-append, append-nil}
use Rattle.ttp_model.specs.Instance.{Instance}
use Rattle.used_decisions.specs.declared.turn.Turn.{Turn}
use Rattle.used_decisions.specs.declared.path.Taken.{Taken}
use Rattle.used_decisions.specs.declared.tables.Tables.{Tables}
use Rattle.used_decisions.specs.declared.tables.Stood.{Stood}
use Rattle.used_decisions.specs.Tables.{AreTables, IsStood, AreStood, Tells, turns_of, IsPath}
use Rattle.used_decisions.specs.Turns.{Path}
use Rattle.used_decisions.proofs.Told.{without_last}

pub turns_more : (taken : List Taken) (one : Taken) → turns_of (taken ++ one ∷ []) ≡ turns_of taken ++ one.turn ∷ []
turns_more taken one = map-append (λ (t : Taken). t.turn) taken (one ∷ [])

-- one more
stood_more : (i : Instance) (front : List Turn) (taken : List Taken) (one : Taken) → AreStood i front taken → IsStood i (front ++ turns_of taken) one.turn.decision one.stood → AreStood i front (taken ++ one ∷ [])
stood_more i front [] one are is = (subst (λ (xs : List Turn). IsStood i xs one.turn.decision one.stood) (append-nil front) is, tt)
stood_more i front (first ∷ taken) one are is =
    (are.0, stood_more i (front ++ first.turn ∷ []) taken one are.1 (subst (λ (xs : List Turn). IsStood i xs one.turn.decision one.stood) (sym (append_assoc front (first.turn ∷ []) (turns_of taken))) is))

-- the last one, and those in front of it
stood_last : (i : Instance) (front : List Turn) (taken : List Taken) (one : Taken) → AreStood i front (taken ++ one ∷ []) → AreStood i front taken × IsStood i (front ++ turns_of taken) one.turn.decision one.stood
stood_last i front [] one are = (tt, subst (λ (xs : List Turn). IsStood i xs one.turn.decision one.stood) (sym (append-nil front)) are.0)
stood_last i front (first ∷ taken) one are =
    let rest = stood_last i (front ++ first.turn ∷ []) taken one are.1 in
    ((are.0, rest.0), subst (λ (xs : List Turn). IsStood i xs one.turn.decision one.stood) (append_assoc front (first.turn ∷ []) (turns_of taken)) rest.1)

-- a path with one decision more that is told
pub path_more : (i : Instance) (old new : Tables) (taken : List Taken) (turn : Turn) (stood : Stood) → IsPath i old taken → Tells i (turns_of taken) turn new stood → IsPath i new (taken ++ record { turn = turn; stood = stood } ∷ [])
path_more i old new taken turn stood is tells =
    let one : Taken = record { turn = turn; stood = stood } in record {
      tables = subst (λ (xs : List Turn). AreTables i xs new) (sym (turns_more taken one)) tells.tables;
      stood = stood_more i [] taken one is.stood tells.stood_so;
    }

-- the last decision of a path is told behind those in front of it
pub path_last : (i : Instance) (t : Tables) (taken : List Taken) (one : Taken) → IsPath i t (taken ++ one ∷ []) → Tells i (turns_of taken) one.turn t one.stood
path_last i t taken one is = record {
  tables = subst (λ (xs : List Turn). AreTables i xs t) (turns_more taken one) is.tables;
  stood_so = (stood_last i [] taken one is.stood).1;
}

pub path_less : (i : Instance) (old new : Tables) (taken : List Taken) (one : Taken) → IsPath i old (taken ++ one ∷ []) → AreTables i (turns_of taken) new → IsPath i new taken
path_less i old new taken one is are = record { tables = are; stood = (stood_last i [] taken one is.stood).0 }

pub turns_less : (taken : List Taken) (one : Taken) → turns_of taken ≡ take (length (turns_of (taken ++ one ∷ [])) - 1) (turns_of (taken ++ one ∷ []))
turns_less taken one = rw (turns_more taken one) (sym (without_last (turns_of taken) one.turn))

abbrev pub path_of : Instance → List Turn → Path
path_of i turns = record { instance = i; turns = turns }
