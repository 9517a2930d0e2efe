-- Of a node `same` is told just where it is found in both, and loaded alike.
use Rattle.std.proofs.Common.{◌≡◌, ℕ, ◌↔◌, Bool, true, false, List, Option, None, Some, refl}
use Rattle.std.specs.Prelude.{if◌then◌else◌}
use Rattle.std.proofs.lemmas.Bool.{and_parts}
use Rattle.std.proofs.lemmas.Slice.Eq.{bytes_eq-Decides}
use Rattle.ttp_model.specs.declared.error.Part.TheVariants.{Nodes}
use Rattle.ttp_model.specs.Names.{names_in}
use Rattle.plan_changes.specs.declared.fate.Fate.TheVariants.{Changed, Same}
use Rattle.plan_changes.specs.Planned.{Planned}
use Rattle.plan_changes.specs.Names.{place_in}
use Rattle.plan_changes.specs.Dispatch.{dispatch_lines}
use Rattle.plan_changes.specs.Units.{IsLoadedAlike, are_loaded_alike, fate_at, fate_of, table_lines, window_lines}

if_same : (test : Bool) → (if test then Same else Changed) ≡ Same → test ≡ true
if_same true is = refl
if_same false is = absurd cc

module _ (old new : Planned) (name : List ℕ) where
  alike : (before after : Option ℕ) → place_in (names_in old.instance Nodes) name ≡ before → place_in (names_in new.instance Nodes) name ≡ after
      → fate_at old new before after ≡ Same → IsLoadedAlike old new name
  alike None after first second same = absurd cc
  alike (Some k) None first second same = absurd cc
  alike (Some k) (Some n) first second same =
      let all = and_parts _ _ (if_same (are_loaded_alike old k new n) same) in
      let both = and_parts _ _ all.0 in
      record {
        k = k;
        before = first;
        n = n;
        after = second;
        tables = (bytes_eq-Decides (table_lines old k) (table_lines new n)).0 both.0;
        windows = (bytes_eq-Decides (window_lines old k) (window_lines new n)).0 both.1;
        dispatches = (bytes_eq-Decides (dispatch_lines old k) (dispatch_lines new n)).0 all.1;
      }

  same : IsLoadedAlike old new name → fate_of old new name ≡ Same
  unfolding fate_of
  same w =
      let tables = (bytes_eq-Decides (table_lines old w.k) (table_lines new w.n)).1 w.tables in
      let windows = (bytes_eq-Decides (window_lines old w.k) (window_lines new w.n)).1 w.windows in
      let dispatches = (bytes_eq-Decides (dispatch_lines old w.k) (dispatch_lines new w.n)).1 w.dispatches in
      rw (w.before, w.after, tables, windows, dispatches) refl

  pub same-loaded_alike : fate_of old new name ≡ Same ↔ IsLoadedAlike old new name
  unfolding fate_of
  same-loaded_alike = (alike _ _ refl refl, same)
