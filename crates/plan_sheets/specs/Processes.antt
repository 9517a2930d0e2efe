-- How processes are drawn. Own profile.
use Rattle.std.specs.Prelude.{ℕ, List, ◌++◌, codes, decimal, length}
use Rattle.std.specs.List.{flat_map, range_with_len}
use Rattle.ttp_model.specs.declared.parts.Process.{Process}
use Rattle.ttp_model.specs.declared.plan.Plan.{Plan}
use Rattle.ttp_model.specs.Instance.{Instance, node_at, node_of, process_at}
use Rattle.ttp_model.specs.Plans.{start_of}
use Rattle.plan_facts.specs.Ends.{must_end_by}
use Rattle.plan_sheets.specs.declared.pictures.canvas.Canvas.{Canvas}
use Rattle.plan_sheets.specs.declared.pictures.rectangle.Rectangle.{Rectangle}
use Rattle.plan_sheets.specs.Canvas.{row_of}
use Rattle.plan_sheets.specs.Rectangles.{opened_text}

-- the rectangle of a process: in its node's row, at its start, as long as it runs
abbrev pub process_rectangle : Instance → Plan → ℕ → Rectangle
process_rectangle i plan p = record {
  row = row_of i (node_of i p);
  node = node_of i p;
  start = start_of plan p;
  length = (process_at i p).wcet;
}

-- a process in words, with the name of its node
unfoldable pub process_words : List ℕ → Process → ℕ → ℕ → List ℕ
process_words node p start due =
    p.name ++ (codes " on " ++ (node ++ (codes ": from " ++ (decimal start ++ (codes " for " ++ (decimal p.wcet ++ (codes ", released at " ++ (decimal p.release ++ (codes ", due by " ++ decimal due)))))))))

-- the title of a process
unfoldable pub process_title_text : Instance → Plan → ℕ → List ℕ
process_title_text i plan p =
    codes "<g><title>" ++ (process_words (node_at i (node_of i p)).name (process_at i p) (start_of plan p) (must_end_by i p)
    ++ codes "</title>")

-- its name in its rectangle, and a line where it starts
unfoldable pub process_name_text : List ℕ → List ℕ
process_name_text name = name ++ codes "</text><rect width=\"1\" height=\"24\"/></svg></svg></g>\n"

-- a process, with its name in it
unfoldable pub process_text : Canvas → Instance → Plan → ℕ → List ℕ
process_text c i plan p =
    process_title_text i plan p ++ (opened_text c (process_rectangle i plan p) ++ process_name_text (process_at i p).name)

-- all processes
unfoldable pub processes_text : Canvas → Instance → Plan → List ℕ
processes_text c i plan = flat_map (process_text c i plan) (range_with_len 0 (length i.processes))
