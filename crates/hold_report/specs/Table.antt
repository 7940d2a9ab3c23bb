-- The table of a report: how much time is left, or missing, at each check of each corner, without any buffer.
--
-- corner_width, side_width, slack_width: the columns of a row, 16, 5 and 12 places wide.
-- side_text side: `early` or `late`.
-- slack_text end: the slack of an end in fs, in decimal, with a minus sign below 0; `none` where no path is checked.
-- capture_text d end: how the capture is said (`pin_text` of the netlist); `-` where no path is checked.
-- row_text d corner side end: a row, with its newline: the corner's name, the side, the slack and the capture, a space between two.
-- WorstEnds: the worst ends of a corner's checked paths, early and late; none where no path is checked.
-- rows_text d corner ends: the early row of a corner, and then its late row.
-- table_text d corners ends: the rows of each corner, in order. A corner without ends, or ends without a corner, has none.
-- AreWorstEnds problem spans ends: without any buffer these are the worst ends of a corner's checked paths, early and late.
-- IsTable d corners problem text: the text is the rows of these corners, each with the worst ends of the problem's corner at the
--   same place. There is at most one such text.
use Rattle.std.specs.Prelude.{◌≡◌, ℕ, List, ◌++◌, zip, flat_map, codes, Option, Some, None}
use Rattle.std.specs.Fmt.{signed_decimal}
use Rattle.std.specs.List.{AllZip}
use Rattle.hold_base.specs.declared.time.Side.{Side}
use Rattle.hold_base.specs.declared.time.Side.TheVariants.{Early, Late}
use Rattle.hold_graph.specs.Sums.{no_buffers}
use Rattle.hold_graph.specs.declared.problem.Problem.{Problem}
use Rattle.hold_graph.specs.declared.problem.Spans.{Spans}
use Rattle.hold_job.specs.declared.corner.Corner.{Corner}
use Rattle.hold_netlist.specs.Design.{Design}
use Rattle.hold_netlist.specs.PinText.{pin_text}
use Rattle.hold_timing.specs.Ends.{IsWorstEnd}
use Rattle.hold_timing.specs.declared.end.End.{End}
use Rattle.hold_report.specs.Columns.{at_left, at_right}

abbrev pub corner_width : ℕ
corner_width = 16

abbrev pub side_width : ℕ
side_width = 5

abbrev pub slack_width : ℕ
slack_width = 12

abbrev pub side_text : Side → List ℕ
side_text Early = codes "early"
side_text Late = codes "late"

abbrev pub slack_text : Option End → List ℕ
slack_text None = codes "none"
slack_text (Some end) = signed_decimal end.slack

abbrev pub capture_text : Design → Option End → List ℕ
capture_text d None = codes "-"
capture_text d (Some end) = pin_text d end.capture.0

abbrev pub row_text : Design → List ℕ → Side → Option End → List ℕ
row_text d corner side end =
    at_left corner_width corner ++ codes " " ++ at_left side_width (side_text side) ++ codes " " ++ at_right slack_width (slack_text end) ++ codes " "
    ++ capture_text d end ++ codes "\n"

pub record WorstEnds : Type 0 where
  pub early : Option End
  pub late : Option End

abbrev pub rows_text : Design → List ℕ → WorstEnds → List ℕ
rows_text d corner ends = row_text d corner Early ends.early ++ row_text d corner Late ends.late

abbrev pub table_text : Design → List Corner → List WorstEnds → List ℕ
table_text d corners ends = flat_map (λ row. rows_text d row.0.name row.1) (zip corners ends)

pub record AreWorstEnds (problem : Problem) (spans : Spans) (ends : WorstEnds) : Type 0 where
  pub early : IsWorstEnd Early problem spans no_buffers ends.early
  pub late : IsWorstEnd Late problem spans no_buffers ends.late

pub record IsTable (d : Design) (corners : List Corner) (problem : Problem) (text : List ℕ) : Type 0 where
  pub ends : List WorstEnds
  pub worst : AllZip (AreWorstEnds problem) problem.corners ends
  pub rows : text ≡ table_text d corners ends
