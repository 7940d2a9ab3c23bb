-- The line that says which path needs padding.
--
-- side_text side: `early` or `late`.
-- step_text d pin: a space, and how the pin is said (`pin_text` of the netlist).
-- path_text d pins: each of these pins, a space before it.
-- padding_line job d path short: the line: by how much the check is missed, in fs, then its side, the corner's name and the path's pins.
use Rattle.std.specs.Prelude.{ℕ, ℤ, List, ◌++◌, flat_map, codes}
use Rattle.std.specs.Fmt.{signed_decimal}
use Rattle.hold_base.specs.declared.number.PinNo.{PinNo}
use Rattle.hold_base.specs.declared.time.Side.{Side}
use Rattle.hold_base.specs.declared.time.Side.TheVariants.{Early, Late}
use Rattle.hold_graph.specs.declared.problem.Listed.{Listed}
use Rattle.hold_netlist.specs.Design.{Design}
use Rattle.hold_netlist.specs.PinText.{pin_text}
use Rattle.hold_cli.specs.declared.job_form.Job.{Job}

abbrev pub side_text : Side → List ℕ
side_text Early = codes "early"
side_text Late = codes "late"

abbrev pub step_text : Design → PinNo → List ℕ
step_text d pin = codes " " ++ pin_text d pin.0

abbrev pub path_text : Design → List PinNo → List ℕ
path_text d pins = flat_map (step_text d) pins

abbrev pub padding_line : Job → Design → Listed → ℤ → List ℕ
padding_line job d path short =
    codes "needs padding " ++ signed_decimal short ++ codes " " ++ side_text path.side ++ codes " " ++ job.corner ++ path_text d path.pins ++ codes "\n"
