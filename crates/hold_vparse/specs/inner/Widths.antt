-- bounds_width r: how many bits a range has.
-- seen_width nets w, seen_widths nets w: the width that is meant, where these are the ranges of the nets, and the same
--   where there is one.
use Rattle.std.specs.Prelude.{ℕ, List, Option, Some, None}
use Rattle.hold_netlist.specs.Bits.{width_of_range}
use Rattle.hold_vsyntax.specs.declared.tree.Range.{Range}
use Rattle.hold_vparse.specs.declared.selection.Width.{Width}
use Rattle.hold_vparse.specs.declared.selection.Width.TheVariants.{One, Part, Net}
use Rattle.hold_vparse.specs.Lines.{range_bounds}
use Rattle.hold_vparse.specs.inner.Ranges.{line_range}

abbrev pub bounds_width : Range → ℕ
bounds_width r = width_of_range (Some (range_bounds r))

abbrev pub seen_width : List (Option (ℕ × ℕ)) → Width → ℕ
seen_width nets One = 1
seen_width nets (Part r) = bounds_width r.now
seen_width nets (Net n) = width_of_range (line_range nets n)

abbrev pub seen_widths : List (Option (ℕ × ℕ)) → Option Width → Option ℕ
seen_widths nets None = None
seen_widths nets (Some w) = Some (seen_width nets w)
