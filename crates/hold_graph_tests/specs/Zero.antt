-- zero_spans parts kinds: the spans of a corner in which everything takes no time, with so many kinds.
use Rattle.std.specs.Prelude.{ℕ, length, replicate, pos}
use Rattle.hold_base.specs.declared.time.Interval.{Interval}
use Rattle.hold_graph.specs.declared.graph.Parts.{Parts}
use Rattle.hold_graph.specs.declared.problem.Spans.{Spans}

abbrev pub zero_span : Interval
zero_span = record { least = pos 0; greatest = pos 0 }

abbrev pub zero_spans : Parts → ℕ → Spans
zero_spans parts kinds = record {
  arcs = replicate (length parts.arcs) zero_span;
  launch = replicate (length parts.launches) zero_span;
  capture = replicate (length parts.captures) zero_span;
  setup = replicate (length parts.captures) (pos 0);
  hold = replicate (length parts.captures) (pos 0);
  kinds = replicate kinds zero_span;
}
