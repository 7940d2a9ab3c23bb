-- ends_of arc: the two ends of an arc. same_pair a b: they are the same pair of pins.
use Rattle.std.specs.Prelude.{Bool, ◌&&◌, bytes_eq}
use Rattle.hold_job.specs.declared.cell_times.TypeArc.{TypeArc}
use Rattle.hold_job.specs.declared.ends.Ends.{Ends}

abbrev pub ends_of : TypeArc → Ends
ends_of arc = record { from = arc.from; to = arc.to }

abbrev pub same_pair : Ends → Ends → Bool
same_pair a b = bytes_eq a.from b.from && bytes_eq a.to b.to
