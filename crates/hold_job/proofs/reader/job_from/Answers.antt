use Rattle.std.proofs.Common.{ap, ◌∙◌}
use Rattle.hold_roles.specs.Types.{first_double}
use Rattle.hold_job.proofs.Once.{cells_differ}
use Rattle.hold_job.proofs.reader.job_from.Goals as goal

pub library_of-requires : goal.library_of-requires
library_of-requires c = ap first_double c.in_ok-cells.ensures.cells ∙ cells_differ _ _ _ c.requires
