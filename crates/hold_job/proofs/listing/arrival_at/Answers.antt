use Rattle.std.proofs.Common.{List, length, codes, ap, subst, ◌∙◌}
use Rattle.toml.specs.View.{table_view}
use Rattle.hold_base.specs.Answers.{Answers}
use Rattle.hold_job.specs.declared.corner.Corner.{Corner}
use Rattle.hold_job.specs.declared.list.EveryWithin.{EveryWithin}
use Rattle.hold_job.specs.declared.number.Span.{Span}
use Rattle.hold_job.specs.Keys.{if_any}
use Rattle.hold_job.specs.Lists.{every_within}
use Rattle.hold_job.specs.Numbers.{earliest, span}
use Rattle.hold_job.proofs.listing.arrival_at.Goals as goal

pub returns : goal.returns
returns c =
    let same = c.spans-form.ensures ∙ ap (λ (cs : List Corner). record { least = length cs; most = length cs; form = record { least = earliest } }) c.as_slice.ensures in
    subst (λ (f : EveryWithin Span). Answers c.if_any.result (if_any (every_within f.least f.most (span f.form.least)) (codes "arrival") (table_view c.args.table.now)))
    same c.if_any.ensures
