use Rattle.std.proofs.Common.{sym, ap, ◌∙◌}
use Rattle.hold_sdflex.specs.Items.{items_in, behind}
use Rattle.hold_sdflex.specs.ItemsRead.{group_read}
use Rattle.hold_sdf.specs.Shapes.{delay_numbers, numbers_of}
use Rattle.hold_sdf.specs.inner.Hulls.{hulled}
use Rattle.hold_sdf.proofs.HullLemmas.{hulled_ok, numbers_of-more}
use Rattle.hold_sdf.proofs.span.span_of_delays.Goals as goal

pub loop-delay-preserved : goal.loop-delay-preserved
loop-delay-preserved c =
    let power = c.args.scale.exponent in
    let items = items_in c.loop-delay.rest in
    let g = group_read c.in-Some.delay in
    let more = numbers_of-more items g c.in-Some.ensures.group in
    ap (λ left. hulled power c.in_ok-span.span (numbers_of left)) c.in-Some.ensures.rest
    ∙ sym (hulled_ok power c.loop-delay.span c.in_ok-span.span (delay_numbers (items_in g.inner)) (numbers_of (behind items)) c.in_ok-span.ensures)
    ∙ ap (hulled power c.loop-delay.span) (sym more) ∙ c.loop-delay.invariant
