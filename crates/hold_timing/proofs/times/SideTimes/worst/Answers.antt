use Rattle.std.proofs.Common.{◌≡◌, ◌∙◌, ap, sym, subst, length, get_or}
use Rattle.std.specs.Prelude.{List, Option, None, ℤ}
use Rattle.hold_graph.specs.Sites.{buffers_of}
use Rattle.hold_timing.specs.Arrivals.{Times}
use Rattle.hold_timing.specs.Worst.{IsArrival}
use Rattle.hold_timing.specs.inner.Pass.{sum_limit, AreWithin}
use Rattle.hold_timing.proofs.times.SideTimes.worst.Goals as goal

pub worst_end-requires-clause-len : goal.worst_end-requires-clause-len
worst_end-requires-clause-len c =
    ap (λ (xs : List (Option ℤ)). length xs) (c.as_slice.ensures.value ∙ ap (λ (t : Times). t.arrivals) c.self.view_is)
    ∙ (c.requires.right c.sites-sites.result.now c.sites-sites.ensures).each

pub worst_end-requires-clause-within : goal.worst_end-requires-clause-within
worst_end-requires-clause-within c = subst (AreWithin sum_limit) (sym c.as_slice.ensures.value) c.self.invariant.0

pub worst_end-requires-clause-asked : goal.worst_end-requires-clause-asked
worst_end-requires-clause-asked c =
    c.as_slice-2.ensures.value ∙ ap (λ (t : Times). t.required) c.self.view_is ∙ (c.requires.right c.sites-sites.result.now c.sites-sites.ensures).asked

pub returns : goal.returns
returns c = λ sites are. c.worst_end.ensures sites are (λ pin below.
    subst (λ (xs : List (Option ℤ)). IsArrival c.args.side c.args.problem.now c.args.spans.now (buffers_of (length c.args.problem.now.costs) sites c.args.counts.now) pin (get_or xs pin.0 None))
    (sym (c.as_slice.ensures.value ∙ ap (λ (t : Times). t.arrivals) c.self.view_is)) ((c.requires.right sites are).right pin below))
