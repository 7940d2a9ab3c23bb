use Rattle.std.proofs.Common.{◌≡◌, ◌∷◌, [], subst, sym, ◌∙◌}
use Rattle.std.specs.Prelude.{OnOk}
use Rattle.hold_vparse.specs.inner.Ranges.{with_nets}
use Rattle.hold_vparse.proofs.NetRangeLemmas.{plain_range-some, plain_range-none}
use Rattle.hold_vparse.proofs.net_ranges.add_plain_net.Goals as goal

pub returns-in-Some : goal.returns-in-Some
returns-in-Some c =
    subst (λ r. OnOk c.add_port.result (c.add_port.new.self ≡ with_nets c.args.ranges.now (r ∷ [])))
    (plain_range-some c.args.ranges.now.ports c.args.lines.now c.args.name.now c.in-Some.line c.requires (sym c.place.ensures ∙ c.in-Some.is)) c.add_port.ensures

pub returns-in-None : goal.returns-in-None
returns-in-None c =
    subst (λ r. OnOk c.add_scalar.result (c.add_scalar.new.self ≡ with_nets c.args.ranges.now (r ∷ [])))
    (plain_range-none c.args.lines.now c.args.name.now (sym c.place.ensures ∙ c.in-None.is)) c.add_scalar.ensures
