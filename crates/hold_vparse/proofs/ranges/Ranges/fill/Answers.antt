use Rattle.std.proofs.Common.{◌≡◌, ◌≤◌, ◌-◌, ◌++◌, ◌∙◌, ap, length, replicate, take, vec_len, arith, sym}
use Rattle.std.specs.Prelude.{None}
use Rattle.std.proofs.lemmas.List.{take_all, length-map}
use Rattle.hold_vparse.specs.inner.Index.{at_place}
use Rattle.hold_vparse.proofs.RangeLemmas.{nets_put, filled}
use Rattle.hold_vparse.proofs.ranges.Ranges.fill.Goals as goal

pub returns : goal.returns
returns c =
    let s = c.self.inside in
    let ranges = ap (λ l. l.nets) c.self.view_is in
    let len : vec_len s.nets ≡ length s.nets.items = omega (arith, s.nets.ok.0) in
    let some : length s.nets.items ≤ c.args.count = omega (arith, c.requires, sym (length-map s.nets.items (at_place s.table)) ∙ ap length ranges) in
    nets_put s.table s.ports.items s.wires.items s.nets.items c.resize.new.self.items (replicate (c.args.count - length s.nets.items) None) c.args.self.now
    (replicate (c.args.count - length c.args.self.now.nets) None) c.self.view_is
    (c.in_ok-resize.ensures.items ∙ ap (λ n. take c.args.count s.nets.items ++ replicate (c.args.count - n) None) len ∙ ap (λ l. l ++ replicate (c.args.count - length s.nets.items) None) (take_all c.args.count s.nets.items some))
    (filled s.table s.nets.items c.args.self.now.nets c.args.count ranges)
