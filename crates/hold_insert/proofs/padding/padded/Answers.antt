use Rattle.std.proofs.Common.{◌≡◌, ◌<◌, List, length, subst, sym, ap, ◌∙◌, arith}
use Rattle.std.specs.Prelude.{All}
use Rattle.hold_graph.specs.Sites.{buffers_of}
use Rattle.hold_netlist.specs.declared.inst.Source.{Source}
use Rattle.hold_netlist.specs.Bits.{bits_of}
use Rattle.hold_netlist.specs.Pins.{connection_count}
use Rattle.hold_netlist.specs.Valid.{IsValid}
use Rattle.hold_insert.specs.declared.puts.Put.{Put}
use Rattle.hold_insert.specs.Chains.{insertions}
use Rattle.hold_insert.specs.inner.Sources.{sources_of}
use Rattle.hold_insert.proofs.PadLemmas.{all-few, all-padding, all-Same, all-valid, all-within, bits-few, made-design, ok-then, start-design}
use Rattle.hold_insert.proofs.SourceLemmas.{length-sources}
use Rattle.hold_insert.proofs.padding.padded.Goals as goal

pub put_all-requires-clause-pins : goal.put_all-requires-clause-pins
put_all-requires-clause-pins c =
    let many : length c.in_ok-sources_of.field-0.items ≡ connection_count c.netlist-netlist.result.now.insts =
    ap (λ (l : List Source). length l) c.in_ok-sources_of.ensures ∙ ap (λ l. length (sources_of l)) c.insts.ensures ∙ length-sources c.netlist-netlist.result.now.insts in
    subst (λ l. All (λ (put : Put). put.pin.0 < length c.in_ok-sources_of.field-0.items) l) (sym c.as_slice-2.ensures.value)
    (subst (λ n. All (λ (put : Put). put.pin.0 < n) c.in_ok-puts.puts.items) (ap (λ d. connection_count d.insts) (sym c.netlist-netlist.ensures) ∙ sym many)
    (all-within c.args.bound.now c.args.graph.now c.requires.graph c.know_order.ensures (subst IsValid c.netlist-netlist.ensures c.know_valid.ensures) c.know_sound.ensures
    c.args.kinds.now c.requires.kinds c.args.counts.now c.requires.counts c.sites.result.now c.sites.ensures c.in_ok-puts.puts.items
    (c.in_ok-puts.ensures ∙ ap (λ l. insertions c.args.kinds.now c.sites.result.now (buffers_of (length c.args.kinds.now) c.sites.result.now l)) c.as_slice.ensures.same)))

pub put_all-requires-clause-few : goal.put_all-requires-clause-few
put_all-requires-clause-few c =
    omega (
      arith,
      c.bit_count-bits.ensures,
      ap bits_of c.wires-2.ensures,
      bits-few c.netlist-netlist.result.now c.know_valid.ensures,
      ap (λ (l : List Put). length l) c.as_slice-2.ensures.value,
      all-few c.args.bound.now c.args.graph.now c.requires.graph c.know_order.ensures (subst IsValid c.netlist-netlist.ensures c.know_valid.ensures) c.know_sound.ensures
          c.args.kinds.now c.requires.kinds c.args.counts.now c.requires.counts c.sites.result.now c.sites.ensures c.in_ok-puts.puts.items
          (c.in_ok-puts.ensures ∙ ap (λ l. insertions c.args.kinds.now c.sites.result.now (buffers_of (length c.args.kinds.now) c.sites.result.now l)) c.as_slice.ensures.same),
    )

pub netlist_of-requires-clause-valid : goal.netlist_of-requires-clause-valid
netlist_of-requires-clause-valid c =
    let many : length c.in_ok-sources_of.field-0.items ≡ connection_count c.netlist-netlist.result.now.insts =
    ap (λ (l : List Source). length l) c.in_ok-sources_of.ensures ∙ ap (λ l. length (sources_of l)) c.insts.ensures ∙ length-sources c.netlist-netlist.result.now.insts in
    all-valid c.args.bound.now c.args.graph.now c.requires.graph c.know_order.ensures (subst IsValid c.netlist-netlist.ensures c.know_valid.ensures) c.know_sound.ensures
    c.args.kinds.now c.requires.kinds c.args.counts.now c.requires.counts c.sites.result.now c.sites.ensures c.in_ok-puts.puts.items
    (c.in_ok-puts.ensures ∙ ap (λ l. insertions c.args.kinds.now c.sites.result.now (buffers_of (length c.args.kinds.now) c.sites.result.now l)) c.as_slice.ensures.same)
    c.args.number (omega (arith, c.ranges.number.fits)) c.requires.fresh _
    (made-design c.args.number c.as_slice-2.result.now c.in_ok-puts.puts.items _ c.args.bound.now.netlist _ (c.in_ok-put_all.ensures.made c.netlist-netlist.result.now (sym many)) c.as_slice-2.ensures.value
    (start-design c.netlist-netlist.result.now c.args.bound.now.netlist _ c.wires.result.now _ c.insts.result.now _ c.netlist-netlist.ensures c.in_ok-copy_wires.ensures c.wires.ensures c.in_ok-sources_of.ensures c.insts.ensures c.new.ensures.items))

pub netlist_of-requires-clause-each : goal.netlist_of-requires-clause-each
netlist_of-requires-clause-each c =
    let many : length c.in_ok-sources_of.field-0.items ≡ connection_count c.netlist-netlist.result.now.insts =
    ap (λ (l : List Source). length l) c.in_ok-sources_of.ensures ∙ ap (λ l. length (sources_of l)) c.insts.ensures ∙ length-sources c.netlist-netlist.result.now.insts in
    omega (arith, many, c.in_ok-put_all.ensures.sources)

pub returns-clause-padded : goal.returns-clause-padded
returns-clause-padded c =
    let many : length c.in_ok-sources_of.field-0.items ≡ connection_count c.netlist-netlist.result.now.insts =
    ap (λ (l : List Source). length l) c.in_ok-sources_of.ensures ∙ ap (λ l. length (sources_of l)) c.insts.ensures ∙ length-sources c.netlist-netlist.result.now.insts in
    ok-then _ _ (λ w is. all-padding c.args.bound.now c.args.graph.now c.requires.graph c.know_order.ensures (subst IsValid c.netlist-netlist.ensures c.know_valid.ensures) c.know_sound.ensures
    c.args.kinds.now c.requires.kinds c.args.counts.now c.requires.counts c.sites.result.now c.sites.ensures c.in_ok-puts.puts.items
    (c.in_ok-puts.ensures ∙ ap (λ l. insertions c.args.kinds.now c.sites.result.now (buffers_of (length c.args.kinds.now) c.sites.result.now l)) c.as_slice.ensures.same)
    c.args.number (omega (arith, c.ranges.number.fits)) c.requires.fresh w
    (is ∙ made-design c.args.number c.as_slice-2.result.now c.in_ok-puts.puts.items _ c.args.bound.now.netlist _ (c.in_ok-put_all.ensures.made c.netlist-netlist.result.now (sym many)) c.as_slice-2.ensures.value
    (start-design c.netlist-netlist.result.now c.args.bound.now.netlist _ c.wires.result.now _ c.insts.result.now _ c.netlist-netlist.ensures c.in_ok-copy_wires.ensures c.wires.ensures c.in_ok-sources_of.ensures c.insts.ensures c.new.ensures.items))) c.netlist_of.result c.netlist_of.ensures

pub returns-clause-same : goal.returns-clause-same
returns-clause-same c =
    let many : length c.in_ok-sources_of.field-0.items ≡ connection_count c.netlist-netlist.result.now.insts =
    ap (λ (l : List Source). length l) c.in_ok-sources_of.ensures ∙ ap (λ l. length (sources_of l)) c.insts.ensures ∙ length-sources c.netlist-netlist.result.now.insts in
    ok-then _ _ (λ w is. all-Same c.args.bound.now c.args.graph.now c.requires.graph c.know_order.ensures (subst IsValid c.netlist-netlist.ensures c.know_valid.ensures) c.know_sound.ensures
    c.args.kinds.now c.requires.kinds c.args.counts.now c.requires.counts c.sites.result.now c.sites.ensures c.in_ok-puts.puts.items
    (c.in_ok-puts.ensures ∙ ap (λ l. insertions c.args.kinds.now c.sites.result.now (buffers_of (length c.args.kinds.now) c.sites.result.now l)) c.as_slice.ensures.same)
    c.args.number (omega (arith, c.ranges.number.fits)) c.requires.fresh w
    (is ∙ made-design c.args.number c.as_slice-2.result.now c.in_ok-puts.puts.items _ c.args.bound.now.netlist _ (c.in_ok-put_all.ensures.made c.netlist-netlist.result.now (sym many)) c.as_slice-2.ensures.value
    (start-design c.netlist-netlist.result.now c.args.bound.now.netlist _ c.wires.result.now _ c.insts.result.now _ c.netlist-netlist.ensures c.in_ok-copy_wires.ensures c.wires.ensures c.in_ok-sources_of.ensures c.insts.ensures c.new.ensures.items))) c.netlist_of.result c.netlist_of.ensures
