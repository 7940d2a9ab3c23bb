use Rattle.std.proofs.Common.{◌≡◌, ◌<◌, List, length, get_or, subst, sym, ap, ◌∙◌, arith}
use Rattle.std.proofs.lemmas.List.{get_or_default, length-set}
use Rattle.hold_netlist.specs.Bits.{bits_of}
use Rattle.hold_insert.specs.declared.puts.Put.{Put}
use Rattle.hold_insert.proofs.GrownLemmas.{next-made}
use Rattle.hold_insert.proofs.StepLemmas.{bits-push}
use Rattle.hold_insert.proofs.grown.Grown.put_all.Goals as goal

pub put-requires : goal.put-requires
put-requires c =
    let here : get_or c.args.puts.now c.loop-place.place c.index-puts-place.result ≡ c.index-puts-place.result = get_or_default _ _ _ _ c.loop-place-test.true ∙ sym c.index-puts-place.is in
    let within = subst (λ (p : Put). p.pin.0 < length c.args.self.now.sources.items) here (c.requires.pins c.loop-place.place c.index-puts-place.result c.loop-place-test.true) in
    omega (arith, within, c.loop-place.invariant.sources)

pub loop-place-preserved : goal.loop-place-preserved
loop-place-preserved c =
    let here : get_or c.args.puts.now c.loop-place.place c.index-puts-place.result ≡ c.index-puts-place.result = get_or_default _ _ _ _ c.loop-place-test.true ∙ sym c.index-puts-place.is in
    let within = subst (λ (p : Put). p.pin.0 < length c.args.self.now.sources.items) here (c.requires.pins c.loop-place.place c.index-puts-place.result c.loop-place-test.true) in
    record {
      whole = λ d e.
          next-made d _ _ _ _ _ _ c.args.number c.loop-place.place c.args.puts.now c.index-puts-place.result _ (e ∙ sym c.loop-place.invariant.sources) c.loop-place-test.true here
          (omega (arith, within, c.loop-place.invariant.sources)) (sym c.loop-place.invariant.bits) c.in_ok-put.ensures.wires c.in_ok-put.ensures.sources c.in_ok-put.ensures.buffers
          ∙ c.loop-place.invariant.whole d e;
      sources = ap (λ (l : List _). length l) c.in_ok-put.ensures.sources ∙ length-set _ _ _ ∙ c.loop-place.invariant.sources;
      bits = ap bits_of c.in_ok-put.ensures.wires ∙ bits-push c.loop-place.self.wires.items c.args.number c.loop-place.place ∙ omega (arith, c.loop-place.invariant.bits);
    }
