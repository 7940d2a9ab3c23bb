use Rattle.std.proofs.Common.{subst, sym, refl, ◌∙◌, ap}
use Rattle.hold_netlist.specs.Pins.{pins_of}
use Rattle.hold_roles.specs.TypePins.{is_output_pin}
use Rattle.hold_build.specs.Arcs.{IsArc}
use Rattle.hold_build.specs.declared.sort.Sort.TheVariants.{Clock, Data, Output}
use Rattle.hold_build.specs.Listing.{ListsEach}
use Rattle.hold_build.specs.NetlistGraph.{IsKept}
use Rattle.hold_build.specs.Pins.{is_clock_pin, is_data_pin}
use Rattle.hold_build.proofs.ArcLemmas.{few-arcs}
use Rattle.hold_build.proofs.SortLemmas.{register_pins-each}
use Rattle.hold_build.proofs.lists.listed.Goals as goal

pub returns-clause-made : goal.returns-clause-made
returns-clause-made c = record {
  pins = c.pin_count.ensures ∙ ap pins_of c.netlist.ensures;
  arcs = subst (ListsEach (IsArc c.args.bound.now)) (sym c.from_vec.ensures) c.in_ok-arcs.ensures.each;
  launches = register_pins-each c.args.bound.now Output is_output_pin (λ t pin. refl) c.from_vec-2.result (c.from_vec-2.ensures ∙ c.in_ok-launches.ensures);
  captures = register_pins-each c.args.bound.now Data is_data_pin (λ t pin. refl) c.from_vec-3.result (c.from_vec-3.ensures ∙ c.in_ok-captures.ensures);
  clocks = register_pins-each c.args.bound.now Clock is_clock_pin (λ t pin. refl) c.from_vec-4.result (c.from_vec-4.ensures ∙ c.in_ok-clocks.ensures);
  keeps = subst (ListsEach (IsKept c.args.bound.now c.args.job.now)) (sym c.from_vec-5.ensures) c.in_ok-keeps.ensures.each;
}

pub returns-clause-sound : goal.returns-clause-sound
returns-clause-sound c = record {
  known = c.in_ok-keeps.ensures.known;
  few = few-arcs c.args.bound.now c.in_ok-arcs.arcs.items c.in_ok-arcs.ensures.each c.in_ok-arcs.ensures.few;
}
