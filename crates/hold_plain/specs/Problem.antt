-- zero_span: the span from 0 to 0. known_or other a: what a holds, else the other.
-- arc_if wire from to: the arc between the pins of these places, as a list; none where the first isn't known.
-- driver_of drives net: the place of the pin that drives the net; none where no net is given, or it has no driver.
-- arcs_into drives feeds place u: the arc that ends at the pin of that place: a wire arc from the driver of the net that the pin reads, at an
--   output of a combinational instance the cell arc from the connected input that leads into the instance. None at an output of a
--   combinational instance without such an input, at an output of a register and at an input port, at a pin that is unknown, and at a
--   pin that reads a constant, nothing, or a net without a driver. arcs_as role drives feeds place u: the same of a pin of that role.
-- arcs_from: these arcs of the pins from one place on, in order. step_span u: what the arc into the pin adds: a cell arc its delay, a wire nothing.
--   step_as role u: the same of a pin of that role.
-- steps_from: what these arcs add, in the same order.
-- is_clock_pin, is_data, is_launch: whether a role is that of a register's clock pin, data pin or output.
-- pins_with is uses: the pins whose role passes the test, in order. pins_from is place uses: the same where the first has that place.
--   uses_with is f uses: what f makes of each of them.
-- sum_of a b: two spans added end by end.
-- clock_span u: when the clock arrives at the pin's register. launch_span u: when an output of a register changes: that arrival and
--   the delay from the clock, end by end. setup_of u, hold_of u: the check of a data pin. Of what isn't known each is 0; so
--   `no_check` has both 0.
-- parts_of uses, spans_of uses: the graph of the pins, and its times in the one corner. problem_of timing d: the timing problem of a
--   netlist; problem_with period uses: the same by its pins. It has no kind of buffer, and no buffer may be put. These mean something
--   of a netlist that is served.
use Rattle.std.specs.Prelude.{ℕ, ◌+◌, List, [], ◌∷◌, ◌++◌, map, length, Option, Some, None, Bool, true, false, if◌then◌else◌, ℤ, pos, ◌+ℤ◌}
use Rattle.hold_base.specs.declared.number.PinNo.{PinNo}
use Rattle.hold_base.specs.declared.time.Interval.{Interval}
use Rattle.hold_netlist.specs.Design.{Design}
use Rattle.hold_graph.specs.declared.graph.Arc.{Arc}
use Rattle.hold_graph.specs.declared.graph.Parts.{Parts}
use Rattle.hold_graph.specs.declared.problem.Spans.{Spans}
use Rattle.hold_graph.specs.declared.problem.Problem.{Problem}
use Rattle.hold_plain.specs.declared.cell.Check.{Check}
use Rattle.hold_plain.specs.declared.timing.Timing.{Timing}
use Rattle.hold_plain.specs.declared.pin_use.PinUse.{PinUse}
use Rattle.hold_plain.specs.declared.pin_use.PinRole.{PinRole}
use Rattle.hold_plain.specs.declared.pin_use.PinRole.TheVariants.{Input, Output, Clock, Data, Launch, InPort, OutPort, Stray}
use Rattle.hold_plain.specs.PinUses.{uses_of}
use Rattle.hold_plain.specs.Keys.{net_of, driven, fed, place_of}

abbrev pub zero_span : Interval
zero_span = record { least = pos 0; greatest = pos 0 }

abbrev pub known_or : {A : Type 0} → A → Option A → A
known_or other None = other
known_or other (Some a) = a

-- an arc between the pins of these places, if the first is known
abbrev pub arc_if : Bool → Option ℕ → ℕ → List Arc
arc_if wire None to = []
arc_if wire (Some from) to = record { from = record { 0 = from }; to = record { 0 = to }; wire = wire } ∷ []

-- the driver of a net, if the net is known and has one
abbrev pub driver_of : List (Option ℕ) → Option ℕ → Option ℕ
driver_of drives None = None
driver_of drives (Some net) = place_of net drives

abbrev pub arcs_as : PinRole → List (Option ℕ) → List (Option ℕ) → ℕ → PinUse → List Arc
arcs_as Input drives feeds place u = arc_if true (driver_of drives (net_of u.source)) place
arcs_as Clock drives feeds place u = arc_if true (driver_of drives (net_of u.source)) place
arcs_as Data drives feeds place u = arc_if true (driver_of drives (net_of u.source)) place
arcs_as OutPort drives feeds place u = arc_if true (driver_of drives (net_of u.source)) place
arcs_as Output drives feeds place u = arc_if false (place_of u.inst feeds) place
arcs_as Launch drives feeds place u = []
arcs_as InPort drives feeds place u = []
arcs_as Stray drives feeds place u = []

abbrev pub arcs_into : List (Option ℕ) → List (Option ℕ) → ℕ → PinUse → List Arc
arcs_into drives feeds place u = arcs_as u.role drives feeds place u

abbrev pub step_as : PinRole → PinUse → Interval
step_as Output u = known_or zero_span u.delay
step_as Input u = zero_span
step_as Clock u = zero_span
step_as Data u = zero_span
step_as Launch u = zero_span
step_as InPort u = zero_span
step_as OutPort u = zero_span
step_as Stray u = zero_span

abbrev pub step_span : PinUse → Interval
step_span u = step_as u.role u

abbrev pub arcs_from : List (Option ℕ) → List (Option ℕ) → ℕ → List PinUse → List Arc
arcs_from drives feeds place [] = []
arcs_from drives feeds place (u ∷ us) = arcs_into drives feeds place u ++ arcs_from drives feeds (place + 1) us

abbrev pub steps_from : List (Option ℕ) → List (Option ℕ) → ℕ → List PinUse → List Interval
steps_from drives feeds place [] = []
steps_from drives feeds place (u ∷ us) = map (λ arc. step_span u) (arcs_into drives feeds place u) ++ steps_from drives feeds (place + 1) us

abbrev pub is_clock_pin : PinRole → Bool
is_clock_pin Clock = true
is_clock_pin Input = false
is_clock_pin Output = false
is_clock_pin Data = false
is_clock_pin Launch = false
is_clock_pin InPort = false
is_clock_pin OutPort = false
is_clock_pin Stray = false

abbrev pub is_data : PinRole → Bool
is_data Data = true
is_data Input = false
is_data Output = false
is_data Clock = false
is_data Launch = false
is_data InPort = false
is_data OutPort = false
is_data Stray = false

abbrev pub is_launch : PinRole → Bool
is_launch Launch = true
is_launch Input = false
is_launch Output = false
is_launch Clock = false
is_launch Data = false
is_launch InPort = false
is_launch OutPort = false
is_launch Stray = false

abbrev pub pins_from : (PinRole → Bool) → ℕ → List PinUse → List PinNo
pins_from is place [] = []
pins_from is place (u ∷ us) = if is u.role then record { 0 = place } ∷ pins_from is (place + 1) us else pins_from is (place + 1) us

abbrev pub pins_with : (PinRole → Bool) → List PinUse → List PinNo
pins_with is uses = pins_from is 0 uses

-- the pins of a role, each as something else
abbrev pub uses_with : {A : Type 0} → (PinRole → Bool) → (PinUse → A) → List PinUse → List A
uses_with is f [] = []
uses_with is f (u ∷ us) = if is u.role then f u ∷ uses_with is f us else uses_with is f us

abbrev pub sum_of : Interval → Interval → Interval
sum_of a b = record { least = a.least +ℤ b.least; greatest = a.greatest +ℤ b.greatest }

abbrev pub clock_span : PinUse → Interval
clock_span u = known_or zero_span u.arrival

abbrev pub launch_span : PinUse → Interval
launch_span u = sum_of (clock_span u) (known_or zero_span u.delay)

abbrev pub no_check : Check
no_check = record { setup = pos 0; hold = pos 0 }

abbrev pub setup_of : PinUse → ℤ
setup_of u = (known_or no_check u.check).setup

abbrev pub hold_of : PinUse → ℤ
hold_of u = (known_or no_check u.check).hold

abbrev pub parts_of : List PinUse → Parts
parts_of uses = record {
  pins = length uses;
  arcs = arcs_from (map driven uses) (map fed uses) 0 uses;
  launches = pins_with is_launch uses;
  captures = pins_with is_data uses;
  clocks = pins_with is_clock_pin uses;
  keeps = [];
}

abbrev pub spans_of : List PinUse → Spans
spans_of uses = record {
  arcs = steps_from (map driven uses) (map fed uses) 0 uses;
  launch = uses_with is_launch launch_span uses;
  capture = uses_with is_data clock_span uses;
  setup = uses_with is_data setup_of uses;
  hold = uses_with is_data hold_of uses;
  kinds = [];
}

abbrev pub problem_with : ℤ → List PinUse → Problem
problem_with period uses = record { graph = parts_of uses; period = period; max_chain = 0; costs = []; corners = spans_of uses ∷ [] }

abbrev pub problem_of : Timing → Design → Problem
problem_of timing d = problem_with timing.period (uses_of timing d)
